use Rattle.std.proofs.Common.{◌∙◌, sym}
use Rattle.rescue_map.proofs.Cutting.{push_blank, push_byte}
use Rattle.rescue_map.proofs.scan.Scan.push.Goals as goal
use Rattle.rescue_map.proofs.scan.Scan.push.Goals.{else-byte-eq35-via-then-byte-eq35+else-self-eq0, else-byte-eq35-via-else-byte-eq35}

pub returns-then-is_blank : goal.returns-then-is_blank
returns-then-is_blank c = λ bytes cut.
    push_blank c.args.self.now c.close.new.self bytes c.args.byte (sym c.is_blank.ensures ∙ c.if-is_blank.true) c.if-self.false
    c.close.ensures.comment c.close.ensures.len c.close.ensures.words cut

pub returns-else-byte-eq35 : goal.returns-else-byte-eq35
returns-else-byte-eq35 c = λ bytes cut.
    push_byte c.args.self.now c.keep.new.self bytes c.args.byte (sym c.is_blank.ensures ∙ c.if-is_blank.false)
    (λ hash none. elim c.else-byte-eq35.branch [
      | else-byte-eq35-via-then-byte-eq35+else-self-eq0 w ↦ w.if-self-eq0.false none
      | else-byte-eq35-via-else-byte-eq35 w ↦ w.if-byte-eq35.false hash
    ])
    c.if-self.false c.keep.ensures.comment c.keep.ensures.words c.keep.ensures.begun cut
