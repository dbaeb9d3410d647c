use Rattle.std.proofs.Common.{sym, ◌∙◌}
use Rattle.header_segments.proofs.Refusals.{number_in-byte, tested-same, tested-other}
use Rattle.header_segments.proofs.reading.byte_fault.Goals as goal

pub returns-then-found-value-clause-fault : goal.returns-then-found-value-clause-fault
returns-then-found-value-clause-fault c =
    tested-same c.args.area.now c.args.field c.args.at 1 c.args.value _
    (sym (number_in-byte c.args.area.now c.args.at c.requires.within)) c.if-found-value.true

pub returns-clause-fault : goal.returns-clause-fault
returns-clause-fault c =
    tested-other c.args.area.now c.args.field c.args.at 1 c.args.value c.from.result
    (c.from.ensures ∙ sym (number_in-byte c.args.area.now c.args.at c.requires.within))
    (λ e. c.if-found-value.false (sym c.from.ensures ∙ e))
