use Rattle.std.proofs.Common.{◌≡◌, ℕ, List, ap, sym, subst, ◌∙◌, arith, [], length}
use Rattle.qic_base.specs.Alone.{around}
use Rattle.cartridge_laws.specs.Segment.{sectors_of}
use Rattle.cartridge_spec.specs.Shape.{mask_at, usable_count}
use Rattle.cartridge_spec.specs.Volumes.{carrying}
use Rattle.command_laws.specs.ScrubTerms.{looked_segments}
use Rattle.command_spec.specs.Scrub.{Looked}
use Rattle.segment_mending.proofs.Looked.{none_carries}
use Rattle.cartridge_check.specs.Telling.{HasTold}
use Rattle.cartridge_check.proofs.Joining.{told_none}
use Rattle.cartridge_check.proofs.volumes.tell_if_carrying.Goals as goal

pub returns-then-count-lt-FEWEST-clause-tells : goal.returns-then-count-lt-FEWEST-clause-tells
returns-then-count-lt-FEWEST-clause-tells g c =
    let words : List ℕ = c.args.map.now in
    let count : c.count.result ≡ usable_count (mask_at words c.args.segment) =
    c.count.ensures ∙ ap (λ (m : ℕ). length (sectors_of m)) (c.from_mask.ensures ∙ c.usable-usable.ensures) in
    let none : looked_segments words [] ≡ looked_segments words (carrying words c.args.segment c.args.segment) =
    sym (ap (looked_segments words) (none_carries words c.args.segment (omega arith))) in
    let here = around c.args.unit.now.tape c.args.sink.now in
    subst (λ (ls : List Looked). HasTold g.T.Tape.means g.K.Sink.means ls here here c.args.tally.now c.args.tally.now) none
    (told_none g.T.Tape.means g.K.Sink.means g.met.K.Sink.took_nothing here c.args.tally.now)
