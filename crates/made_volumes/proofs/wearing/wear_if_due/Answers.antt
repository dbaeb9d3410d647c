use Rattle.std.proofs.Common.{◌≡◌, ℕ, List, length, refl, sym, ap, ◌∙◌, subst, arith}
use Rattle.qic_base.specs.Alone.{around, no_sink}
use Rattle.cartridge_spec.specs.Shape.{mask_at, usable_count}
use Rattle.cartridge_laws.specs.Segment.{sectors_of}
use Rattle.command_spec.specs.Make.{MakeStep}
use Rattle.made_volumes.specs.Runs.{HasRun, RunEnds}
use Rattle.made_volumes.proofs.Going.{segment_not_due, segment_bare, segment_due}
use Rattle.made_volumes.proofs.Joining.{run_none}
use Rattle.made_volumes.proofs.wearing.wear_if_due.Goals as goal
use Rattle.command_spec.specs.declared.status.Status.TheVariants as status

pub returns-then-segment-ne0-clause-ends : goal.returns-then-segment-ne0-clause-ends
returns-then-segment-ne0-clause-ends g c = λ seed.
    subst (λ (items : List MakeStep). HasRun g.T.Tape.means no_sink seed c.args.store.now.words c.args.store.now.entries items
    (around c.args.unit.now.tape tt) (around c.args.unit.now.tape tt) status.Done)
    (sym (segment_not_due c.args.store.now.words c.args.segment c.if-segment-ne0.true))
    (run_none g.T.Tape.means no_sink seed c.args.store.now.words c.args.store.now.entries (around c.args.unit.now.tape tt) (λ x. refl))

pub returns-then-count-lt-FEWEST-clause-ends : goal.returns-then-count-lt-FEWEST-clause-ends
returns-then-count-lt-FEWEST-clause-ends g c = λ seed.
    let words : List ℕ = c.args.store.now.words in
    let count : c.count.result ≡ usable_count (mask_at words c.args.segment) =
    c.count.ensures ∙ ap (λ (m : ℕ). length (sectors_of m)) (c.from_mask.ensures ∙ c.usable.ensures) in
    subst (λ (items : List MakeStep). HasRun g.T.Tape.means no_sink seed words c.args.store.now.entries items
    (around c.args.unit.now.tape tt) (around c.args.unit.now.tape tt) status.Done)
    (sym (segment_bare words c.args.segment (omega arith)))
    (run_none g.T.Tape.means no_sink seed words c.args.store.now.entries (around c.args.unit.now.tape tt) (λ x. refl))

pub returns-clause-ends : goal.returns-clause-ends
returns-clause-ends g c = λ seed.
    let words : List ℕ = c.args.store.now.words in
    let count : c.count.result ≡ usable_count (mask_at words c.args.segment) =
    c.count.ensures ∙ ap (λ (m : ℕ). length (sectors_of m)) (c.from_mask.ensures ∙ c.usable.ensures) in
    subst (λ (items : List MakeStep). RunEnds g.T.Tape.means no_sink seed words c.args.store.now.entries items
    (around c.args.unit.now.tape tt) (around c.wear_first_two.new.unit.tape tt) c.wear_first_two.result)
    (segment_due words c.args.segment c.if-segment-ne0.false (omega arith)) (c.wear_first_two.ensures.ends seed)
