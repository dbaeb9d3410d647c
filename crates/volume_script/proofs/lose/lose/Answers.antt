use Rattle.std.proofs.Common.{◌≡◌, ◌∙◌, ap, subst, arith, Ok, Err}
use Rattle.std.proofs.lemmas.Grind.{common_steps}
use Rattle.drive_states.specs.Hand.{HandAnswer}
use Rattle.qic_base.specs.declared.store_fault.StoreFault.TheVariants as fault
use Rattle.volume_script.proofs.Quiet.{Wearing, wearing, worn_ends, absent_ends, wear_failed}
use Rattle.volume_script.proofs.lose.lose.Goals as goal

pub returns-in-Ok-clause-ends : goal.returns-in-Ok-clause-ends
returns-in-Ok-clause-ends g c =
    rw (c.in_ok-wear.ensures.store, c.replied.ensures)
    (worn_ends g.T.Tape.means g.S.Source.means g.K.Sink.means c.args.store.now c.args.unit.now c.wear.new.unit c.args.segment c.args.sector
    c.args.source.now c.args.sink.now c.write_text.new.sink
    c.requires.fits g.met.K.Sink.took_both g.met.K.Sink.took_nothing c.write_text.result
    (wearing g.T.Tape.means c.args.unit.now c.wear.new.unit c.args.segment c.args.sector
    (Ok (Ok tt)) (rw c.in-Ok.is at c.in_ok-wear.ensures.misplaced) (rw c.in-Ok.is at c.in_ok-wear.ensures.placed))
    (rw (c.bytes.ensures, c.place_text-text.ensures, c.from.ensures, c.from-in-Ok.ensures) at c.write_text.ensures))

pub returns-in-Err-BadPlace-clause-ends : goal.returns-in-Err-BadPlace-clause-ends
returns-in-Err-BadPlace-clause-ends g c =
    rw (c.in_ok-wear.ensures.store, c.replied-in-Err-BadPlace.ensures)
    (absent_ends g.T.Tape.means g.S.Source.means g.K.Sink.means c.args.store.now c.args.unit.now c.wear.new.unit c.args.segment
    c.args.sector c.args.source.now c.args.sink.now
    c.write_refusal.new.sink c.requires.fits g.met.K.Sink.took_both g.met.K.Sink.took_nothing c.write_refusal.result
    (subst (λ (answer : HandAnswer (Unit {0})). Wearing g.T.Tape.means c.args.unit.now c.wear.new.unit c.args.segment c.args.sector answer)
    (ap Ok (c.in-Err-BadPlace.is ∙ ap Err c.in-Err-BadPlace.field-0-is))
    (wearing g.T.Tape.means c.args.unit.now c.wear.new.unit c.args.segment c.args.sector (Ok c.in_ok-wear.field-0)
    c.in_ok-wear.ensures.misplaced c.in_ok-wear.ensures.placed)) c.write_refusal.ensures)

pub returns-in_err-wear-clause-ends : goal.returns-in_err-wear-clause-ends
returns-in_err-wear-clause-ends g c =
    let is : c.from_residual.result ≡ Err fault.Tape = grind (arith, common_steps, c.from_residual.ensures) in
    rw is
    (wear_failed g.T.Tape.means g.S.Source.means g.K.Sink.means c.args.store.now c.args.unit.now c.wear.new.unit c.args.segment
    c.args.sector c.args.source.now c.args.sink.now c.args.sink.now
    c.requires.fits g.met.K.Sink.took_nothing c.in_err-wear.field-0.0
    (wearing g.T.Tape.means c.args.unit.now c.wear.new.unit c.args.segment c.args.sector (Err c.in_err-wear.field-0.0)
    c.in_err-wear.ensures.misplaced c.in_err-wear.ensures.placed))
