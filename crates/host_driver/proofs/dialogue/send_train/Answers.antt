use Rattle.std.proofs.Common.{◌≡◌, List, [], ◌∷◌, ap, ◌∙◌, subst, OnOk, OnErr, arith}
use Rattle.qic_base.specs.Step.{Step, SetReferenced}
use Rattle.qic_base.specs.TapeCalls.{Does}
use Rattle.drive_spec.specs.Record.{Record}
use Rattle.drive_spec.specs.Row.{after_gap}
use Rattle.drive_spec.specs.Steps.{gap_steps, train_changes}
use Rattle.drive_states.specs.Unit.{UnitView}
use Rattle.drive_states.specs.Unreferenced.{without_reference}
use Rattle.host_driver.proofs.Trains.{IsOk-reads, OnErr-second}
use Rattle.drive_states.proofs.Units.{sent, sent_steps}
use Rattle.host_driver.proofs.dialogue.send_train.Goals as goal

pub returns-clause-row : goal.returns-clause-row
returns-clause-row g c =
    let all : c.loop-pulse._pulse ≡ c.args.pulses = omega arith in
    subst (λ (r : Record). OnOk c.gap.result (c.gap.new.self.drive ≡ r))
    (sent c.args.unit.now.drive c.loop-pulse.unit.drive c.loop-pulse._pulse c.args.pulses
    (ap (λ (u : UnitView _). u.drive) c.loop-pulse.invariant) all)
    c.gap.ensures.row

pub returns-clause-failed : goal.returns-clause-failed
returns-clause-failed g c =
    let all : c.loop-pulse._pulse ≡ c.args.pulses = omega arith in
    subst (λ (r : Record). OnErr c.gap.result (c.gap.new.self.drive ≡ without_reference r))
    (sent c.args.unit.now.drive c.loop-pulse.unit.drive c.loop-pulse._pulse c.args.pulses
    (ap (λ (u : UnitView _). u.drive) c.loop-pulse.invariant) all)
    (OnErr-second c.gap.result (gap_steps c.loop-pulse.unit.drive ≡ SetReferenced ∷ [])
    (c.gap.new.self.drive ≡ without_reference (after_gap c.loop-pulse.unit.drive)) c.gap.ensures.failed)

pub returns-clause-did : goal.returns-clause-did
returns-clause-did g c =
    let all : c.loop-pulse._pulse ≡ c.args.pulses = omega arith in
    let steps : gap_steps c.loop-pulse.unit.drive ≡ train_changes c.args.unit.now.drive c.args.pulses =
    sent_steps c.args.unit.now.drive c.loop-pulse.unit.drive c.loop-pulse._pulse c.args.pulses
    (ap (λ (u : UnitView _). u.drive) c.loop-pulse.invariant) all in
    subst (λ (ss : List Step). Does g.T.Tape.means c.args.unit.now.tape c.gap.new.self.tape ss c.gap.result) steps
    (subst (λ (u : UnitView _). Does g.T.Tape.means u.tape c.gap.new.self.tape (gap_steps c.loop-pulse.unit.drive) c.gap.result)
    c.loop-pulse.invariant c.gap.ensures.did)

pub returns-clause-ok : goal.returns-clause-ok
returns-clause-ok g c none =
    let all : c.loop-pulse._pulse ≡ c.args.pulses = omega arith in
    let steps : gap_steps c.loop-pulse.unit.drive ≡ train_changes c.args.unit.now.drive c.args.pulses =
    sent_steps c.args.unit.now.drive c.loop-pulse.unit.drive c.loop-pulse._pulse c.args.pulses
    (ap (λ (u : UnitView _). u.drive) c.loop-pulse.invariant) all in
    IsOk-reads c.gap.result (gap_steps c.loop-pulse.unit.drive) SetReferenced
    (c.gap.new.self.drive ≡ without_reference (after_gap c.loop-pulse.unit.drive)) (steps ∙ none) c.gap.ensures.failed

pub returns-clause-untouched : goal.returns-clause-untouched
returns-clause-untouched g c none =
    let all : c.loop-pulse._pulse ≡ c.args.pulses = omega arith in
    let steps : gap_steps c.loop-pulse.unit.drive ≡ train_changes c.args.unit.now.drive c.args.pulses =
    sent_steps c.args.unit.now.drive c.loop-pulse.unit.drive c.loop-pulse._pulse c.args.pulses
    (ap (λ (u : UnitView _). u.drive) c.loop-pulse.invariant) all in
    c.gap.ensures.untouched (steps ∙ none) ∙ ap (λ (u : UnitView _). u.tape) c.loop-pulse.invariant
