use Rattle.std.proofs.Common.{◌≡◌, List, ap, subst, OnOk, arith}
use Rattle.qic_base.specs.Step.{Step}
use Rattle.qic_base.specs.TapeCalls.{Does}
use Rattle.drive_spec.specs.Record.{Record}
use Rattle.drive_spec.specs.Steps.{gap_steps, train_changes}
use Rattle.drive_states.specs.Unit.{UnitView}
use Rattle.drive_states.proofs.Units.{sent, sent_steps}
use Rattle.hand_commands.proofs.pulses.sending.send_train.Goals as goal

pub returns-clause-row : goal.returns-clause-row
returns-clause-row g c =
    let all : c.loop-pulse._pulse ≡ c.args.train = omega arith in
    subst (λ (r : Record). OnOk c.gap.result (c.gap.new.self.drive ≡ r))
    (sent c.args.unit.now.drive c.loop-pulse.unit.drive c.loop-pulse._pulse c.args.train
    (ap (λ (u : UnitView _). u.drive) c.loop-pulse.invariant) all)
    c.gap.ensures.row

pub returns-clause-did : goal.returns-clause-did
returns-clause-did g c =
    let all : c.loop-pulse._pulse ≡ c.args.train = omega arith in
    let steps : gap_steps c.loop-pulse.unit.drive ≡ train_changes c.args.unit.now.drive c.args.train =
    sent_steps c.args.unit.now.drive c.loop-pulse.unit.drive c.loop-pulse._pulse c.args.train
    (ap (λ (u : UnitView _). u.drive) c.loop-pulse.invariant) all in
    subst (λ (ss : List Step). Does g.T.Tape.means c.args.unit.now.tape c.gap.new.self.tape ss c.gap.result) steps
    (subst (λ (u : UnitView _). Does g.T.Tape.means u.tape c.gap.new.self.tape (gap_steps c.loop-pulse.unit.drive) c.gap.result)
    c.loop-pulse.invariant c.gap.ensures.did)
