use Rattle.std.proofs.Common.{◌≡◌}
use Rattle.hand_commands.proofs.pulses.sending.send_train.Given as goal

abbrev pub invariant-loop-pulse : goal.invariant-loop-pulse
invariant-loop-pulse g l =
    l.unit ≡ record l.initial.unit { drive = record l.initial.unit.drive { train = l._pulse } }
