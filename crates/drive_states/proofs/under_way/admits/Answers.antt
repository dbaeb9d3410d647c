use Rattle.std.proofs.Common.{nat_lt, sym, ap}
use Rattle.drive_states.proofs.Obeying.{values_else}
use Rattle.drive_states.proofs.under_way.admits.Goals as goal

pub returns-in_default : goal.returns-in_default
returns-in_default c = ap (nat_lt c.args.value) (sym (values_else c.args.parameter.now.command c.in_default.not-SeekTrack))
