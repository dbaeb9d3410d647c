use Rattle.std.proofs.Common.{refl}
use Rattle.hand_commands.proofs.Hearing.{gave_on}
use Rattle.hand_commands.proofs.pulses.ending.end_input.Goals as goal

pub returns-in-Ok-Bad-clause-hears : goal.returns-in-Ok-Bad-clause-hears
returns-in-Ok-Bad-clause-hears g c =
    let read = rw c.in-Ok-Bad.field-0-is at c.in-Ok-Bad.ensures.read in
    (refl, refl, record { n = _; some = read.0; few = read.1; gave = read.2; no_stop = read.3 })

pub returns-in-Ok-Train-clause-hears : goal.returns-in-Ok-Train-clause-hears
returns-in-Ok-Train-clause-hears g c = (
  refl,
  refl,
  gave_on g.S.Source.means c.args.source.now c.read.new.source _ _
      (rw c.in-Ok-Train.field-0-is at c.in-Ok-Train.ensures.read),
)
