use Rattle.std.proofs.Common.{refl}
use Rattle.pulse_dialogue.proofs.Lines.{gave_on}
use Rattle.pulse_dialogue.proofs.step.tell_end.Goals as goal

pub returns-in-Ok-Line-clause-hears : goal.returns-in-Ok-Line-clause-hears
returns-in-Ok-Line-clause-hears g c =
    let read = rw c.in-Ok-Line.field-0-is at c.in-Ok-Line.ensures.read in
    (refl, refl, refl, gave_on g.S.Source.means c.args.source.now c.read.new.source _ _ read.1 read.0 read.2 read.3)

pub returns-in-Ok-Bad-clause-hears : goal.returns-in-Ok-Bad-clause-hears
returns-in-Ok-Bad-clause-hears g c =
    let read = rw c.in-Ok-Bad.field-0-is at c.in-Ok-Bad.ensures.read in (refl, refl, refl, read.0)
