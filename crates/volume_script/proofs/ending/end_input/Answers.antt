use Rattle.std.proofs.Common.{refl}
use Rattle.volume_script.proofs.Hearing.{on_bad, on_line}
use Rattle.volume_script.proofs.ending.end_input.Goals as goal

pub returns-in-Ok-Line-clause-hears : goal.returns-in-Ok-Line-clause-hears
returns-in-Ok-Line-clause-hears g c = (
  refl,
  refl,
  on_line g.S.Source.means c.args.source.now c.read_line.new.source _ _ c.is_no_end.ensures
      (rw c.in-Ok-Line.field-0-is at c.in-Ok-Line.ensures.read),
)

pub returns-in-Ok-Bad-clause-hears : goal.returns-in-Ok-Bad-clause-hears
returns-in-Ok-Bad-clause-hears g c =
    let read = rw c.in-Ok-Bad.field-0-is at c.in-Ok-Bad.ensures.read in
    (refl, refl, on_bad g.S.Source.means c.args.source.now c.read_line.new.source _ read.0 read.1 read.2 read.3)
