use Rattle.dump_opening.proofs.Reading.{no_map}
use Rattle.dump_opening.proofs.texts.read_rescued.Goals as goal

pub returns-in_default-clause-reads : goal.returns-in_default-clause-reads
returns-in_default-clause-reads g c = λ text tells.
    no_map g.S.Source.means text c.mark_all.new.set (rw c.in_default.is at tells) c.mark_all.ensures
