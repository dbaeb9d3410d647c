use Rattle.dump_opening.proofs.Reading.{no_bad}
use Rattle.dump_opening.proofs.texts.read_listed.Goals as goal

pub returns-in_default-clause-reads : goal.returns-in_default-clause-reads
returns-in_default-clause-reads g c = λ text tells.
    no_bad g.S.Source.means text c.clear.new.mask (rw c.in_default.is at tells) c.clear.ensures
