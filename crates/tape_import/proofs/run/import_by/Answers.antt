use Rattle.tape_import.proofs.Ends.{emptied-by}
use Rattle.tape_import.proofs.run.import_by.Goals as goal

pub returns-in-Err-clause-filled : goal.returns-in-Err-clause-filled
returns-in-Err-clause-filled g c = record {
  imported = c.in-Ok.imported;
  made = c.import.new.disk;
  was = c.in-Ok.ensures.imports;
  broke = c.in-Err.ensures;
  emptied = emptied-by g.D.Disk.means _ _ c.clear-emptied.result c.clear-emptied.ensures;
}
