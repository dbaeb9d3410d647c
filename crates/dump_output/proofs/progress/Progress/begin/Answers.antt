use Rattle.dump_output.proofs.Lining.{begin_broke}
use Rattle.dump_output.proofs.progress.Progress.begin.Goals as goal

pub returns-in-Err : goal.returns-in-Err
returns-in-Err g c = λ marks. begin_broke marks c.in-Err.ensures.head
