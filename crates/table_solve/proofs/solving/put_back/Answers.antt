use Rattle.table_solve.proofs.Collected.{put_in}
use Rattle.table_solve.proofs.solving.put_back.Goals as goal

pub returns : goal.returns
returns c =
    put_in c.args.work.now c.sectors_mut-sectors.result.now c.copy_from_slice.new.self c.args.parity.now c.sectors_mut-sectors.ensures.value
    c.copy_from_slice.ensures.after
    c.requires c.told-parity
