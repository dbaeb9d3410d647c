use Rattle.std.proofs.Common.{◌∙◌}
use Rattle.qic_base.proofs.Arrays.{lent}
use Rattle.table_salvage.proofs.reading.copy_into.Goals as goal

pub returns : goal.returns
returns c =
    lent c.copy_from_slice.new.self c.args.work.now (c.copy_from_slice.ensures.len ∙ c.sectors_mut.ensures.size)
    ∙ c.copy_from_slice.ensures.after
