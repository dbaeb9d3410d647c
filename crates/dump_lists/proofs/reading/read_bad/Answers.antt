use Rattle.dump_spec.specs.Lists.{bad_named}
use Rattle.dump_lists.specs.Masks.{IsMaskOf, IsBadSet}
use Rattle.dump_lists.specs.Names.{bad_bits}
use Rattle.dump_lists.proofs.Converting.{reads_names}
use Rattle.dump_lists.proofs.Naming.{bad_set}
use Rattle.dump_lists.proofs.reading.read_bad.Goals as goal

pub returns-clause-reads : goal.returns-clause-reads
returns-clause-reads g c =
    reads_names bad_bits bad_named IsMaskOf IsBadSet g.S.Source.means c.args.source.now c.read_list.new.source c.read_list.new.mask
    c.read_list.result (λ bad. bad_set bad c.read_list.new.mask) c.read_list.ensures.reads
