use Rattle.dump_spec.specs.Lists.{missing_named}
use Rattle.dump_lists.specs.Masks.{IsMaskOf, IsMissingSet}
use Rattle.dump_lists.specs.Names.{span_bits}
use Rattle.dump_lists.proofs.Converting.{reads_names}
use Rattle.dump_lists.proofs.Naming.{missing_set}
use Rattle.dump_lists.proofs.reading.read_missing.Goals as goal

pub returns-clause-reads : goal.returns-clause-reads
returns-clause-reads g c =
    reads_names span_bits missing_named IsMaskOf IsMissingSet g.S.Source.means c.args.source.now c.read_list.new.source c.read_list.new.mask
    c.read_list.result (λ spans. missing_set spans c.read_list.new.mask) c.read_list.ensures.reads
