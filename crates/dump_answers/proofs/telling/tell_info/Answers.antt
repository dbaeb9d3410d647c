use Rattle.std.proofs.Common.{ℕ, List, subst}
use Rattle.qic_base.specs.Sink.{Wrote}
use Rattle.qic_base.specs.SinkCalls.{BrokeOff}
use Rattle.dump_tables.specs.Found.{table_in}
use Rattle.dump_answers.proofs.Endings.{writes_cause}
use Rattle.dump_answers.proofs.Infos.{info_same}
use Rattle.dump_answers.proofs.telling.tell_info.Goals as goal

pub returns-in-Ok-clause-written : goal.returns-in-Ok-clause-written
returns-in-Ok-clause-written g c = λ told known shows.
    subst (λ (text : List ℕ). Wrote g.K.Sink.means c.args.output.now c.write_info.new.sink text)
    (info_same known (table_in c.args.sectors.now c.args.table) c.args.dump.now.known.form c.args.dump.now.known.bytes
    c.volume_count-volumes.result c.count_pieces-counts.result shows.describes.laid.form shows.describes.long
    (c.count_pieces-counts.ensures known.dump known.layout shows.describes.laid shows.describes.long)
    (c.volume_count-volumes.ensures known))
    (c.in-Ok.ensures known.header shows.header)

pub returns-in-Err-clause-written : goal.returns-in-Err-clause-written
returns-in-Err-clause-written g c = λ told known shows.
    subst (λ (text : List ℕ). BrokeOff g.K.Sink.means c.args.output.now c.write_info.new.sink text)
    (info_same known (table_in c.args.sectors.now c.args.table) c.args.dump.now.known.form c.args.dump.now.known.bytes
    c.volume_count-volumes.result c.count_pieces-counts.result shows.describes.laid.form shows.describes.long
    (c.count_pieces-counts.ensures known.dump known.layout shows.describes.laid shows.describes.long)
    (c.volume_count-volumes.ensures known))
    (c.in-Err.ensures known.header shows.header)

pub returns-in-Ok-clause-cause : goal.returns-in-Ok-clause-cause
returns-in-Ok-clause-cause g c =
    writes_cause g.K.Sink.means c.args.output.now c.write_info.new.sink _ _ (c.in-Ok.ensures c.requires.header.0 c.requires.header.1)

pub returns-in-Err-clause-cause : goal.returns-in-Err-clause-cause
returns-in-Err-clause-cause g c =
    writes_cause g.K.Sink.means c.args.output.now c.write_info.new.sink _ _ (c.in-Err.ensures c.requires.header.0 c.requires.header.1)
