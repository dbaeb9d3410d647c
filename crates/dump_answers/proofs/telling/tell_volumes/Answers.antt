use Rattle.std.proofs.Common.{ℕ, Bool, refl, subst}
use Rattle.std.specs.Prelude.{slice_index}
use Rattle.qic_base.specs.Sink.{Wrote}
use Rattle.qic_base.specs.SinkCalls.{BrokeOff}
use Rattle.dump_spec.specs.Lines.{list_text}
use Rattle.dump_spec.specs.Volumes.{volumes_of}
use Rattle.dump_tables.specs.Found.{data_in}
use Rattle.dump_answers.proofs.Endings.{writes_cause}
use Rattle.dump_answers.proofs.Masking.{holds}
use Rattle.dump_answers.proofs.telling.tell_volumes.Goals as goal

pub returns-in-Ok-clause-written : goal.returns-in-Ok-clause-written
returns-in-Ok-clause-written g c = λ told known shows.
    subst (λ (b : Bool). Wrote g.K.Sink.means c.args.output.now c.write_list.new.sink
    (list_text known.layout.masks c.args.place.segment (volumes_of b c.args.place.segment (data_in c.args.sectors.now c.args.place))))
    (c.counts_segments.ensures told known shows)
    (c.in-Ok.ensures known.layout.masks (holds c.args.dump.now told known shows))

pub returns-in-Err-clause-written : goal.returns-in-Err-clause-written
returns-in-Err-clause-written g c = λ told known shows.
    subst (λ (b : Bool). BrokeOff g.K.Sink.means c.args.output.now c.write_list.new.sink
    (list_text known.layout.masks c.args.place.segment (volumes_of b c.args.place.segment (data_in c.args.sectors.now c.args.place))))
    (c.counts_segments.ensures told known shows)
    (c.in-Err.ensures known.layout.masks (holds c.args.dump.now told known shows))

pub returns-in-Ok-clause-cause : goal.returns-in-Ok-clause-cause
returns-in-Ok-clause-cause g c =
    writes_cause g.K.Sink.means c.args.output.now c.write_list.new.sink _ _
    (c.in-Ok.ensures (λ (segment : ℕ). slice_index c.args.dump.now.known.masks.now segment) (λ segment within. refl))

pub returns-in-Err-clause-cause : goal.returns-in-Err-clause-cause
returns-in-Err-clause-cause g c =
    writes_cause g.K.Sink.means c.args.output.now c.write_list.new.sink _ _
    (c.in-Err.ensures (λ (segment : ℕ). slice_index c.args.dump.now.known.masks.now segment) (λ segment within. refl))
