use Rattle.std.proofs.Common.{ℕ, List, take, refl, subst}
use Rattle.dump_spec.specs.Output.{output_of}
use Rattle.dump_output.proofs.Stepping.{IsTaken, is_taken, put_more, bytes_broke, map_broke}
use Rattle.qic_base.specs.Sink.{Wrote}
use Rattle.qic_base.specs.SinkCalls.{BrokeOff}
use Rattle.dump_output.proofs.progress.Progress.put.Goals as goal

pub returns-in-Err-clause-goes : goal.returns-in-Err-clause-goes
returns-in-Err-clause-goes g c = λ size first begun given before.
    let value = c.as_flattened-bytes.ensures.value in
    let taken : IsTaken c.args.self.now c.args.sectors.now c.min-count.result =
    is_taken c.args.self.now c.args.sectors.now c.as_flattened-bytes.result.now c.min-count.result value c.as_flattened-bytes.ensures.len
    c.min-count.ensures in
    bytes_broke g.met.K.Sink.took_both c.args.self.now size c.min-count.result given c.args.reading.now c.args.sectors.now before taken
    (subst (λ (xs : List ℕ). BrokeOff g.K.Sink.means c.args.output.now c.write_text.new.sink (take c.min-count.result xs)) value
    c.in-Err.ensures)

pub returns-in-Err-push_marks-clause-goes : goal.returns-in-Err-push_marks-clause-goes
returns-in-Err-push_marks-clause-goes g c = λ size first begun given before.
    let value = c.as_flattened-bytes.ensures.value in
    let taken : IsTaken c.args.self.now c.args.sectors.now c.min-count.result =
    is_taken c.args.self.now c.args.sectors.now c.as_flattened-bytes.result.now c.min-count.result value c.as_flattened-bytes.ensures.len
    c.min-count.ensures in
    map_broke g.met.K.Sink.took_both c.args.self.now size c.min-count.result given c.args.reading.now c.args.sectors.now before taken
    (subst (λ (xs : List ℕ). Wrote g.K.Sink.means c.args.output.now c.write_text.new.sink (take c.min-count.result xs)) value
    c.in_default.ensures)
    (c.in-Err-push_marks.ensures.goes begun (output_of size given).marks before.map)

pub returns-clause-goes : goal.returns-clause-goes
returns-clause-goes g c = λ size first begun given before.
    let value = c.as_flattened-bytes.ensures.value in
    let taken : IsTaken c.args.self.now c.args.sectors.now c.min-count.result =
    is_taken c.args.self.now c.args.sectors.now c.as_flattened-bytes.result.now c.min-count.result value c.as_flattened-bytes.ensures.len
    c.min-count.ensures in
    put_more g.met.K.Sink.took_both c.args.self.now _ size c.min-count.result given c.args.reading.now c.args.sectors.now before taken
    (subst (λ (xs : List ℕ). Wrote g.K.Sink.means c.args.output.now c.write_text.new.sink (take c.min-count.result xs)) value
    c.in_default.ensures)
    (c.in_default-push_marks.ensures.goes begun (output_of size given).marks before.map) refl
