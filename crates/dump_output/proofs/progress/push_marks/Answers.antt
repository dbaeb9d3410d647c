use Rattle.std.proofs.Common.{ℕ, ◌+◌, ◌++◌, List, take, sym, ap, subst, ◌∙◌, append_assoc, arith}
use Rattle.dump_spec.specs.declared.mark.Mark.{Mark}
use Rattle.dump_output.specs.Marks.{marks_in}
use Rattle.dump_output.specs.SoFar.{MapSoFar}
use Rattle.dump_output.proofs.Lining.{marks_grow, marks_behind, pushed_more, push_broke}
use Rattle.dump_output.proofs.progress.push_marks.Goals as goal

pub returns-in-Err-clause-goes : goal.returns-in-Err-clause-goes
returns-in-Err-clause-goes g c = λ from marks before.
    let place : ℕ = c.loop-place.place in
    let bytes : ℕ = c.args.bytes in
    let rest = marks_behind c.args.reading.now bytes (place + 1) c.args.sectors (omega arith) in
    let here = marks_grow marks c.args.reading.now bytes c.loop-place.left place c.min-count.result c.mark.result
    c.loop-place.invariant.left c.min-count.ensures c.mark.ensures in
    push_broke g.met.M.Sink.took_both c.loop-place.map c.push.new.self c.mark.result c.min-count.result
    (marks ++ take bytes (marks_in c.args.reading.now place)) (marks ++ take bytes (marks_in c.args.reading.now c.args.sectors)) rest.0
    c.push.ensures.map (c.loop-place.invariant.goes from marks before) c.in-Err.ensures.writes
    (ap (λ (ms : List Mark). marks ++ ms) rest.1
    ∙ sym (append_assoc marks (take bytes (marks_in c.args.reading.now (place + 1))) rest.0)
    ∙ ap (λ (ms : List Mark). ms ++ rest.0) (sym here))

pub loop-place-preserved : goal.loop-place-preserved
loop-place-preserved g c =
    let left = c.loop-place.invariant.left in
    let more = c.loop-place.invariant.more in
    let few = c.min-count.ensures in
    let count = c.push.ensures.count in
    record {
      goes = λ from marks before.
          subst (λ (ms : List Mark). MapSoFar g.M.Sink.means from c.push.new.sink c.push.new.self ms)
          (marks_grow marks c.args.reading.now c.args.bytes c.loop-place.left c.loop-place.place c.min-count.result c.mark.result
          left few c.mark.ensures)
          (pushed_more g.met.M.Sink.took_both c.loop-place.map c.push.new.self c.mark.result c.min-count.result
          (marks ++ take c.args.bytes (marks_in c.args.reading.now c.loop-place.place)) c.push.ensures.map
          (c.loop-place.invariant.goes from marks before) c.in_default.ensures.writes);
      left = omega arith;
      more = omega arith;
    }
