use Rattle.std.proofs.Common.{◌≡◌, ℕ, ◌+◌, ◌-◌, ◌<◌, ◌≤◌, List, Err, arith}
use Rattle.std.specs.Prelude.{min}
use Rattle.std.proofs.lemmas.Result.{err_from_is_err_and}
use Rattle.qic_base.specs.Alone.{around}
use Rattle.cartridge_spec.specs.Shape.{mask_at, capacity}
use Rattle.host_driver.proofs.Keeping.{keeps_both}
use Rattle.command_spec.specs.Restore.{Piece}
use Rattle.qic_base.specs.declared.store_fault.StoreFault.{StoreFault}
use Rattle.volume_output.specs.Form.{is_lined}
use Rattle.volume_output.specs.Output.{OutputEnds}
use Rattle.volume_output.specs.Piece.{piece_of}
use Rattle.volume_output.proofs.Walking.{count_is, left_behind, left_skipped, left_given, same_left, one_given, one_failed, all_given}
use Rattle.volume_output.proofs.output.give_volume.Goals as goal
use Rattle.volume_output.proofs.output.give_volume.Goals.{then-count-gt0+in_ok-write_piece, else-count-gt0}
use Rattle.command_laws.specs.OutputLaws.{pieces_between}

pub returns-in_err-write_piece-clause-ends : goal.returns-in_err-write_piece-clause-ends
returns-in_err-write_piece-clause-ends g c =
    let p = err_from_is_err_and c.from_residual.result c.from_residual.ensures.1 in
    let words : List ℕ = c.args.map.now in
    let segment : ℕ = c.loop-segment.segment in
    let count : ℕ = c.min-count.result in
    let past = c.loop-segment-test.true in
    let last = c.from-segment-end.ensures in
    let within : segment ≤ c.args.volume.end = omega arith in
    let is : count ≡ min c.loop-segment.left (capacity (mask_at words segment)) =
    count_is c.loop-segment.left count c.from.result c.capacity.result (capacity (mask_at words segment)) c.min-count.ensures c.from.ensures
    c.capacity.ensures in
    let some : 0 < count = c.if-count-gt0.true in
    let rest : List Piece = pieces_between words (segment + 1) c.args.volume.end (c.loop-segment.left - count) in
    let failed : (why : StoreFault) → why ≡ c.in_err-write_piece.field-0.0 →
    OutputEnds g.T.Tape.means g.K.Sink.means words (pieces_between words c.args.volume.start c.args.volume.end c.args.volume.bytes)
    (is_lined c.args.form)
    (around c.args.unit.now.tape c.args.sink.now) (around c.write_piece.new.unit.tape c.write_piece.new.sink) (Err why) =
    λ why same.
    one_failed g.T.Tape.means g.K.Sink.means words (pieces_between words c.args.volume.start c.args.volume.end c.args.volume.bytes)
    (pieces_between words segment c.args.volume.end c.loop-segment.left) (is_lined c.args.form)
    (around c.args.unit.now.tape c.args.sink.now)
    (around c.loop-segment.unit.tape c.loop-segment.sink) c.loop-segment.invariant.goes (piece_of segment count) rest
    (around c.write_piece.new.unit.tape c.write_piece.new.sink) why
    (left_given words segment c.args.volume.end within c.loop-segment.left count is some)
    (rw same (c.in_err-write_piece.ensures.ends words c.usable-usable.ensures)) in
    rw p.1 (failed p.0 p.2)

pub loop-segment-preserved : goal.loop-segment-preserved
loop-segment-preserved g c =
    let words : List ℕ = c.args.map.now in
    let segment : ℕ = c.loop-segment.segment in
    let left : ℕ = c.loop-segment.left in
    let count : ℕ = c.min-count.result in
    let all : List Piece = pieces_between words c.args.volume.start c.args.volume.end c.args.volume.bytes in
    let past = c.loop-segment-test.true in
    let last = c.from-segment-end.ensures in
    let within : segment ≤ c.args.volume.end = omega arith in
    let is : count ≡ min left (capacity (mask_at words segment)) =
    count_is left count c.from.result c.capacity.result (capacity (mask_at words segment)) c.min-count.ensures c.from.ensures
    c.capacity.ensures in
    elim c.if-count-gt0.branch [
      | then-count-gt0+in_ok-write_piece w ↦
          let rest : List Piece = pieces_between words (segment + 1) c.args.volume.end (left - count) in
          let some : 0 < count = w.if-count-gt0.true in
          rw w.left-is (rw w.unit-is (rw w.sink-is (rw w.host-is (rw w.from-left.ensures (record {
            goes = one_given g.T.Tape.means g.K.Sink.means words all (pieces_between words segment c.args.volume.end left)
                (is_lined c.args.form)
                (around c.args.unit.now.tape c.args.sink.now)
                (around c.loop-segment.unit.tape c.loop-segment.sink) c.loop-segment.invariant.goes
                g.met.K.Sink.took_both (piece_of segment count) rest (around w.write_piece.new.unit.tape w.write_piece.new.sink)
                (left_given words segment c.args.volume.end within left count is some)
                (w.in_ok-write_piece.ensures.ends words c.usable-usable.ensures);
            keeps = keeps_both c.loop-segment.invariant.keeps w.in_ok-write_piece.ensures.keeps;
          })))))
      | else-count-gt0 w ↦
          let none : count ≤ 0 = w.if-count-gt0.false in
          rw w.left-is (rw w.unit-is (rw w.sink-is (rw w.host-is (record {
            goes = same_left g.T.Tape.means g.K.Sink.means words all (pieces_between words segment c.args.volume.end left)
                (is_lined c.args.form)
                (around c.args.unit.now.tape c.args.sink.now)
                (around c.loop-segment.unit.tape c.loop-segment.sink) c.loop-segment.invariant.goes
                (pieces_between words (segment + 1) c.args.volume.end left)
                (left_skipped words segment c.args.volume.end within left (omega arith));
            keeps = c.loop-segment.invariant.keeps;
          }))))
    ]

pub returns-clause-ends : goal.returns-clause-ends
returns-clause-ends g c =
    all_given g.T.Tape.means g.K.Sink.means c.args.map.now
    (pieces_between c.args.map.now c.args.volume.start c.args.volume.end c.args.volume.bytes)
    (pieces_between c.args.map.now c.loop-segment.segment c.args.volume.end c.loop-segment.left) (is_lined c.args.form)
    (around c.args.unit.now.tape c.args.sink.now) (around c.loop-segment.unit.tape c.loop-segment.sink) c.loop-segment.invariant.goes
    g.met.K.Sink.took_nothing
    (left_behind c.args.map.now c.loop-segment.segment c.args.volume.end c.loop-segment.left
    (let over = c.loop-segment-test.false in let last = c.from-segment-end.ensures in omega arith)) tt
