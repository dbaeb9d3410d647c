use Rattle.std.proofs.Common.{ap, subst, ◌∙◌, ℕ, List, Result, Err}
use Rattle.std.proofs.lemmas.Result.{err_from_is_err_and}
use Rattle.cartridge_spec.specs.Says.{cells_of}
use Rattle.qic_base.specs.TapeCalls.{Tells}
use Rattle.segment_solve.specs.Reading.{HasSolved, IsRead, Solves}
use Rattle.segment_solve.specs.declared.fault.SegFault.{SegFault}
use Rattle.volume_output.specs.Form.{is_lined}
use Rattle.volume_output.proofs.Bytes.{Holds, count_within}
use Rattle.volume_output.proofs.OnePiece.{failed_by, unread, not_read, read_block, read_solved, gave, ungiven}
use Rattle.volume_output.proofs.piece.write_piece.Goals as goal
use Rattle.volume_output.proofs.piece.write_piece.Goals.{After-write_part}

-- the tape failed
pub returns-in_err-read_segment-clause-ends : goal.returns-in_err-read_segment-clause-ends
returns-in_err-read_segment-clause-ends g c = λ words is.
    let p = err_from_is_err_and c.from_residual.result c.from_residual.ensures.1 in
    rw (p.1 ∙ ap Err p.2) (unread g.T.Tape.means g.K.Sink.means words c.args.place.segment c.args.place.count c.args.usable is
    (is_lined c.args.form) c.args.unit.now.tape c.read_segment.new.unit.tape c.args.sink.now g.met.K.Sink.took_nothing
    c.in_err-read_segment.ensures.did)

-- the segment doesn't read
pub returns-in_err-branch-clause-ends : goal.returns-in_err-branch-clause-ends
returns-in_err-branch-clause-ends g c = λ words is.
    let p = err_from_is_err_and c.from_residual-in_err-branch.result c.from_residual-in_err-branch.ensures.1 in
    let segment : ℕ = c.args.place.segment in
    let usable : ℕ = c.args.usable in
    let sectors : List (List ℕ) = c.read_segment.new.work in
    let why : SegFault = c.in_err-branch.field-0.0 in
    let told = c.in_ok-read_segment.ensures in
    let read : IsRead segment usable sectors (failed_by why) = subst (IsRead segment usable sectors) c.in_err-branch.was told.read in
    let solves : Tells g.T.Tape.means c.args.unit.now.tape (λ d. Solves segment (cells_of d segment usable) sectors (failed_by why)) =
    subst (λ (r : Result ℕ SegFault). Tells g.T.Tape.means c.args.unit.now.tape
    (λ d. Solves segment (cells_of d segment usable) sectors r)) c.in_err-branch.was told.solves in
    rw (p.1 ∙ ap Err p.2) (not_read g.T.Tape.means g.K.Sink.means words segment c.args.place.count usable is
    (is_lined c.args.form) c.args.unit.now.tape c.read_segment.new.unit.tape sectors c.args.sink.now
    g.met.K.Sink.took_nothing told.did why read solves)

pub write_part-requires : goal.write_part-requires
write_part-requires g c = rw c.sectors.ensures.size (count_within c.args.usable c.args.place.count c.requires.within)

-- the sectors begin with a code block, ..
holds : (g : _) (c : After-write_part g) → Holds c.args.usable c.args.place.count c.read_segment.new.work
holds g c = record {
  carries = c.requires.can.segment.carries;
  within = c.requires.within;
  room = c.in_ok-read_segment.ensures.room;
  block = read_block c.args.place.segment c.args.usable c.read_segment.new.work c.in_ok-read_segment.field-0 c.in_ok-branch.field-0
      c.in_ok-branch.was c.in_ok-read_segment.ensures.read;
}

-- .. which is the one that the cells say
solved : (g : _) (c : After-write_part g) → Tells g.T.Tape.means c.args.unit.now.tape
    (λ d. HasSolved (cells_of d c.args.place.segment c.args.usable) c.read_segment.new.work)
solved g c =
    read_solved g.T.Tape.means c.args.unit.now.tape c.args.place.segment c.args.usable c.read_segment.new.work
    c.in_ok-read_segment.field-0 c.in_ok-branch.field-0 c.in_ok-branch.was c.in_ok-read_segment.ensures.solves

pub returns-in_err-write_part-clause-ends : goal.returns-in_err-write_part-clause-ends
returns-in_err-write_part-clause-ends g c = λ words is.
    let p = err_from_is_err_and c.from_residual-in_err-write_part.result c.from_residual-in_err-write_part.ensures.1 in
    let part = (goal.at.returns-in_err-write_part-clause-ends g c).After-write_part in
    rw (p.1 ∙ ap Err p.2) (ungiven g.T.Tape.means g.K.Sink.means words c.args.place.segment c.args.place.count c.args.usable is
    (is_lined c.args.form) c.args.unit.now.tape c.read_segment.new.unit.tape c.read_segment.new.work (holds g part)
    c.in_ok-read_segment.ensures.did c.args.sink.now c.write_part.new.sink
    (rw c.sectors.ensures.value at (c.in_err-write_part.ensures c.args.place.segment)) (solved g part))

pub returns-clause-ends : goal.returns-clause-ends
returns-clause-ends g c = λ words is.
    let part = (goal.at.returns-clause-ends g c).After-write_part in
    gave g.T.Tape.means g.K.Sink.means words c.args.place.segment c.args.place.count c.args.usable is
    (is_lined c.args.form) c.args.unit.now.tape c.read_segment.new.unit.tape c.read_segment.new.work (holds g part)
    c.in_ok-read_segment.ensures.did c.args.sink.now c.write_part.new.sink
    (rw c.sectors.ensures.value at (c.in_ok-write_part.ensures c.args.place.segment)) (solved g part)
