use Rattle.std.proofs.Common.{◌≤◌, ◌≡◌, ℕ, List, sym}
use Rattle.cartridge_spec.specs.Shape.{capacity}
use Rattle.volume_output.specs.Piece.{piece_of}
use Rattle.volume_output.proofs.OnePiece.{read_block, read_solved}
use Rattle.volume_output.proofs.Parts.{piece_read}
use Rattle.volume_output.proofs.part.read_part.Goals as goal

pub returns-clause-ends : goal.returns-clause-ends
returns-clause-ends g c =
    let place = c.in-Some.place in
    let usable : ℕ = c.usable-usable.result in
    let sectors : List (List ℕ) = c.read_segment.new.work in
    let answer = c.in_ok-read_segment.field-0 in
    let unread : ℕ = c.in_ok-branch.field-0 in
    let read = c.in_ok-read_segment.ensures in
    let within : place.count ≤ capacity usable = rw c.usable-usable.ensures c.in-Some.ensures.within in
    let held : c.capacity.result ≡ capacity usable = rw c.usable-usable.ensures c.capacity.ensures in (
      piece_of place.segment place.count,
      sym c.in-Some.ensures.is,
      piece_read g.T.Tape.means c.args.map.now place.segment place.count usable c.usable-usable.ensures c.args.unit.now.tape
          c.read_segment.new.unit.tape read.did c.in-Some.ensures.some within sectors read.room
          (read_block place.segment usable sectors answer unread c.in_ok-branch.was read.read) c.capacity.result held
          (read_solved g.T.Tape.means c.args.unit.now.tape place.segment usable sectors answer unread c.in_ok-branch.was read.solves),
    )
