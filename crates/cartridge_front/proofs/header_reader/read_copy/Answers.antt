use Rattle.std.proofs.Common.{ℕ, List, Result, take, refl, ◌∙◌, arith, subst}
use Rattle.qic_base.proofs.Steps.{Tells-map}
use Rattle.cartridge_spec.specs.HeaderCopies.{copy_cells}
use Rattle.host_driver.specs.Fits.{segments_of}
use Rattle.segment_io.proofs.Going.{front_segment}
use Rattle.segment_solve.specs.Reading.{HasSolved, Solves}
use Rattle.segment_solve.specs.declared.fault.SegFault.{SegFault}
use Rattle.qic_base.specs.TapeCalls.{Tells}
use Rattle.cartridge_front.specs.Finding.{FindsCopy, TakesHeader}
use Rattle.cartridge_front.proofs.Copies.{finds_copy, taken_map, takes_at}
use Rattle.cartridge_front.proofs.header_reader.read_copy.Goals as goal

pub read_segment-requires : goal.read_segment-requires
read_segment-requires g c = record {
  ready = c.requires.ready;
  segment = front_segment c.args.copy c.requires.ready.fits c.requires.referenced (omega arith);
  mode = c.requires.mode;
}

pub returns-in-Ok-clause-found : goal.returns-in-Ok-clause-found
returns-in-Ok-clause-found g c = λ sound.
    let n : ℕ = segments_of c.args.host.now in
    let words : List ℕ = c.decode_copy.new.map in
    let sectors : List (List ℕ) = c.read_segment.new.work in
    let copy : ℕ = c.args.copy in
    let taken : TakesHeader (take 29 sectors) n words c.decode_copy.result =
    takes_at c.data_sectors.result.now (take 29 sectors) c.segments_per_track-segments_per_track.result n words c.decode_copy.result
    c.data_sectors.ensures.value (c.segments_per_track-segments_per_track.ensures.value ∙ c.geometry.ensures) c.decode_copy.ensures.taken in
    Tells-map g.T.Tape.means c.args.unit.now.tape (λ c'. HasSolved (copy_cells c' copy) sectors)
    (λ c'. FindsCopy c' copy n words c.decode_copy.result)
    (λ c' solved. finds_copy c' copy n words sectors c.decode_copy.result c.in_ok-read_segment.ensures.room solved taken)
    (subst (λ (read : Result ℕ SegFault). Tells g.T.Tape.means c.args.unit.now.tape (λ c'. Solves copy (copy_cells c' copy) sectors read))
    c.in-Ok.is c.in_ok-read_segment.ensures.solves)

pub returns-in-Ok-clause-map : goal.returns-in-Ok-clause-map
returns-in-Ok-clause-map g c =
    let n : ℕ = segments_of c.args.host.now in
    let area : List (List ℕ) = c.data_sectors.result.now in
    let words : List ℕ = c.decode_copy.new.map in
    let taken : TakesHeader area n words c.decode_copy.result =
    takes_at area area c.segments_per_track-segments_per_track.result n words c.decode_copy.result
    refl (c.segments_per_track-segments_per_track.ensures.value ∙ c.geometry.ensures) c.decode_copy.ensures.taken in
    taken_map area n words c.decode_copy.result taken
