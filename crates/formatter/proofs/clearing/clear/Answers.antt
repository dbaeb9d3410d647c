use Rattle.std.proofs.Common.{◌≡◌, ℕ, ◌+◌, ◌*◌, ◌≤◌, true, [], ◌∷◌, subst, ◌∙◌, arith}
use Rattle.std.proofs.Math.Nat.{mul-le-mul_right}
use Rattle.std.proofs.lemmas.Result.{err_from_is_err_and}
use Rattle.qic_base.specs.Step.{SetReferenced}
use Rattle.qic_base.specs.Tape.{Done, Broke}
use Rattle.qic_base.proofs.Steps.{Broke-front}
use Rattle.qic117_commands.specs.Views.{is_format}
use Rattle.drive_spec.specs.Deck.{segments_per_track}
use Rattle.host_driver.proofs.Keeping.{mode_kept}
use Rattle.cartridge_laws.specs.FormatMarks.{formats_from, segment_formats}
use Rattle.formatter.specs.Steps.{track_formats}
use Rattle.formatter.proofs.Parts.{done_track, broke_track}
use Rattle.formatter.proofs.Places.{length_referenced}
use Rattle.formatter.proofs.clearing.clear.Goals as goal

pub returns-in_err-reference-clause-did : goal.returns-in_err-reference-clause-did
returns-in_err-reference-clause-did g c =
    let formats = segment_formats (28 * segments_per_track c.args.unit.now.drive.deck) in
    let same : c.enter.new.unit.tape ≡ c.args.unit.now.tape = c.enter.ensures.tape ∙ c.halt.ensures.tape in
    let whole : Broke g.T.Tape.means c.args.unit.now.tape c.reference.new.unit.tape (SetReferenced ∷ formats) =
    subst (λ (t : _). Broke g.T.Tape.means t c.reference.new.unit.tape (SetReferenced ∷ formats)) same
    (Broke-front {xs = SetReferenced ∷ []} formats c.in_err-reference.ensures.did) in
    let p = err_from_is_err_and c.from_residual.result c.from_residual.ensures.1 in
    rw (p.1, p.2) whole

-- broken off in one of the tracks
pub returns-in_err-clear_track-clause-did : goal.returns-in_err-clear_track-clause-did
returns-in_err-clear_track-clause-did g c =
    let before = c.loop-track.invariant in
    let n : ℕ = segments_per_track c.args.unit.now.drive.deck in
    let length : segments_per_track c.loop-track.unit.drive.deck ≡ n =
    length_referenced c.args.unit.now.drive.deck c.loop-track.unit.drive.deck before.cleared.marks in
    let track : c.loop-track.track + 1 ≤ 28 = omega arith in
    let within : (c.loop-track.track + 1) * n ≤ 28 * n = mul-le-mul_right n track in
    let whole : Broke g.T.Tape.means c.args.unit.now.tape c.clear_track.new.unit.tape (SetReferenced ∷ formats_from 0 (28 * n)) =
    broke_track n c.loop-track.track (28 * n) within before.formatted
    (subst (λ (k : ℕ). Broke g.T.Tape.means c.loop-track.unit.tape c.clear_track.new.unit.tape (track_formats k c.loop-track.track)) length
    c.in_err-clear_track.ensures.did) in
    let p = err_from_is_err_and c.from_residual-in_err-clear_track.result c.from_residual-in_err-clear_track.ensures.1 in
    rw (p.1, p.2) whole

pub loop-track-preserved : goal.loop-track-preserved
loop-track-preserved g c =
    let before = c.loop-track.invariant in
    let more = c.in_ok-clear_track.ensures in
    let n : ℕ = segments_per_track c.args.unit.now.drive.deck in
    let length : segments_per_track c.loop-track.unit.drive.deck ≡ n =
    length_referenced c.args.unit.now.drive.deck c.loop-track.unit.drive.deck before.cleared.marks in
    record {
      formatted = done_track n c.loop-track.track before.formatted
          (subst (λ (k : ℕ). Done g.T.Tape.means c.loop-track.unit.tape c.clear_track.new.unit.tape (track_formats k c.loop-track.track))
          length more.did);
      cleared = record { marks = more.keeps.same.cartridge ∙ before.cleared.marks; stopped = more.stopped };
      mode = mode_kept is_format true c.loop-track.unit.drive.deck c.clear_track.new.unit.drive.deck more.keeps.same before.mode;
      ready = more.keeps.ready;
      agrees = λ was. more.keeps.agrees (before.agrees was);
      size = more.keeps.size ∙ before.size;
    }
