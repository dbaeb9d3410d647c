use Rattle.std.proofs.Common.{◌≡◌, ℕ, ◌*◌, ◌<◌, true, [], ◌∷◌, ap, subst, sym, ◌∙◌, arith}
use Rattle.std.proofs.lemmas.Result.{err_from_is_err_and}
use Rattle.qic_base.specs.Step.{FormatSegment}
use Rattle.qic_base.specs.Tape.{Done, Broke}
use Rattle.qic117_commands.specs.Views.{is_format}
use Rattle.drive_spec.specs.Deck.{segments_per_track, is_streaming}
use Rattle.host_driver.proofs.Keeping.{keeps_both, mode_kept}
use Rattle.segment_io.proofs.Going.{done_moved}
use Rattle.formatter.specs.Steps.{track_formats}
use Rattle.formatter.proofs.Parts.{done_one, broke_one}
use Rattle.formatter.proofs.Places.{length_kept, some_segments, before_first, before_next}
use Rattle.cartridge_laws.specs.FormatMarks.{formats_from}
use Rattle.formatter.proofs.clearing.clear_track.Goals as goal

pub loop-preserved : goal.loop-preserved
loop-preserved g c =
    let before = c.loop.invariant in
    let more = c.in_ok-format_here.ensures in
    let n : ℕ = c.go_to_track-count.result in
    let count : n ≡ segments_per_track c.args.unit.now.drive.deck =
    c.go_to_track-count.ensures.count in
    let within : c.loop.counter < n = c.loop-test.true in
    let at = before.before.streams within in
    record {
      formatted = done_one (c.args.track * n) c.loop.counter before.formatted
          (subst (λ (s : ℕ). Done g.T.Tape.means c.loop.unit.tape c.format_here.new.unit.tape (FormatSegment s ∷ []))
          (sym at.here) more.did);
      before = before_next n c.args.track c.loop.counter c.loop.unit.drive.deck c.format_here.new.unit.drive.deck
          (length_kept c.args.unit.now.drive.deck c.loop.unit.drive.deck before.keeps.same.cartridge ∙ sym count)
          before.keeps.ready.fits.sound.drive.deck within (ap is_streaming at.motion) at.here more.next;
      mode = mode_kept is_format true c.loop.unit.drive.deck c.format_here.new.unit.drive.deck more.keeps.same before.mode;
      keeps = keeps_both before.keeps more.keeps;
    }

-- broken off in one of the segments
pub returns-in_err-format_here-clause-did : goal.returns-in_err-format_here-clause-did
returns-in_err-format_here-clause-did g c =
    let before = c.loop.invariant in
    let n : ℕ = c.go_to_track-count.result in
    let count : n ≡ segments_per_track c.args.unit.now.drive.deck =
    c.go_to_track-count.ensures.count in
    let within : c.loop.counter < n = c.loop-test.true in
    let at = before.before.streams within in
    let broke : Broke g.T.Tape.means c.args.unit.now.tape c.format_here.new.unit.tape (track_formats n c.args.track) =
    broke_one (c.args.track * n) c.loop.counter n (omega arith) before.formatted
    (subst (λ (s : ℕ). Broke g.T.Tape.means c.loop.unit.tape c.format_here.new.unit.tape (FormatSegment s ∷ []))
    (sym at.here) c.in_err-format_here.ensures.did) in
    let whole : Broke g.T.Tape.means c.args.unit.now.tape c.format_here.new.unit.tape
    (track_formats (segments_per_track c.args.unit.now.drive.deck) c.args.track) =
    subst (λ (k : ℕ). Broke g.T.Tape.means c.args.unit.now.tape c.format_here.new.unit.tape (track_formats k c.args.track)) count broke in
    let p = err_from_is_err_and c.from_residual.result c.from_residual.ensures.1 in
    rw p.1 whole

pub loop-init : goal.loop-init
loop-init g c =
    let n : ℕ = c.go_to_track-count.result in
    let some : 0 < n = subst (λ (k : ℕ). 0 < k) (sym c.go_to_track-count.ensures.count) (some_segments c.requires.ready.ready.fits) in
    record {
      formatted = done_moved g.T.Tape.means c.args.unit.now.tape c.go_to_track-count.new.unit.tape c.go_to_track-count.ensures.tape;
      before = before_first n (c.args.track * n) c.go_to_track-count.new.unit.drive.deck some c.go_to_track-count.ensures.place;
      mode = mode_kept is_format true c.args.unit.now.drive.deck c.go_to_track-count.new.unit.drive.deck
          c.go_to_track-count.ensures.keeps.same c.requires.format;
      keeps = c.go_to_track-count.ensures.keeps;
    }

pub format_here-requires-clause-ready : goal.format_here-requires-clause-ready
format_here-requires-clause-ready g c = c.loop.invariant.keeps.ready

pub format_here-requires-clause-formatting : goal.format_here-requires-clause-formatting
format_here-requires-clause-formatting g c = record {
  mode = c.loop.invariant.mode;
  streams = ap is_streaming (c.loop.invariant.before.streams c.loop-test.true).motion;
}

pub returns-in_err-format_here-clause-stopped : goal.returns-in_err-format_here-clause-stopped
returns-in_err-format_here-clause-stopped g c =
    let p = err_from_is_err_and c.from_residual.result c.from_residual.ensures.1 in
    rw p.1 tt

pub returns-in_err-format_here-clause-keeps : goal.returns-in_err-format_here-clause-keeps
returns-in_err-format_here-clause-keeps g c = keeps_both c.loop.invariant.keeps c.in_err-format_here.ensures.keeps

pub returns-clause-did : goal.returns-clause-did
returns-clause-did g c =
    let n : ℕ = c.go_to_track-count.result in
    let count : n ≡ segments_per_track c.args.unit.now.drive.deck =
    c.go_to_track-count.ensures.count in
    let all : c.loop.counter ≡ n = omega arith in
    subst (λ (k : ℕ). Done g.T.Tape.means c.args.unit.now.tape c.loop.unit.tape (track_formats k c.args.track)) count
    (subst (λ (k : ℕ). Done g.T.Tape.means c.args.unit.now.tape c.loop.unit.tape (formats_from (c.args.track * n) k)) all
    c.loop.invariant.formatted)

pub returns-clause-stopped : goal.returns-clause-stopped
returns-clause-stopped g c = c.loop.invariant.before.stops c.loop-test.false

pub returns-clause-keeps : goal.returns-clause-keeps
returns-clause-keeps g c = c.loop.invariant.keeps
