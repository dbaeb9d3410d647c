use Rattle.std.proofs.Common.{◌≡◌, ℕ, ◌+◌, ◌*◌, true, length, OnOk, subst, sym, ap, ◌∙◌, arith}
use Rattle.std.proofs.lemmas.List.{length-replicate}
use Rattle.std.proofs.lemmas.Result.{err_from_is_err_and}
use Rattle.qic_base.specs.TapeCalls.{Tells}
use Rattle.qic_base.proofs.Steps.{Done-after_reads, Broke-after_reads, Tells-map, Tells-read}
use Rattle.qic117_commands.specs.declared.view.Mode.TheVariants.{Verify}
use Rattle.drive_spec.specs.Deck.{segments_per_track, is_stopped}
use Rattle.drive_states.specs.Reach.{reads_in}
use Rattle.host_driver.proofs.Keeping.{mode_kept}
use Rattle.segment_io.proofs.Going.{done_moved, tells_always, tells_then}
use Rattle.formatter.specs.Marking.{MarksBelow, MarksUnreadable}
use Rattle.formatter.proofs.Keeping.{is_entered, kept, entered, kept_both, go_kept}
use Rattle.formatter.proofs.Marks.{marks_none, marks_all}
use Rattle.formatter.proofs.Places.{length_known, length_kept}
use Rattle.formatter.proofs.marking.mark_all.Goals as goal

pub unwrap-requires : goal.unwrap-requires
unwrap-requires g c = is_entered c.enter.result (λ refused. let no = (c.enter.ensures.protected.0 refused).0 in absurd (cc))

pub loop-track-init : goal.loop-track-init
loop-track-init g c =
    let n : ℕ = segments_per_track c.args.unit.now.drive.deck in
    let long : c.segments.result ≡ 28 * n =
    c.segments.ensures.value ∙ ap (λ (k : ℕ). 28 * k) (c.geometry.ensures ∙ length_known c.requires.stands.go.ready.fits) in
    record {
      read = done_moved g.T.Tape.means c.args.unit.now.tape c.enter.new.unit.tape c.enter.ensures.tape;
      marks = tells_always g.T.Tape.means c.args.unit.now.tape (λ d. MarksBelow d c.reset.new.self (32 * (0 * n)))
          (λ d. let none : 0 ≡ 32 * (0 * n) = omega arith in
          subst (MarksBelow d c.reset.new.self) none
          (subst (λ (words : _). MarksBelow d words 0) (sym c.reset.ensures) (marks_none d c.segments.result)));
      words = ap (λ (words : _). length words) c.reset.ensures ∙ length-replicate c.segments.result 0 ∙ long;
      stopped = ap is_stopped c.enter.ensures.place.motion;
      mode = ap reads_in (subst (λ (r : _). OnOk r (c.enter.new.unit.drive.deck.mode ≡ Verify)) c.unwrap.ensures c.enter.ensures.mode);
      keeps = entered c.enter.ensures.ready c.enter.ensures.cartridge c.enter.ensures.tape;
    }

pub loop-track-preserved : goal.loop-track-preserved
loop-track-preserved g c =
    let before = c.loop-track.invariant in
    let more = c.in_ok-mark_track.ensures in
    let n : ℕ = segments_per_track c.args.unit.now.drive.deck in
    let long : segments_per_track c.loop-track.unit.drive.deck ≡ n =
    length_kept c.args.unit.now.drive.deck c.loop-track.unit.drive.deck before.keeps.cartridge in
    record {
      read = Done-after_reads before.read more.did;
      marks = tells_then g.T.Tape.means c.args.unit.now.tape
          (λ d. MarksBelow d c.loop-track.map (32 * (c.loop-track.track * n)))
          (λ d. MarksBelow d c.mark_track.new.map (32 * ((c.loop-track.track + 1) * n)))
          (subst (λ (k : ℕ). Tells g.T.Tape.means c.args.unit.now.tape
          (λ d. MarksBelow d c.loop-track.map (32 * (c.loop-track.track * k)) →
          MarksBelow d c.mark_track.new.map (32 * ((c.loop-track.track + 1) * k)))) long
          (Tells-read (λ d. MarksBelow d c.loop-track.map (32 * (c.loop-track.track * segments_per_track c.loop-track.unit.drive.deck)) →
          MarksBelow d c.mark_track.new.map (32 * ((c.loop-track.track + 1) * segments_per_track c.loop-track.unit.drive.deck)))
          before.read more.marks))
          before.marks;
      words = more.words ∙ before.words;
      stopped = more.stopped;
      mode = mode_kept reads_in true c.loop-track.unit.drive.deck c.mark_track.new.unit.drive.deck more.keeps.same before.mode;
      keeps = kept_both before.keeps (kept more.keeps);
    }

pub mark_track-requires-clause-ready : goal.mark_track-requires-clause-ready
mark_track-requires-clause-ready g c =
    go_kept c.requires.stands.go c.loop-track.invariant.keeps.ready c.loop-track.invariant.keeps.cartridge

pub mark_track-requires-clause-mode : goal.mark_track-requires-clause-mode
mark_track-requires-clause-mode g c = c.loop-track.invariant.mode

pub mark_track-requires-clause-words : goal.mark_track-requires-clause-words
mark_track-requires-clause-words g c =
    c.loop-track.invariant.words
    ∙ ap (λ (k : ℕ). 28 * k) (sym (length_kept c.args.unit.now.drive.deck c.loop-track.unit.drive.deck
    c.loop-track.invariant.keeps.cartridge))

pub returns-in_err-mark_track-clause-did : goal.returns-in_err-mark_track-clause-did
returns-in_err-mark_track-clause-did g c =
    let p = err_from_is_err_and c.from_residual.result c.from_residual.ensures.1 in
    rw p.1 (Broke-after_reads c.loop-track.invariant.read c.in_err-mark_track.ensures.did)

pub returns-in_err-mark_track-clause-marks : goal.returns-in_err-mark_track-clause-marks
returns-in_err-mark_track-clause-marks g c =
    let p = err_from_is_err_and c.from_residual.result c.from_residual.ensures.1 in
    rw p.1 tt

pub returns-in_err-mark_track-clause-stopped : goal.returns-in_err-mark_track-clause-stopped
returns-in_err-mark_track-clause-stopped g c =
    let p = err_from_is_err_and c.from_residual.result c.from_residual.ensures.1 in
    rw p.1 tt

pub returns-in_err-mark_track-clause-words : goal.returns-in_err-mark_track-clause-words
returns-in_err-mark_track-clause-words g c = c.in_err-mark_track.ensures.words ∙ c.loop-track.invariant.words

pub returns-in_err-mark_track-clause-keeps : goal.returns-in_err-mark_track-clause-keeps
returns-in_err-mark_track-clause-keeps g c = kept_both c.loop-track.invariant.keeps (kept c.in_err-mark_track.ensures.keeps)

pub returns-clause-did : goal.returns-clause-did
returns-clause-did g c = c.loop-track.invariant.read

pub returns-clause-marks : goal.returns-clause-marks
returns-clause-marks g c =
    let n : ℕ = segments_per_track c.args.unit.now.drive.deck in
    let all : c.loop-track.track ≡ 28 = omega arith in
    let whole : 32 * (c.loop-track.track * n) ≡ 32 * length c.loop-track.map =
    ap (λ (k : ℕ). 32 * (k * n)) all ∙ ap (λ (k : ℕ). 32 * k) (sym c.loop-track.invariant.words) in
    Tells-map g.T.Tape.means c.args.unit.now.tape (λ d. MarksBelow d c.loop-track.map (32 * length c.loop-track.map))
    (λ d. MarksUnreadable d c.loop-track.map) (λ d marks. marks_all d c.loop-track.map marks)
    (subst (λ (k : ℕ). Tells g.T.Tape.means c.args.unit.now.tape (λ d. MarksBelow d c.loop-track.map k)) whole
    c.loop-track.invariant.marks)

pub returns-clause-words : goal.returns-clause-words
returns-clause-words g c = c.loop-track.invariant.words

pub returns-clause-stopped : goal.returns-clause-stopped
returns-clause-stopped g c = c.loop-track.invariant.stopped

pub returns-clause-keeps : goal.returns-clause-keeps
returns-clause-keeps g c = c.loop-track.invariant.keeps
