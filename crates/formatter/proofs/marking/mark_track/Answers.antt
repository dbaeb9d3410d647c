use Rattle.std.proofs.Common.{◌≡◌, ℕ, ◌+◌, ◌*◌, ◌<◌, true, [], length, subst, sym, ◌∙◌, refl, arith}
use Rattle.std.proofs.lemmas.Result.{err_from_is_err_and}
use Rattle.qic_base.specs.Cartridge.{view_at}
use Rattle.qic_base.specs.Tape.{Done}
use Rattle.qic_base.specs.TapeCalls.{Tells, ReadsSectors}
use Rattle.qic_base.proofs.Steps.{Done-after_reads, Broke-after_reads, Tells-map, Tells-read}
use Rattle.drive_spec.specs.Deck.{segments_per_track, is_streaming}
use Rattle.drive_states.specs.Reach.{reads_in, segment_of}
use Rattle.host_driver.proofs.Keeping.{keeps_both, mode_kept}
use Rattle.segment_io.proofs.Going.{done_moved, tells_always, under_first}
use Rattle.formatter.specs.Marking.{MarksBelow}
use Rattle.formatter.proofs.Marks.{good_readable, tells_chain}
use Rattle.formatter.proofs.Places.{length_kept, some_segments, before_first, before_next, streaming_under, segment_within}
use Rattle.formatter.proofs.marking.mark_track.Goals as goal

pub loop-offset-init : goal.loop-offset-init
loop-offset-init g c =
    let n : ℕ = c.go_to_track-count.result in
    let some : 0 < n = subst (λ (k : ℕ). 0 < k) (sym c.go_to_track-count.ensures.count) (some_segments c.requires.ready.ready.fits) in
    record {
      read = done_moved g.T.Tape.means c.args.unit.now.tape c.go_to_track-count.new.unit.tape c.go_to_track-count.ensures.tape;
      marks = tells_always g.T.Tape.means c.args.unit.now.tape
          (λ d. MarksBelow d c.args.map.now (32 * (c.args.track * n)) → MarksBelow d c.args.map.now (32 * (c.args.track * n + 0)))
          (λ d marks. let same : 32 * (c.args.track * n) ≡ 32 * (c.args.track * n + 0) = omega arith in
          subst (MarksBelow d c.args.map.now) same marks);
      words = refl;
      before = before_first n (c.args.track * n) c.go_to_track-count.new.unit.drive.deck some c.go_to_track-count.ensures.place;
      mode = mode_kept reads_in true c.args.unit.now.drive.deck c.go_to_track-count.new.unit.drive.deck
          c.go_to_track-count.ensures.keeps.same c.requires.mode;
      keeps = c.go_to_track-count.ensures.keeps;
    }

pub loop-offset-preserved : goal.loop-offset-preserved
loop-offset-preserved g c =
    let before = c.loop-offset.invariant in
    let more = c.in_ok-read.ensures in
    let found = c.in_ok-read.read in
    let idle = c.next_segment.ensures in
    let n : ℕ = c.go_to_track-count.result in
    let segment : ℕ = c.args.track * n + c.loop-offset.offset in
    let count : n ≡ segments_per_track c.args.unit.now.drive.deck = c.go_to_track-count.ensures.count in
    let within : c.loop-offset.offset < n = c.loop-offset-test.true in
    let streams : is_streaming c.read_sectors.new.unit.drive.deck.motion ≡ true =
    streaming_under _ 32 c.read_sectors.new.unit.drive.deck more.under in
    let here : segment ≡ segment_of c.read_sectors.new.unit.drive.deck = more.under.here in
    let read : Done g.T.Tape.means c.args.unit.now.tape c.read_sectors.new.unit.tape [] = Done-after_reads before.read more.did in
    let both = keeps_both before.keeps more.keeps in
    let next : 32 * (segment + 1) ≡ 32 * (c.args.track * n + (c.loop-offset.offset + 1)) = omega arith in
    record {
      read = subst (λ (t : _). Done g.T.Tape.means c.args.unit.now.tape t []) (sym idle.tape) read;
      marks = tells_chain g.T.Tape.means c.args.unit.now.tape
          (λ d. MarksBelow d c.args.map.now (32 * (c.args.track * n)))
          (λ d. MarksBelow d c.loop-offset.map (32 * segment))
          (λ d. MarksBelow d c.mark_others.new.map (32 * (c.args.track * n + (c.loop-offset.offset + 1))))
          before.marks
          (subst (λ (k : ℕ). Tells g.T.Tape.means c.args.unit.now.tape
          (λ d. MarksBelow d c.loop-offset.map (32 * segment) → MarksBelow d c.mark_others.new.map k)) next
          (Tells-map g.T.Tape.means c.args.unit.now.tape
          (λ d. ReadsSectors c.from_mask.result found.good found.blank (view_at d segment) c.loop-offset.sectors c.read_sectors.new.into)
          (λ d. MarksBelow d c.loop-offset.map (32 * segment) → MarksBelow d c.mark_others.new.map (32 * (segment + 1)))
          (λ d reads. c.mark_others.ensures.marks d
          (good_readable c.from_mask.result found.good found.blank (view_at d segment) c.loop-offset.sectors c.read_sectors.new.into
          c.from_mask.ensures reads))
          (Tells-read (λ d. ReadsSectors c.from_mask.result found.good found.blank (view_at d segment)
          c.loop-offset.sectors c.read_sectors.new.into) before.read more.reads)));
      words = c.mark_others.ensures.words ∙ before.words;
      before = before_next n c.args.track c.loop-offset.offset c.read_sectors.new.unit.drive.deck c.next_segment.new.unit.drive.deck
          (length_kept c.args.unit.now.drive.deck c.read_sectors.new.unit.drive.deck both.same.cartridge ∙ sym count)
          more.keeps.ready.fits.sound.drive.deck within streams here (idle.next streams);
      mode = mode_kept reads_in true c.args.unit.now.drive.deck c.next_segment.new.unit.drive.deck
          (keeps_both both idle.keeps).same c.requires.mode;
      keeps = keeps_both both idle.keeps;
    }

pub read_sectors-requires-clause-ready : goal.read_sectors-requires-clause-ready
read_sectors-requires-clause-ready g c = c.loop-offset.invariant.keeps.ready

pub read_sectors-requires-clause-mode : goal.read_sectors-requires-clause-mode
read_sectors-requires-clause-mode g c = c.loop-offset.invariant.mode

pub read_sectors-requires-clause-under : goal.read_sectors-requires-clause-under
read_sectors-requires-clause-under g c =
    under_first (c.args.track * c.go_to_track-count.result + c.loop-offset.offset) c.loop-offset.unit.drive.deck
    (c.loop-offset.invariant.before.streams c.loop-offset-test.true)

pub mark_others-requires : goal.mark_others-requires
mark_others-requires g c =
    let count : c.go_to_track-count.result ≡ segments_per_track c.args.unit.now.drive.deck = c.go_to_track-count.ensures.count in
    segment_within c.args.track c.loop-offset.offset c.go_to_track-count.result (length c.loop-offset.map)
    (segments_per_track c.args.unit.now.drive.deck)
    count c.loop-offset-test.true c.requires.track (c.loop-offset.invariant.words ∙ c.requires.words)

pub returns-in_err-read-clause-did : goal.returns-in_err-read-clause-did
returns-in_err-read-clause-did g c =
    let p = err_from_is_err_and c.from_residual.result c.from_residual.ensures.1 in
    rw p.1 (Broke-after_reads c.loop-offset.invariant.read c.in_err-read.ensures.did)

pub returns-in_err-read-clause-marks : goal.returns-in_err-read-clause-marks
returns-in_err-read-clause-marks g c =
    let p = err_from_is_err_and c.from_residual.result c.from_residual.ensures.1 in
    rw p.1 tt

pub returns-in_err-read-clause-stopped : goal.returns-in_err-read-clause-stopped
returns-in_err-read-clause-stopped g c =
    let p = err_from_is_err_and c.from_residual.result c.from_residual.ensures.1 in
    rw p.1 tt

pub returns-in_err-read-clause-words : goal.returns-in_err-read-clause-words
returns-in_err-read-clause-words g c = c.loop-offset.invariant.words

pub returns-in_err-read-clause-keeps : goal.returns-in_err-read-clause-keeps
returns-in_err-read-clause-keeps g c = keeps_both c.loop-offset.invariant.keeps c.in_err-read.ensures.keeps

pub returns-clause-did : goal.returns-clause-did
returns-clause-did g c = c.loop-offset.invariant.read

pub returns-clause-marks : goal.returns-clause-marks
returns-clause-marks g c =
    let n : ℕ = c.go_to_track-count.result in
    let count : c.go_to_track-count.result ≡ segments_per_track c.args.unit.now.drive.deck =
    c.go_to_track-count.ensures.count in
    let all : c.loop-offset.offset ≡ n = omega arith in
    let next : 32 * (c.args.track * n + c.loop-offset.offset) ≡ 32 * ((c.args.track + 1) * n) = omega arith in
    subst (λ (k : ℕ). Tells g.T.Tape.means c.args.unit.now.tape
    (λ d. MarksBelow d c.args.map.now (32 * (c.args.track * k)) → MarksBelow d c.loop-offset.map (32 * ((c.args.track + 1) * k)))) count
    (subst (λ (k : ℕ). Tells g.T.Tape.means c.args.unit.now.tape
    (λ d. MarksBelow d c.args.map.now (32 * (c.args.track * n)) → MarksBelow d c.loop-offset.map k)) next
    c.loop-offset.invariant.marks)

pub returns-clause-words : goal.returns-clause-words
returns-clause-words g c = c.loop-offset.invariant.words

pub returns-clause-stopped : goal.returns-clause-stopped
returns-clause-stopped g c = c.loop-offset.invariant.before.stops c.loop-offset-test.false

pub returns-clause-keeps : goal.returns-clause-keeps
returns-clause-keeps g c = c.loop-offset.invariant.keeps
