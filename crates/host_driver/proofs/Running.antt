-- The tape runs on by a segment.
use Rattle.std.proofs.Common.{◌≡◌, ℕ, ◌+◌, ◌*◌, ◌<◌, Bool, true, false, [], if◌then◌else◌, ◌&&◌, nat_lt, nat_le}
use Rattle.std.proofs.Common.{refl, sym, ap, ◌∙◌, subst, arith}
use Rattle.std.proofs.lemmas.Bool.Decides.{nat_tests}
use Rattle.std.proofs.Math.Nat.{mod-add-div}
use Rattle.tape_geometry.specs.Geometry.{track_of, logical_offset}
use Rattle.qic117_commands.specs.Views.{is_format}
use Rattle.drive_spec.specs.declared.deck.Deck.{Deck}
use Rattle.drive_spec.specs.declared.deck.Motion.TheVariants.{Stopped, Streaming}
use Rattle.drive_spec.specs.Deck.{limit, segments_per_track, is_streaming}
use Rattle.drive_spec.specs.Effects.{ends_early}
use Rattle.drive_spec.specs.Terms.{run_on, idled}
use Rattle.drive_spec.specs.Record.{Record}
use Rattle.drive_states.specs.Typed.{is_seeking}
use Rattle.drive_states.proofs.Marks.{gap_steps-none}
use Rattle.host_driver.specs.Fits.{GeneratesAll}
use Rattle.host_driver.specs.Place.{KeepsMode, RunsOn, StreamsAt, idled_deck, streams_before}
use Rattle.host_driver.specs.Train.{TakesTrain}
use Rattle.host_driver.proofs.Follows.{pulsed_row-idled}
use Rattle.host_driver.proofs.Motions.{ticked-still}
use Rattle.host_driver.proofs.Taking.{limit_of}
use Rattle.drive_spec.specs.Row.{pulsed_row}
use Rattle.drive_spec.specs.Steps.{train_changes}

-- as many segments are generated as the track has
not_early : (d : Deck) → GeneratesAll d → ends_early d ≡ false
not_early d g = by_mode (is_format d.mode) refl
  where
    by_mode : (b : Bool) → is_format d.mode ≡ b →
        (b && nat_lt (segments_per_track d) d.format_segments && nat_le (limit d) (d.offset + 1)) ≡ false
    by_mode false e = refl
    by_mode true e =
        let all = g.segments e in
        let none : nat_lt (segments_per_track d) d.format_segments ≡ false = grind (arith, nat_tests) in
        rw none refl

runs_on : (d : Deck) → GeneratesAll d → RunsOn d (run_on d)
runs_on d g =
    let end = limit_of d g in
    record {
      within = λ more.
          let on : nat_lt (d.offset + 1) (limit d) ≡ true = grind (arith, nat_tests) in
          record { motion = rw on refl; here = omega arith };
      end = λ over.
          let off : nat_lt (d.offset + 1) (limit d) ≡ false = grind (arith, nat_tests) in
          rw off refl;
    }

-- from the segment before one the tape runs on into it
pub streams_into : (n segment track offset : ℕ) (d new : Deck) → segments_per_track d ≡ n →
    track ≡ track_of n segment → offset ≡ logical_offset n segment → offset < n →
    streams_before track offset d ≡ true → (is_streaming d.motion ≡ true → RunsOn d new) → StreamsAt segment 0 new
streams_into n segment track offset d new long is-track is-offset within before runs =
    let running : is_streaming d.motion ≡ true = grind (arith, nat_tests) in
    let here : d.track ≡ track = grind (arith, nat_tests) in
    let next : d.offset + 1 ≡ offset = grind (arith, nat_tests) in
    let at : StreamsAt (d.track * segments_per_track d + d.offset + 1) 0 new = (runs running).within (omega arith) in
    let place : segment ≡ d.track * segments_per_track d + d.offset + 1 =
    rw (here, is-track, long) (omega (arith, mod-add-div segment n, next, is-offset)) in
    record { motion = at.motion; here = place ∙ at.here }

-- an empty gap
pub record Idles (r : Record) : Type 0 where
  pub takes : TakesTrain r 0
  pub steps : train_changes r 0 ≡ []
  pub deck : (pulsed_row r 0).deck ≡ idled_deck r.deck
  pub under_way : (pulsed_row r 0).under_way ≡ r.under_way

steps-none : (r : Record) → train_changes r 0 ≡ []
unfolding train_changes
steps-none r = gap_steps-none (record r { train = 0 }) (λ e. cc)

pub idle_keeps : (d : Deck) → KeepsMode d (idled_deck d)
idle_keeps d = by_motion (is_streaming d.motion)
  where
    by_motion : (b : Bool) → KeepsMode d (if b then run_on d else d)
    by_motion true = record { cartridge = refl; mode = refl }
    by_motion false = record { cartridge = refl; mode = refl }

pub idle_still : (d : Deck) (streams : Bool) → is_streaming d.motion ≡ streams → is_seeking d.motion ≡ false →
    is_seeking (idled_deck d).motion ≡ false
idle_still d true e still = rw e (by_limit (nat_lt (d.offset + 1) (limit d)))
  where
    by_limit : (b : Bool) → is_seeking (if b then Streaming 0 else Stopped) ≡ false
    by_limit true = refl
    by_limit false = refl
idle_still d false e still = rw e still

pub runs_on_idle : (d : Deck) → GeneratesAll d → is_streaming d.motion ≡ true → RunsOn d (idled_deck d)
runs_on_idle d g running = rw running (runs_on d g)

-- the record after it
abbrev after_idle : Record → Record
after_idle r = record r { deck = idled_deck r.deck; train = 0 }

idled-generates : (b : Record) (streams : Bool) → is_streaming b.deck.motion ≡ streams → GeneratesAll b.deck →
    idled b ≡ record b { deck = idled_deck b.deck }
idled-generates b true e g = let no = not_early b.deck g in rw (e, no) refl
idled-generates b false e g = rw e refl

error-idled : (d : Deck) (streams : Bool) → is_streaming d.motion ≡ streams → GeneratesAll d → d.error ≡ 0 → (idled_deck d).error ≡ 0
error-idled d true e g none = let no = not_early d g in rw (e, no) none
error-idled d false e g none = rw e none

generates-idled : (d : Deck) (streams : Bool) → is_streaming d.motion ≡ streams → GeneratesAll d → is_format (idled_deck d).mode ≡ true →
    (idled_deck d).format_segments ≡ segments_per_track (idled_deck d)
generates-idled d true e g = rw e g.segments
generates-idled d false e g = rw e g.segments

pub idles : (r : Record) → is_seeking r.deck.motion ≡ false → r.deck.error ≡ 0 → GeneratesAll r.deck → Idles r
idles r still none g =
    let is : pulsed_row r 0 ≡ after_idle r =
    pulsed_row-idled r ∙ ap (λ (d : Deck). idled (record r { deck = d; train = 0 })) (ticked-still r.deck still)
    ∙ idled-generates (record r { train = 0 }) (is_streaming r.deck.motion) refl g in
    record {
      takes = record {
        no_reset = λ e. cc;
        no_error = ap (λ (x : Record). x.deck.error) is ∙ error-idled r.deck (is_streaming r.deck.motion) refl g none;
        generates = subst (λ (x : Record). is_format x.deck.mode ≡ true → x.deck.format_segments ≡ segments_per_track x.deck) (sym is)
            (generates-idled r.deck (is_streaming r.deck.motion) refl g);
      };
      steps = steps-none r;
      deck = ap (λ (x : Record). x.deck) is;
      under_way = ap (λ (x : Record). x.under_way) is;
    }
