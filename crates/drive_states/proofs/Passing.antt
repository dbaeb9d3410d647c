-- Where the head is once it has passed several sectors of a segment.
use Rattle.std.proofs.Common.{◌≡◌, ℕ, zero, suc, ◌+◌, ◌/◌, ◌%◌, ◌^◌, ◌<◌, Bool, true, false, ◌&&◌, not, if◌then◌else◌, add-one, refl}
use Rattle.std.proofs.Common.{sym, ◌∙◌, arith, subst, List, [], Option, Some, None, IfSome, Result, Ok, Err}
use Rattle.std.proofs.lemmas.Bool.{eq-eqb, ne_eqb}
use Rattle.std.proofs.Math.Bool.{and-false}
use Rattle.qic_base.specs.CartridgeTerms.{IsLost, is_lost}
use Rattle.qic_base.specs.declared.tape.TapeFailed.{TapeFailed}
use Rattle.qic_base.specs.Tape.{Meaning}
use Rattle.drive_spec.specs.declared.deck.Deck.{Deck}
use Rattle.drive_spec.specs.declared.deck.Motion.{Motion}
use Rattle.drive_spec.specs.Deck.{limit, is_streaming}
use Rattle.drive_states.specs.declared.fault.FdcFault.{FdcFault}
use Rattle.drive_states.specs.Reach.{last_passed, motion_behind, passed_all, refused_by, Writes, WritesSectors}
use Rattle.drive_states.specs.Sound.{IsSound, IsInMotion}
use Rattle.drive_states.specs.Typed.{is_seeking, TypedState, IsIn}
use Rattle.drive_states.specs.Unit.{DeckAndTape}
use Rattle.drive_states.proofs.Bounds.{before_limit}
use Rattle.drive_states.proofs.Places.{streams_still, Writes-at}

-- one more sector is the last, ..
pub last_is_here : (asked blank index : ℕ) → IsLost asked index → ¬ (IsLost blank index) → last_passed asked blank (index + 1) ≡ Some index
unfolding last_passed
last_is_here asked blank index wanted there =
    let a : is_lost asked index ≡ true = eq-eqb (asked / 2 ^ index % 2) 1 wanted in
    let b : is_lost blank index ≡ false = ne_eqb (blank / 2 ^ index % 2) 1 there in
    rw (add-one, a, b) refl

-- .. unless it was not asked for, ..
pub last_is_not_asked : (asked blank index : ℕ) → ¬ (IsLost asked index) →
    last_passed asked blank (index + 1) ≡ last_passed asked blank index
unfolding last_passed
last_is_not_asked asked blank index other =
    let a : is_lost asked index ≡ false = ne_eqb (asked / 2 ^ index % 2) 1 other in
    rw (add-one, a) refl

-- .. or is blank
pub last_is_not_blank : (asked blank index : ℕ) → IsLost blank index → last_passed asked blank (index + 1) ≡ last_passed asked blank index
unfolding last_passed
last_is_not_blank asked blank index none =
    let b : is_lost blank index ≡ true = eq-eqb (blank / 2 ^ index % 2) 1 none in
    rw (add-one, b, and-false (is_lost asked index)) refl

-- it is below the number
pub last_is_below : (asked blank below : ℕ) → IfSome (last_passed asked blank below) (λ index. index < below)
unfolding last_passed
last_is_below asked blank zero = tt
last_is_below asked blank (suc index) = by_test (is_lost asked index && not (is_lost blank index)) (last_is_below asked blank index)
  where
    later : (last : Option ℕ) → IfSome last (λ i. i < index) → IfSome last (λ i. i < suc index)
    later None h = tt
    later (Some i) h = omega arith

    by_test : (b : Bool) → IfSome (last_passed asked blank index) (λ i. i < index) →
        IfSome (if b then Some index else last_passed asked blank index) (λ i. i < suc index)
    by_test true below = omega arith
    by_test false below = later (last_passed asked blank index) below

motion_is_sound : (limit offset : ℕ) (last : Option ℕ) (m : Motion) → IfSome last (λ i. i < 32) → offset < limit →
    IsInMotion limit offset m → IsInMotion limit offset (motion_behind last m)
motion_is_sound limit offset None m within before is = is
motion_is_sound limit offset (Some index) m within before is = (before, omega arith)

pub IsSound-passed_all : (d : Deck) (asked blank : ℕ) → IsSound d → is_streaming d.motion ≡ true → IsSound (passed_all d asked blank)
IsSound-passed_all d asked blank s streams = record {
  long = s.long;
  present = s.present;
  load_point = λ at. let p = s.load_point at in let e = p.still in cc;
  track = s.track;
  offset = s.offset;
  motion = motion_is_sound (limit d) d.offset (last_passed asked blank 32) d.motion (last_is_below asked blank 32)
      (before_limit d.motion (limit d) d.offset streams s.motion) s.motion;
  format_segments = s.format_segments;
}

seeks_as_before : (last : Option ℕ) (m : Motion) → is_streaming m ≡ true → is_seeking (motion_behind last m) ≡ is_seeking m
seeks_as_before None m streams = refl
seeks_as_before (Some index) m streams = sym (streams_still m streams)

pub IsIn-passed_all : (p : TypedState) (d : Deck) (asked blank : ℕ) → IsIn p d → is_streaming d.motion ≡ true →
    IsIn p (passed_all d asked blank)
IsIn-passed_all p d asked blank here streams = record {
  mode = here.mode;
  at_load_point = here.at_load_point;
  seeks = seeks_as_before (last_passed asked blank 32) d.motion streams ∙ here.seeks;
}

-- a write to a protected cartridge is refused as one of its first sector is
pub refused-at : {T : Type 0} (m : Meaning T) (old new : DeckAndTape T) (s i segment index written : ℕ) (from : List (List ℕ))
    (protected : Bool) (why : Result FdcFault TapeFailed) → protected ≡ true → s ≡ segment → i ≡ index →
    Writes m old new s i [] true (refused_by why) → WritesSectors m old new segment index written from protected (refused_by why)
refused-at m old new s i segment index written from protected (Ok fault) marked here at refused =
    subst (λ (p : Bool). WritesSectors m old new segment index written from p (Ok (Err fault))) (sym marked)
    (Writes-at m old new s i segment index [] true true (Ok (Err fault)) refl here at refused)
refused-at m old new s i segment index written from protected (Err failed) marked here at refused =
    subst (λ (p : Bool). WritesSectors m old new segment index written from p (Err failed)) (sym marked)
    (Writes-at m old new s i segment index [] true true (Err failed) refl here at refused)
