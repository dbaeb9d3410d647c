-- Which typed state a command leads to.
use Rattle.std.proofs.Common.{◌≡◌, ℕ, ◌+◌, ◌*◌, ◌<◌, ◌≤◌, Bool, true, false, ◌&&◌, List, Option, Some, None, is_some, IsSomeAnd}
use Rattle.std.proofs.Common.{IfSome, IfNone, if◌then◌else◌, nat_lt, nat_le, ap, refl, sym, ◌∙◌, arith, subst}
use Rattle.std.proofs.lemmas.Bool.Decides.{nat_tests}
use Rattle.std.proofs.lemmas.Nat.{mul-add-lt}
use Rattle.std.specs.Bool.{then_some}
use Rattle.std.specs.Option.{option_map_or}
use Rattle.qic_base.specs.Cartridge.{IsPlace}
use Rattle.qic_base.specs.declared.tape.TapeInfo.{TapeInfo}
use Rattle.qic_base.specs.Tape.{Meaning}
use Rattle.qic117_commands.specs.declared.command.Command.TheVariants.{LogicalForward, SeekLoadPoint}
use Rattle.qic117_commands.specs.Refusals.{needs_cartridge}
use Rattle.qic117_commands.specs.Views.{is_primary}
use Rattle.tape_geometry.specs.declared.geometry.FloppyAddr.{FloppyAddr}
use Rattle.tape_geometry.specs.Geometry.{HasAddress}
use Rattle.drive_spec.specs.declared.deck.Deck.{Deck}
use Rattle.drive_spec.specs.declared.deck.Motion.{Motion}
use Rattle.drive_spec.specs.declared.deck.Motion.TheVariants.{Stopped, Streaming, Seeking}
use Rattle.drive_spec.specs.Deck.{segments_per_track, limit, is_stopped, is_streaming}
use Rattle.drive_spec.specs.Terms.{refusal_of, run_on}
use Rattle.drive_spec.specs.Effects.{accepted, given, ticked}
use Rattle.drive_states.specs.Typed.{is_seeking, TypedState, IsIn, moved, at_start, seeking, skip_command}
use Rattle.drive_states.specs.Reach.{passed, StreamsTo, segment_of, HasAddressIn, HasNoAddressIn, Answer, Finds, Writes}
use Rattle.drive_states.specs.Sound.{HasLength, IsParameter, IsSound}
use Rattle.drive_states.specs.Unit.{Knows, DeckAndTape}
use Rattle.drive_states.proofs.Bounds.{with_cartridge, before_limit, limit_within, IsSound-passed}

neither : (m : Motion) → is_streaming m ≡ false → is_seeking m ≡ false → m ≡ Stopped
neither Stopped a b = refl
neither (Streaming next) a b = cc
neither (Seeking left) a b = cc

some_length : (c : Option TapeInfo) → HasLength c → is_some c ≡ true → 3 ≤ option_map_or (λ i. i.segments_per_track) c 0
some_length None long there = cc
some_length (Some info) long there = long.shortest

-- what stands at the load point before a cartridge's first segment streams
streams_from_load_point : (d : Deck) → IsSound d → d.at_load_point ≡ true → is_seeking d.motion ≡ false → is_some d.cartridge ≡ true →
    (is_stopped d.motion && nat_lt d.offset (limit d)) ≡ true
streams_from_load_point d s at stands there =
    let p = s.load_point at in
    let stopped : d.motion ≡ Stopped = neither d.motion p.still stands in
    let long : 3 ≤ segments_per_track d = some_length d.cartridge s.long there in
    let room : nat_lt 0 (segments_per_track d) ≡ true = grind (arith, nat_tests) in
    rw (stopped, p.offset, p.primary) room

moves_on : (d : Deck) (b : Bool) → (is_stopped d.motion && nat_lt d.offset (limit d)) ≡ b →
    (d.at_load_point ≡ true → b ≡ true) → is_seeking d.motion ≡ false →
    IsIn record { mode = d.mode; at_load_point = false; seeks = false }
    (if b then record d { motion = Streaming 0; at_load_point = false } else d)
moves_on d true e leaves stands = record { mode = refl; at_load_point = refl; seeks = refl }
moves_on d false e leaves stands = record { mode = refl; at_load_point = not_there d.at_load_point leaves; seeks = stands }
  where
    not_there : (b : Bool) → (b ≡ true → false ≡ true) → b ≡ false
    not_there true h = sym (h refl)
    not_there false h = refl

pub IsIn-forward : (p q : TypedState) (d : Deck) → IsSound d → IsIn p d → p.seeks ≡ false → q ≡ moved p →
    refusal_of d LogicalForward ≡ None → IsIn q (accepted LogicalForward d)
unfolding needs_cartridge
IsIn-forward p q d s here stands left taken =
    let there = with_cartridge d LogicalForward refl taken in
    let seeks : is_seeking d.motion ≡ false = here.seeks ∙ stands in
    let at : q ≡ record { mode = d.mode; at_load_point = false; seeks = false } = rw (left, stands, here.mode) refl in
    rw at (moves_on d (is_stopped d.motion && nat_lt d.offset (limit d)) refl (λ load. streams_from_load_point d s load seeks there) seeks)

stops_seeking : (m : Motion) → is_stopped m ≡ true → is_seeking m ≡ false
stops_seeking Stopped e = refl
stops_seeking (Streaming next) e = cc
stops_seeking (Seeking left) e = cc

-- a seek that is over has come to the state that it sought
pub IsIn-there : (p : TypedState) (d : Deck) → IsIn (seeking p) d → p.seeks ≡ false → is_stopped (ticked d).motion ≡ true →
    IsIn p (ticked d)
IsIn-there p d here stands stopped = record {
  mode = here.mode;
  at_load_point = here.at_load_point;
  seeks = stops_seeking (ticked d).motion stopped ∙ sym stands;
}

-- two sectors at one address are one
pub one_place : (length s i t j : ℕ) (addr : FloppyAddr) → HasAddress length s i addr → HasAddress length t j addr → (s ≡ t) × (i ≡ j)
one_place length s i t j addr a b = (omega arith, omega arith)

-- the segment under the head is one of the cartridge
pub IsPlaceOf-here : (d : Deck) (size : Option ℕ) → IsSound d → is_streaming d.motion ≡ true → Knows d.cartridge size →
    IsSomeAnd size (λ n. IsPlace n (segment_of d) 0)
IsPlaceOf-here d size s streams known =
    on d.cartridge size d.track d.offset s.track (before d) known
  where
    before : (e : Deck) → d.offset < segments_per_track d
    before e = let b = before_limit d.motion (limit d) d.offset streams s.motion in let w = limit_within d in omega arith

    on : (c : Option TapeInfo) (size : Option ℕ) (track offset : ℕ) → track < 28 → offset < option_map_or (λ i. i.segments_per_track) c 0 →
        Knows c size → IsSomeAnd size (λ n. IsPlace n (track * option_map_or (λ i. i.segments_per_track) c 0 + offset) 0)
    on None size track offset t o known = absurd (omega arith)
    on (Some info) size track offset t o known =
        rw known record { on_tape = omega (arith, mul-add-lt track info.segments_per_track offset 28 t o); in_segment = omega arith }

-- what a write came to, said of its place
pub Writes-at : {T : Type 0} (m : Meaning T) (old new : DeckAndTape T) (s i segment index : ℕ) (bytes : List ℕ) (b protected : Bool)
    (result : Answer (Unit {0})) →
    protected ≡ b → s ≡ segment → i ≡ index → Writes m old new s i bytes b result → Writes m old new segment index bytes protected result
Writes-at m old new s i segment index bytes b protected result marked here at wrote =
    subst (λ (p : Bool). Writes m old new segment index bytes p result) (sym marked)
    (subst (λ (n : ℕ). Writes m old new n index bytes b result) here
    (subst (λ (n : ℕ). Writes m old new s n bytes b result) at wrote))

-- what a read came to, said of its place
pub Finds-at : {T : Type 0} (m : Meaning T) (old new : DeckAndTape T) (s i segment index : ℕ) (into now : List ℕ)
    (result : Answer (Unit {0})) →
    s ≡ segment → i ≡ index → Finds m old new s i into now result → Finds m old new segment index into now result
Finds-at m old new s i segment index into now result here at found =
    subst (λ (n : ℕ). Finds m old new n index into now result) here
    (subst (λ (n : ℕ). Finds m old new s n into now result) at found)

pub streams_still : (m : Motion) → is_streaming m ≡ true → is_seeking m ≡ false
streams_still Stopped e = cc
streams_still (Streaming next) e = refl
streams_still (Seeking left) e = cc

-- a tape that runs on stays in its state
pub IsIn-run_on : (p : TypedState) (d : Deck) → IsIn p d → is_streaming d.motion ≡ true → IsIn p (run_on d)
IsIn-run_on p d here streams = record {
  mode = here.mode;
  at_load_point = here.at_load_point;
  seeks = by_test (nat_lt (d.offset + 1) (limit d)) ∙ sym (streams_still d.motion streams) ∙ here.seeks;
}
  where
    by_test : (b : Bool) → is_seeking (if b then Streaming 0 else Stopped) ≡ false
    by_test true = refl
    by_test false = refl

pub streams_to : (m : Motion) (index : ℕ) → StreamsTo m index → is_streaming m ≡ true
streams_to Stopped index under = absurd under
streams_to (Streaming next) index under = refl
streams_to (Seeking left) index under = absurd under

-- the head passes a sector that it can reach
pub IsSound-reached : (d : Deck) (index : ℕ) → IsSound d → StreamsTo d.motion index → index < 32 → IsSound (passed d index)
IsSound-reached d index s under fits = IsSound-passed d index s (streams_to d.motion index under) fits

pub IsIn-reached : (p : TypedState) (d : Deck) (index : ℕ) → IsIn p d → StreamsTo d.motion index → IsIn p (passed d index)
IsIn-reached p d index here under = record {
  mode = here.mode;
  at_load_point = here.at_load_point;
  seeks = sym (streams_still d.motion (streams_to d.motion index under)) ∙ here.seeks;
}

-- a drive that knows of no cartridge has no address
pub unknown_length : (c : Option TapeInfo) (segment index : ℕ) (addr : FloppyAddr) → c ≡ None →
    HasAddress (option_map_or (λ i. i.segments_per_track) c 0) segment index addr → ⊥
unknown_length None segment index addr gone has = let none = has.on_tape in omega arith
unknown_length (Some info) segment index addr gone has = cc

-- nor has one whose tape doesn't stream
pub stands_there : (m : Motion) (index : ℕ) → ((next : ℕ) → m ≡ Streaming next → ⊥) → StreamsTo m index → ⊥
stands_there Stopped index stands under = under
stands_there (Streaming next) index stands under = stands next refl
stands_there (Seeking left) index stands under = under

-- a skip seeks, past the load point
pub IsIn-skipped : (p q : TypedState) (d : Deck) (forward : Bool) (count : ℕ) → IsIn p d → q ≡ moved p →
    IsIn (seeking q) (given (skip_command forward) count d)
IsIn-skipped p q d true count here left = rw left record { mode = here.mode; at_load_point = refl; seeks = refl }
IsIn-skipped p q d false count here left = rw left record { mode = here.mode; at_load_point = refl; seeks = refl }

-- the parameter of a skip is a byte
pub IsParameter-skip : (forward : Bool) (count : ℕ) → count < 256 → IsParameter (skip_command forward) count
IsParameter-skip true count fits = fits
IsParameter-skip false count fits = fits

-- what seeks the start of track 0 seeks the load point in Primary mode
pub IsIn-home : (p q : TypedState) (d : Deck) → IsIn p d → q ≡ at_start p → IsIn (seeking q) (accepted SeekLoadPoint d)
IsIn-home p q d here home = rw home record { mode = here.mode; at_load_point = ap is_primary here.mode; seeks = refl }

-- a sector under the head that is not passed is reached, ..
pub reached_from : (d : Deck) (addr : FloppyAddr) (next s i : ℕ) (b : Bool) → nat_le next i ≡ b → d.motion ≡ Streaming next →
    s ≡ segment_of d → HasAddress (segments_per_track d) s i addr →
    IfSome {T = ℕ × ℕ} (then_some b (s, i)) (λ place. HasAddressIn d addr place.0 place.1)
reached_from d addr next s i true e streams here address =
    let ahead : next ≤ i = grind (arith, nat_tests) in
    record { under = record { streams = rw streams ahead; here = here }; address = address }
reached_from d addr next s i false e streams here address = tt

-- .. and one that it passed is not
pub passed_already : (d : Deck) (addr : FloppyAddr) (next s i : ℕ) (b : Bool) → nat_le next i ≡ b → d.motion ≡ Streaming next →
    HasAddress (segments_per_track d) s i addr → IfNone {T = ℕ × ℕ} (then_some b (s, i)) (HasNoAddressIn d addr)
passed_already d addr next s i true e streams address = tt
passed_already d addr next s i false e streams address = λ segment index reaches.
    let behind : i < next = grind (arith, nat_tests) in
    let ahead : next ≤ index = rw streams at reaches.under.streams in
    let same : i ≡ index = (one_place _ _ _ _ _ _ address reaches.address).1 in
    omega arith
