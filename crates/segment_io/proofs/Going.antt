-- How a call goes to its segment and through its sectors.
use Rattle.std.proofs.Common.{◌≡◌, ℕ, ◌+◌, ◌≤◌, sym, subst, arith, Option, Some, None, [], Result, Ok, Err, ◌*◌, ◌<◌, true}
use Rattle.std.specs.Prelude.{IfSome, IsSomeAnd, OnOk}
use Rattle.std.specs.Option.{option_map_or}
use Rattle.qic_base.specs.Cartridge.{Cartridge}
use Rattle.qic_base.specs.Tape.{Meaning, Done}
use Rattle.qic_base.specs.TapeCalls.{Tells}
use Rattle.qic_base.specs.declared.tape.TapeInfo.{TapeInfo}
use Rattle.qic_base.proofs.Steps.{Done-nothing}
use Rattle.cartridge_spec.specs.Shape.{usable_count}
use Rattle.cartridge_laws.proofs.Segments.{count_of_whole}
use Rattle.drive_spec.specs.declared.deck.Deck.{Deck}
use Rattle.drive_spec.specs.declared.deck.Motion.{Motion}
use Rattle.drive_spec.specs.declared.deck.Motion.TheVariants.{Stopped, Streaming, Seeking}
use Rattle.drive_spec.specs.Terms.{is_referenced}
use Rattle.drive_states.specs.Reach.{StreamsTo, IsUnder}
use Rattle.drive_states.specs.Sound.{HasLength}
use Rattle.drive_states.specs.Unit.{UnitView}
use Rattle.host_driver.specs.declared.host.Host.{Host}
use Rattle.host_driver.specs.Fits.{Fits, segments_of}
use Rattle.host_driver.specs.Place.{StreamsAt}
use Rattle.segment_io.specs.Calls.{HasSegment}

-- the tape streams before sector 0
pub under_first : (segment : ℕ) (d : Deck) → StreamsAt segment 0 d → IsUnder d segment 0
under_first segment d at = record {
  streams = let none : 0 ≤ 0 = omega arith in subst (λ (motion : Motion). StreamsTo motion 0) (sym at.motion) none;
  here = at.here;
}

-- what lies before a sector lies before the next
pub under_next : (segment index : ℕ) (d : Deck) → IsUnder d segment index → IsUnder d segment (index + 1)
under_next segment index d under = record { streams = by_motion d.motion under.streams; here = under.here }
  where
    by_motion : (motion : Motion) → StreamsTo motion index → StreamsTo motion (index + 1)
    by_motion Stopped streams = absurd streams
    by_motion (Streaming next) streams = omega arith
    by_motion (Seeking left) streams = absurd streams

-- the segments of the header copies and of the volume table have 32 usable sectors
pub front_segment : {T : Type 0} {m : Meaning T} {h : Host} {u : UnitView T} (segment : ℕ) → Fits m h u →
    is_referenced u.drive.deck ≡ true → segment < 3 →
    HasSegment u.drive.deck segment 4294967295
front_segment {h = h} {u = u} segment fits referenced front = record {
  referenced = referenced;
  on_tape = by_cartridge u.drive.deck.cartridge fits.cartridge fits.sound.drive.deck.long;
  carries = let all : usable_count 4294967295 ≡ 32 = count_of_whole in omega arith;
}
  where
    by_cartridge : (o : Option TapeInfo) → IsSomeAnd o (λ info. info.segments_per_track ≡ segments_of h) → HasLength o →
        segment < 28 * option_map_or (λ (c : TapeInfo). c.segments_per_track) o 0
    by_cartridge None there long = absurd there
    by_cartridge (Some info) there long = let least : 3 ≤ info.segments_per_track = long.shortest in omega arith

-- only the tape moved
pub done_moved : {T : Type 0} (m : Meaning T) (old new : T) → new ≡ old → Done m old new []
done_moved {T} m old new same = subst (λ (t : T). Done m old t []) (sym same) (Done-nothing m old)

-- ---- what is told

-- what is true of each cartridge is told
pub tells_always : {S : Type 0} (m : Meaning S) (s : S) (Q : Cartridge → Type 0) → ((c : Cartridge) → Q c) → Tells m s Q
tells_always m s Q always = by_cases (m.told s)
  where
    by_cases : (held : Option (Option Cartridge)) → IfSome held (λ h. IfSome h Q)
    by_cases None = tt
    by_cases (Some None) = tt
    by_cases (Some (Some c)) = always c

-- what follows from what is told
pub tells_then : {S : Type 0} (m : Meaning S) (s : S) (P Q : Cartridge → Type 0) → Tells m s (λ c. P c → Q c) → Tells m s P → Tells m s Q
tells_then m s P Q follows told = by_cases (m.told s) follows told
  where
    by_cases : (held : Option (Option Cartridge)) → IfSome held (λ h. IfSome h (λ c. P c → Q c)) → IfSome held (λ h. IfSome h P) →
        IfSome held (λ h. IfSome h Q)
    by_cases None f fact = tt
    by_cases (Some None) f fact = tt
    by_cases (Some (Some c)) f fact = f fact

-- ---- an answer

pub OnOk-then : {A E : Type 0} (r : Result A E) (P Q : Type 0) → (P → Q) → OnOk r P → OnOk r Q
OnOk-then (Ok x) P Q follows fact = follows fact
OnOk-then (Err e) P Q follows fact = tt
