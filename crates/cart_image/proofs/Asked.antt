-- What is read of the sectors of a segment that are asked for.
use Rattle.std.proofs.Common.{◌≡◌, ℕ, ◌<◌, ◌≤◌, true, List, length, get_or, Option}
use Rattle.std.proofs.Common.{IfSome}
use Rattle.std.specs.Prelude.{slice_index, slice_index_or}
use Rattle.std.proofs.lemmas.Option.{IfSome_then}
use Rattle.qic_base.specs.CartridgeTerms.{is_lost, place_of}
use Rattle.cart_image.specs.declared.layout.Layout.{Layout}
use Rattle.cart_image.specs.declared.reading.SectorState.{SectorState}
use Rattle.cart_image.specs.declared.reading.SectorState.TheVariants as state
use Rattle.cart_image.specs.declared.segment.SegmentMarks.{SegmentMarks}
use Rattle.cart_image.specs.Image.{view_by, view_in}
use Rattle.cart_image.specs.Layout.{end_of}
use Rattle.cart_image.specs.State.{state_of, AreMarks, AreStatesOf}
use Rattle.cart_image.proofs.Known.{marked-state}

-- the state of a sector is known, where it is wanted
abbrev pub StateSeen : (told : Option (List ℕ)) (l : Layout) (segment wanted i : ℕ) (x : SectorState) → Type 0
StateSeen told l segment wanted i x = is_lost wanted i ≡ true →
    IfSome told (λ b. end_of l ≤ length b → x ≡ state_of (view_in l b (place_of segment i)))

-- .. and those of the first ones
pub record StatesSeen (told : Option (List ℕ)) (l : Layout) (segment wanted : ℕ) (states : List SectorState) (count : ℕ) : Type 0 where
  pub long : length states ≡ 32
  pub each : (i : ℕ) → i < count → StateSeen told l segment wanted i (get_or states i state.Blank)

-- the states of all sectors are those of the wanted ones
pub states-marked : (told : Option (List ℕ)) (l : Layout) (segment wanted : ℕ) (m : SegmentMarks) (states : List SectorState) →
    IfSome told (λ b. end_of l ≤ length b → AreMarks l segment b m)
    → ((i : ℕ) (bytes : List ℕ) → i < 32 → slice_index_or states i state.Blank ≡ state_of
    (view_by (slice_index m.defects i) (slice_index m.formed i) (slice_index m.gates i) bytes))
    → IfSome told (λ b. end_of l ≤ length b → AreStatesOf l segment wanted b states)
states-marked told l segment wanted m states marks by =
    IfSome_then told marks (λ b are. λ long i less bit. marked-state l segment b m states (are long) by i less)
