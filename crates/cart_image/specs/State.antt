-- What the state bytes say of a sector, without its bytes (this project's profile).
use Rattle.std.specs.Prelude.{◌≡◌, ℕ, ◌<◌, true, if◌then◌else◌, List, [], Option, Some, slice_index, slice_index_or, slice_set}
use Rattle.qic_base.specs.Cartridge.{Cartridge, view_at}
use Rattle.qic_base.specs.CartridgeTerms.{is_lost, place_of}
use Rattle.qic_base.specs.declared.tape.SectorView.{SectorView}
use Rattle.qic_base.specs.declared.tape.SectorView.TheVariants.{Blank, Defect, Lost, Holds}
use Rattle.cart_image.specs.declared.reading.SectorState.{SectorState}
use Rattle.cart_image.specs.declared.reading.SectorState.TheVariants as state
use Rattle.cart_image.specs.declared.segment.SegmentStates.{SegmentStates}
use Rattle.cart_image.specs.declared.segment.SegmentMarks.{SegmentMarks}
use Rattle.cart_image.specs.declared.layout.Layout.{Layout}
use Rattle.cart_image.specs.declared.layout.Part.TheVariants.{GateByte, FormedByte, DefectByte}
use Rattle.cart_image.specs.Image.{view_in, sector_bytes}
use Rattle.cart_image.specs.Layout.{place}

abbrev pub state_of : SectorView → SectorState
state_of Blank = state.Blank
state_of Defect = state.Defect
state_of Lost = state.Lost
state_of (Holds bytes) = state.Readable

-- .. and of each sector of a segment of a cartridge
abbrev pub HoldsStates : SegmentStates → Cartridge → Type 0
HoldsStates states c = (i : ℕ) → i < 32 → slice_index_or states.states i state.Blank ≡ state_of (view_at c states.segment i)

-- .. with another state of a sector
abbrev pub with_state : SegmentStates → (sector : ℕ) → SectorState → SegmentStates
with_state states sector state = record { segment = states.segment; states = slice_set states.states sector state }

-- .. where there is one
abbrev pub AreStates : SegmentStates → Option Cartridge → Type 0
AreStates states held = (c : Cartridge) → held ≡ Some c → HoldsStates states c

-- .. and of each sector of a segment that is in a word of sectors, by the bytes of a file
abbrev pub AreStatesOf : (l : Layout) (segment wanted : ℕ) (bytes : List ℕ) → List SectorState → Type 0
AreStatesOf l segment wanted bytes states = (i : ℕ) → i < 32 → is_lost wanted i ≡ true →
    slice_index_or states i state.Blank ≡ state_of (view_in l bytes (place_of segment i))

-- the bytes of the good ones of the sectors of a segment, put in their entries
pub record GotBytes (l : Layout) (segment : ℕ) (bytes : List ℕ) (good got : ℕ) (old new : List (List ℕ)) : Type 0 where
  pub same : (i : ℕ) → i < 32 → is_lost got i ≡ is_lost good i
  pub into : (i : ℕ) → i < 32 →
      slice_index_or new i [] ≡ (if is_lost good i then sector_bytes l bytes (place_of segment i) else slice_index_or old i [])

-- the state bytes that a file has of a segment's sectors
pub record AreMarks (l : Layout) (segment : ℕ) (bytes : List ℕ) (m : SegmentMarks) : Type 0 where
  pub gates : (i : ℕ) → i < 32 → slice_index m.gates i ≡ slice_index bytes (place l GateByte (place_of segment i))
  pub formed : (i : ℕ) → i < 32 → slice_index m.formed i ≡ slice_index bytes (place l FormedByte (place_of segment i))
  pub defects : (i : ℕ) → i < 32 → slice_index m.defects i ≡ slice_index bytes (place l DefectByte (place_of segment i))
