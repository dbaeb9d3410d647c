-- A cartridge: its marks, the version of what keeps it, and the view of each of its sectors (this project's profile of a
-- QIC-80 minicartridge); a set of sectors as a word.
use Rattle.std.specs.Prelude.{ℕ, zero, suc, ◌/◌, ◌%◌, ◌^◌, List, [], ◌∷◌, ◌++◌, ◌==◌, if◌then◌else◌, ◌≡◌, ◌+◌, ◌*◌, ◌<◌, ◌≤◌, length}
use Rattle.std.specs.Prelude.{replicate, All, false, slice_get, slice_set, unwrap_or, Option}
use Rattle.qic_base.specs.declared.tape.SectorView.{SectorView}
use Rattle.qic_base.specs.declared.tape.SectorView.TheVariants.{Blank}
use Rattle.qic_base.specs.declared.tape.TapeInfo.{TapeInfo}
use Rattle.qic_base.specs.declared.TheConstants.{LONGEST}
use Rattle.std.specs.Option.{option_map}

-- the places below a number that are in the set, in ascending order
unfoldable pub lost_places : ℕ → ℕ → List ℕ
lost_places mask zero = []
lost_places mask (suc place) = lost_places mask place ++ (if mask / 2 ^ place % 2 == 1 then place ∷ [] else [])

-- Its length and marks, the version of the layout in which it is kept, and the views of its sectors, 32 to a segment,
-- segment after segment.
pub record Cartridge : Type 0 where
  pub info : TapeInfo
  pub version : ℕ
  pub views : List SectorView

-- the length and marks of the cartridge, where there is one
abbrev pub info_of : Option Cartridge → Option TapeInfo
info_of held = option_map (λ c. c.info) held

-- A sector has 1,024 bytes (QIC-80-MC).
pub record IsSector (bytes : List ℕ) : Type 0 where
  pub size : length bytes ≡ 1024
  pub each : All (λ b. b < 256) bytes

-- a sector of 1,024 zero bytes
unfoldable pub zero_sector : List ℕ
zero_sector = replicate 1024 0

-- segments per track: 3 to the greatest number
pub record IsLength (segments_per_track : ℕ) : Type 0 where
  pub shortest : 3 ≤ segments_per_track
  pub longest : segments_per_track ≤ LONGEST

-- a segment and a sector index of a cartridge with this many segments per track
pub record IsPlace (segments_per_track segment sector : ℕ) : Type 0 where
  pub on_tape : segment < 28 * segments_per_track
  pub in_segment : sector < 32

-- the view of a sector
abbrev pub view_at : Cartridge → ℕ → ℕ → SectorView
view_at c segment sector = unwrap_or (slice_get c.views (32 * segment + sector)) Blank

-- the cartridge with another view of one sector
abbrev pub with_view : Cartridge → ℕ → ℕ → SectorView → Cartridge
with_view c segment sector view = record c { views = slice_set c.views (32 * segment + sector) view }

-- the version of a new cartridge
abbrev pub new_version : ℕ
new_version = 2

-- a new cartridge, of this version: no sector was ever formatted, and no mark stands
abbrev pub new_cartridge : ℕ → Cartridge
new_cartridge n =
    let info : TapeInfo = record { segments_per_track = n; protected = false; referenced = false } in
    record { info = info; version = new_version; views = replicate (896 * n) Blank }
