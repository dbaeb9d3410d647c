-- The cartridge that a flat dump and its map are imported as (this project's own).
use Rattle.std.specs.Prelude.{◌≡◌, ℕ, ◌+◌, ◌*◌, ◌≤◌, ◌<◌, ◌⊎◌, ◌&&◌, List, length, map, nat_le, true, false, if◌then◌else◌, Option, Some}
use Rattle.std.specs.Prelude.{None, slice_index_or}
use Rattle.std.specs.List.{range_with_len, slice_range}
use Rattle.qic_base.specs.Cartridge.{Cartridge}
use Rattle.qic_base.specs.declared.tape.SectorView.{SectorView}
use Rattle.qic_base.specs.declared.tape.SectorView.TheVariants.{Blank, Defect, Lost, Holds}
use Rattle.qic_base.specs.declared.tape.TapeInfo.{TapeInfo}
use Rattle.rescue_map.specs.declared.form.Block.{Block}
use Rattle.rescue_map.specs.Map.{IsWhole}
use Rattle.rescue_map.specs.Text.{is_marked}

-- the dump has all 1,024 bytes of the sector
abbrev pub HasSector : (dump : List ℕ) → (sector : ℕ) → Type 0
HasSector dump sector = 1024 * sector + 1024 ≤ length dump

-- all of them were rescued: without a map each byte was
abbrev pub IsRescued : Option (List Block) → (sector : ℕ) → Type 0
IsRescued None sector = Unit {0}
IsRescued (Some blocks) sector = IsWhole blocks sector

abbrev pub IsTaken : (dump : List ℕ) → Option (List Block) → (sector : ℕ) → Type 0
IsTaken dump blocks sector = HasSector dump sector × IsRescued blocks sector

-- A sector that is taken holds the dump's bytes, and each other one is lost.
abbrev pub IsImportedView : (dump : List ℕ) → Option (List Block) → (sector : ℕ) → SectorView → Type 0
IsImportedView dump blocks sector view =
    (IsTaken dump blocks sector × (view ≡ Holds (slice_range dump (1024 * sector) (1024 * sector + 1024))))
    ⊎ ((IsTaken dump blocks sector → ⊥) × (view ≡ Lost))

-- with this many segments per track, the referenced mark alone, in the newest layout
abbrev pub imported_info : ℕ → TapeInfo
imported_info n = record { segments_per_track = n; protected = false; referenced = true }

pub record IsImported (dump : List ℕ) (blocks : Option (List Block)) (n : ℕ) (c : Cartridge) : Type 0 where
  pub info : c.info ≡ imported_info n
  pub version : c.version ≡ 2
  pub size : length c.views ≡ 896 * n
  pub views : (sector : ℕ) → sector < 896 * n → IsImportedView dump blocks sector (slice_index_or c.views sector Blank)

-- ---- by a mask

-- the view of a sector, by a mask of those that were rescued
abbrev pub imported_view : (dump mask : List ℕ) → (sector : ℕ) → SectorView
imported_view dump mask sector =
    if is_marked mask sector && nat_le (1024 * sector + 1024) (length dump)
    then Holds (slice_range dump (1024 * sector) (1024 * sector + 1024))
    else Lost

abbrev pub imported_by : (dump mask : List ℕ) → ℕ → Cartridge
imported_by dump mask n = record { info = imported_info n; version = 2; views = map (imported_view dump mask) (range_with_len 0 (896 * n)) }

-- ---- what an export brings back

-- a sector that holds nothing is lost
abbrev pub brought_view : SectorView → SectorView
brought_view Blank = Lost
brought_view Defect = Lost
brought_view Lost = Lost
brought_view (Holds bytes) = Holds bytes

-- the cartridge as its dump and its map bring it back
abbrev pub brought_back : Cartridge → Cartridge
brought_back c = record { info = imported_info c.info.segments_per_track; version = 2; views = map brought_view c.views }
