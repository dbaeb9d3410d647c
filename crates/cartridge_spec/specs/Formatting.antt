-- A cartridge formatted: its defects, its header, the steps in their order, and header copies that it may begin over
-- (this project's profile).
use Rattle.std.specs.Prelude.{ℕ, List, slice_index, ◌≡◌, ◌↔◌, ◌*◌, ◌/◌, ◌%◌, ◌^◌, ◌<◌, length, ◌⊎◌, All, map, ◌∷◌, [], ◌++◌, take, drop}
use Rattle.std.specs.Prelude.{replicate}
use Rattle.std.specs.List.{range_with_len}
use Rattle.cartridge_spec.specs.Header.{Header, SpellsHeader}
use Rattle.cartridge_spec.specs.HeaderCopies.{copy_cells}
use Rattle.cartridge_spec.specs.Shape.{IsArea}
use Rattle.cartridge_spec.specs.Says.{Written, Zero, unreadable_count, with_parity}
use Rattle.cartridge_spec.specs.Settling.{writes_of}
use Rattle.cartridge_spec.specs.Volumes.{Plain, Stands}
use Rattle.qic_base.specs.Cartridge.{Cartridge, view_at, zero_sector}
use Rattle.qic_base.specs.Step.{Step, FormatSegment, SetReferenced}
use Rattle.qic_base.specs.declared.tape.SectorView.{SectorView}
use Rattle.qic_base.specs.declared.tape.SectorView.TheVariants.{Defect}

abbrev pub IsDefect : SectorView → Type 0
IsDefect Defect = Unit {0}
IsDefect view = ⊥

-- the words mark exactly the defects: they have their bits
pub record MarksDefects (c : Cartridge) (words : List ℕ) : Type 0 where
  pub size : length words ≡ 28 * c.info.segments_per_track
  pub each : (segment sector : ℕ) → segment < 28 * c.info.segments_per_track → sector < 32 →
      slice_index words segment / 2 ^ sector % 2 ≡ 1 ↔ IsDefect (view_at c segment sector)

-- each header copy was written with these data, or holds zero bytes: so does each one of a new cartridge, and of one
-- that was formatted to the end
pub record HasCleanCopies (c : Cartridge) (area : List (List ℕ)) : Type 0 where
  pub first : Written (copy_cells c 0) area ⊎ Zero (copy_cells c 0)
  pub second : Written (copy_cells c 1) area ⊎ Zero (copy_cells c 1)

-- the cartridge stands for a plain one, and each of its header copies is clean
pub record StandsCleanly (c : Cartridge) (plain : Plain) : Type 0 where
  pub stands : Stands c plain
  pub copies : HasCleanCopies c plain.header_area

-- each header copy holds nothing but zero bytes, as one of a new cartridge, or has lost more sectors than the code
-- finds again
pub record HasNoHeader (c : Cartridge) : Type 0 where
  pub first : Zero (copy_cells c 0) ⊎ 3 < unreadable_count (copy_cells c 0)
  pub second : Zero (copy_cells c 1) ⊎ 3 < unreadable_count (copy_cells c 1)

-- a label has 44 bytes
pub record IsLabel (label : List ℕ) : Type 0 where
  pub size : length label ≡ 44
  pub bytes : All (λ b. b < 256) label

-- the header of a cartridge that is formatted with this label, 44 bytes, and this date word
abbrev pub fresh_header : (n : ℕ) → (label : List ℕ) → (date : ℕ) → Header
fresh_header n label date =
    record { format_date = date; write_date = date; segments_per_track = n; label = label; label_date = date }

-- header data for it, whose map marks the cartridge's defects
pub record IsFreshWith (c : Cartridge) (label : List ℕ) (date : ℕ) (words : List ℕ) (area : List (List ℕ)) : Type 0 where
  pub size : IsArea area
  pub spells : SpellsHeader (fresh_header c.info.segments_per_track label date) words area
  pub marks : MarksDefects c words

-- the segments of the header copies and of the volume table have none
abbrev pub HasNoDefectInFront : Cartridge → Type 0
HasNoDefectInFront c = (segment : ℕ) → segment < 3 → (index : ℕ) → index < 32 → ¬ (IsDefect (view_at c segment index))

-- and none of them lies in front
pub record IsFreshFor (c : Cartridge) (label : List ℕ) (date : ℕ) (words : List ℕ) (area : List (List ℕ)) : Type 0 where
  pub fresh : IsFreshWith c label date words area
  pub front : HasNoDefectInFront c

-- the plain cartridge that it stands for then: without a volume, and the table's data are zero bytes
abbrev pub fresh_plain : Cartridge → (label : List ℕ) → (date : ℕ) → (words : List ℕ) → (area : List (List ℕ)) → Plain
fresh_plain c label date words area =
    let header : Header = fresh_header c.info.segments_per_track label date in
    record { header_area = area; header = header; words = words; table_area = replicate 29 zero_sector; volumes = [] }

-- ---- the steps

-- the reference bursts, and all segments of a cartridge with this many segments per track, ascending
abbrev pub clearing_steps : ℕ → List Step
clearing_steps n = SetReferenced ∷ map (λ s. FormatSegment s) (range_with_len 0 (28 * n))

-- a header copy: sectors 1 to 31, ascending, and then sector 0: as long as that holds zero bytes the copy doesn't read
abbrev pub copy_writes : (copy : ℕ) → (block : List (List ℕ)) → List Step
copy_writes copy block = writes_of copy (range_with_len 1 31) (drop 1 block) ++ writes_of copy (0 ∷ []) (take 1 block)

-- all of them, with these data in both header copies
abbrev pub format_steps : (n : ℕ) → (area : List (List ℕ)) → List Step
format_steps n area = clearing_steps n ++ copy_writes 0 (with_parity area) ++ copy_writes 1 (with_parity area)

-- this is the first of them that has one
pub record IsFirstDefectInFront (c : Cartridge) (segment : ℕ) : Type 0 where
  pub in_front : segment < 3
  pub index : ℕ
  pub within : index < 32
  pub is_defect : IsDefect (view_at c segment index)
  pub before : (t : ℕ) → t < segment → (i : ℕ) → i < 32 → ¬ (IsDefect (view_at c t i))
