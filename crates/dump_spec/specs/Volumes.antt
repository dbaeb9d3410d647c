-- The volumes of a table: its slots, their ranges, what they carry and their lengths (the Linux zftape headers, for the
-- format codes other than 2 not tried on a tape; lengths and bad ranges are this project's profile).
use Rattle.std.specs.Prelude.{ℕ, ◌+◌, ◌-◌, ◌*◌, ◌==◌, ◌&&◌, ◌||◌, nat_lt, nat_le, not, Bool, true, false, List, [], ◌∷◌, codes, length, map}
use Rattle.std.specs.Prelude.{slice_index, sum_by, if◌then◌else◌}
use Rattle.std.specs.Int.{bit_at}
use Rattle.std.specs.List.{range_with_len}
use Rattle.cartridge_spec.specs.Shape.{capacity}
use Rattle.cartridge_spec.specs.Table.{Entry, slot, is_used, entry_in}
use Rattle.qic_base.specs.Field.{number_at, little_endian}

-- ---- slots

-- as many slots of 128 bytes as fit into the data
abbrev pub slots : (area : List (List ℕ)) → List (List ℕ)
slots area = map (slot area) (range_with_len 0 (8 * length area))

abbrev pub has_letters : (letters bytes : List ℕ) → Bool
has_letters letters bytes = number_at bytes 0 4 == little_endian letters

-- a slot that tells no volume and does not end the table
abbrev pub is_passed : List ℕ → Bool
is_passed bytes = has_letters (codes "XTBL") bytes || has_letters (codes "UTID") bytes || has_letters (codes "EXVT") bytes

-- those of volumes, up to the first slot that is neither a volume's nor passed over
abbrev pub volume_slots : List (List ℕ) → List (List ℕ)
volume_slots [] = []
volume_slots (bytes ∷ more) =
    if is_used bytes then bytes ∷ volume_slots more
    else if is_passed bytes then volume_slots more
    else []

-- ---- volumes

-- what a slot tells, and whether the data are compressed
pub record Volume : Type 0 where
  pub entry : Entry
  pub compressed : Bool

abbrev pub volume_in : List ℕ → Volume
volume_in bytes = record { entry = entry_in bytes; compressed = bit_at (slice_index bytes 124) 7 == 1 }

-- how many segments a slot of the format code 6 tells
abbrev pub told_segments : List ℕ → ℕ
told_segments bytes = number_at bytes 4 4

-- the volume of that slot, whose segments begin with this one
abbrev pub counted_volume : (first : ℕ) → List ℕ → Volume
counted_volume first bytes =
    record {
      entry = record (entry_in bytes) { start = first; end = first + told_segments bytes - 1 };
      compressed = (volume_in bytes).compressed;
    }

-- those of slots, one behind the other from a segment on
abbrev pub counted_volumes : (first : ℕ) → List (List ℕ) → List Volume
counted_volumes first [] = []
counted_volumes first (bytes ∷ more) = counted_volume first bytes ∷ counted_volumes (first + told_segments bytes) more

-- The volumes of a table in a segment, in order of their numbers from 1 on: the slots tell their first and last segments, or how
-- many they have, where the first one begins behind the table.
abbrev pub volumes_of : (counts : Bool) → (segment : ℕ) → (area : List (List ℕ)) → List Volume
volumes_of false segment area = map volume_in (volume_slots (slots area))
volumes_of true segment area = counted_volumes (segment + 1) (volume_slots (slots area))

-- ---- ranges and lengths

-- its last segment is below its first or above 65,535, or its first is not behind the table's
abbrev pub has_bad_range : (table : ℕ) → Volume → Bool
has_bad_range table volume =
    nat_lt volume.entry.end volume.entry.start || nat_lt 65535 volume.entry.end || nat_le volume.entry.start table

-- the bytes that the segments from one to another carry, by their masks
abbrev pub carried_between : (masks : ℕ → ℕ) → (first last : ℕ) → ℕ
carried_between masks first last = sum_by (λ segment. capacity (masks segment)) (range_with_len first (last + 1 - first))

abbrev pub carried : (masks : ℕ → ℕ) → Volume → ℕ
carried masks volume = carried_between masks volume.entry.start volume.entry.end

-- its length in bytes: its data size, where there is no directory, nothing is compressed and its segments carry so much; else
-- all that they carry; and 0 where its range is bad
abbrev pub length_of : (masks : ℕ → ℕ) → (table : ℕ) → Volume → ℕ
length_of masks table volume =
    if has_bad_range table volume then 0
    else if (volume.entry.directory == 0) && not volume.compressed && nat_le volume.entry.size (carried masks volume)
    then volume.entry.size
    else carried masks volume
