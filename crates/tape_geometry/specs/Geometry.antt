-- Where a cartridge's segments lie, and their floppy addresses.
use Rattle.std.specs.Prelude.{◌≡◌, ℕ, ◌+◌, ◌-◌, ◌*◌, ◌/◌, ◌%◌, ◌<◌, ◌≤◌}
use Rattle.tape_geometry.specs.declared.geometry.FloppyAddr.{FloppyAddr}

-- segments are numbered track after track (QIC-80-MC): the track of a segment, ..
abbrev pub track_of : ℕ → ℕ → ℕ
track_of length segment = segment / length

-- .. and the number of segments that come before it on its track
abbrev pub logical_offset : ℕ → ℕ → ℕ
logical_offset length segment = segment % length

-- The sector with an index in a segment has a floppy address, on a cartridge with a length of so
-- many segments per track (QIC-80-MC: four segments of 32 sectors a cylinder, and sectors are
-- numbered from 1; floppy track maximum 149, so 600 segments a head, is this project's profile).
pub record HasAddress (length segment index : ℕ) (addr : FloppyAddr) : Type 0 where
  pub on_tape : segment < 28 * length
  pub in_segment : index < 32
  pub from_head : 600 * addr.head ≤ segment
  pub within_head : segment < 600 * (addr.head + 1)
  pub from_cylinder : 4 * addr.cylinder ≤ segment - 600 * addr.head
  pub within_cylinder : segment - 600 * addr.head < 4 * (addr.cylinder + 1)
  pub sector : addr.sector ≡ 32 * (segment % 4) + index + 1

-- no sector of a cartridge of that length has the address
abbrev pub HasNoSector : ℕ → FloppyAddr → Type 0
HasNoSector length addr = (segment index : ℕ) → ¬ (HasAddress length segment index addr)
