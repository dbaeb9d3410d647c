-- The numbers that there can be on a cartridge of any length, whatever a tape tells (QIC-80-MC; 3 to 246 segments per track, and the
-- slots of the volume table are this project's profile).
use Rattle.std.specs.Prelude.{ℕ, Bool, ◌*◌, ◌&&◌, nat_lt, nat_le, ◌<◌, ◌≤◌}
use Rattle.qic_base.specs.declared.TheConstants.{LONGEST}

-- a segment of the longest one, 0 to 6,887
abbrev pub is_segment : ℕ → Bool
is_segment segment = nat_lt segment (28 * LONGEST)

-- so many segments: at most all of them
abbrev pub is_segment_count : ℕ → Bool
is_segment_count count = nat_le count (28 * LONGEST)

-- one behind the volume table's: a volume's
abbrev pub is_of_volume : ℕ → Bool
is_of_volume segment = nat_le 3 segment && is_segment segment

-- a sector of the longest one
abbrev pub is_sector : (segment sector : ℕ) → Bool
is_sector segment sector = is_segment segment && nat_lt sector 32

-- .. and of the shortest one, so of each
abbrev pub is_on_each : (segment sector : ℕ) → Bool
is_on_each segment sector = nat_lt segment (28 * 3) && nat_lt sector 32

-- so many volumes: a slot for each
abbrev pub is_volume_count : ℕ → Bool
is_volume_count count = nat_le count 232

-- so many unreadable sectors of a segment are too many to be found again
abbrev pub AreTooMany : ℕ → Type 0
AreTooMany lost = (3 < lost) × (lost ≤ 32)

abbrev pub are_too_many : ℕ → Bool
are_too_many lost = nat_lt 3 lost && nat_le lost 32
