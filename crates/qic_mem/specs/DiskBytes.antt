-- What a disk in memory shows whose calls never fail: its bytes, the seen length, and its room in bytes (this project's
-- profile).
use Rattle.std.specs.Prelude.{ℕ, ◌≤◌, List, length}
use Rattle.qic_base.specs.Disk.{AreBytes}
use Rattle.qic_mem.specs.declared.disk.disk_bytes.DiskBytes.{DiskBytes}

pub record BytesState : Type 0 where
  pub bytes : List ℕ
  pub seen : ℕ
  pub room : ℕ

unfoldable pub bytes_state : DiskBytes → BytesState
bytes_state s = record { bytes = s.bytes.items; seen = s.seen; room = s.room }

-- they are bytes, at least as many as were seen
pub disk_bytes-bytes : (s : DiskBytes) → AreBytes (bytes_state s).bytes
unfolding bytes_state
disk_bytes-bytes s = s.are_bytes

pub disk_bytes-seen : (s : DiskBytes) → (bytes_state s).seen ≤ length (bytes_state s).bytes
unfolding bytes_state
disk_bytes-seen s = s.seen_within
