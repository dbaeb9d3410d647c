-- The entries of a disk's record, and the bytes of its writes one after another, as events (this project's profile).
use Rattle.std.specs.Prelude.{◌≡◌, ℕ, ◌+◌, ◌*◌, ◌≤◌, List, [], ◌∷◌, take, drop, length, Option, Some, None, if◌then◌else◌}
use Rattle.std.specs.Vec.{vec_capacity}
use Rattle.qic_mem.specs.declared.disk.entry.DiskEntry.{DiskEntry}
use Rattle.qic_mem.specs.declared.disk.log.DiskRecord.TheInside.{Inside}
use Rattle.qic_mem.specs.DiskLog.{DiskEvent, DiskLog, point_of, is_pending}
use Rattle.qic_mem.specs.DiskEntry.{entry_size, event_of}

-- the events of these entries, which take their bytes from the list, behind some events; the last of them first
abbrev pub events_from : List DiskEntry → List ℕ → List DiskEvent → List DiskEvent
events_from [] bytes events = events
events_from (entry ∷ entries) bytes events =
    events_from entries (drop (entry_size entry) bytes) (event_of entry (take (entry_size entry) bytes) ∷ events)

-- the bytes that entries take
abbrev pub sizes : List DiskEntry → ℕ
sizes [] = 0
sizes (entry ∷ entries) = entry_size entry + sizes entries

-- What is true of a record as it is kept: there is room for what it says is left, and for a failure behind each call.
pub record IsWhole (l : Inside) : Type 0 where
  pub entries_fit : length l.entries.items + (if l.pending then 1 else 0) + 2 * l.calls_left ≤ vec_capacity l.entries
  pub bytes_fit : length l.bytes.items + l.bytes_left ≤ vec_capacity l.bytes
  pub taken : sizes l.entries.items ≡ length l.bytes.items
  pub pends : is_pending (point_of (events_from l.entries.items l.bytes.items [])) ≡ l.pending

abbrev pub log_of : Inside → DiskLog
log_of l = record {
  events = events_from l.entries.items l.bytes.items [];
  calls_left = l.calls_left;
  bytes_left = l.bytes_left;
}

-- the entries of a record, and the bytes of their writes one after another; of a disk without a record there are none
abbrev pub IsHistory : Option DiskLog → List DiskEntry → List ℕ → Type 0
IsHistory None entries bytes = (entries ≡ []) × (bytes ≡ [])
IsHistory (Some l) entries bytes = (l.events ≡ events_from entries bytes []) × (sizes entries ≡ length bytes)
