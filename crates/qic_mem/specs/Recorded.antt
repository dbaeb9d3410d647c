-- The record of a disk's calls gives what stands in the disk (this project's profile).
use Rattle.std.specs.Prelude.{Option}
use Rattle.std.proofs.Props.{props}
use Rattle.qic_mem.specs.declared.disk.disk_bytes.DiskBytes.{DiskBytes}
use Rattle.qic_mem.specs.DiskLog.{DiskLog}
use Rattle.qic_mem.specs.DiskLogLaws.{Stands}
use Rattle.qic_mem.specs.DiskBytes.{bytes_state}

abbrev pub IsRecorded : Option DiskLog → DiskBytes → Type 0
IsRecorded log bytes = Stands log (bytes_state bytes).bytes

pub IsRecorded-prop : (log : Option DiskLog) (bytes : DiskBytes) → IsProp (IsRecorded log bytes)
IsRecorded-prop log bytes = hlevel props
