-- An entry of a disk's record, and the bytes of its write, as an event (this project's profile).
use Rattle.std.specs.Prelude.{ℕ, Bool, true, false, List}
use Rattle.qic_base.specs.Disk.{DiskStep}
use Rattle.qic_base.specs.Disk as step
use Rattle.qic_mem.specs.declared.disk.entry.DiskChange.{DiskChange}
use Rattle.qic_mem.specs.declared.disk.entry.DiskChange.TheVariants.{WriteAt, SetLen, Sync}
use Rattle.qic_mem.specs.declared.disk.entry.DiskEntry.{DiskEntry}
use Rattle.qic_mem.specs.declared.disk.entry.DiskEntry.TheVariants.{Made, Broke, Settled}
use Rattle.qic_mem.specs.DiskLog as event
use Rattle.qic_mem.specs.DiskLog.{DiskEvent}

-- how many bytes a change has
abbrev pub change_size : DiskChange → ℕ
change_size (WriteAt place count) = count
change_size (SetLen n) = 0
change_size Sync = 0

abbrev pub entry_size : DiskEntry → ℕ
entry_size (Made change) = change_size change
entry_size (Broke change) = change_size change
entry_size Settled = 0

-- the change with its bytes
abbrev pub step_with : DiskChange → List ℕ → DiskStep
step_with (WriteAt place count) part = step.WriteAt place part
step_with (SetLen n) part = step.SetLen n
step_with Sync part = step.Sync

abbrev pub event_of : DiskEntry → List ℕ → DiskEvent
event_of (Made change) part = event.Made (step_with change part)
event_of (Broke change) part = event.Broke (step_with change part)
event_of Settled part = event.Settled

-- something is pending behind this entry
abbrev pub leaves_pending : DiskEntry → Bool
leaves_pending (Made (WriteAt place count)) = true
leaves_pending (Made (SetLen n)) = true
leaves_pending (Made Sync) = false
leaves_pending (Broke change) = false
leaves_pending Settled = false
