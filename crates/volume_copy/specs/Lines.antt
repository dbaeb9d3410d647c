-- The exit statuses of a copy, and what a status prints (this project's own).
use Rattle.std.specs.Prelude.{ℕ, List, [], codes}
use Rattle.command_spec.specs.declared.copy_status.CopyStatus.{CopyStatus}
use Rattle.command_spec.specs.declared.copy_status.CopyStatus.TheVariants as status

-- the exit status
abbrev pub status_code : CopyStatus → ℕ
status_code status.Done = 0
status_code status.Usage = 2
status_code status.SinkFault = 17
status_code status.NoMemory = 19
status_code status.FromAbsent = 30
status_code status.ToAbsent = 31
status_code (status.From why) = 32
status_code (status.To why) = 33
status_code (status.Differs number) = 34

-- the line of a status: where there is no cartridge, and no other has one
abbrev pub status_text : CopyStatus → List ℕ
status_text status.FromAbsent = codes "tape_dup: no cartridge\n"
status_text status.ToAbsent = codes "tape_dup: no cartridge\n"
status_text other = []
