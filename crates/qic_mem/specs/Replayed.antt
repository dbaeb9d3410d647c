-- The record of a tape's calls gives what the tape holds (this project's profile).
use Rattle.std.specs.Prelude.{Option}
use Rattle.std.proofs.Props.{props}
use Rattle.qic_mem.specs.declared.tape.holder.Holder.{Holder}
use Rattle.qic_mem.specs.Holder.{holder_state}
use Rattle.qic_mem.specs.TapeLog.{TapeLog}
use Rattle.qic_mem.specs.TapeLogLaws.{Stands}

abbrev pub IsReplayed : Option TapeLog → Holder → Type 0
IsReplayed log holder = Stands log (holder_state holder).cartridge

pub IsReplayed-prop : (log : Option TapeLog) (holder : Holder) → IsProp (IsReplayed log holder)
IsReplayed-prop log holder = hlevel props
