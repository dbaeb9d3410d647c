-- The calls of a tape's record, as steps and ends (this project's profile).
use Rattle.std.specs.Prelude.{◌+◌, ◌≤◌, List, [], ◌∷◌, vec_len}
use Rattle.std.specs.Vec.{vec_capacity}
use Rattle.qic_mem.specs.declared.tape.log.Call.{Call}
use Rattle.qic_mem.specs.declared.tape.log.TapeRecord.TheInside.{Inside}
use Rattle.qic_mem.specs.Call.{call_of}
use Rattle.qic_mem.specs.TapeLog.{TapeCall, TapeLog}

-- these calls behind some others; the last of them first
abbrev pub calls_from : List Call → List TapeCall → List TapeCall
calls_from [] before = before
calls_from (call ∷ calls) before = calls_from calls (call_of call ∷ before)

-- there is room for what the record says is left
abbrev pub IsRoomy : Inside → Type 0
IsRoomy l = vec_len l.calls + l.calls_left ≤ vec_capacity l.calls

abbrev pub log_of : Inside → TapeLog
log_of l = record { calls = calls_from l.calls.items []; calls_left = l.calls_left }
