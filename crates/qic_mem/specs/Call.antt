-- A recorded call as its step and its end (this project's profile).
use Rattle.qic_mem.specs.declared.tape.log.Call.{Call}
use Rattle.qic_mem.specs.TapeChange.{step_of}
use Rattle.qic_mem.specs.TapeLog.{TapeCall}

abbrev pub call_of : Call → TapeCall
call_of call = record { step = step_of call.change; end = call.end }
