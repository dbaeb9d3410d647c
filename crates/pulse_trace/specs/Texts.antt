-- What is printed about a status (this project's own).
use Rattle.std.specs.Prelude.{ℕ, List, [], ◌++◌, codes, decimal}
use Rattle.pulse_trace.specs.declared.status.TraceStatus.{TraceStatus}
use Rattle.pulse_trace.specs.declared.status.TraceStatus.TheVariants as ends

-- the text of a status without a number
abbrev pub plain_text : TraceStatus → List ℕ
plain_text ends.Usage = codes "usage: pulse_trace [--gap MICROSECONDS] (1 to 1000000)\n"
plain_text ends.SourceFault = codes "pulse_trace: standard input can't be read\n"
plain_text ends.SinkFault = codes "pulse_trace: standard output can't be written\n"
plain_text ends.NoMemory = codes "pulse_trace: out of memory\n"
plain_text other = []

abbrev pub status_text : TraceStatus → List ℕ
status_text (ends.TraceFault line place) = codes "pulse_trace: line " ++ decimal line ++ codes " is not valid\n"
status_text other = plain_text other
