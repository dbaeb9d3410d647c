-- The answer of a command that had a text to write (this project's own).
use Rattle.std.specs.Prelude.{Result, Ok, Err}
use Rattle.command_spec.specs.declared.status.Status.{Status}
use Rattle.command_spec.specs.declared.status.Status.TheVariants as status

-- it was written, or a fault of the sink broke it off
abbrev pub printed_status : {A E : Type 0} → Result A E → Status
printed_status (Ok done) = status.Done
printed_status (Err fault) = status.SinkFault
