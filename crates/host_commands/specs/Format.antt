-- The answer that a fault of formatting makes (this project's own).
use Rattle.command_spec.specs.declared.status.Status.{Status}
use Rattle.formatter.specs.declared.fault.FormatFault.{FormatFault}
use Rattle.formatter.specs.declared.fault.FormatFault.TheVariants as fault
use Rattle.command_spec.specs.declared.status.Status.TheVariants as status

-- the answer that a fault of the formatting makes
abbrev pub format_status : FormatFault → Status
format_status fault.Protected = status.Protected
format_status (fault.DefectInFront segment) = status.DefectInFront segment
format_status fault.Tape = status.TapeFault
