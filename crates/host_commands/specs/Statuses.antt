-- The answer that each fault of a store makes (this project's own).
use Rattle.command_spec.specs.declared.status.Status.{Status}
use Rattle.qic_base.specs.declared.store_fault.StoreFault.{StoreFault}
use Rattle.command_spec.specs.declared.status.Status.TheVariants as status
use Rattle.qic_base.specs.declared.store_fault.StoreFault.TheVariants as fault

-- the answer that a refusal of a store makes, or its fault; a source that ends early has none, since a command that appends its
-- whole input promises no bytes
abbrev pub store_status : StoreFault → Status
store_status fault.NotFormatted = status.NotFormatted
store_status (fault.Foreign field value) = status.Foreign field value
store_status fault.TableMismatch = status.TableMismatch
store_status (fault.Full need have) = status.Full need have
store_status (fault.NoVolume number count) = status.NoVolume number count
store_status (fault.Lost segment lost) = status.Lost segment lost
store_status (fault.Mismatch segment) = status.Mismatch segment
store_status fault.Protected = status.Protected
store_status fault.Source = status.SourceFault
store_status fault.Sink = status.SinkFault
store_status (fault.Short promised read) = status.TapeFault
store_status fault.Tape = status.TapeFault
