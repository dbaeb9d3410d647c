-- How an output went, by what all of its segments give (this project's own).
use Rattle.std.specs.Prelude.{ℕ, List, Result, Ok, Err}
use Rattle.dump_spec.specs.Given.{Given}
use Rattle.dump_spec.specs.Output.{output_of}
use Rattle.dump_spec.specs.declared.status.Status.{Status}
use Rattle.dump_output.specs.Put.{Outside, PutAll, Cut}
use Rattle.dump_output.specs.declared.fault.PutFault.{PutFault}
use Rattle.qic_base.specs.Disk as disks
use Rattle.qic_base.specs.Sink as sinks

-- all was written, or a fault cut it off
abbrev pub PutsWhole : {D K M : Type 0} → disks.Meaning D → sinks.Meaning K → sinks.Meaning M → (size : ℕ) → (old new : Outside D K M) →
    (whole : List Given) → Result Status PutFault → Type 0
PutsWhole d k s size old new whole (Ok status) = PutAll d k s old new (output_of size whole) status
PutsWhole d k s size old new whole (Err fault) = Cut d k s old new (output_of size whole) fault
