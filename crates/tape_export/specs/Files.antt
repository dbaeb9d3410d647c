-- How a run ends whose map is written into a file (this project's own).
use Rattle.std.specs.Prelude.{◌≡◌, ◌≢◌, ◌⊎◌, [], IfSome}
use Rattle.qic_base.specs.Disk as disks
use Rattle.qic_base.specs.Sink as sinks
use Rattle.qic_base.specs.Tape as tapes
use Rattle.qic_base.specs.Cartridge.{Cartridge}
use Rattle.flat_dump.specs.Dump.{dump_of}
use Rattle.flat_dump.specs.Export.{IsOn}
use Rattle.flat_dump.specs.Held.{map_of}
use Rattle.file_streams.specs.FileSink.{BrokeIn, Called, IsFresh, IsOnDisk, LookBroke, bytes_of, file_of, sink_means}
use Rattle.file_streams.specs.declared.sink.FileSink.{FileSink}
use Rattle.tape_export.specs.Runs.{Ends, Runs}
use Rattle.tape_export.specs.declared.status.ExportStatus.{ExportStatus}
use Rattle.tape_export.specs.declared.status.ExportStatus.TheVariants.{Done, NotEmpty, SinkFault}

-- The dump of the cartridge was written. The file of the map, where there is one, had no byte, and has just the text of
-- the map now, of which nothing is pending.
pub record BothKept {T K D : Type 0} (t : tapes.Meaning T) (k : sinks.Meaning K) (d : disks.Meaning D) (old new : Ends T K (FileSink D)) :
    Type 0 where
  pub did : tapes.Done t old.tape new.tape []
  pub cartridge : Cartridge
  pub is_on : IsOn t old.tape cartridge
  pub dump : sinks.Wrote k old.dump new.dump (dump_of cartridge)
  pub empty : IfSome (bytes_of d old.chart) (λ bytes. bytes ≡ [])
  pub text : IfSome (bytes_of d new.chart) (λ bytes. bytes ≡ map_of cartridge)
  pub on_disk : IsOnDisk d new.chart

-- the file of the map was looked at, and nothing else befell it, and it was found empty; and then the run ended so
pub record RanOn {T K D : Type 0} (t : tapes.Meaning T) (k : sinks.Meaning K) (d : disks.Meaning D) (old new : Ends T K (FileSink D))
    (how : ExportStatus) : Type 0 where
  pub begun : IfSome (bytes_of d old.chart) (λ bytes. bytes ≡ [])
  pub seen : FileSink D
  pub looked : Called d disks.Look old.chart seen
  pub fresh : IsFresh seen
  pub empty : IfSome (bytes_of d seen) (λ bytes. bytes ≡ [])
  pub runs : Runs t k (sink_means d) (record old { chart = seen }) new how

-- dump and map were written, no call having failed, and then the sync of the map failed
pub record NotKept {T K D : Type 0} (t : tapes.Meaning T) (k : sinks.Meaning K) (d : disks.Meaning D) (old new : Ends T K (FileSink D)) :
    Type 0 where
  pub written : FileSink D
  pub ran : RanOn t k d old (record new { chart = written }) Done
  pub broke : BrokeIn d disks.Sync (file_of written) (file_of new.chart)

-- neither the tape nor the dump was touched
pub record Untouched {T K M : Type 0} (old new : Ends T K M) : Type 0 where
  pub tape : new.tape ≡ old.tape
  pub dump : new.dump ≡ old.dump

-- how a run ended whose map is written into a file
abbrev pub Exports : {T K D : Type 0} (t : tapes.Meaning T) (k : sinks.Meaning K) (d : disks.Meaning D) (old new : Ends T K (FileSink D)) →
    ExportStatus → Type 0
Exports t k d old new Done = BothKept t k d old new
Exports t k d old new NotEmpty =
    IfSome (bytes_of d old.chart) (λ bytes. bytes ≢ []) × Called d disks.Look old.chart new.chart × Untouched old new
Exports t k d old new SinkFault =
    (LookBroke d old.chart new.chart × Untouched old new) ⊎ RanOn t k d old new SinkFault ⊎ NotKept t k d old new
Exports t k d old new other = RanOn t k d old new other
