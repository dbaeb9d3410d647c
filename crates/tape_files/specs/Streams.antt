-- A file that is none of the run's standard streams (this project's own).
use Rattle.std.specs.Prelude.{◌≢◌}
use Rattle.tape_files.specs.declared.image.FileNumber.{FileNumber}
use Rattle.tape_files.specs.declared.image.StreamNumbers.{StreamNumbers}

-- each stream is another file
pub record IsNoStream (file : FileNumber) (streams : StreamNumbers) : Type 0 where
  pub input : streams.input ≢ file
  pub output : streams.output ≢ file
  pub errors : streams.errors ≢ file
