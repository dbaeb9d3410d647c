-- How a run of the program ends (this project's own).
use Rattle.std.specs.Prelude.{◌≡◌, ◌⊎◌, ℕ, List, [], codes}
use Rattle.qic_base.specs.Cartridge.{Cartridge}
use Rattle.qic_base.specs.Sink as sinks
use Rattle.qic_base.specs.SinkCalls as sink_calls
use Rattle.qic_base.specs.Tape as tapes
use Rattle.flat_dump.specs.Dump.{dump_of}
use Rattle.flat_dump.specs.Export.{IsOn, HadNone, TapeBroke, SinkBroke}
use Rattle.flat_dump.specs.Held.{map_of}
use Rattle.tape_export.specs.declared.status.ExportStatus.{ExportStatus}
use Rattle.tape_export.specs.declared.status.ExportStatus.TheVariants.{Done, Usage, NoCartridge, NotEmpty, SinkFault, TapeFault, NoMemory}
use Rattle.tape_export.specs.declared.status.ExportStatus.TheVariants.{NoImage, NoMap}

-- the exit status
abbrev pub status_code : ExportStatus → ℕ
status_code Done = 0
status_code Usage = 2
status_code NoCartridge = 5
status_code NotEmpty = 6
status_code SinkFault = 17
status_code TapeFault = 18
status_code NoMemory = 19
status_code NoImage = 20
status_code NoMap = 20

-- the line of a status on standard error; none where all went well
abbrev pub status_text : ExportStatus → List ℕ
status_text Done = []
status_text Usage = codes "usage: tape_export [--map FILE] IMAGE\n"
status_text NoCartridge = codes "tape_export: no cartridge\n"
status_text NotEmpty = codes "tape_export: the map is not empty\n"
status_text SinkFault = codes "tape_export: output failed\n"
status_text TapeFault = codes "tape_export: the image failed\n"
status_text NoMemory = codes "tape_export: no memory\n"
status_text NoImage = codes "tape_export: cannot open the image\n"
status_text NoMap = codes "tape_export: cannot open the map\n"

-- a tape, and the sinks of a dump and of its map
pub record Ends (T K M : Type 0) : Type 0 where
  pub tape : T
  pub dump : K
  pub chart : M

-- The dump of the cartridge was written, and its map.
pub record BothWritten {T K M : Type 0} (t : tapes.Meaning T) (k : sinks.Meaning K) (m : sinks.Meaning M) (old new : Ends T K M) : Type 0
  where
    pub did : tapes.Done t old.tape new.tape []
    pub cartridge : Cartridge
    pub is_on : IsOn t old.tape cartridge
    pub dump : sinks.Wrote k old.dump new.dump (dump_of cartridge)
    pub chart : sinks.Wrote m old.chart new.chart (map_of cartridge)

-- The dump was written, and a fault broke its map off.
pub record MapBroke {T K M : Type 0} (t : tapes.Meaning T) (k : sinks.Meaning K) (m : sinks.Meaning M) (old new : Ends T K M) : Type 0 where
  pub did : tapes.Done t old.tape new.tape []
  pub cartridge : Cartridge
  pub is_on : IsOn t old.tape cartridge
  pub dump : sinks.Wrote k old.dump new.dump (dump_of cartridge)
  pub chart : sink_calls.BrokeOff m old.chart new.chart (map_of cartridge)

-- How a run over opened files ended.
abbrev pub Runs : {T K M : Type 0} (t : tapes.Meaning T) (k : sinks.Meaning K) (m : sinks.Meaning M) (old new : Ends T K M) → ExportStatus →
    Type 0
Runs t k m old new Done = BothWritten t k m old new
Runs t k m old new NoCartridge = HadNone t k old.tape new.tape old.dump new.dump × (new.chart ≡ old.chart)
Runs t k m old new TapeFault = TapeBroke t k old.tape new.tape old.dump new.dump × (new.chart ≡ old.chart)
Runs t k m old new SinkFault =
    (SinkBroke t k old.tape new.tape old.dump new.dump × (new.chart ≡ old.chart)) ⊎ MapBroke t k m old new
Runs t k m old new Usage = ⊥
Runs t k m old new NotEmpty = ⊥
Runs t k m old new NoMemory = ⊥
Runs t k m old new NoImage = ⊥
Runs t k m old new NoMap = ⊥
