-- What real files and streams mean to the code above them: they count their failures, and tell nothing else (this
-- project's own).
use Rattle.std.specs.Prelude.{ℕ, Bool, true, false, Option, None}
use Rattle.qic_base.specs.Disk as disks
use Rattle.qic_base.specs.Sink as sinks
use Rattle.qic_base.specs.Source as sources
use Rattle.tape_files.specs.declared.failure.Failure.{Failure}

-- A sync of a file asks for all that the system keeps of it, or for its data and what finds them.
pub data SyncKind : Type 0 where
  Whole : SyncKind
  DataAlone : SyncKind

-- the kind that is to be asked for, by whether the length may have changed since the last sync that succeeded
abbrev pub sync_kind : Bool → SyncKind
sync_kind true = Whole
sync_kind false = DataAlone

-- a file as a disk: the file, whether its length may have changed since the last sync that succeeded, whether this run
-- changed it or tried to, the length that it was seen to have, how often a call of it failed, how often one that was no
-- look, and why the last one that failed did
pub record FileState (F : Type 0) : Type 0 where
  pub file : F
  pub resized : Bool
  pub changed : Bool
  pub seen : ℕ
  pub faults : ℕ
  pub failed_changes : ℕ
  pub failure : Option Failure

-- it tells neither its bytes nor what a crash leaves
abbrev pub file_means : {F : Type 0} → disks.Meaning (FileState F)
file_means = record {
  told = λ _. None;
  seen_len = λ f. f.seen;
  faults = λ f. f.faults;
  failed_changes = λ f. f.failed_changes;
  tells_stops = λ _. false;
  may_leave = λ _ _. ⊥;
  moment = λ _. 0;
  left_since = λ _ _ _. ⊥;
}

-- a stream: how often a call of it failed
abbrev pub stream_source_means : sources.Meaning ℕ
stream_source_means = record { left = λ _. None; keeps = λ _ _. Unit {0}; faults = λ n. n }

-- it says nothing of what it took
abbrev pub stream_sink_means : sinks.Meaning ℕ
stream_sink_means = record { written = λ _. None; took = λ _ _ _. Unit {0}; faults = λ n. n }
