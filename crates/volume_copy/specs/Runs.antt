-- How a copy ended, call by call (this project's own).
use Rattle.std.specs.Prelude.{◌≡◌, ◌≢◌, ◌⊎◌, ℕ, zero, suc, ◌+◌, Option, Some, None, Result, Ok, Err, Bool, length, slice_get, true, false}
use Rattle.std.specs.Prelude.{◌↔◌, ◌<◌, ◌^◌}
use Rattle.cartridge_spec.specs.Formatting.{IsLabel}
use Rattle.cartridge_spec.specs.Table.{Entry}
use Rattle.cartridge_spec.specs.Volumes.{volume_length}
use Rattle.command_spec.specs.Copying.{copied_line, difference, is_alike}
use Rattle.command_spec.specs.Lines.{count_line}
use Rattle.command_spec.specs.Restore.{volume_at}
use Rattle.command_spec.specs.declared.copy_status.CopyStatus.{CopyStatus}
use Rattle.drive_spec.specs.Terms.{is_protected}
use Rattle.drive_states.specs.Unit.{UnitView}
use Rattle.host_driver.specs.Fits.{deck_of}
use Rattle.qic_base.specs.Alone.{reading}
use Rattle.volume_store.specs.Opening.{HasOpened, OpenFails}
use Rattle.volume_copy.specs.Source.{IsSoundSource, KeepsVolume, SourceView, new_source, source_means}
use Rattle.volume_store.specs.Appending.{AppendEnds, FaultsUnread, KeepsFormat, KeepsList, InOrder}
use Rattle.volume_store.specs.Mounting.{StoreView, StoreFits}
use Rattle.volume_store.specs.declared.appended.Appended.{Appended}
use Rattle.qic_base.specs.declared.store_fault.StoreFault.{StoreFault}
use Rattle.qic_base.specs.declared.store_fault.StoreFault.TheVariants as fault
use Rattle.command_spec.specs.declared.copy_status.CopyStatus.TheVariants as status
use Rattle.qic_base.specs.Sink as sinks
use Rattle.qic_base.specs.SinkCalls as sink_calls
use Rattle.qic_base.specs.Tape as tapes

-- ---- one volume

-- a mounted cartridge with the unit that drives it
pub record SideView (T : Type 0) : Type 0 where
  pub store : StoreView
  pub unit : UnitView T

-- its store fits the unit
abbrev pub SideFits : {T : Type 0} (m : tapes.Meaning T) → SideView T → Type 0
SideFits m side = StoreFits m side.store side.unit

-- the answer of an append that took its bytes from the source: what that was refused for, where it failed, and else the
-- target's own refusal
abbrev pub append_status : StoreFault → (refused : Option StoreFault) → CopyStatus
append_status fault.Source (Some why) = status.From why
append_status fault.Source None = status.From fault.Tape
append_status why refused = status.To why

-- a source that failed tells what it was refused for
abbrev pub tells_why : StoreFault → (refused : Option StoreFault) → Bool
tells_why fault.Source None = false
tells_why why refused = true

abbrev pub append_answer : Result Appended StoreFault → (refused : Option StoreFault) → Result ℕ CopyStatus
append_answer (Ok appended) refused = Ok appended.bytes
append_answer (Err why) refused = Err (append_status why refused)

-- A volume of the source was appended to the target, or an append of it came to nothing: by its name and its date word, with its
-- length promised, and with the source's bytes.
pub record CopiesOne {A B : Type 0} (a : tapes.Meaning A) (b : tapes.Meaning B) (number : ℕ) (from after : SideView A) (to new : SideView B)
    (result : Result ℕ CopyStatus) : Type 0 where
  pub entry : Entry
  pub numbered : volume_at from.store.entries number ≡ Some entry
  pub label : IsLabel entry.name
  pub word : entry.date < 2 ^ 32
  pub source : SourceView A
  pub appended : Result Appended StoreFault
  pub ends : AppendEnds b (source_means a) (reading to.unit.tape (new_source from.store from.unit number)) (reading new.unit.tape source)
      to.store new.store entry.name entry.date (Some (volume_length from.store.words entry)) appended
  pub unread : FaultsUnread b (source_means a) (reading to.unit.tape (new_source from.store from.unit number))
      (reading new.unit.tape source) appended
  pub order : InOrder b (source_means a) (reading to.unit.tape (new_source from.store from.unit number)) (reading new.unit.tape source)
      to.store (Some (volume_length from.store.words entry)) appended
  pub free : (appended ≡ Err fault.Protected) ↔ (is_protected to.unit.drive.deck ≡ true)
  pub kept : KeepsVolume a (new_source from.store from.unit number) source
  pub sound : IsSoundSource a source
  pub back : after ≡ record { store = source.store; unit = source.unit }
  pub list : KeepsList appended to.store new.store
  pub format : KeepsFormat to.store new.store
  pub fits : appended ≢ Err fault.Tape → SideFits b new
  pub size : b.size new.unit.tape ≡ b.size to.unit.tape
  pub is : result ≡ append_answer appended source.fault

-- ---- volumes one after the other

-- both cartridges and the sink
pub record CopyView (A B K : Type 0) : Type 0 where
  pub from : SideView A
  pub to : SideView B
  pub sink : K

-- the number of the volume that is copied next
abbrev pub next_number : {A B K : Type 0} → CopyView A B K → ℕ
next_number s = length s.to.store.entries + 1

-- the next volume was copied, and its line was printed
pub record HasCopied {A B K : Type 0} (a : tapes.Meaning A) (b : tapes.Meaning B) (k : sinks.Meaning K) (old new : CopyView A B K) : Type 0
  where
    pub bytes : ℕ
    pub one : CopiesOne a b (next_number old) old.from new.from old.to new.to (Ok bytes)
    pub line : sinks.Wrote k old.sink new.sink (copied_line (next_number old) bytes)

-- so many were, one after the other
abbrev pub HaveCopied : {A B K : Type 0} (a : tapes.Meaning A) (b : tapes.Meaning B) (k : sinks.Meaning K) (count : ℕ)
    (old new : CopyView A B K) → Type 0
HaveCopied a b k zero old new = new ≡ old
HaveCopied {A = A} {B = B} {K = K} a b k (suc count) old new = (mid : CopyView A B K) × HaveCopied a b k count old mid × HasCopied a b k mid
    new

-- .. and the next one is refused
pub record IsRefused {A B K : Type 0} (a : tapes.Meaning A) (b : tapes.Meaning B) (mid new : CopyView A B K) (answer : CopyStatus) : Type 0
  where
    pub missing : length mid.to.store.entries ≢ length mid.from.store.entries
    pub one : CopiesOne a b (next_number mid) mid.from new.from mid.to new.to (Err answer)
    pub sink : new.sink ≡ mid.sink

-- .. or it is copied, and the sink didn't take its line
pub record IsUnprinted {A B K : Type 0} (a : tapes.Meaning A) (b : tapes.Meaning B) (k : sinks.Meaning K) (mid new : CopyView A B K)
    (answer : CopyStatus) : Type 0 where
  pub bytes : ℕ
  pub one : CopiesOne a b (next_number mid) mid.from new.from mid.to new.to (Ok bytes)
  pub line : sink_calls.BrokeOff k mid.sink new.sink (copied_line (next_number mid) bytes)
  pub answered : answer ≡ status.SinkFault

-- the count was printed, or the sink didn't take it
abbrev pub PrintsCount : {K : Type 0} (k : sinks.Meaning K) (old new : K) (count : ℕ) → CopyStatus → Type 0
PrintsCount k old new count status.Done = sinks.Wrote k old new (count_line count)
PrintsCount k old new count status.SinkFault = sink_calls.BrokeOff k old new (count_line count)
PrintsCount k old new count answer = ⊥

-- .. or none is missing
pub record IsCounted {A B K : Type 0} (k : sinks.Meaning K) (mid new : CopyView A B K) (answer : CopyStatus) : Type 0 where
  pub from : new.from ≡ mid.from
  pub to : new.to ≡ mid.to
  pub all : length mid.to.store.entries ≡ length mid.from.store.entries
  pub count : PrintsCount k mid.sink new.sink (length mid.to.store.entries) answer

-- so a copy of the missing volumes ended
pub record MissingEnds {A B K : Type 0} (a : tapes.Meaning A) (b : tapes.Meaning B) (k : sinks.Meaning K) (old new : CopyView A B K)
    (answer : CopyStatus) : Type 0 where
  pub count : ℕ
  pub mid : CopyView A B K
  pub copied : HaveCopied a b k count old mid
  pub ends : IsRefused a b mid new answer ⊎ IsUnprinted a b k mid new answer ⊎ IsCounted k mid new answer

-- ---- both cartridges

-- whether the volumes at this index of both lists are alike
abbrev pub ArePaired : (from to : StoreView) → (index : ℕ) → Bool → Type 0
ArePaired from to index alike =
    (e e' : Entry) → slice_get from.entries index ≡ Some e → slice_get to.entries index ≡ Some e' → alike ≡ is_alike from.words e to.words
    e'

-- both were opened, and the target is protected, or a volume of it differs
abbrev pub IsUnlike : (from to : StoreView) → CopyStatus → Type 0
IsUnlike from to answer =
    ((is_protected (deck_of to.host) ≡ true) × (answer ≡ status.To fault.Protected))
    ⊎ ((is_protected (deck_of to.host) ≡ false) × ((number : ℕ) × (difference from.words from.entries to.words to.entries 1 ≡ Some number) ×
    (answer ≡ status.Differs number)))

-- the answer where the source can't be opened: its drive holds nothing, or it was refused so
abbrev pub from_status : Option StoreFault → CopyStatus
from_status None = status.FromAbsent
from_status (Some why) = status.From why

-- the answer where the target can't be opened
abbrev pub to_status : Option StoreFault → CopyStatus
to_status None = status.ToAbsent
to_status (Some why) = status.To why

-- one of them can't be opened, the target once the source was, or they aren't copied
abbrev pub BothRefused : {A B : Type 0} (a : tapes.Meaning A) (b : tapes.Meaning B) (from : A) (from' : UnitView A) (to to' : UnitView B) →
    CopyStatus → Type 0
BothRefused a b from from' to to' answer =
    ((why : Option StoreFault) × OpenFails a from from'.tape why × (to' ≡ to) × (answer ≡ from_status why))
    ⊎ ((source : StoreView) × (why : Option StoreFault) × HasOpened a from from' source × OpenFails b to.tape to'.tape why ×
    (answer ≡ to_status why))
    ⊎ ((source target : StoreView) × HasOpened a from from' source × HasOpened b to.tape to' target × IsUnlike source target answer)

-- how the opening of both ended
pub record AreOpened {A B : Type 0} (a : tapes.Meaning A) (b : tapes.Meaning B) (from : A) (from' : UnitView A) (to : B) (to' : UnitView B)
    (source target : StoreView) : Type 0 where
  pub opened_source : HasOpened a from from' source
  pub opened_target : HasOpened b to to' target
  pub free : is_protected (deck_of target.host) ≡ false
  pub like : difference source.words source.entries target.words target.entries 1 ≡ None

-- ---- the whole

-- the units and the sink, before a copy or after it
pub record Units (A B K : Type 0) : Type 0 where
  pub from : UnitView A
  pub to : UnitView B
  pub sink : K

-- all was opened, and the missing volumes were copied
pub record HasRun {A B K : Type 0} (a : tapes.Meaning A) (b : tapes.Meaning B) (k : sinks.Meaning K) (old new : Units A B K)
    (answer : CopyStatus) : Type 0 where
  pub begun : CopyView A B K
  pub ended : CopyView A B K
  pub opened : AreOpened a b old.from.tape begun.from.unit old.to.tape begun.to.unit begun.from.store begun.to.store
  pub sink : begun.sink ≡ old.sink
  pub missing : MissingEnds a b k begun ended answer
  pub left : new ≡ record { from = ended.from.unit; to = ended.to.unit; sink = ended.sink }

-- how a run in working objects that are there ended
abbrev pub RunEnds : {A B K : Type 0} (a : tapes.Meaning A) (b : tapes.Meaning B) (k : sinks.Meaning K) (old new : Units A B K) →
    CopyStatus → Type 0
RunEnds a b k old new answer =
    (BothRefused a b old.from.tape new.from old.to new.to answer × (new.sink ≡ old.sink))
    ⊎ HasRun a b k old new answer

-- it is no answer that is given before a drive is asked
abbrev pub is_asked : CopyStatus → Bool
is_asked status.Usage = false
is_asked status.NoMemory = false
is_asked answer = true

-- .. of the top call: without words, and where there is memory
abbrev pub CopyRuns : {A B K : Type 0} (a : tapes.Meaning A) (b : tapes.Meaning B) (k : sinks.Meaning K) (old new : Units A B K) →
    CopyStatus → Type 0
CopyRuns a b k old new status.Usage = new ≡ old
CopyRuns a b k old new status.NoMemory = new ≡ old
CopyRuns a b k old new answer = RunEnds a b k old new answer
