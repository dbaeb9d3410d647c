-- What an append does, by the map, the list, the table's data and the input; and how the call ended (this project's own).
use Rattle.cartridge_spec.specs.Appending.{room, entry_behind}
use Rattle.std.specs.Prelude.{◌≡◌, ℕ, ◌<◌, List, drop, Option, All, IfSome, IfNone, [], length, Result, Ok, Err, ◌≤◌, ◌+◌, ◌∷◌}
use Rattle.std.specs.Prelude.{◌++◌, ◌⊎◌, Some, None, true}
use Rattle.std.specs.Option.{option_map}
use Rattle.cartridge_spec.specs.TableSegment.{TableIs, table_cells}
use Rattle.cartridge_spec.specs.Says.{LostSectors, ByCode, TableSays}
use Rattle.cartridge_spec.specs.Settling.{settling_steps}
use Rattle.cartridge_spec.specs.Table.{Entry, Shows}
use Rattle.command_spec.specs.Numbers.{AreTooMany}
use Rattle.command_spec.specs.Append.{Taking, taking, room_in, input_writes, Fits, TooLong, TooShort, Kept, append_acts, has_promised_room}
use Rattle.command_laws.specs.AppendTerms.{entry_for, bytes_taken, silently}
use Rattle.qic_base.specs.Acts.{Outside, Went, Failing, Cut, TapeFails, SourceFails, Act}
use Rattle.qic_base.specs.Alone.{no_sink}
use Rattle.qic_base.specs.Cartridge.{Cartridge}
use Rattle.qic_base.specs.Tape.{Rose}
use Rattle.qic_base.specs.Step.{Step}
use Rattle.tape_script.specs.Reading.{Skips}
use Rattle.volume_input.specs.declared.written.Written.{Written}
use Rattle.volume_store.specs.Mounting.{StoreView}
use Rattle.volume_store.specs.declared.appended.Appended.{Appended}
use Rattle.qic_base.specs.declared.store_fault.StoreFault.{StoreFault}
use Rattle.qic_base.specs.Source.{IsInput}
use Rattle.qic_base.specs.Source as sources
use Rattle.qic_base.specs.Tape as tapes
use Rattle.qic_base.specs.TapeCalls as tape_calls
use Rattle.qic_base.specs.declared.store_fault.StoreFault.TheVariants as fault

-- The segments were written, and this became of the input that the source told, or of some input where it tells none.
pub record InputWent {T S : Type 0} (t : tapes.Meaning T) (s : sources.Meaning S) (words : List ℕ) (entries : List Entry)
    (promised : Option ℕ) (old new : Outside T S (Unit {0})) (became : Taking) : Type 0 where
  pub input : List ℕ
  pub is_told : IsInput (s.left old.source) input
  pub content : IfNone (s.left old.source) (All (λ b. b < 256) input)
  pub took : taking (room words entries) promised input ≡ became
  pub went : Went t s no_sink old new (input_writes words entries promised input)
  pub left : s.left new.source ≡ option_map (drop (bytes_taken promised became)) (s.left old.source)

-- .. all of it was written: what is answered of it
pub record InputWritten {T S : Type 0} (t : tapes.Meaning T) (s : sources.Meaning S) (words : List ℕ) (entries : List Entry)
    (promised : Option ℕ) (old new : Outside T S (Unit {0})) (written : Written) : Type 0 where
  pub bytes : List ℕ
  pub went : InputWent t s words entries promised old new (Fits bytes)
  pub count : written.bytes ≡ length bytes
  pub start : written.start ≡ (entry_behind words entries [] 0 bytes).start
  pub end : written.end ≡ (entry_behind words entries [] 0 bytes).end

-- of an input so many bytes are asked for at most
abbrev pub most_asked : (have : ℕ) → (promised : Option ℕ) → ℕ
most_asked have None = have + 1
most_asked have (Some n) = n

-- A fault of the tape or of the source cut the writes off. Of the input no more bytes were taken than are asked for.
pub record InputBroke {T S : Type 0} (t : tapes.Meaning T) (s : sources.Meaning S) (words : List ℕ) (entries : List Entry)
    (promised : Option ℕ) (old new : Outside T S (Unit {0})) (failing : Failing) : Type 0 where
  pub input : List ℕ
  pub is_told : IsInput (s.left old.source) input
  pub content : IfNone (s.left old.source) (All (λ b. b < 256) input)
  pub cut : Cut t s no_sink old new (input_writes words entries promised input) failing
  pub taken : ℕ
  pub left : s.left new.source ≡ option_map (drop taken) (s.left old.source)
  pub there : taken ≤ length input
  pub few : taken ≤ most_asked (room words entries) promised

abbrev pub InputIs : {T S : Type 0} (t : tapes.Meaning T) (s : sources.Meaning S) (words : List ℕ) (entries : List Entry)
    (promised : Option ℕ) (old new : Outside T S (Unit {0})) → Result Written StoreFault → Type 0
InputIs t s words entries promised old new (Ok written) = InputWritten t s words entries promised old new written
InputIs t s words entries promised old new (Err (fault.Full need have)) = InputWent t s words entries promised old new (TooLong need have)
InputIs t s words entries promised old new (Err (fault.Short asked read)) = InputWent t s words entries promised old new
    (TooShort asked read)
InputIs t s words entries promised old new (Err fault.Source) = InputBroke t s words entries promised old new SourceFails
InputIs t s words entries promised old new (Err fault.Tape) = InputBroke t s words entries promised old new TapeFails
InputIs t s words entries promised old new (Err fault) = ⊥

-- What a call took where there is no room: at most one byte, which it tells of; or the source failed.
abbrev pub TakesNone : {S : Type 0} (s : sources.Meaning S) (old new : S) → StoreFault → Type 0
TakesNone s old new (fault.Full need have) = (have ≡ 0) × (s.faults new ≡ s.faults old) × Skips {E = Unit {0}} s old new 1 (Ok need)
TakesNone s old new fault.Source = (s.faults old ≤ s.faults new) × Rose (s.faults old) (s.faults new)
    × Skips {E = Unit {0}} s old new 1 (Err tt)
TakesNone s old new fault = ⊥

-- ---- how the call ended

-- what an append to the cartridge of a store goes by, where the table's data are these and these steps settle it
abbrev pub kept_by : StoreView → (table : List (List ℕ)) → (settling : List Step) → Kept
kept_by store table settling = record { words = store.words; entries = store.entries; table = table; settling = settling }

-- All acts went, and this became of the input that the source told, or of some input where it tells none.
pub record AppendRan {T S : Type 0} (t : tapes.Meaning T) (s : sources.Meaning S) (old new : Outside T S (Unit {0})) (store : StoreView)
    (name : List ℕ) (date : ℕ) (promised : Option ℕ) (became : Taking) : Type 0 where
  pub table : List (List ℕ)
  pub settling : List Step
  pub shown : Shows table store.entries
  pub known : tape_calls.Tells t old.tape (λ c. TableIs c table × (settling ≡ settling_steps table c))
  pub input : List ℕ
  pub is_told : IsInput (s.left old.source) input
  pub content : IfNone (s.left old.source) (All (λ b. b < 256) input)
  pub took : taking (room_in (kept_by store table settling)) promised input ≡ became
  pub went : Went t s no_sink old new (append_acts (kept_by store table settling) name date promised silently input)
  pub left : s.left new.source ≡ option_map (drop (bytes_taken promised became)) (s.left old.source)

-- .. and the volume was added: what is answered of it
pub record HasAppended {T S : Type 0} (t : tapes.Meaning T) (s : sources.Meaning S) (old new : Outside T S (Unit {0}))
    (store after : StoreView) (name : List ℕ) (date : ℕ) (promised : Option ℕ) (appended : Appended) : Type 0 where
  pub bytes : List ℕ
  pub ran : AppendRan t s old new store name date promised (Fits bytes)
  pub entry : Entry
  pub is_entry : entry ≡ entry_for (kept_by store ran.table ran.settling) name date bytes
  pub added : after.entries ≡ store.entries ++ entry ∷ []
  pub number : appended.number ≡ length store.entries + 1
  pub count : appended.bytes ≡ length bytes
  pub start : appended.start ≡ entry.start
  pub end : appended.end ≡ entry.end

-- The table was refused: where the tape tells its cartridge, by this that it says, and before anything was done.
pub record TableRefused {T S : Type 0} (t : tapes.Meaning T) (s : sources.Meaning S) (old new : Outside T S (Unit {0}))
    (Says : Cartridge → Type 0) : Type 0 where
  pub acts : List Act
  pub went : Went t s no_sink old new acts
  pub told : tape_calls.Tells t old.tape (λ c. (acts ≡ []) × (new.source ≡ old.source) × Says c)
  pub taken : ℕ
  pub left : s.left new.source ≡ option_map (drop taken) (s.left old.source)

-- A fault of the tape or of the source cut the acts off, whatever the reply would have been: it was not begun. Of the input no more
-- bytes were taken than are asked for.
pub record AppendCut {T S : Type 0} (t : tapes.Meaning T) (s : sources.Meaning S) (old new : Outside T S (Unit {0})) (store : StoreView)
    (name : List ℕ) (date : ℕ) (promised : Option ℕ) (failing : Failing) : Type 0 where
  pub input : List ℕ
  pub is_told : IsInput (s.left old.source) input
  pub content : IfNone (s.left old.source) (All (λ b. b < 256) input)
  pub told : tape_calls.Tells t old.tape (λ c. (table : List (List ℕ)) → TableIs c table → (reply : Entry → List ℕ) →
      Cut t s no_sink old new (append_acts (kept_by store table (settling_steps table c)) name date promised reply input) failing)
  -- and over any tape
  pub acts : List Act
  pub cut : Cut t s no_sink old new acts failing
  pub taken : ℕ
  pub left : s.left new.source ≡ option_map (drop taken) (s.left old.source)
  pub there : taken ≤ length input
  pub few : taken ≤ most_asked (room store.words store.entries) promised

-- where the table's segment says no data, a fault of the outside came before anything was done
abbrev pub CutUnread : {T S : Type 0} (t : tapes.Meaning T) (s : sources.Meaning S) (old new : Outside T S (Unit {0})) → Failing → Type 0
CutUnread t s old new failing =
    tape_calls.Tells t old.tape (λ c. ((table : List (List ℕ)) → TableIs c table → ⊥) → Cut t s no_sink old new [] failing)

abbrev pub FaultsUnread : {T S : Type 0} (t : tapes.Meaning T) (s : sources.Meaning S) (old new : Outside T S (Unit {0})) →
    Result Appended StoreFault → Type 0
FaultsUnread t s old new (Err fault.Source) = CutUnread t s old new SourceFails
FaultsUnread t s old new (Err fault.Tape) = CutUnread t s old new TapeFails
FaultsUnread t s old new answer = Unit {0}

-- nothing was touched
abbrev pub IsUntouched : {T S : Type 0} (old new : Outside T S (Unit {0})) → Type 0
IsUntouched old new = (new.tape ≡ old.tape) × (new.source ≡ old.source)

abbrev pub AppendEnds : {T S : Type 0} (t : tapes.Meaning T) (s : sources.Meaning S) (old new : Outside T S (Unit {0}))
    (store after : StoreView) (name : List ℕ) (date : ℕ) (promised : Option ℕ) → Result Appended StoreFault → Type 0
AppendEnds t s old new store after name date promised (Ok appended) = HasAppended t s old new store after name date promised appended
AppendEnds t s old new store after name date promised (Err fault.Protected) = IsUntouched old new
AppendEnds t s old new store after name date promised (Err (fault.Lost segment lost)) =
    (segment ≡ 2) × AreTooMany lost × TableRefused t s old new (λ c. TableSays (table_cells c) (ByCode (LostSectors lost)))
AppendEnds t s old new store after name date promised (Err fault.TableMismatch) = TableRefused t s old new (λ c. ⊥)
AppendEnds t s old new store after name date promised (Err (fault.Full need have)) = AppendRan t s old new store name date promised
    (TooLong need have)
AppendEnds t s old new store after name date promised (Err (fault.Short asked read)) = AppendRan t s old new store name date promised
    (TooShort asked read)
AppendEnds t s old new store after name date promised (Err fault.Source) = AppendCut t s old new store name date promised SourceFails
AppendEnds t s old new store after name date promised (Err fault.Tape) = AppendCut t s old new store name date promised TapeFails
AppendEnds t s old new store after name date promised (Err fault) = ⊥

-- all answers leave the list but Ok and a fault of the tape, and each the header and the map
abbrev pub KeepsList : Result Appended StoreFault → (store after : StoreView) → Type 0
KeepsList (Ok appended) store after = Unit {0}
KeepsList (Err fault.Tape) store after = Unit {0}
KeepsList (Err fault) store after = after.entries ≡ store.entries

pub record KeepsFormat (store after : StoreView) : Type 0 where
  pub header : after.header ≡ store.header
  pub words : after.words ≡ store.words

-- ---- in which order

-- There is room for as many bytes as are promised. With nothing promised the source is asked for one byte where there
-- is no room, too.
abbrev pub HasRoomFor : (words : List ℕ) → (entries : List Entry) → (promised : Option ℕ) → Type 0
HasRoomFor words entries promised = IfSome promised (λ n. has_promised_room (room words entries) (Some n) ≡ true)

-- so an input was taken of which so many bytes are promised: it is Full, and the source as it was; or there is room
abbrev pub AskedFor : {S : Type 0} (words : List ℕ) (entries : List Entry) (n : ℕ) (old new : S) → Result Written StoreFault → Type 0
AskedFor words entries n old new (Err (fault.Full need have)) = new ≡ old
AskedFor words entries n old new answer = HasRoomFor words entries (Some n)

-- the source may be asked for bytes: the table's data were read and show the list, and there is room
pub record MayAsk {T : Type 0} (t : tapes.Meaning T) (old : T) (store : StoreView) (promised : Option ℕ) : Type 0 where
  pub table : List (List ℕ)
  pub shown : Shows table store.entries
  pub read : tape_calls.Tells t old (λ c. TableIs c table)
  pub room : HasRoomFor store.words store.entries promised

-- it was asked only then
abbrev pub AsksInRoom : {T S : Type 0} (t : tapes.Meaning T) (old new : Outside T S (Unit {0})) (store : StoreView) (promised : Option ℕ) →
    Type 0
AsksInRoom t old new store promised = (new.source ≡ old.source) ⊎ MayAsk t old.tape store promised

-- the acts of an append in front of those of the entry: the table is settled, and the input is written
abbrev pub acts_before_entry : Kept → (promised : Option ℕ) → (input : List ℕ) → List Act
acts_before_entry kept promised input = record { steps = kept.settling; text = [] } ∷ input_writes kept.words kept.entries promised input

-- A fault cut these off, and no write of the entry came.
pub record CutBeforeEntry {T S : Type 0} (t : tapes.Meaning T) (s : sources.Meaning S) (old new : Outside T S (Unit {0}))
    (store : StoreView) (promised : Option ℕ) (failing : Failing) : Type 0 where
  pub input : List ℕ
  pub is_told : IsInput (s.left old.source) input
  pub content : IfNone (s.left old.source) (All (λ b. b < 256) input)
  pub told : tape_calls.Tells t old.tape (λ c. (table : List (List ℕ)) → TableIs c table →
      Cut t s no_sink old new (acts_before_entry (kept_by store table (settling_steps table c)) promised input) failing)

-- the source had given all bytes of the volume
pub record HasGivenAll {S : Type 0} (s : sources.Meaning S) (old new : S) (store : StoreView) (promised : Option ℕ) : Type 0 where
  pub input : List ℕ
  pub is_told : IsInput (s.left old) input
  pub content : IfNone (s.left old) (All (λ b. b < 256) input)
  pub bytes : List ℕ
  pub took : taking (room store.words store.entries) promised input ≡ Fits bytes
  pub left : s.left new ≡ option_map (drop (length bytes)) (s.left old)

-- Where a promise has no room the source is as it was. A fault of the source, which was asked, came before any write of
-- the entry; one of the tape did, or it came once the source had given all bytes.
abbrev pub ListsLast : {T S : Type 0} (t : tapes.Meaning T) (s : sources.Meaning S) (old new : Outside T S (Unit {0})) (store : StoreView)
    (promised : Option ℕ) → Result Appended StoreFault → Type 0
ListsLast t s old new store promised (Err (fault.Full need have)) = IfSome promised (λ n. new.source ≡ old.source)
ListsLast t s old new store promised (Err fault.Source) = MayAsk t old.tape store promised
    × CutBeforeEntry t s old new store promised SourceFails
ListsLast t s old new store promised (Err fault.Tape) =
    CutBeforeEntry t s old new store promised TapeFails
    ⊎ (MayAsk t old.tape store promised × HasGivenAll s old.source new.source store promised)
ListsLast t s old new store promised answer = Unit {0}

-- The source was asked only once the table was read and there was room, and the entry written only once the source had
-- given all bytes.
pub record InOrder {T S : Type 0} (t : tapes.Meaning T) (s : sources.Meaning S) (old new : Outside T S (Unit {0})) (store : StoreView)
    (promised : Option ℕ) (answer : Result Appended StoreFault) : Type 0 where
  pub asks : AsksInRoom t old new store promised
  pub entry : ListsLast t s old new store promised answer
