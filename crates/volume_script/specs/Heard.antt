-- What one line of the input did to the outside, with what follows it (this project's own).
use Rattle.std.specs.Prelude.{◌≡◌, ◌⊎◌, ℕ, ◌<◌, ◌≤◌, List, [], ◌++◌, length, All, Option, Some, None, IfSome, IfNone, Result, Ok, Err}
use Rattle.qic_base.specs.Cartridge.{Cartridge}
use Rattle.qic_base.specs.Acts.{Act, Outside, Failing, TapeFails, SourceFails, SinkFails, Went, Cut}
use Rattle.cartridge_spec.specs.Table.{Entry}
use Rattle.command_spec.specs.declared.line.Line.{Line}
use Rattle.command_spec.specs.Input.{Item, IsItem, Ending, ItemsEnd, most_items, promised, IsLineText}
use Rattle.qic_base.specs.SourceCalls.{Gave, HasEnded}
use Rattle.tape_script.specs.Reading.{BeginsWithNo, GaveEnd, GaveInLine}
use Rattle.volume_store.specs.Mounting.{StoreView}
use Rattle.volume_script.specs.Items.{ItemMismatched}
use Rattle.command_spec.specs.declared.status.Status.{Status}
use Rattle.command_laws.specs.ScriptItems.{EarlyDoes}
use Rattle.command_spec.specs.Script.{Did, EndDoes, ReachesItem}
use Rattle.command_laws.specs.ScriptTerms.{ItemDoes}
use Rattle.qic_base.specs.declared.store_fault.StoreFault.{StoreFault}
use Rattle.qic_base.specs.Sink as sinks
use Rattle.qic_base.specs.Source as sources
use Rattle.qic_base.specs.Tape as tapes
use Rattle.qic_base.specs.TapeCalls as tape_calls
use Rattle.command_spec.specs.declared.status.Status.TheVariants as status
use Rattle.qic_base.specs.declared.store_fault.StoreFault.TheVariants as fault

-- how the script ends behind a fault of a line that is no refusal, with the line's number and so many bytes before it
abbrev pub status_behind : StoreFault → (number place : ℕ) → Option Status
status_behind (fault.Short all read) number place = Some (status.ScriptFault number place)
status_behind fault.TableMismatch number place = Some status.TableMismatch
status_behind fault.Source number place = Some status.SourceFault
status_behind fault.Sink number place = Some status.SinkFault
status_behind fault.Tape number place = Some status.TapeFault
status_behind other number place = None

-- no item has more bytes: its line has a u8 of them, and it promises a u32
abbrev pub longest : ℕ
longest = 4294967550

-- an item was read and carried out, of so many bytes
pub record HeardItem {T S K : Type 0} (t : tapes.Meaning T) (s : sources.Meaning S) (k : sinks.Meaning K) (store after : StoreView)
    (old new : Outside T S K) (n : ℕ) : Type 0 where
  pub item : Item
  pub text : List ℕ
  pub is : IsItem text item
  pub long : n ≡ length text
  pub gave : Gave s old.source new.source text
  pub content : IfNone (s.left old.source) (All (λ b. b < 256) text)
  pub acts : List Act
  pub went : Went t s k old new acts
  pub told : tape_calls.Tells t old.tape (λ c. ItemDoes c store.words store.entries item (record { acts = acts; entries = after.entries }))

-- bytes were taken that begin with no line, no more than a line's and none behind one
pub record HeardNone {T S K : Type 0} (t : tapes.Meaning T) (s : sources.Meaning S) (k : sinks.Meaning K)
    (old new : Outside T S K) : Type 0 where
  pub n : ℕ
  pub some : 0 < n
  pub few : n ≤ 128
  pub gave : GaveInLine s old.source new.source n
  pub no_line : (asked : Line) → BeginsWithNo s old.source (λ text. IsLineText text asked)
  pub went : Went t s k old new []

-- a line was read, and the source ended before the bytes that it promises
pub record HeardShort {T S K : Type 0} (t : tapes.Meaning T) (s : sources.Meaning S) (k : sinks.Meaning K) (store : StoreView)
    (old new : Outside T S K) : Type 0 where
  pub asked : Line
  pub text : List ℕ
  pub is : IsLineText text asked
  pub bytes : List ℕ
  pub short : length bytes < promised asked
  pub gave : Gave s old.source new.source (text ++ bytes)
  pub content : IfNone (s.left old.source) (All (λ b. b < 256) (text ++ bytes))
  pub ended : HasEnded s new.source
  pub acts : List Act
  pub went : Went t s k old new acts
  pub told : tape_calls.Tells t old.tape (λ c. EarlyDoes c store.words store.entries asked bytes acts)

-- what the plain machine does next, where these bytes are left: an item, or the last acts
abbrev pub NextDoes : Cartridge → (words : List ℕ) → List Entry → (number place : ℕ) → (rest : List ℕ) → List Act → Type 0
NextDoes c words entries number place rest acts =
    ((number ≤ most_items) × ((item : Item) × ((text : List ℕ) × ((behind : List ℕ) × ((rest ≡ text ++ behind) × IsItem text item
    × ((did : Did) × (did.acts ≡ acts) × ItemDoes c words entries item did))))))
    ⊎ ((ending : Ending) × ItemsEnd IsItem number place rest ending × EndDoes c words entries rest ending acts)

-- bytes that reach into a line, or into an item, whatever follows them
abbrev pub InItem : List ℕ → Type 0
InItem bytes = (rest : List ℕ) → ReachesItem (bytes ++ rest) (length bytes)

-- a fault of the outside cut that off, whatever is left
pub record HeardCut {T S K : Type 0} (t : tapes.Meaning T) (s : sources.Meaning S) (k : sinks.Meaning K) (store : StoreView)
    (old new : Outside T S K) (number place : ℕ) (failing : Failing) : Type 0 where
  pub rest : List ℕ
  pub is_told : IfSome (s.left old.source) (λ bytes. bytes ≡ rest)
  pub content : IfNone (s.left old.source) (All (λ b. b < 256) rest)
  pub told : tape_calls.Tells t old.tape (λ c. (acts : List Act) → NextDoes c store.words store.entries number place rest acts →
      Cut t s k old new acts failing)
  pub given : List ℕ
  pub gave : Gave s old.source new.source given
  pub into : InItem given
  -- and over any tape
  pub acts : List Act
  pub cut : Cut t s k old new acts failing

-- What a line did that may be an item, with this number and so many bytes before it: it was carried out; the input is
-- over; it is at fault; or a fault of the outside cut it off.
abbrev pub Hears : {T S K : Type 0} (t : tapes.Meaning T) (s : sources.Meaning S) (k : sinks.Meaning K) (store after : StoreView)
    (old new : Outside T S K) (number place : ℕ) → Result (Option ℕ) Status → Type 0
Hears t s k store after old new number place (Ok (Some n)) = HeardItem t s k store after old new n
Hears t s k store after old new number place (Ok None) =
    Went t s k old new [] × (after ≡ store) × GaveEnd s old.source new.source
Hears t s k store after old new number place (Err (status.ScriptFault line at)) =
    (line ≡ number) × (at ≡ place) × (HeardNone t s k old new ⊎ HeardShort t s k store old new)
Hears t s k store after old new number place (Err status.TableMismatch) = ItemMismatched t s k old new
Hears t s k store after old new number place (Err status.SourceFault) = HeardCut t s k store old new number place SourceFails
Hears t s k store after old new number place (Err status.SinkFault) = HeardCut t s k store old new number place SinkFails
Hears t s k store after old new number place (Err status.TapeFault) = HeardCut t s k store old new number place TapeFails
Hears t s k store after old new number place (Err other) = ⊥
