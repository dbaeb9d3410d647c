-- Runs that add volumes: what a cartridge is mounted with when one is over, and what one of several items leaves of the
-- plain cartridge (this project's own).
use Rattle.std.specs.Prelude.{◌≡◌, ℕ, List, IsSomeAnd, [], ◌∷◌, ◌++◌, Option, ◌≢◌, ◌⊎◌, ◌≤◌, length, false, Some, ◌<◌, All, IfNone}
use Rattle.cartridge_spec.specs.Header.{Header}
use Rattle.cartridge_spec.specs.Mounting.{Lists, settled}
use Rattle.cartridge_spec.specs.TableSegment.{IsTableLive}
use Rattle.cartridge_spec.specs.Table.{Entry}
use Rattle.command_spec.specs.Headline.{ToldNow}
use Rattle.command_spec.specs.Input.{Item}
use Rattle.command_spec.specs.Machine.{Spells, is_fault}
use Rattle.command_spec.specs.Make.{AppendedBy, made_list, with_made}
use Rattle.command_spec.specs.Outcome.{CommandOutcome}
use Rattle.command_spec.specs.Script.{Did, entries_behind, ScriptDoes}
use Rattle.command_spec.specs.ScriptLists.{ItemsWearBehind, ListsAnswered, ListsBroken, CameFurther, FirstSpare, GoesNoFurther, ItemsSpare}
use Rattle.command_spec.specs.ScriptLists.{StandsAnswered, with_items, plain_behind}
use Rattle.command_spec.specs.Volumes.{IsCarriedOut}
use Rattle.qic_base.specs.Source.{IsInput}
use Rattle.command_spec.specs.declared.status.Status.{Status}
use Rattle.qic_base.specs.Cartridge.{Cartridge}
use Rattle.cartridge_spec.specs.Appending.{entry_behind}
use Rattle.cartridge_spec.specs.Volumes.{Plain, Stands, entries_of}
use Rattle.qic_base.specs.Tape as tapes
use Rattle.qic_base.specs.Sink as sinks
use Rattle.command_spec.specs.declared.status.Status.TheVariants as status
use Rattle.command_spec.specs.declared.words.Words.TheVariants as commands

-- each cartridge that stands when a run is over is mounted with this list
abbrev pub NowLists : {T : Type 0} (t : tapes.Meaning T) (new : T) → Header → (words : List ℕ) → List Entry → Type 0
NowLists t new header words entries = ToldNow t new (λ left. IsSomeAnd left (λ d. Lists d header words entries))

-- the list with the first ones of the made volumes; with those that were appended by the answer, where no fault of the outside ended
-- it; with all of them, where anything was printed, the sink failed, or all was carried out
pub record ListsMade {T K : Type 0} (t : tapes.Meaning T) (k : sinks.Meaning K) (new : T) (before behind : K) (answer : Status)
    (header : Header) (words : List ℕ) (entries : List Entry) (seed count : ℕ) : Type 0 where
  pub text : List ℕ
  pub took : k.took before text behind
  pub some : (n : ℕ) × (n ≤ count) × NowLists t new header words (made_list seed n words entries)
  pub answered : is_fault answer ≡ false →
      (n : ℕ) × AppendedBy seed count words entries answer n × NowLists t new header words (made_list seed n words entries)
  pub all : (text ≢ []) ⊎ IsCarriedOut answer → NowLists t new header words (made_list seed count words entries)

-- the input of a script was carried out, up to its end or to the line at fault
abbrev pub IsHeard : Status → Type 0
IsHeard answer = (answer ≡ status.Done) ⊎ ((line place : ℕ) × (answer ≡ status.ScriptFault line place))

-- The list with the appends of those lines whose reply was written whole; and, where the sink failed, of the next one, whose reply
-- it broke off; of all lines, where the input was carried out. None of these lines may have worn a sector of the segments 0 to 2.
pub record ListsLines {T K : Type 0} (t : tapes.Meaning T) (k : sinks.Meaning K) (new : T) (before behind : K) (answer : Status)
    (header : Header) (words : List ℕ) (entries : List Entry) (items : List Item) (dids : List Did) : Type 0 where
  pub text : List ℕ
  pub took : k.took before text behind
  pub answered : answer ≢ status.SinkFault → ToldNow t new (ListsAnswered header words entries items dids (length text))
  pub broken : answer ≡ status.SinkFault → ToldNow t new (ListsBroken header words entries items dids (length text))
  pub all : IsHeard answer → ItemsWearBehind items → NowLists t new header words (entries_behind entries dids)

-- When a run is over that no fault of the tape ended, the cartridge is mounted with the old list and the appends that were carried
-- out: that of `append` after Done and after a fault of the sink; those of the made volumes; those of the script's lines, by what
-- these do. The input is that which the source tells, or some input where it tells none.
pub record ListsAppends {T K : Type 0} (t : tapes.Meaning T) (k : sinks.Meaning K) (told : Option (List ℕ)) (words : List (List ℕ))
    (new : T) (before behind : K) (answer : Status) (c : Cartridge) (header : Header) (map_words : List ℕ) (table : List (List ℕ))
    (entries : List Entry) : Type 0 where
  pub appended : (name : List ℕ) (date : ℕ) → Spells words (commands.Append name date) → IsCarriedOut answer →
      (input : List ℕ) × IsInput told input
      × NowLists t new header map_words (entries ++ entry_behind map_words entries name date input ∷ [])
  pub unchanged : (name : List ℕ) (date : ℕ) → Spells words (commands.Append name date) → answer ≢ status.Done → answer ≢ status.SinkFault →
      NowLists t new header map_words entries
  pub made : (seed count : ℕ) → Spells words (commands.Make seed count) →
      ListsMade t k new before behind answer header map_words entries seed count
  pub scripted : Spells words commands.Script → (input : List ℕ) × IsInput told input
      × ((outcome : CommandOutcome) (does : ScriptDoes (settled table c) map_words entries input outcome) →
      ListsLines t k new before behind answer header map_words entries does.items does.dids)

-- ---- a generated run

-- the words ask for so many volumes from this seed, on a cartridge that stands for a plain one
pub record Generated (words : List (List ℕ)) (seed count : ℕ) (c : Cartridge) (plain : Plain) : Type 0 where
  pub spelled : Spells words (commands.Make seed count)
  pub stands : Stands c plain

-- Where each sector of its table's segment takes a write, what is left of it stands for the plain cartridge with the first ones of
-- the volumes.
abbrev pub SomeMade : (words : List (List ℕ)) → (held left : Option Cartridge) → Type 0
SomeMade words held left =
    (seed count : ℕ) (c : Cartridge) (plain : Plain) → held ≡ Some c → Generated words seed count c plain → IsTableLive c →
    (n : ℕ) × (n ≤ count) × IsSomeAnd left (λ d. Stands d (with_made plain seed n))

-- When it is over this was printed; and where no fault of the outside ended it, as many of the volumes are there as were appended by
-- its answer, all of them once it was carried out. Where each sector of the table's segment takes a write, all are there, too, where
-- anything was printed, or the sink failed.
pub record AllMade {T K : Type 0} (t : tapes.Meaning T) (k : sinks.Meaning K) (new : T) (before behind : K) (answer : Status)
    (seed count : ℕ) (c : Cartridge) (plain : Plain) : Type 0 where
  pub text : List ℕ
  pub took : k.took before text behind
  pub answered : is_fault answer ≡ false → (n : ℕ) × AppendedBy seed count plain.words (entries_of plain) answer n
      × ToldNow t new (λ left. IsSomeAnd left (λ d. Stands d (with_made plain seed n)))
  pub all : IsTableLive c → (text ≢ []) ⊎ (answer ≡ status.SinkFault) →
      ToldNow t new (λ left. IsSomeAnd left (λ d. Stands d (with_made plain seed count)))

-- ---- a script

-- for the input that is told, or for some input of bytes where none is
abbrev pub OverInput : (told : Option (List ℕ)) → (P : (input : List ℕ) → Type 0) → Type 0
OverInput told P = (input : List ℕ) × IsInput told input × IfNone told (All (λ b. b < 256) input) × P input

-- The words ask for a script over an input of bytes, on a cartridge that stands for a plain one. By the plain machine the lines do
-- this on the settled cartridge.
pub record Scripted (input : List ℕ) (words : List (List ℕ)) (c : Cartridge) (plain : Plain) : Type 0 where
  pub spelled : Spells words commands.Script
  pub bytes : All (λ b. b < 256) input
  pub stands : Stands c plain
  pub outcome : CommandOutcome
  pub does : ScriptDoes (settled plain.table_area c) plain.words (entries_of plain) input outcome

-- each sector that the first lines wear spares the header and the table, on the cartridge as it then stands
abbrev pub FirstLinesSpare : {input : List ℕ} {words : List (List ℕ)} {c : Cartridge} {plain : Plain} → Scripted input words c plain →
    (count : ℕ) → Type 0
FirstLinesSpare {input} {words} {c} {plain} script count =
    (count ≤ length script.does.items) × FirstSpare (settled plain.table_area c) plain script.does.items script.does.dids count

-- Where each sector of its table's segment takes a write, and the first lines spare header and table, what is left of it stands for
-- the plain cartridge behind some of these; or the stop came further.
abbrev pub LinesLeave : (input : List ℕ) → (words : List (List ℕ)) → (held left : Option Cartridge) → Type 0
LinesLeave input words held left =
    (c : Cartridge) (plain : Plain) → held ≡ Some c → (script : Scripted input words c plain) → IsTableLive c →
    (count : ℕ) → FirstLinesSpare script count →
    CameFurther (settled plain.table_area c) script.does.items script.does.dids script.does.last count left
    ⊎ ((n : ℕ) × (n ≤ count) × IsSomeAnd left (λ d. Stands d (with_items plain script.does.items script.does.dids n)))

-- When it is over, whatever it answered, this was printed. Where each sector of the table's segment takes a write, and the lines that
-- it went no further than spare header and table, all lines whose reply was written whole are among these, and at most one more; and
-- all lines, also where some of these sectors take none, once the input was carried out, if all lines spare them.
pub record AllAnswered {T K : Type 0} (t : tapes.Meaning T) (k : sinks.Meaning K) {input : List ℕ} {words : List (List ℕ)} {c : Cartridge}
    {plain : Plain} (new : T) (before behind : K) (answer : Status) (script : Scripted input words c plain) : Type 0 where
  pub text : List ℕ
  pub took : k.took before text behind
  pub answered : IsTableLive c → (count : ℕ) → GoesNoFurther script.does.items script.does.dids count (length text) →
      FirstLinesSpare script count → ToldNow t new (StandsAnswered plain script.does.items script.does.dids (length text))
  pub all : IsHeard answer → ItemsSpare (settled plain.table_area c) plain script.does.items script.does.dids →
      ToldNow t new (λ left. IsSomeAnd left (λ d. Stands d (plain_behind plain script.does.items script.does.dids)))
