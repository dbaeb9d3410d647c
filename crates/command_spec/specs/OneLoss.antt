-- What becomes of a cartridge that an append, a generated run or a script left, done or stopped, where then one sector
-- more of its table's segment is lost (this project's own).
use Rattle.std.specs.Prelude.{◌⊎◌, ℕ, List, Option, ◌≡◌, ◌≢◌, ◌≤◌, ◌<◌, ◌+◌, Some, None, IsSomeAnd, [], ◌∷◌, ◌++◌, length, take, drop}
use Rattle.std.specs.Prelude.{false}
use Rattle.std.specs.Prelude.{slice_get}
use Rattle.cartridge_spec.specs.Appending.{with_all}
use Rattle.cartridge_spec.specs.TableSegment.{IsTableLive, LosesOneAlone}
use Rattle.cartridge_spec.specs.Mounting.{settled, ComesBackAs}
use Rattle.cartridge_spec.specs.Settling.{settling_steps}
use Rattle.cartridge_spec.specs.Volumes.{Plain, Stands}
use Rattle.command_spec.specs.Headline.{EachLeft, ToldNow}
use Rattle.command_spec.specs.Input.{Item}
use Rattle.command_spec.specs.Script.{Did, Finds, Meets, acts_of, cartridge_behind}
use Rattle.command_spec.specs.Several.{IsHeard, Scripted, FirstLinesSpare, OverInput}
use Rattle.command_spec.specs.Machine.{Spells}
use Rattle.command_spec.specs.ScriptLists.{CameFurther, GoesNoFurther, printed_by, ItemsSpare, ItemsSpareTable, with_items}
use Rattle.command_spec.specs.Volumes.{TellsBytes, IsCarriedOut}
use Rattle.qic_base.specs.Source.{IsInput}
use Rattle.command_spec.specs.declared.status.Status.{Status}
use Rattle.command_spec.specs.declared.line.Line.TheVariants as line
use Rattle.qic_base.specs.Acts.{steps_of}
use Rattle.qic_base.specs.Cartridge.{Cartridge}
use Rattle.qic_base.specs.Step.{Step, Torn}
use Rattle.command_spec.specs.Make.{with_made}
use Rattle.command_spec.specs.declared.words.Words.TheVariants as commands
use Rattle.qic_base.specs.Sink as sinks
use Rattle.qic_base.specs.Tape as tapes

-- whichever one sector of its table's segment is lost, and nothing else, it comes back as one of these two plain
-- cartridges
abbrev pub ComesBackAsOneOf : Plain → Plain → Cartridge → Type 0
ComesBackAsOneOf one other d = (f : Cartridge) (lost : ℕ) → LosesOneAlone d f lost → ComesBackAs f one ⊎ ComesBackAs f other

-- Of plain cartridges, each with one volume or none more than the one before it, it comes back as one or as the next
-- one: from so many volumes, or lines of a script, on, up to so many.
pub record SomeComeBack (standing : ℕ → Plain) (least most : ℕ) (left : Option Cartridge) : Type 0 where
  pub one : ℕ
  pub other : ℕ
  pub from : least ≤ one
  pub next : one ≤ other × other ≤ one + 1
  pub within : other ≤ most
  pub comes : IsSomeAnd left (ComesBackAsOneOf (standing one) (standing other))

-- So it is with what is left of a cartridge, but where its table was not yet settled, and none of the volumes has to be
-- there.
abbrev pub LeftComesBack : Cartridge → (standing : ℕ → Plain) (least most : ℕ) (left : Option Cartridge) → Type 0
LeftComesBack c standing least most left =
    ((least ≡ 0) × Torn (settling_steps (standing 0).table_area c) (Some c) left) ⊎ SomeComeBack standing least most left

-- a plain cartridge without the volume of an append, and with it
abbrev pub with_one : Plain → (name : List ℕ) (date : ℕ) (input : List ℕ) (n : ℕ) → Plain
with_one plain name date input n = with_all plain (take n (record { name = name; date = date; bytes = input } ∷ []))

-- ---- the settling of a script in question

-- Among the first lines of a script on a settled cartridge the one behind so many others is an append that finds its table, and so
-- settles it before it takes a byte: whatever sectors of the table's segment the lines in front wore, all are there then.
pub record SettlingAppend (c : Cartridge) (items : List Item) (dids : List Did) (count : ℕ) : Type 0 where
  pub at : ℕ
  pub among : at < count
  pub item : Item
  pub is : slice_get items at ≡ Some item
  pub name : List ℕ
  pub promised : ℕ
  pub date : ℕ
  pub appends : item.line ≡ line.Append name promised date
  pub table : List (List ℕ)
  pub finds : Meets (cartridge_behind c (take at dids)) (Finds table)

-- how many lines come before it; where none is named the settling is that of the mounting, before all lines
abbrev pub lines_before : {c : Cartridge} {items : List Item} {dids : List Did} {count : ℕ} → Option (SettlingAppend c items dids count) → ℕ
lines_before None = 0
lines_before (Some append) = append.at

-- the steps up to its end, where the mounting settled the table by these
abbrev pub steps_until : {c : Cartridge} {items : List Item} {dids : List Did} {count : ℕ} → (mounting : List Step) →
    Option (SettlingAppend c items dids count) → List Step
steps_until mounting None = mounting
steps_until {c} {items} {dids} mounting (Some append) =
    mounting ++ (steps_of (acts_of (take append.at dids)) ++ settling_steps append.table (cartridge_behind c (take append.at dids)))

-- that of a script on a cartridge that stands for a plain one
abbrev pub ScriptSettling : {input : List ℕ} {words : List (List ℕ)} {c : Cartridge} {plain : Plain} → Scripted input words c plain →
    (count : ℕ) → Type 0
ScriptSettling {input} {words} {c} {plain} script count =
    Option (SettlingAppend (settled plain.table_area c) script.does.items script.does.dids count)

-- It comes back as one of the plain cartridges behind the lines, from so many on, up to so many; but where the stop came before the
-- end of that settling, and no line behind those before it has to be there.
abbrev pub LinesComeBack : {input : List ℕ} {words : List (List ℕ)} {c : Cartridge} {plain : Plain} →
    (script : Scripted input words c plain) → (least most : ℕ) → ScriptSettling script most → (left : Option Cartridge) → Type 0
LinesComeBack {input} {words} {c} {plain} script least most settling left =
    ((least ≡ lines_before settling) × Torn (steps_until (settling_steps plain.table_area c) settling) (Some c) left)
    ⊎ SomeComeBack (with_items plain script.does.items script.does.dids) least most left

-- ---- what is left

-- What words that append leave of a cartridge that stands for a plain one, each sector of whose table's segment takes a
-- write. Of a script the cartridge is not protected, and the first lines spare header and table, and those behind the settling in
-- question wear no sector of the table's segment; or the stop came further.
pub record AppendingLeaves (told : Option (List ℕ)) (words : List (List ℕ)) (c : Cartridge) (plain : Plain)
    (left : Option Cartridge) : Type 0 where
  pub append : (name : List ℕ) (date : ℕ) → Spells words (commands.Append name date) → TellsBytes told →
      (input : List ℕ) × IsInput told input × LeftComesBack c (with_one plain name date input) 0 1 left
  pub make : (seed count : ℕ) → Spells words (commands.Make seed count) → LeftComesBack c (with_made plain seed) 0 count left
  pub script : OverInput told (λ input. (script : Scripted input words c plain) → c.info.protected ≡ false →
      (count : ℕ) → FirstLinesSpare script count → (settling : ScriptSettling script count) →
      ItemsSpareTable (drop (lines_before settling) (take count script.does.items)) →
      CameFurther (settled plain.table_area c) script.does.items script.does.dids script.does.last count left
      ⊎ LinesComeBack script (lines_before settling) count settling left)

abbrev pub StoppedComesBack : (told : Option (List ℕ)) → List (List ℕ) → (held left : Option Cartridge) → Type 0
StoppedComesBack told words held left =
    (c : Cartridge) (plain : Plain) → held ≡ Some c → Stands c plain → IsTableLive c → AppendingLeaves told words c plain left

-- What stands when such words are over, and this was printed: with the volume of an append that was carried out; with
-- all volumes of a generated run that was, or has printed anything; with all lines of a script whose reply was written
-- whole, and none behind those that it went no further than; with all lines, once its input was carried out.
pub record AppendingLeft {T K : Type 0} (t : tapes.Meaning T) (k : sinks.Meaning K) (told : Option (List ℕ)) (words : List (List ℕ))
    (c : Cartridge) (plain : Plain) (new : T) (before behind : K) (answer : Status) : Type 0 where
  pub text : List ℕ
  pub took : k.took before text behind
  pub append : (name : List ℕ) (date : ℕ) → Spells words (commands.Append name date) → TellsBytes told → IsCarriedOut answer →
      (input : List ℕ) × IsInput told input × ToldNow t new (SomeComeBack (with_one plain name date input) 1 1)
  pub make : (seed count : ℕ) → Spells words (commands.Make seed count) → (text ≢ []) ⊎ IsCarriedOut answer →
      ToldNow t new (SomeComeBack (with_made plain seed) count count)
  pub script : OverInput told (λ input. (script : Scripted input words c plain) → c.info.protected ≡ false →
      (answered count : ℕ) → answered ≤ length script.does.items → printed_by script.does.dids answered ≤ length text →
      GoesNoFurther script.does.items script.does.dids count (length text) →
      FirstLinesSpare script count → (settling : ScriptSettling script count) → lines_before settling ≤ answered →
      ItemsSpareTable (drop (lines_before settling) (take count script.does.items)) →
      ToldNow t new (LinesComeBack script answered count settling))
  pub heard : OverInput told (λ input. (script : Scripted input words c plain) → c.info.protected ≡ false → IsHeard answer →
      ItemsSpare (settled plain.table_area c) plain script.does.items script.does.dids →
      (settling : ScriptSettling script (length script.does.items)) →
      ItemsSpareTable (drop (lines_before settling) script.does.items) →
      ToldNow t new (SomeComeBack (with_items plain script.does.items script.does.dids)
      (length script.does.items) (length script.does.items)))

-- A sector of the table's segment may be lost behind an append, a generated run or a script, too: each cartridge that a
-- run leaves comes back so, and so does what stands when it is over.
pub record SurvivesOneLoss {T K : Type 0} (t : tapes.Meaning T) (k : sinks.Meaning K) (told : Option (List ℕ)) (words : List (List ℕ))
    (old new : T) (before behind : K) (answer : Status) : Type 0 where
  pub stopped : EachLeft t old new (StoppedComesBack told words)
  pub over : (c : Cartridge) (plain : Plain) → t.told old ≡ Some (Some c) → Stands c plain → IsTableLive c →
      AppendingLeft t k told words c plain new before behind answer
