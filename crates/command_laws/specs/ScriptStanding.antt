-- What a script, done or stopped, leaves of a cartridge that stands for a plain one, as facts (this project's own).
use Rattle.std.specs.Prelude.{◌≡◌, ℕ, List, length, [], ◌∷◌, ◌<◌, All, ◌⊎◌, Option, Some, IsSomeAnd, ◌≤◌, take, ◌+◌, ◌++◌}
use Rattle.cartridge_laws.specs.AppendLaws.{IsAppendable}
use Rattle.cartridge_spec.specs.Appending.{with_all}
use Rattle.cartridge_spec.specs.TableSegment.{IsTableLive}
use Rattle.cartridge_spec.specs.Settling.{changed_by}
use Rattle.cartridge_spec.specs.Volumes.{Plain, entries_of, Stands}
use Rattle.command_laws.specs.MountedHeld.{IsHeld}
use Rattle.command_laws.specs.AppendTerms.{content_with}
use Rattle.command_spec.specs.Input.{Item, Ending, IsScript}
use Rattle.command_spec.specs.Script.{Did, ItemsDo, entries_behind, cartridge_behind, ScriptDoes}
use Rattle.command_laws.specs.ScriptTerms.{ItemDoes, FaultDoes, LineSpares}
use Rattle.command_spec.specs.Outcome.{CommandOutcome}
use Rattle.command_spec.specs.ScriptLists.{CameFurther, FirstSpare, GoesNoFurther, ItemsSpare, StandsAnswered, item_added, plain_behind}
use Rattle.command_spec.specs.declared.line.Line.{Line}
use Rattle.qic_base.specs.Acts.{steps_of, Act, text_of, next_steps}
use Rattle.qic_base.specs.Cartridge.{Cartridge}
use Rattle.qic_base.specs.Step.{Torn}
use Rattle.command_spec.specs.declared.line.Line.TheVariants as line

-- a line's name is a label, its date a date word, and the bytes that follow it are bytes, as many as it promises
abbrev pub LineHasBytes : Line → (bytes : List ℕ) → Type 0
LineHasBytes (line.Append name promised date) bytes = IsAppendable (content_with name date bytes) × (length bytes ≡ promised)
LineHasBytes other bytes = Unit {0}

abbrev pub HasBytes : Item → Type 0
HasBytes item = LineHasBytes item.line item.bytes

abbrev pub HaveBytes : List Item → Type 0
HaveBytes [] = Unit {0}
HaveBytes (item ∷ items) = HasBytes item × HaveBytes items

-- those of an input of bytes are so
abbrev pub ItemsHaveBytes : Type 0
ItemsHaveBytes =
    (input : List ℕ) (items : List Item) (ending : Ending) → IsScript input items ending → All (λ b. b < 256) input → HaveBytes items

-- ---- items

-- the plain cartridge behind an item
abbrev pub plain_after : Plain → Item → Did → Plain
plain_after plain item did = with_all plain (item_added (entries_of plain) item did)

-- all items done, the cartridge stands for the plain one behind them, with the same list and the same map, also where sectors of
-- the table's segment take no write; where each of these takes one, it still does
abbrev pub ItemsStand : Type 0
ItemsStand =
    (c : Cartridge) (plain : Plain) (items : List Item) (dids : List Did) → IsHeld c plain → HaveBytes items →
    ItemsDo c plain.words (entries_of plain) items dids → ItemsSpare c plain items dids →
    IsHeld (cartridge_behind c dids) (plain_behind plain items dids)
    × (entries_of (plain_behind plain items dids) ≡ entries_behind (entries_of plain) dids)
    × ((plain_behind plain items dids).words ≡ plain.words)
    × (IsTableLive c → IsTableLive (cartridge_behind c dids))

-- where each of these sectors takes a write, a stop in one item leaves what stood, or the plain cartridge behind it
abbrev pub StoppedItemStands : Type 0
StoppedItemStands =
    (c : Cartridge) (plain : Plain) (item : Item) (did : Did) (left : Option Cartridge) → IsHeld c plain → IsTableLive c →
    HasBytes item → ItemDoes c plain.words (entries_of plain) item did → LineSpares c plain item.line →
    Torn (steps_of did.acts) (Some c) left →
    IsSomeAnd left (λ d. Stands d plain ⊎ Stands d (plain_after plain item did))

-- the acts in front of a fault leave what stood, done or stopped: they write behind the volumes, and never the list
abbrev pub FaultStands : Type 0
FaultStands =
    (c : Cartridge) (plain : Plain) (number : ℕ) (rest : List ℕ) (acts : List Act) (left : Option Cartridge) → IsHeld c plain →
    FaultDoes c plain.words (entries_of plain) number rest acts → Torn (steps_of acts) (Some c) left →
    IsSomeAnd left (λ d. Stands d plain)

-- ---- a script

-- all of it done, the cartridge stands for the plain one behind all items, also where sectors of the table's segment take no write
abbrev pub DoneScriptStands : Type 0
DoneScriptStands =
    (c : Cartridge) (plain : Plain) (input : List ℕ) (outcome : CommandOutcome) → IsHeld c plain →
    (does : ScriptDoes c plain.words (entries_of plain) input outcome) → All (λ b. b < 256) input →
    ItemsSpare c plain does.items does.dids →
    Stands (changed_by (steps_of outcome.acts) c) (plain_behind plain does.items does.dids)

-- the lines that the script went no further than spare header and table
abbrev pub WentNoFurther : Cartridge → Plain → List Item → List Did → (printed : ℕ) → Type 0
WentNoFurther c plain items dids printed =
    (count : ℕ) × (count ≤ length items) × GoesNoFurther items dids count printed × FirstSpare c plain items dids count

-- where each of these sectors takes a write, and the first items spare header and table, a stop in a script leaves the plain
-- cartridge behind some of these, or it came further
abbrev pub StoppedScriptStands : Type 0
StoppedScriptStands =
    (c : Cartridge) (plain : Plain) (input : List ℕ) (outcome : CommandOutcome) (left : Option Cartridge) → IsHeld c plain → IsTableLive c →
    (does : ScriptDoes c plain.words (entries_of plain) input outcome) → All (λ b. b < 256) input →
    (count : ℕ) → count ≤ length does.items → FirstSpare c plain does.items does.dids count → Torn (steps_of outcome.acts) (Some c) left →
    CameFurther c does.items does.dids does.last count left
    ⊎ ((n : ℕ) × (n ≤ count) × IsSomeAnd left (λ d. Stands d (plain_behind plain (take n does.items) (take n does.dids))))

-- so it is, where each of these sectors takes a write, after a stop among the steps of an act, with the acts before it done and
-- their texts written
abbrev pub AnsweredBetween : Type 0
AnsweredBetween =
    (c : Cartridge) (plain : Plain) (input : List ℕ) (outcome : CommandOutcome) (front rest : List Act) (left : Option Cartridge) →
    IsHeld c plain → IsTableLive c → (does : ScriptDoes c plain.words (entries_of plain) input outcome) → All (λ b. b < 256) input →
    WentNoFurther c plain does.items does.dids (length (text_of front)) → front ++ rest ≡ outcome.acts →
    Torn (next_steps rest) (Some (changed_by (steps_of front) c)) left →
    StandsAnswered plain does.items does.dids (length (text_of front)) left

-- and after an act's steps, with some of its text written
abbrev pub AnsweredBehind : Type 0
AnsweredBehind =
    (c : Cartridge) (plain : Plain) (input : List ℕ) (outcome : CommandOutcome) (front : List Act) (act : Act) (rest : List Act)
    (left : Option Cartridge) (printed : ℕ) →
    IsHeld c plain → IsTableLive c → (does : ScriptDoes c plain.words (entries_of plain) input outcome) → All (λ b. b < 256) input →
    WentNoFurther c plain does.items does.dids printed → front ++ act ∷ rest ≡ outcome.acts →
    left ≡ Some (changed_by (steps_of front ++ act.steps) c) → length (text_of front) ≤ printed →
    printed ≤ length (text_of front) + length act.text →
    StandsAnswered plain does.items does.dids printed left
