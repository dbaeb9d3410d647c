-- What a script leaves of a cartridge behind the lines that were carried out: what these append, what the cartridge stands for,
-- and the list that it is mounted with (this project's own).
use Rattle.std.specs.Prelude.{ℕ, List, ◌==◌, length, if◌then◌else◌, [], ◌∷◌, suc, ◌≤◌, take, drop, Option, Some, IsSomeAnd, ◌<◌, ◌↔◌, ◌++◌}
use Rattle.std.specs.Prelude.{◌≡◌, ◌⊎◌, ◌≢◌}
use Rattle.cartridge_spec.specs.Appending.{Content, with_all}
use Rattle.cartridge_spec.specs.Header.{Header}
use Rattle.cartridge_spec.specs.Mounting.{Lists}
use Rattle.cartridge_spec.specs.Settling.{changed_by}
use Rattle.cartridge_spec.specs.Table.{Entry}
use Rattle.cartridge_spec.specs.Volumes.{Plain, entries_of, Stands, WearSpares}
use Rattle.command_spec.specs.Input.{Item}
use Rattle.command_spec.specs.Script.{Did, acts_of, cartridge_behind, entries_behind}
use Rattle.command_spec.specs.declared.line.Line.{Line}
use Rattle.qic_base.specs.Acts.{Act, steps_of, text_of}
use Rattle.qic_base.specs.Cartridge.{Cartridge, IsPlace}
use Rattle.qic_base.specs.Step.{Torn}
use Rattle.command_spec.specs.declared.line.Line.TheVariants as line

-- ---- what items append

-- what a line appends
abbrev pub line_contents : Line → (bytes : List ℕ) → List Content
line_contents (line.Append name promised date) bytes = record { name = name; date = date; bytes = bytes } ∷ []
line_contents other bytes = []

-- what an item added to a list: that, where the list is longer behind it
abbrev pub item_added : List Entry → Item → Did → List Content
item_added entries item did = if length did.entries == length entries then [] else line_contents item.line item.bytes

-- what several added, one behind the other
abbrev pub all_added : List Entry → List Item → List Did → List Content
all_added entries (item ∷ items) (did ∷ dids) = item_added entries item did ++ all_added did.entries items dids
all_added entries items dids = []

-- the plain cartridge behind several, and behind the first ones of them
abbrev pub plain_behind : Plain → List Item → List Did → Plain
plain_behind plain items dids = with_all plain (all_added (entries_of plain) items dids)

abbrev pub with_items : Plain → List Item → List Did → (n : ℕ) → Plain
with_items plain items dids n = plain_behind plain (take n items) (take n dids)

-- ---- what is asked of the items

-- each sector that a line wears spares the header and the table, on the cartridge as it then stands
abbrev pub ItemsSpare : Cartridge → Plain → List Item → List Did → Type 0
ItemsSpare c plain (item ∷ items) (did ∷ dids) =
    ((segment sector : ℕ) → item.line ≡ line.Lose segment sector →
    IsPlace c.info.segments_per_track segment sector → WearSpares c plain segment sector)
    × ItemsSpare (changed_by (steps_of did.acts) c) (with_all plain (item_added (entries_of plain) item did)) items dids
ItemsSpare c plain items dids = Unit {0}

-- the first ones do
abbrev pub FirstSpare : Cartridge → Plain → List Item → List Did → (count : ℕ) → Type 0
FirstSpare c plain items dids count = ItemsSpare c plain (take count items) (take count dids)

-- no line wears a sector of the table's segment
abbrev pub ItemsSpareTable : List Item → Type 0
ItemsSpareTable [] = Unit {0}
ItemsSpareTable (item ∷ items) =
    ((segment sector : ℕ) → item.line ≡ line.Lose segment sector → sector < 32 → segment ≢ 2) × ItemsSpareTable items

-- ---- how far a script went

-- what so many items print, in bytes
abbrev pub printed_by : List Did → (count : ℕ) → ℕ
printed_by dids count = length (text_of (acts_of (take count dids)))

-- It went no further than so many items, where so many bytes were printed: they are all, or the reply to the last of them was not
-- written whole.
abbrev pub GoesNoFurther : List Item → List Did → (count printed : ℕ) → Type 0
GoesNoFurther items dids count printed = (count ≡ length items) ⊎ (printed < printed_by dids count)

-- it was stopped behind the first ones, in what the others do, or in its last acts
pub record CameFurther (c : Cartridge) (items : List Item) (dids : List Did) (last : List Act) (count : ℕ)
    (left : Option Cartridge) : Type 0 where
  pub more : count < length items
  pub torn : Torn (steps_of (acts_of (drop count dids) ++ last)) (Some (cartridge_behind c (take count dids))) left

-- ---- what it leaves

-- What is left stands for the plain cartridge behind so many items, where so many bytes were printed: all items whose reply
-- was written whole are among them, and at most one more.
pub record StandsAnswered (plain : Plain) (items : List Item) (dids : List Did) (printed : ℕ) (left : Option Cartridge) : Type 0 where
  pub count : ℕ
  pub within : count ≤ length items
  pub stands : IsSomeAnd left (λ d. Stands d (with_items plain items dids count))
  pub answered : (n : ℕ) → n ≤ length items → printed_by dids n ≤ printed → n ≤ count
  pub most : (n : ℕ) → suc n ≤ count → printed_by dids n ≤ printed

-- each sector that a line wears lies behind the table's segment; each cartridge has the segments in front
abbrev pub ItemsWearBehind : List Item → Type 0
ItemsWearBehind [] = Unit {0}
ItemsWearBehind (item ∷ items) =
    ((segment sector : ℕ) → item.line ≡ line.Lose segment sector → sector < 32 → 3 ≤ segment) × ItemsWearBehind items

-- what is left is mounted with the list behind so many items, where none of them wore a sector of header or table
abbrev pub ListsBehind : Header → (words : List ℕ) → List Entry → List Item → List Did → (count : ℕ) → (left : Option Cartridge) → Type 0
ListsBehind header words entries items dids count left =
    ItemsWearBehind (take count items) → IsSomeAnd left (λ d. Lists d header words (entries_behind entries (take count dids)))

-- What is left is mounted with the list behind those items whose reply was written whole, where so many bytes were printed.
pub record ListsAnswered (header : Header) (words : List ℕ) (entries : List Entry) (items : List Item) (dids : List Did) (printed : ℕ)
    (left : Option Cartridge) : Type 0 where
  pub count : ℕ
  pub within : count ≤ length items
  pub lists : ListsBehind header words entries items dids count left
  pub answered : (n : ℕ) → n ≤ length items → (n ≤ count) ↔ (printed_by dids n ≤ printed)

-- What is left is mounted with the list behind those items whose reply was written whole, and behind the next one, if there is one:
-- that of which the sink broke the reply off.
pub record ListsBroken (header : Header) (words : List ℕ) (entries : List Entry) (items : List Item) (dids : List Did) (printed : ℕ)
    (left : Option Cartridge) : Type 0 where
  pub count : ℕ
  pub within : count ≤ length items
  pub lists : ListsBehind header words entries items dids count left
  pub begun : (n : ℕ) → n < length items → (n < count) ↔ (printed_by dids n ≤ printed)
