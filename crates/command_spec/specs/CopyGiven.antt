-- What a copy leaves of its target, whatever its source is: each volume more is as `restore` gives it (this project's own).
use Rattle.std.specs.Prelude.{ℕ, ◌+◌, ◌≤◌, List, [], ◌∷◌, ◌≡◌, ◌⊎◌, length, take, drop, Option, None, IsSomeAnd}
use Rattle.cartridge_spec.specs.Appending.{Content, with_all}
use Rattle.cartridge_spec.specs.Header.{Header}
use Rattle.cartridge_spec.specs.Mounting.{Mounted, Mounts, settled}
use Rattle.cartridge_spec.specs.Table.{Entry}
use Rattle.cartridge_spec.specs.Volumes.{Plain, Stands, entries_of}
use Rattle.command_spec.specs.Copied.{copied_lines, lengths_of}
use Rattle.command_spec.specs.Copying.{Side, difference, length_on}
use Rattle.command_spec.specs.Restore.{Restored, Restores, pieces}
use Rattle.qic_base.specs.Acts.{Act, text_of}
use Rattle.qic_base.specs.Cartridge.{Cartridge}

-- ---- the source

-- the cartridge mounts so, and is settled then
abbrev pub MountsSide : Cartridge → (from : Side) → Type 0
MountsSide c from =
    (header : Header) × ((table : List (List ℕ)) × Mounts c (Mounted header from.words table from.entries)
    × (from.cartridge ≡ settled table c))

-- its first volumes are like those of a plain cartridge, in number, name, date word and length
abbrev pub ListsLike : (from : Side) → (to : Plain) → Type 0
ListsLike from to = difference from.words from.entries to.words (entries_of to) 1 ≡ None

-- the volumes that the plain cartridge has not
abbrev pub missing_on : (from : Side) → (to : Plain) → List Entry
missing_on from to = drop (length to.volumes) from.entries

-- A volume is given back whole: with its name, its date word and its length, and with just the bytes that a restore of it prints.
pub record GivenBack (from : Side) (e : Entry) (content : Content) : Type 0 where
  pub name : content.name ≡ e.name
  pub date : content.date ≡ e.date
  pub size : length content.bytes ≡ length_on from e
  pub read : List Act
  pub restores : Restores from.cartridge from.words (pieces from.words e) read Restored
  pub bytes : content.bytes ≡ text_of read

-- the first ones of some volumes are, in their order
abbrev pub AreGivenBack : (from : Side) → List Entry → List Content → Type 0
AreGivenBack from es [] = Unit {0}
AreGivenBack from [] (content ∷ contents) = ⊥
AreGivenBack from (e ∷ es) (content ∷ contents) = GivenBack from e content × AreGivenBack from es contents

-- ---- the target

-- What is left of the target stands for it with the first ones of the missing volumes, and the source lists all of these: so a next
-- copy goes on behind them.
pub record StandsWithGiven (from : Side) (to : Plain) (left : Option Cartridge) : Type 0 where
  pub contents : List Content
  pub given : AreGivenBack from (missing_on from to) contents
  pub stands : IsSomeAnd left (λ d. Stands d (with_all to contents))
  pub like : ListsLike from (with_all to contents)

-- .. and no volume is missing whose line is among the bytes that were printed
pub record PrintedWithGiven (from : Side) (to : Plain) (printed : ℕ) (left : Option Cartridge) : Type 0 where
  pub some : StandsWithGiven from to left
  pub whole : (n : ℕ) → n ≤ length (missing_on from to) →
      length (copied_lines (length to.volumes + 1) (lengths_of from.words (take n (missing_on from to)))) ≤ printed →
      n ≤ length some.contents

-- .. and none is missing
pub record StandsWithAll (from : Side) (to : Plain) (left : Option Cartridge) : Type 0 where
  pub some : StandsWithGiven from to left
  pub all : length some.contents ≡ length (missing_on from to)

-- ---- both

-- the source mounts, lists the volumes of the plain cartridge first, and this is so of it
abbrev pub GivenBy : (held : Option Cartridge) → (to : Plain) → (P : Side → Type 0) → Type 0
GivenBy held to P = IsSomeAnd held (λ c. (from : Side) × MountsSide c from × ListsLike from to × P from)

-- the target stands for what it stood for; or for that with volumes of the source
abbrev pub KeepsOrGains : (from : Option Cartridge) → (to : Plain) → (left : Option Cartridge) → Type 0
KeepsOrGains from to left = IsSomeAnd left (λ d. Stands d to) ⊎ GivenBy from to (λ side. StandsWithGiven side to left)

-- .. where this was printed: in the first case nothing was, in the second no volume is missing whose line was printed whole
abbrev pub KeepsOrPrints : (from : Option Cartridge) → (to : Plain) → (text : List ℕ) → (left : Option Cartridge) → Type 0
KeepsOrPrints from to text left =
    ((text ≡ []) × IsSomeAnd left (λ d. Stands d to)) ⊎ GivenBy from to (λ side. PrintedWithGiven side to (length text) left)
