-- The plain cartridge with the volumes of another one behind its own; what a copy needs, and what it leaves (this project's own).
use Rattle.std.specs.Prelude.{ℕ, ◌+◌, ◌<◌, ◌≤◌, List, [], ◌∷◌, ◌++◌, ◌≡◌, true, length, take, drop, map, slice_get, All, Option, None, Some}
use Rattle.std.specs.Prelude.{IsSomeAnd}
use Rattle.cartridge_spec.specs.Appending.{Content, has_room, with_all}
use Rattle.cartridge_spec.specs.Volumes.{volume_bytes, Plain, Stands, Volume, entries_of, volume_length}
use Rattle.cartridge_spec.specs.TableSegment.{IsTableLive}
use Rattle.cartridge_spec.specs.Table.{Entry}
use Rattle.command_spec.specs.Command.{IsUnprotected, ReadsAs}
use Rattle.command_spec.specs.Copying.{copied_line, difference}
use Rattle.command_spec.specs.Restore.{LosesFew, pieces_in}
use Rattle.qic_base.specs.Cartridge.{Cartridge}

-- a volume, as it is appended to another cartridge: its name, its date word and its bytes
abbrev pub content_of : (words : List ℕ) → Volume → Content
content_of words volume = record { name = volume.entry.name; date = volume.entry.date; bytes = volume_bytes words volume }

-- the contents of some volumes
abbrev pub contents_of : (words : List ℕ) → List Volume → List Content
contents_of words volumes = map (content_of words) volumes

-- those of the volumes behind the first ones, as many as another has, up to the one with this number, counted from 1
abbrev pub missing_contents : (from to : Plain) → (upto : ℕ) → List Content
missing_contents from to upto = contents_of from.words (drop (length to.volumes) (take upto from.volumes))

-- The plain cartridge `to` with the volumes of `from` behind its last, up to the one with this number. Each has the name, the date
-- word and the bytes that it has there.
abbrev pub copied : (from to : Plain) → (upto : ℕ) → Plain
copied from to upto = with_all to (missing_contents from to upto)

-- the first volumes of `from` are like those of `to`, in number, name, date word and length
abbrev pub BeginsLike : (from to : Plain) → Type 0
BeginsLike from to = difference from.words (entries_of from) to.words (entries_of to) 1 ≡ None

-- ---- what is needed, and what is left

-- The cartridges stand for these, alike in the volumes that both have, and each sector of the target's volume table takes a write.
pub record StandAlike (c : Cartridge) (from : Plain) (d : Cartridge) (to : Plain) : Type 0 where
  pub source : Stands c from
  pub target : Stands d to
  pub like : BeginsLike from to
  pub live : IsTableLive d

-- What is left of the target stands for it with the volumes of the source up to this one, and is like the source in all of these: so
-- a next copy goes on behind them.
pub record StandsUpTo (from to : Plain) (left : Option Cartridge) : Type 0 where
  pub upto : ℕ
  pub least : length to.volumes ≤ upto
  pub most : upto ≤ length from.volumes
  pub stands : IsSomeAnd left (λ d. Stands d (copied from to upto))
  pub like : BeginsLike from (copied from to upto)

-- the lines of copied volumes of these lengths, from this number on
abbrev pub copied_lines : (number : ℕ) → (lengths : List ℕ) → List ℕ
copied_lines number [] = []
copied_lines number (bytes ∷ more) = copied_line number bytes ++ copied_lines (number + 1) more

-- the lengths of volumes
abbrev pub lengths_of : (words : List ℕ) → List Entry → List ℕ
lengths_of words entries = map (volume_length words) entries

-- the lines of the missing volumes up to this one
abbrev pub lines_upto : (from to : Plain) → (upto : ℕ) → List ℕ
lines_upto from to upto = copied_lines (length to.volumes + 1)
    (lengths_of from.words (drop (length to.volumes) (take upto (entries_of from))))

-- .. and no volume is missing whose line is among the bytes that were printed
pub record StandsPrinted (from to : Plain) (printed : ℕ) (left : Option Cartridge) : Type 0 where
  pub up : StandsUpTo from to left
  pub whole : (n : ℕ) → length to.volumes < n → n ≤ length from.volumes → length (lines_upto from to n) ≤ printed → n ≤ up.upto

-- Each missing volume has room when its turn comes, and each of its segments that holds some of its bytes has at most three
-- unreadable sectors; both volume tables can be read, and the target takes writes.
pub record CanBeCopied (c : Cartridge) (from : Plain) (d : Cartridge) (to : Plain) : Type 0 where
  pub source : ReadsAs c from
  pub target : ReadsAs d to
  pub like : BeginsLike from to
  pub unprotected : IsUnprotected d
  pub few : All (λ volume. All (LosesFew c from.words) (pieces_in from volume)) (drop (length to.volumes) from.volumes)
  pub room : (n : ℕ) (volume : Volume) → length to.volumes ≤ n → slice_get from.volumes n ≡ Some volume →
      has_room (copied from to n) (volume_length from.words volume.entry) ≡ true
