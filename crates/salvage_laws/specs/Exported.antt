-- What is salvaged of a cartridge that was exported: its dump and its map, and nothing else; and when that is read as the
-- cartridge is mounted (this project's own).
use Rattle.std.specs.Prelude.{ℕ, ◌≡◌, ◌<◌, false, true, List, length, slice_index, take, Option, Some, None}
use Rattle.std.specs.Int.{bit_at}
use Rattle.cartridge_spec.specs.Header.{Header, has_signature}
use Rattle.cartridge_spec.specs.HeaderCopies.{HasHeader, copy_cells}
use Rattle.cartridge_spec.specs.Mounting.{Mounts, Mounted}
use Rattle.cartridge_spec.specs.Table.{Entry, slot}
use Rattle.flat_dump.specs.Dump.{dump_of}
use Rattle.flat_dump.specs.Held.{map_of}
use Rattle.qic_base.specs.Cartridge.{Cartridge}
use Rattle.qic_base.specs.CartridgeTerms.{IsCartridge}
use Rattle.silent_locate.specs.Deep.{Deep}
use Rattle.dump_spec.specs.Answers.{Inputs}
use Rattle.dump_spec.specs.declared.asked.Asked.{Asked}
use Rattle.dump_spec.specs.declared.asked.Command.{Command}
use Rattle.dump_spec.specs.declared.form.Form.TheVariants as forms

-- ---- what is read and asked

-- the dump and the map of a cartridge, and the file of the sure map, where one is named
abbrev pub exported : Cartridge → (sure : Option (List ℕ)) → Inputs
exported c sure = record { dump = dump_of c; map = Some (map_of c); header = None; missing = None; bad = None; sure = sure }

-- a command with no further option
abbrev pub plainly : Command → Asked
plainly command = record { form = forms.Sectors; first = None; zero_lost = false; command = command }

-- ---- when it is read as the cartridge is mounted

-- A header that header copy 0 shows where a silently wrong sector of it is left out is the one in force.
abbrev pub HidesNoOther : Cartridge → Type 0
HidesNoOther c =
    (area block : List (List ℕ)) (place : ℕ) → HasHeader c area → Deep (copy_cells c 0) block (Some place) →
    has_signature (take 29 block) ≡ true → take 29 block ≡ area

-- none of the slots of these volumes has the bit of compressed data
abbrev pub IsUncompressed : (table : List (List ℕ)) → List Entry → Type 0
IsUncompressed table entries = (i : ℕ) → i < length entries → bit_at (slice_index (slot table i) 124) 7 ≡ 0

-- The cartridge mounts with these, its header copy 0 hides no other header, and no volume is compressed.
pub record IsReadAs (c : Cartridge) (header : Header) (words : List ℕ) (table : List (List ℕ)) (entries : List Entry) : Type 0 where
  pub whole : IsCartridge c
  pub mounts : Mounts c (Mounted header words table entries)
  pub hides_none : HidesNoOther c
  pub uncompressed : IsUncompressed table entries
