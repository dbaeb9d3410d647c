-- The volume table: its slots and entries, and the first slot at fault (QIC-80-MC, the ftape headers).
use Rattle.std.specs.Prelude.{ℕ, List, [], ◌∷◌, ◌++◌, codes, replicate, ◌/◌, ◌*◌, ◌%◌, slice_set, take, drop, ◌==◌, Bool, slice_index}
use Rattle.std.specs.Prelude.{slice_range, ◌≡◌, ◌<◌, ◌≤◌, true, length, Some, slice_get, ◌||◌, false, zero, suc, ◌-◌, ◌&&◌, nat_lt, nat_le}
use Rattle.std.specs.Prelude.{not, Option, None, if◌then◌else◌}
use Rattle.cartridge_spec.specs.Header.{HeaderFault}
use Rattle.cartridge_spec.specs.Shape.{sector_at}
use Rattle.qic_base.specs.Field.{little_endian_bytes, overwritten, number_at, little_endian}
use Rattle.qic_base.specs.declared.foreign.ForeignField.TheVariants.{Slot, Range}

-- what a used slot says of a volume: its first and its last segment, its name of 44 bytes and the date word, flags and
-- sequence number, and the bytes of the directory and of the data
pub record Entry : Type 0 where
  pub start : ℕ
  pub end : ℕ
  pub name : List ℕ
  pub date : ℕ
  pub flags : ℕ
  pub sequence : ℕ
  pub directory : ℕ
  pub size : ℕ

-- its 128 bytes: the bytes of the vendor's extension, of the password and behind the data size are zero
abbrev pub slot_bytes : Entry → List ℕ
slot_bytes e =
    codes "VTBL" ++ little_endian_bytes 2 e.start ++ little_endian_bytes 2 e.end ++ e.name ++ little_endian_bytes 4 e.date
    ++ (e.flags ∷ e.sequence ∷ []) ++ replicate 34 0 ++ little_endian_bytes 4 e.directory ++ little_endian_bytes 8 e.size
    ++ replicate 24 0

-- the data of a table of so many entries, with one more in the slot behind the last one; every other byte is as it was
abbrev pub table_with : (area : List (List ℕ)) → (count : ℕ) → Entry → List (List ℕ)
table_with area count entry =
    slice_set area (count / 8) (overwritten (sector_at area (count / 8)) (128 * (count % 8)) (slot_bytes entry))

-- slot i of the table's 29 data sectors, 0 to 231
unfoldable pub slot : List (List ℕ) → ℕ → List ℕ
slot area i = take 128 (drop (128 * (i % 8)) (sector_at area (i / 8)))

-- a slot is free, or used, by its signature of four bytes
abbrev pub is_free : List ℕ → Bool
is_free bytes = number_at bytes 0 4 == 0

abbrev pub is_used : List ℕ → Bool
is_used bytes = number_at bytes 0 4 == little_endian (codes "VTBL")

-- the fields of a used slot
abbrev pub entry_in : List ℕ → Entry
entry_in bytes = record {
  start = number_at bytes 4 2;
  end = number_at bytes 6 2;
  name = slice_range bytes 8 52;
  date = number_at bytes 52 4;
  flags = slice_index bytes 56;
  sequence = slice_index bytes 57;
  directory = number_at bytes 92 4;
  size = number_at bytes 96 8;
}

-- the data show these volumes: a used slot for each, in order, and free slots behind them
pub record Shows (area : List (List ℕ)) (entries : List Entry) : Type 0 where
  pub room : length entries ≤ 232
  pub used : (i : ℕ) → i < length entries → is_used (slot area i) ≡ true
  pub shown : (i : ℕ) → i < length entries → slice_get entries i ≡ Some (entry_in (slot area i))
  pub free : (i : ℕ) → length entries ≤ i → i < 232 → is_free (slot area i) ≡ true

-- some slot below i is free
unfoldable pub some_free_below : List (List ℕ) → ℕ → Bool
some_free_below area zero = false
some_free_below area (suc i) = is_free (slot area i) || some_free_below area i

-- a volume does not lie behind the table, forwards, on the cartridge and behind the volume before it
abbrev pub has_bad_range : List (List ℕ) → (last i : ℕ) → Bool
has_bad_range area last i =
    let e : Entry = entry_in (slot area i) in
    nat_lt e.start 3 || nat_lt e.end e.start || nat_lt last e.end
    || (nat_lt 0 i && nat_le e.start (entry_in (slot area (i - 1))).end)

-- the fault of slot i, on a cartridge whose last segment is this: no slot of a volume behind the others, or a bad range
unfoldable pub slot_fault : List (List ℕ) → (last i : ℕ) → Option HeaderFault
slot_fault area last i =
    if is_free (slot area i) then None
    else if not (is_used (slot area i)) || some_free_below area i then Some (record { field = Slot; value = i })
    else if has_bad_range area last i then Some (record { field = Range; value = i }) else None

-- the first slot at fault
pub record IsFirstFault (area : List (List ℕ)) (last : ℕ) (fault : HeaderFault) : Type 0 where
  pub place : ℕ
  pub within : place < 232
  pub here : slot_fault area last place ≡ Some fault
  pub before : (i : ℕ) → i < place → slot_fault area last i ≡ None

-- no slot is at fault
abbrev pub HasNoFault : List (List ℕ) → ℕ → Type 0
HasNoFault area last = (i : ℕ) → i < 232 → slot_fault area last i ≡ None
