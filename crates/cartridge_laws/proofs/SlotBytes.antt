-- The bytes of a slot show the entry that they were made from.
use Rattle.std.proofs.Common.{◌≡◌, ℕ, ◌+◌, ◌-◌, ◌≤◌, List, ◌++◌, length, take, drop, ap, ◌∙◌, arith, codes, [], ◌∷◌, replicate}
use Rattle.std.proofs.Common.{length-append, refl, ◌<◌, get_or, sym, true, eq-eqb, All}
use Rattle.std.specs.List.{slice_range}
use Rattle.std.proofs.lemmas.List.{take_all, drop_at, length-replicate, get_or_append_left, get_or_at, append_assoc}
use Rattle.std.specs.Prelude.{slice_index}
use Rattle.std.proofs.lemmas.List.Elements.{All-nil, All-cons, All-append, All-replicate}
use Rattle.cartridge_laws.specs.Slots.{FitsSlot}
use Rattle.cartridge_spec.specs.Table.{Entry, slot_bytes, is_used, entry_in}
use Rattle.qic_base.proofs.FieldLaws.{length-little_endian_bytes, little_endian-bytes}
use Rattle.qic_base.specs.Field.{little_endian_bytes, little_endian, number_at}
use Rattle.cartridge_laws.proofs.FreshBuilding.{number_bytes}
use lib.ListN.{length-drop}
use lib.Seq.{take-append-le, drop-append-le}

-- ---- parts of a list

range_left : (xs ys : List ℕ) (i j : ℕ) → i ≤ j → j ≤ length xs → slice_range (xs ++ ys) i j ≡ slice_range xs i j
range_left xs ys i j order within =
    ap (take (j - i)) (drop-append-le i xs ys (omega arith)) ∙ take-append-le (j - i) (drop i xs) ys (omega (arith, length-drop i xs))

range_last : (xs ys : List ℕ) (i j : ℕ) → length xs ≡ i → length ys ≡ j - i → slice_range (xs ++ ys) i j ≡ ys
range_last xs ys i j front long = ap (take (j - i)) (drop_at xs ys i front) ∙ take_all (j - i) ys (omega arith)

-- ---- the fields

-- the bytes in front of a place
abbrev front_6 : Entry → List ℕ
front_6 e = codes "VTBL" ++ little_endian_bytes 2 e.start

abbrev front_8 : Entry → List ℕ
front_8 e = front_6 e ++ little_endian_bytes 2 e.end

abbrev front_52 : Entry → List ℕ
front_52 e = front_8 e ++ e.name

abbrev front_56 : Entry → List ℕ
front_56 e = front_52 e ++ little_endian_bytes 4 e.date

abbrev front_58 : Entry → List ℕ
front_58 e = front_56 e ++ (e.flags ∷ e.sequence ∷ [])

abbrev front_92 : Entry → List ℕ
front_92 e = front_58 e ++ replicate 34 0

abbrev front_96 : Entry → List ℕ
front_96 e = front_92 e ++ little_endian_bytes 4 e.directory

abbrev front_104 : Entry → List ℕ
front_104 e = front_96 e ++ little_endian_bytes 8 e.size

longer : (xs ys : List ℕ) (n m : ℕ) → length xs ≡ n → length ys ≡ m → length (xs ++ ys) ≡ n + m
longer xs ys n m front rear = omega (arith, length-append xs ys)

long_6 : (e : Entry) → length (front_6 e) ≡ 6
long_6 e = longer (codes "VTBL") (little_endian_bytes 2 e.start) 4 2 refl (length-little_endian_bytes 2 e.start)

long_8 : (e : Entry) → length (front_8 e) ≡ 8
long_8 e = longer (front_6 e) (little_endian_bytes 2 e.end) 6 2 (long_6 e) (length-little_endian_bytes 2 e.end)

long_52 : (e : Entry) → length e.name ≡ 44 → length (front_52 e) ≡ 52
long_52 e name = longer (front_8 e) e.name 8 44 (long_8 e) name

long_56 : (e : Entry) → length e.name ≡ 44 → length (front_56 e) ≡ 56
long_56 e name = longer (front_52 e) (little_endian_bytes 4 e.date) 52 4 (long_52 e name) (length-little_endian_bytes 4 e.date)

long_58 : (e : Entry) → length e.name ≡ 44 → length (front_58 e) ≡ 58
long_58 e name = longer (front_56 e) (e.flags ∷ e.sequence ∷ []) 56 2 (long_56 e name) refl

long_92 : (e : Entry) → length e.name ≡ 44 → length (front_92 e) ≡ 92
long_92 e name = longer (front_58 e) (replicate 34 0) 58 34 (long_58 e name) (length-replicate {A = ℕ} 34 0)

long_96 : (e : Entry) → length e.name ≡ 44 → length (front_96 e) ≡ 96
long_96 e name = longer (front_92 e) (little_endian_bytes 4 e.directory) 92 4 (long_92 e name) (length-little_endian_bytes 4 e.directory)

long_104 : (e : Entry) → length e.name ≡ 44 → length (front_104 e) ≡ 104
long_104 e name = longer (front_96 e) (little_endian_bytes 8 e.size) 96 8 (long_96 e name) (length-little_endian_bytes 8 e.size)

pub length-slot_bytes : (e : Entry) → length e.name ≡ 44 → length (slot_bytes e) ≡ 128
length-slot_bytes e name = longer (front_104 e) (replicate 24 0) 104 24 (long_104 e name) (length-replicate {A = ℕ} 24 0)

-- a part that lies in front of a place
in_104 : (e : Entry) (i j : ℕ) → length e.name ≡ 44 → i ≤ j → j ≤ 104 → slice_range (slot_bytes e) i j ≡ slice_range (front_104 e) i j
in_104 e i j name order within = range_left (front_104 e) (replicate 24 0) i j order (omega (arith, long_104 e name))

in_96 : (e : Entry) (i j : ℕ) → length e.name ≡ 44 → i ≤ j → j ≤ 96 → slice_range (slot_bytes e) i j ≡ slice_range (front_96 e) i j
in_96 e i j name order within =
    in_104 e i j name order (omega arith) ∙ range_left (front_96 e) (little_endian_bytes 8 e.size) i j order (omega (arith, long_96 e name))

in_56 : (e : Entry) (i j : ℕ) → length e.name ≡ 44 → i ≤ j → j ≤ 56 → slice_range (slot_bytes e) i j ≡ slice_range (front_56 e) i j
in_56 e i j name order within =
    in_96 e i j name order (omega arith)
    ∙ range_left (front_92 e) (little_endian_bytes 4 e.directory) i j order (omega (arith, long_92 e name))
    ∙ range_left (front_58 e) (replicate 34 0) i j order (omega (arith, long_58 e name))
    ∙ range_left (front_56 e) (e.flags ∷ e.sequence ∷ []) i j order (omega (arith, long_56 e name))

in_52 : (e : Entry) (i j : ℕ) → length e.name ≡ 44 → i ≤ j → j ≤ 52 → slice_range (slot_bytes e) i j ≡ slice_range (front_52 e) i j
in_52 e i j name order within =
    in_56 e i j name order (omega arith) ∙ range_left (front_52 e) (little_endian_bytes 4 e.date) i j order (omega (arith, long_52 e name))

in_8 : (e : Entry) (i j : ℕ) → length e.name ≡ 44 → i ≤ j → j ≤ 8 → slice_range (slot_bytes e) i j ≡ slice_range (front_8 e) i j
in_8 e i j name order within = in_52 e i j name order (omega arith) ∙ range_left (front_8 e) e.name i j order (omega (arith, long_8 e))

in_6 : (e : Entry) (i j : ℕ) → length e.name ≡ 44 → i ≤ j → j ≤ 6 → slice_range (slot_bytes e) i j ≡ slice_range (front_6 e) i j
in_6 e i j name order within =
    in_8 e i j name order (omega arith) ∙ range_left (front_6 e) (little_endian_bytes 2 e.end) i j order (omega (arith, long_6 e))

signature_is : (e : Entry) → length e.name ≡ 44 → number_at (slot_bytes e) 0 4 ≡ little_endian (codes "VTBL")
unfolding number_at
signature_is e name =
    ap little_endian (in_6 e 0 4 name (omega arith) (omega arith) ∙ range_left (codes "VTBL") (little_endian_bytes 2 e.start) 0 4
    (omega arith) (omega arith))

start_is : (e : Entry) → FitsSlot e → number_at (slot_bytes e) 4 2 ≡ e.start
unfolding number_at
start_is e fits =
    ap little_endian (in_6 e 4 6 fits.name (omega arith) (omega arith)
    ∙ range_last (codes "VTBL") (little_endian_bytes 2 e.start) 4 6 refl (length-little_endian_bytes 2 e.start))
    ∙ little_endian-bytes 2 e.start fits.start

end_is : (e : Entry) → FitsSlot e → number_at (slot_bytes e) 6 2 ≡ e.end
unfolding number_at
end_is e fits =
    ap little_endian (in_8 e 6 8 fits.name (omega arith) (omega arith)
    ∙ range_last (front_6 e) (little_endian_bytes 2 e.end) 6 8 (long_6 e) (length-little_endian_bytes 2 e.end))
    ∙ little_endian-bytes 2 e.end fits.end

name_is : (e : Entry) → FitsSlot e → slice_range (slot_bytes e) 8 52 ≡ e.name
name_is e fits = in_52 e 8 52 fits.name (omega arith) (omega arith) ∙ range_last (front_8 e) e.name 8 52 (long_8 e) fits.name

date_is : (e : Entry) → FitsSlot e → number_at (slot_bytes e) 52 4 ≡ e.date
unfolding number_at
date_is e fits =
    ap little_endian (in_56 e 52 56 fits.name (omega arith) (omega arith)
    ∙ range_last (front_52 e) (little_endian_bytes 4 e.date) 52 56 (long_52 e fits.name) (length-little_endian_bytes 4 e.date))
    ∙ little_endian-bytes 4 e.date fits.date

directory_is : (e : Entry) → FitsSlot e → number_at (slot_bytes e) 92 4 ≡ e.directory
unfolding number_at
directory_is e fits =
    ap little_endian (in_96 e 92 96 fits.name (omega arith) (omega arith)
    ∙ range_last (front_92 e) (little_endian_bytes 4 e.directory) 92 96 (long_92 e fits.name) (length-little_endian_bytes 4 e.directory))
    ∙ little_endian-bytes 4 e.directory fits.directory

size_is : (e : Entry) → FitsSlot e → number_at (slot_bytes e) 96 8 ≡ e.size
unfolding number_at
size_is e fits =
    ap little_endian (in_104 e 96 104 fits.name (omega arith) (omega arith)
    ∙ range_last (front_96 e) (little_endian_bytes 8 e.size) 96 104 (long_96 e fits.name) (length-little_endian_bytes 8 e.size))
    ∙ little_endian-bytes 8 e.size fits.size

-- a byte in front of place 58
byte_in_58 : (e : Entry) (i : ℕ) → length e.name ≡ 44 → i < 58 → get_or (slot_bytes e) i 0 ≡ get_or (front_58 e) i 0
byte_in_58 e i name h =
    get_or_append_left (front_104 e) (replicate 24 0) 0 i (omega (arith, long_104 e name))
    ∙ get_or_append_left (front_96 e) (little_endian_bytes 8 e.size) 0 i (omega (arith, long_96 e name))
    ∙ get_or_append_left (front_92 e) (little_endian_bytes 4 e.directory) 0 i (omega (arith, long_92 e name))
    ∙ get_or_append_left (front_58 e) (replicate 34 0) 0 i (omega (arith, long_58 e name))

flags_are : (e : Entry) → FitsSlot e → slice_index (slot_bytes e) 56 ≡ e.flags
flags_are e fits = byte_in_58 e 56 fits.name (omega arith) ∙ get_or_at (front_56 e) e.flags (e.sequence ∷ []) 0 56 (long_56 e fits.name)

sequence_is : (e : Entry) → FitsSlot e → slice_index (slot_bytes e) 57 ≡ e.sequence
sequence_is e fits =
    byte_in_58 e 57 fits.name (omega arith)
    ∙ ap (λ (xs : List ℕ). get_or xs 57 0) (sym (append_assoc (front_56 e) (e.flags ∷ []) (e.sequence ∷ [])))
    ∙ get_or_at (front_56 e ++ e.flags ∷ []) e.sequence [] 0 57 (longer (front_56 e) (e.flags ∷ []) 56 1 (long_56 e fits.name) refl)

-- ---- the entry

pub slot_is_used : (e : Entry) → length e.name ≡ 44 → is_used (slot_bytes e) ≡ true
slot_is_used e name = eq-eqb _ _ (signature_is e name)

same_entry : (e : Entry) (start end date flags sequence directory size : ℕ) (name : List ℕ) → start ≡ e.start → end ≡ e.end →
    name ≡ e.name →
    date ≡ e.date → flags ≡ e.flags → sequence ≡ e.sequence → directory ≡ e.directory → size ≡ e.size →
    record {
      start = start;
      end = end;
      name = name;
      date = date;
      flags = flags;
      sequence = sequence;
      directory = directory;
      size = size;
    } ≡ e
same_entry e start end date flags sequence directory size name a b c d f g h i = rw (a, b, c, d, f, g, h, i) refl

pub slot_shows : (e : Entry) → FitsSlot e → entry_in (slot_bytes e) ≡ e
slot_shows e fits =
    same_entry e (number_at (slot_bytes e) 4 2) (number_at (slot_bytes e) 6 2) (number_at (slot_bytes e) 52 4)
    (slice_index (slot_bytes e) 56)
    (slice_index (slot_bytes e) 57) (number_at (slot_bytes e) 92 4) (number_at (slot_bytes e) 96 8) (slice_range (slot_bytes e) 8 52)
    (start_is e fits) (end_is e fits) (name_is e fits) (date_is e fits) (flags_are e fits) (sequence_is e fits) (directory_is e fits)
    (size_is e fits)

-- ---- its bytes are bytes

letters : All (λ b. b < 256) (codes "VTBL")
letters =
    All-cons (λ (b : ℕ). b < 256) 0x56 (0x54 ∷ 0x42 ∷ 0x4C ∷ []) (omega arith)
    (All-cons (λ (b : ℕ). b < 256) 0x54 (0x42 ∷ 0x4C ∷ []) (omega arith)
    (All-cons (λ (b : ℕ). b < 256) 0x42 (0x4C ∷ []) (omega arith)
    (All-cons (λ (b : ℕ). b < 256) 0x4C [] (omega arith) (All-nil (λ (b : ℕ). b < 256)))))

both_bytes : (xs ys : List ℕ) → All (λ b. b < 256) xs → All (λ b. b < 256) ys → All (λ b. b < 256) (xs ++ ys)
both_bytes xs ys front rear = All-append (λ (b : ℕ). b < 256) xs ys front rear

zeros : (n : ℕ) → All (λ b. b < 256) (replicate n 0)
zeros n = All-replicate (λ (b : ℕ). b < 256) n 0 (omega arith)

pub slot_are_bytes : (e : Entry) → All (λ b. b < 256) e.name → e.flags < 256 → e.sequence < 256 → All (λ b. b < 256) (slot_bytes e)
slot_are_bytes e name flags sequence =
    both_bytes (front_104 e) (replicate 24 0)
    (both_bytes (front_96 e) (little_endian_bytes 8 e.size)
    (both_bytes (front_92 e) (little_endian_bytes 4 e.directory)
    (both_bytes (front_58 e) (replicate 34 0)
    (both_bytes (front_56 e) (e.flags ∷ e.sequence ∷ [])
    (both_bytes (front_52 e) (little_endian_bytes 4 e.date)
    (both_bytes (front_8 e) e.name
    (both_bytes (front_6 e) (little_endian_bytes 2 e.end)
    (both_bytes (codes "VTBL") (little_endian_bytes 2 e.start) letters (number_bytes 2 e.start))
    (number_bytes 2 e.end))
    name)
    (number_bytes 4 e.date))
    (All-cons (λ (b : ℕ). b < 256) e.flags (e.sequence ∷ []) flags
    (All-cons (λ (b : ℕ). b < 256) e.sequence [] sequence (All-nil (λ (b : ℕ). b < 256)))))
    (zeros 34))
    (number_bytes 4 e.directory))
    (number_bytes 8 e.size))
    (zeros 24)
