-- The sectors of a piece, as they were read.
use Rattle.std.proofs.Common.{◌≡◌, ℕ, zero, suc, ◌+◌, ◌-◌, ◌*◌, ◌/◌, ◌%◌, ◌<◌, ◌≤◌, ◌↔◌, ◌==◌, ◌&&◌}
use Rattle.std.proofs.Common.{nat_le, nat_lt, not, min, Bool, true, false}
use Rattle.std.proofs.Common.{List, length, take, drop, Option, IfSome, if◌then◌else◌, refl, sym, ap, subst, ◌∙◌, arith}
use Rattle.std.proofs.Common.{inl, inr}
use Rattle.std.specs.Int.{bit_at}
use Rattle.std.specs.Simd.{first_chunks}
use Rattle.std.specs.Prelude.{slice_index, slice_range}
use Rattle.std.proofs.lemmas.Bool.{cases_lt, eq-eqb, eqb-true}
use Rattle.std.proofs.lemmas.Bool.Decides.{nat_tests}
use Rattle.std.proofs.lemmas.List.{drop-drop, drop-take, take-take}
use Rattle.cartridge_laws.proofs.FreshFields.{and-left}
use Rattle.cartridge_spec.specs.Shape.{sector_at}
use Rattle.dump_spec.specs.Dump.{Dump}
use Rattle.qic_base.specs.CartridgeTerms.{is_lost}
use Rattle.qic_base.specs.declared.tape.SectorView.TheVariants.{Lost, Holds}
use Rattle.rescue_map.specs.Mask.{IsMarked}
use Rattle.silent_locate.specs.Deep.{cell_of}
use Rattle.dump_reader.specs.Piece.{IsDumpIn, HoldsSectors, is_marked, is_unread}

-- ---- chunks

chunk_at : (k i : ℕ) (xs : List ℕ) → i < k → sector_at (first_chunks 1024 k xs) i ≡ take 1024 (drop (1024 * i) xs)
chunk_at zero i xs h = absurd (omega arith)
chunk_at (suc k) zero xs h = refl
chunk_at (suc k) (suc i) xs h =
    let more : 1024 + 1024 * i ≡ 1024 * suc i = omega arith in
    chunk_at k i (drop 1024 xs) (omega arith)
    ∙ ap (λ (ys : List ℕ). take 1024 ys) (drop-drop (1024 * i) 1024 xs ∙ ap (λ (m : ℕ). drop m xs) more)

-- what lies in a front of two lists that they share
in_front : (at n : ℕ) (xs : List ℕ) → at + 1024 ≤ n → take 1024 (drop at (take n xs)) ≡ take 1024 (drop at xs)
in_front at n xs h =
    let m : ℕ = n - at in
    let whole : n ≡ at + m = omega arith in
    ap (λ (k : ℕ). take 1024 (drop at (take k xs))) whole ∙ ap (λ (ys : List ℕ). take 1024 ys) (drop-take at m xs)
    ∙ take-take 1024 m (drop at xs) (omega arith)

shared_front : (at n : ℕ) (xs ys : List ℕ) → at + 1024 ≤ n → take n xs ≡ take n ys → take 1024 (drop at xs) ≡ take 1024 (drop at ys)
shared_front at n xs ys h same =
    sym (in_front at n xs h) ∙ ap (λ (zs : List ℕ). take 1024 (drop at zs)) same ∙ in_front at n ys h

-- the sector with an index, of bytes whose first ones are those of a dump from a sector on
read_sector : (bytes dump_bytes : List ℕ) (start n index : ℕ) → take n bytes ≡ take n (drop (1024 * start) dump_bytes) → index < 32 →
    1024 * index + 1024 ≤ n → sector_at (first_chunks 1024 32 bytes) index
    ≡ slice_range dump_bytes (1024 * (start + index)) (1024 * (start + index) + 1024)
read_sector bytes dump_bytes start n index same low within =
    let place : 1024 * start + 1024 * index ≡ 1024 * (start + index) = omega arith in
    let width : 1024 ≡ 1024 * (start + index) + 1024 - 1024 * (start + index) = omega arith in
    chunk_at 32 index bytes low
    ∙ shared_front (1024 * index) n bytes (drop (1024 * start) dump_bytes) within same
    ∙ ap (λ (ys : List ℕ). take 1024 ys) (drop-drop (1024 * index) (1024 * start) dump_bytes
    ∙ ap (λ (m : ℕ). drop m dump_bytes) place)
    ∙ ap (λ (w : ℕ). take w (drop (1024 * (start + index)) dump_bytes)) width

-- ---- which sectors can be read

pub same_test : (bit : ℕ) (there : Bool) → ((bit ≡ 1) ↔ (there ≡ true)) → (bit == 1) ≡ there
same_test bit true is = eq-eqb bit 1 (is.1 refl)
same_test bit false is = by_bit (bit == 1) refl where
  by_bit : (t : Bool) → (bit == 1) ≡ t → t ≡ false
  by_bit true e = absurd (let f = is.0 (eqb-true bit 1 e) in cc)
  by_bit false e = refl

-- a sector that the dump has all bytes of has a bit
marked_if_rescued : (dump : Dump) (rescued : List ℕ) (q : ℕ) → length dump.bytes ≤ 32768 * length rescued →
    ((k : ℕ) → k < 32 * length rescued → (IsMarked rescued k ↔ (dump.rescued k ≡ true))) →
    1024 * q + 1024 ≤ length dump.bytes → is_marked rescued q ≡ dump.rescued q
marked_if_rescued dump rescued q covers set whole =
    let within : q < 32 * length rescued = omega arith in
    let few : nat_lt q (32 * length rescued) ≡ true = grind (arith, nat_tests) in
    rw few (same_test (bit_at (slice_index rescued (q / 32)) (q % 32)) (dump.rescued q) (set q within))

readable : (dump : Dump) (rescued : List ℕ) (start count n index : ℕ) → length dump.bytes ≤ 32768 * length rescued →
    ((k : ℕ) → k < 32 * length rescued → (IsMarked rescued k ↔ (dump.rescued k ≡ true))) →
    n ≡ min (1024 * count) (length dump.bytes - 1024 * start) → index < count →
    (nat_lt index (n / 1024) && is_marked rescued (start + index))
    ≡ (nat_le (1024 * (start + index) + 1024) (length dump.bytes) && dump.rescued (start + index))
readable dump rescued start count n index covers set amount below = elim (cases_lt (length dump.bytes) (1024 * (start + index) + 1024)) [
  | inl short ↦
      let past : nat_lt index (n / 1024) ≡ false = grind (arith, nat_tests) in
      let none : nat_le (1024 * (start + index) + 1024) (length dump.bytes) ≡ false = grind (arith, nat_tests) in
      rw (past, none) refl
  | inr whole ↦
      let held : nat_lt index (n / 1024) ≡ true = grind (arith, nat_tests) in
      let all : nat_le (1024 * (start + index) + 1024) (length dump.bytes) ≡ true = grind (arith, nat_tests) in
      rw (held, all) (marked_if_rescued dump rescued (start + index) covers set whole)
]

view_is : (there lost : Bool) (held shown : List ℕ) → lost ≡ not there → (there ≡ true → held ≡ shown) →
    cell_of lost held ≡ (if there then Holds shown else Lost)
view_is true lost held shown is same = ap (λ (t : Bool). cell_of t held) is ∙ ap Holds (same refl)
view_is false lost held shown is same = ap (λ (t : Bool). cell_of t held) is

-- ---- the sectors that were read

holds_told : (dump : Dump) (rescued bytes : List ℕ) (start count n unread : ℕ) → length dump.bytes ≤ 32768 * length rescued →
    ((k : ℕ) → k < 32 * length rescued → (IsMarked rescued k ↔ (dump.rescued k ≡ true))) → count ≤ 32 →
    n ≡ min (1024 * count) (length dump.bytes - 1024 * start) → take n bytes ≡ take n (drop (1024 * start) dump.bytes) →
    ((index : ℕ) → index < 32 → is_lost unread index ≡ is_unread rescued start (n / 1024) index) →
    HoldsSectors dump start count unread (first_chunks 1024 32 bytes)
holds_told dump rescued bytes start count n unread covers set few amount same are index below =
    let low : index < 32 = omega arith in
    let q : ℕ = start + index in
    let there : Bool = nat_le (1024 * q + 1024) (length dump.bytes) && dump.rescued q in
    view_is there (is_lost unread index) (sector_at (first_chunks 1024 32 bytes) index)
    (slice_range dump.bytes (1024 * q) (1024 * q + 1024))
    (are index low ∙ ap not (readable dump rescued start count n index covers set amount below))
    (λ can.
    let whole : 1024 * q + 1024 ≤ length dump.bytes =
    whole_if (1024 * q + 1024) (length dump.bytes)
    (and-left (nat_le (1024 * q + 1024) (length dump.bytes)) (dump.rescued q) can) in
    read_sector bytes dump.bytes start n index same low (omega arith))
  where
    whole_if : (a b : ℕ) → nat_le a b ≡ true → a ≤ b
    whole_if a b h = grind (arith, nat_tests)

pub holds_sectors : (told : Option (List ℕ)) (dump : Dump) (rescued bytes : List ℕ) (sectors : List (List ℕ))
    (at start count n unread : ℕ) → at ≡ start → IsDumpIn told rescued dump → count ≤ 32 →
    IfSome told (λ disk_bytes. n ≡ min (1024 * count) (length disk_bytes - 1024 * at)) →
    IfSome told (λ disk_bytes. take n bytes ≡ take n (drop (1024 * at) disk_bytes)) → sectors ≡ first_chunks 1024 32 bytes →
    ((index : ℕ) → index < 32 → is_lost unread index ≡ is_unread rescued start (n / 1024) index) →
    HoldsSectors dump start count unread sectors
holds_sectors told dump rescued bytes sectors at start count n unread here is few amount same put are =
    subst (λ (s : List (List ℕ)). HoldsSectors dump start count unread s) (sym put)
    (holds_told dump rescued bytes start count n unread is.covers is.set few
    (rw here at (rw is.bytes at amount)) (rw here at (rw is.bytes at same)) are)
