-- The entries of a bad sector list.
use Rattle.std.proofs.Common.{◌≡◌, ◌≢◌, ◌⊎◌, ◌↔◌, inl, inr, ⊎_elim, ℕ, ◌+◌, ◌-◌, ◌*◌, ◌/◌, ◌%◌, ◌^◌, ◌<◌, ◌≤◌, ◌==◌, ◌&&◌, ◌||◌}
use Rattle.std.proofs.Common.{Bool, true, false}
use Rattle.std.proofs.Common.{List, [], ◌∷◌, ◌++◌, length, drop, get_or, if◌then◌else◌, nat_lt, refl, sym, ap, ◌∙◌, arith, append_assoc}
use Rattle.std.proofs.Common.{append-nil, length-drop}
use Rattle.std.proofs.lemmas.Bool.Decides.{nat_tests}
use Rattle.std.proofs.lemmas.Bool.{cases_eq, ne_eqb, eq-eqb}
use Rattle.std.proofs.lemmas.List.{drop_more}
use Rattle.std.proofs.lemmas.List.Folds.{list_any-append}
use Rattle.std.specs.Int.{bit_at}
use Rattle.std.specs.List.{list_any}
use Rattle.cartridge_spec.specs.Volumes.{bytes_in}
use Rattle.rescue_map.specs.Mask.{IsMarked}
use Rattle.dump_spec.specs.Header.{list_entries, names_sector}
use Rattle.dump_header.specs.Marking.{MarksToo, entry_in}
use Rattle.dump_header.proofs.Bytes.{AreLong, byte_is, length-bytes_in}

-- ---- an entry more

-- an entry's three bytes
three_bytes : (bytes : List ℕ) (at : ℕ) → at + 3 ≤ length bytes →
    drop at bytes ≡ get_or bytes at 0 ∷ get_or bytes (at + 1) 0 ∷ get_or bytes (at + 2) 0 ∷ drop (at + 3) bytes
three_bytes bytes at here =
    let two : at + 1 + 1 ≡ at + 2 = omega arith in
    let three : at + 2 + 1 ≡ at + 3 = omega arith in
    drop_more bytes at 0 (omega arith)
    ∙ ap (λ (xs : List ℕ). get_or bytes at 0 ∷ xs) (drop_more bytes (at + 1) 0 (omega arith)
    ∙ ap (λ (xs : List ℕ). get_or bytes (at + 1) 0 ∷ xs) (ap (λ (n : ℕ). drop n bytes) two ∙ drop_more bytes (at + 2) 0 (omega arith)
    ∙ ap (λ (n : ℕ). get_or bytes (at + 2) 0 ∷ drop n bytes) three))

-- the entries from a byte on
abbrev pub entries_at : List (List ℕ) → ℕ → List ℕ
entries_at area at = list_entries (drop at (bytes_in area))

entry_is : (area : List (List ℕ)) (at : ℕ) → AreLong area → length area ≡ 29 → at + 3 ≤ 29696 → entries_at area at
    ≡ (if entry_in area at == 0 then [] else entry_in area at ∷ entries_at area (at + 3))
entry_is area at long count here =
    let bytes : List ℕ = bytes_in area in
    let all : length (bytes_in area) ≡ 1024 * length area = length-bytes_in area long in
    let low = byte_is area at long (omega arith) in
    let middle = byte_is area (at + 1) long (omega arith) in
    let high = byte_is area (at + 2) long (omega arith) in
    ap list_entries (three_bytes (bytes_in area) at (omega arith)) ∙ rw (low, middle, high) refl

pub entry_some : (area : List (List ℕ)) (at : ℕ) → AreLong area → length area ≡ 29 → at + 3 ≤ 29696 → entry_in area at ≢ 0 →
    entries_at area at ≡ entry_in area at ∷ entries_at area (at + 3)
entry_some area at long count here some =
    let other : (entry_in area at == 0) ≡ false = ne_eqb (entry_in area at) 0 some in
    entry_is area at long count here ∙ rw other refl

pub entry_none : (area : List (List ℕ)) (at : ℕ) → AreLong area → length area ≡ 29 → at + 3 ≤ 29696 → entry_in area at ≡ 0 →
    entries_at area at ≡ []
entry_none area at long count here none =
    let same : (entry_in area at == 0) ≡ true = eq-eqb (entry_in area at) 0 none in
    entry_is area at long count here ∙ rw same refl

-- one that the end cuts
short_list : (bytes : List ℕ) → length bytes < 3 → list_entries bytes ≡ []
short_list [] short = refl
short_list (a ∷ []) short = refl
short_list (a ∷ b ∷ []) short = refl
short_list (a ∷ b ∷ c ∷ bytes) short = absurd (omega arith)

pub entry_cut : (area : List (List ℕ)) (at : ℕ) → AreLong area → length area ≡ 29 → 29696 < at + 3 → entries_at area at ≡ []
entry_cut area at long count past =
    let all : length (bytes_in area) ≡ 1024 * length area = length-bytes_in area long in
    let rest : length (drop at (bytes_in area)) ≡ length (bytes_in area) - at = length-drop at (bytes_in area) in
    short_list (drop at (bytes_in area)) (omega arith)

-- ---- what an entry names

-- the bits of words that were marked, by segment and index
bits_marked : (old new : List ℕ) (first end : ℕ) (test : ℕ → ℕ → Bool) →
    ((bit : ℕ) → bit < 32 * length old → (IsMarked new bit ↔ (IsMarked old bit ⊎ ((first ≤ bit) × (bit < end))))) →
    ((segment index : ℕ) → index < 32 →
    ((test segment index ≡ true) ↔ ((first ≤ 32 * segment + index) × (32 * segment + index < end)))) →
    MarksToo old new test
bits_marked old new first end test marks is segment index here low =
    let word : (32 * segment + index) / 32 ≡ segment = omega arith in
    let place : (32 * segment + index) % 32 ≡ index = omega arith in
    let bit = rw (word, place) at (marks (32 * segment + index) (omega arith)) in
    let range = is segment index low in (
      (λ m. ⊎_elim (λ o. inl o) (λ r. inr (range.1 r)) (bit.0 m)),
      (λ m. bit.1 (⊎_elim (λ o. inl o) (λ t. inr (range.0 t)) m)),
    )

names_by : (entry segment index : ℕ) (t : Bool) → entry % 2 ^ 23 ≢ 0 → (bit_at entry 23 == 1) ≡ t → names_sector entry segment index
    ≡ (((entry % 2 ^ 23 - 1) / 32 == segment) && (t || ((entry % 2 ^ 23 - 1) % 32 == index)))
names_by entry segment index t some is =
    let there : nat_lt 0 (entry % 2 ^ 23) ≡ true = grind (arith, nat_tests) in
    rw (there, is) refl

one_sector : (n segment index : ℕ) → index < 32 →
    (((n / 32 == segment) && (false || (n % 32 == index))) ≡ true) ↔ ((n ≤ 32 * segment + index) × (32 * segment + index < n + 1))
one_sector n segment index low = ⊎_elim
    (λ (s : n / 32 ≡ segment). ⊎_elim
    (λ (i : n % 32 ≡ index). let a = eq-eqb (n / 32) segment s in let b = eq-eqb (n % 32) index i in
    rw (a, b) ((λ h. (omega arith, omega arith)), (λ h. refl)))
    (λ (i : n % 32 ≢ index). let a = eq-eqb (n / 32) segment s in let b = ne_eqb (n % 32) index i in
    rw (a, b) (
      (λ h. absurd (cc)),
      (λ (h : (n ≤ 32 * segment + index) × (32 * segment + index < n + 1)).
          let f = h.0 in let g = h.1 in absurd (omega (arith, i))),
    ))
    (cases_eq (n % 32) index))
    (λ (s : n / 32 ≢ segment). let a = ne_eqb (n / 32) segment s in
    rw a (
      (λ h. absurd (cc)),
      (λ (h : (n ≤ 32 * segment + index) × (32 * segment + index < n + 1)).
          let f = h.0 in let g = h.1 in absurd (omega (arith, s))),
    ))
    (cases_eq (n / 32) segment)

all_sectors : (n segment index : ℕ) → index < 32 →
    (((n / 32 == segment) && true) ≡ true) ↔ ((n / 32 * 32 ≤ 32 * segment + index) × (32 * segment + index < n / 32 * 32 + 32))
all_sectors n segment index low = ⊎_elim
    (λ (s : n / 32 ≡ segment). let a = eq-eqb (n / 32) segment s in rw a ((λ h. (omega arith, omega arith)), (λ h. refl)))
    (λ (s : n / 32 ≢ segment). let a = ne_eqb (n / 32) segment s in
    rw a (
      (λ h. absurd (cc)),
      (λ (h : (n / 32 * 32 ≤ 32 * segment + index) × (32 * segment + index < n / 32 * 32 + 32)).
          let f = h.0 in let g = h.1 in absurd (omega (arith, s))),
    ))
    (cases_eq (n / 32) segment)

pub mark_one : (old new : List ℕ) (entry number : ℕ) → entry < 2 ^ 23 → number ≡ entry % 2 ^ 23 → number ≢ 0 →
    ((bit : ℕ) → bit < 32 * length old →
    (IsMarked new bit ↔ (IsMarked old bit ⊎ ((number - 1 ≤ bit) × (bit < number - 1 + 1))))) →
    MarksToo old new (names_sector entry)
mark_one old new entry number small is some marks =
    let clear : (bit_at entry 23 == 1) ≡ false = ne_eqb (bit_at entry 23) 1 (λ e. omega arith) in
    bits_marked old new (number - 1) (number - 1 + 1) (names_sector entry) marks
    (λ segment index low.
    rw (names_by entry segment index false (λ e. some (is ∙ e)) clear, ← is) (one_sector (number - 1) segment index low))

pub mark_all : (old new : List ℕ) (entry number : ℕ) → 2 ^ 23 ≤ entry → entry < 2 ^ 24 → number ≡ entry % 2 ^ 23 → number ≢ 0 →
    ((bit : ℕ) → bit < 32 * length old →
    (IsMarked new bit ↔ (IsMarked old bit ⊎ (((number - 1) / 32 * 32 ≤ bit) × (bit < (number - 1) / 32 * 32 + 32))))) →
    MarksToo old new (names_sector entry)
mark_all old new entry number great small is some marks =
    let set : (bit_at entry 23 == 1) ≡ true = eq-eqb (bit_at entry 23) 1 (omega arith) in
    bits_marked old new ((number - 1) / 32 * 32) ((number - 1) / 32 * 32 + 32) (names_sector entry) marks
    (λ segment index low.
    rw (names_by entry segment index true (λ e. some (is ∙ e)) set, ← is) (all_sectors (number - 1) segment index low))

-- ---- a list

-- the test of whether entries name a sector
abbrev pub named_by : List ℕ → ℕ → ℕ → Bool
named_by entries segment index = list_any (λ entry. names_sector entry segment index) entries

-- so many entries were taken, up to a byte
pub record ListSoFar (area : List (List ℕ)) (offset at : ℕ) (old new : List ℕ) : Type 0 where
  pub done : List ℕ
  pub entries : entries_at area offset ≡ done ++ entries_at area at
  pub marks : MarksToo old new (named_by done)

any_push : (p : ℕ → Bool) (xs : List ℕ) (x : ℕ) → (list_any p (xs ++ x ∷ []) ≡ true) ↔ ((list_any p xs ≡ true) ⊎ (p x ≡ true))
any_push p xs x = rw (list_any-append p xs (x ∷ [])) (by_tests (list_any p xs) (p x)) where
  by_tests : (a b : Bool) → ((a || (b || false)) ≡ true) ↔ ((a ≡ true) ⊎ (b ≡ true))
  by_tests true b = ((λ h. inl refl), (λ h. refl))
  by_tests false true = ((λ h. inr refl), (λ h. refl))
  by_tests false false = ((λ h. absurd (cc)), (λ h. ⊎_elim (λ e. e) (λ e. e) h))

pub list_next : (area : List (List ℕ)) (offset at entry : ℕ) (old words new : List ℕ) → length words ≡ length old →
    entries_at area at ≡ entry ∷ entries_at area (at + 3) → MarksToo words new (names_sector entry) →
    ListSoFar area offset at old words → ListSoFar area offset (at + 3) old new
list_next area offset at entry old words new long is marks far = record {
  done = far.done ++ entry ∷ [];
  entries = far.entries ∙ ap (λ (es : List ℕ). far.done ++ es) is ∙ sym (append_assoc far.done (entry ∷ []) (entries_at area (at + 3)));
  marks = λ segment index here low.
      let before = far.marks segment index here low in
      let now = marks segment index (omega arith) low in
      let either = any_push (λ e. names_sector e segment index) far.done entry in (
        (λ m. ⊎_elim (λ o. ⊎_elim (λ b. inl b) (λ t. inr (either.1 (inl t))) (before.0 o)) (λ t. inr (either.1 (inr t))) (now.0 m)),
        (λ m. now.1 (⊎_elim (λ b. inl (before.1 (inl b)))
            (λ t. ⊎_elim (λ d. inl (before.1 (inr d))) (λ n. inr n) (either.0 t)) m)),
      );
}

pub list_end : (area : List (List ℕ)) (offset at : ℕ) (old new : List ℕ) → entries_at area at ≡ [] → ListSoFar area offset at old new →
    MarksToo old new (named_by (entries_at area offset))
list_end area offset at old new none far =
    let all : entries_at area offset ≡ far.done = far.entries ∙ ap (λ (es : List ℕ). far.done ++ es) none ∙ append-nil far.done in
    rw all far.marks
