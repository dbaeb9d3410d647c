-- What is read by sets of sectors that are left out of account: at most one thing, and something.
use Rattle.std.proofs.Common.{ℕ, ◌≤◌, List, [], ◌∷◌, ◌≡◌, true, arith, length, Bool, false, ◌++◌, inr, Option, Some, None, inl, refl, subst}
use Rattle.std.proofs.Common.{nat_lt, sym, ◌∙◌, ap, ◌⊎◌, All}
use Rattle.std.specs.Prelude.{if◌then◌else◌, ◌==◌}
use Rattle.std.proofs.lemmas.Bool.{eqb-true, cases_lt}
use Rattle.std.proofs.lemmas.List.Elements.{All-nil, All-cons, All-head, All-tail}
use Rattle.cartridge_laws.proofs.Blocks.{says_always}
use Rattle.cartridge_laws.proofs.Cells.{unreadable_at}
use Rattle.cartridge_laws.proofs.Hiding.{nothing_is_hidden}
use Rattle.cartridge_laws.proofs.Sayings.{says_is_function}
use Rattle.cartridge_laws.proofs.Sets.{IsOneOf, few_outside, unreadable_is_named, views_hidden}
use Rattle.cartridge_laws.specs.TableCells.{sets_by_one, sets_by_two, last_used, unreadable_places, table_sets}
use Rattle.cartridge_laws.specs.Segment.{hidden, HasNoBlocks}
use Rattle.cartridge_spec.specs.Says.{unreadable_count, Data, HasBlock, HasNoBlock, HasFirstBlock, Saying, LostSectors, Mismatch, SaysBy}
use Rattle.cartridge_spec.specs.Says.{Says, set_of, with_used, sets_by}
use Rattle.qic_base.specs.CartridgeTerms.{IsView}
use Rattle.qic_base.specs.declared.tape.SectorView.{SectorView}

-- ---- sets that leave enough sectors

-- outside each of the sets at most three cells are unreadable
abbrev pub AreSmall : List SectorView → List ℕ → Type 0
AreSmall cells [] = Unit {0}
AreSmall cells (set ∷ sets) = (unreadable_count (hidden set cells) ≤ 3) × AreSmall cells sets

-- none but the cells at these places is unreadable
abbrev pub AreAmong : List SectorView → List ℕ → Type 0
AreAmong cells places = (i : ℕ) → unreadable_at cells i ≡ true → IsOneOf places i

small_set : (cells : List SectorView) (ps : List ℕ) → length ps ≤ 3 → AreAmong cells ps → unreadable_count (hidden (set_of ps) cells) ≤ 3
small_set cells ps few among = let all = few_outside cells ps among in omega arith

small_if : (cells : List SectorView) (b : Bool) (xs ys : List ℕ) → AreSmall cells xs → AreSmall cells ys →
    AreSmall cells (if b then xs else ys)
small_if cells true xs ys hx hy = hx
small_if cells false xs ys hx hy = hy

small_both : (cells : List SectorView) (xs ys : List ℕ) → AreSmall cells xs → AreSmall cells ys → AreSmall cells (xs ++ ys)
small_both cells [] ys hx hy = hy
small_both cells (x ∷ xs) ys hx hy = (hx.0, small_both cells xs ys hx.1 hy)

small_with_used : (cells : List SectorView) (used : Option ℕ) (ps : List ℕ) → length ps ≤ 2 → AreAmong cells ps →
    AreSmall cells (with_used used ps)
small_with_used cells None ps few among = tt
small_with_used cells (Some k) ps few among = (small_set cells (k ∷ ps) (omega arith) (λ i un. inr (among i un)), tt)

small_by_one : (cells : List SectorView) (used : Option ℕ) (m : ℕ) → AreAmong cells (m ∷ []) → AreSmall cells (sets_by_one used m)
small_by_one cells used m among = (
  small_set cells (m ∷ 31 ∷ []) (omega arith) (λ i un. front i 31 [] (among i un)),
  (
    small_set cells (m ∷ 29 ∷ []) (omega arith) (λ i un. front i 29 [] (among i un)),
    small_both cells (with_used used (m ∷ [])) (set_of (m ∷ 30 ∷ 31 ∷ []) ∷ []) (small_with_used cells used (m ∷ []) (omega arith) among)
        (small_set cells (m ∷ 30 ∷ 31 ∷ []) (omega arith) (λ i un. front i 30 (31 ∷ []) (among i un)), tt),
  ),
)
  where
    front : (i p : ℕ) (ps : List ℕ) → IsOneOf (m ∷ []) i → IsOneOf (m ∷ p ∷ ps) i
    front i p ps (inl same) = inl same
    front i p ps (inr other) = absurd other

abbrev by_other : (used : Option ℕ) (m : ℕ) (a b : Bool) → List ℕ
by_other used m a b = if a then with_used used (m ∷ 29 ∷ []) else if b then set_of (m ∷ 30 ∷ 31 ∷ []) ∷ [] else []

small_by_tests : (cells : List SectorView) (used : Option ℕ) (m other : ℕ) (a b : Bool) → (a ≡ true → other ≡ 29) →
    (b ≡ true → other ≡ 30) →
    AreAmong cells (m ∷ other ∷ []) → AreSmall cells (by_other used m a b)
small_by_tests cells used m other true b is_29 is_30 among =
    small_with_used cells used (m ∷ 29 ∷ []) (omega arith) (subst (λ (p : ℕ). AreAmong cells (m ∷ p ∷ [])) (is_29 refl) among)
small_by_tests cells used m other false true is_29 is_30 among = (
  small_set cells (m ∷ 30 ∷ 31 ∷ []) (omega arith)
      (λ i un. front i (subst (λ (p : ℕ). IsOneOf (m ∷ p ∷ []) i) (is_30 refl) (among i un))),
  tt,
)
  where
    front : (i : ℕ) → IsOneOf (m ∷ 30 ∷ []) i → IsOneOf (m ∷ 30 ∷ 31 ∷ []) i
    front i (inl same) = inl same
    front i (inr (inl same)) = inr (inl same)
    front i (inr (inr other)) = absurd other
small_by_tests cells used m other false false is_29 is_30 among = tt

small_by_two : (cells : List SectorView) (used : Option ℕ) (m other : ℕ) → AreAmong cells (m ∷ other ∷ []) →
    AreSmall cells (sets_by_two used m other)
small_by_two cells used m other among =
    small_by_tests cells used m other (other == 29) (other == 30) (eqb-true other 29) (eqb-true other 30) among

pub small_sets : (cells : List SectorView) (used : Option ℕ) (ps : List ℕ) → AreAmong cells ps → AreSmall cells (sets_by used ps)
small_sets cells used [] among = tt
small_sets cells used (m ∷ []) among =
    small_if cells (nat_lt m 29) (sets_by_one used m) [] (small_by_one cells used m among) tt
small_sets cells used (m ∷ other ∷ []) among =
    small_if cells (nat_lt m 29) (sets_by_two used m other) [] (small_by_two cells used m other among) tt
small_sets cells used (m ∷ other ∷ third ∷ more) among = tt

pub table_sets_are_small : (cells : List SectorView) → unreadable_count cells ≤ 3 → AreSmall cells (table_sets cells)
table_sets_are_small cells few = (
  subst (λ (cs : List SectorView). unreadable_count cs ≤ 3) (sym (nothing_is_hidden cells)) few,
  small_sets cells (last_used cells) (unreadable_places cells) (unreadable_is_named cells),
)

-- ---- at most one thing

one_block_outside : (cells : List SectorView) (xs ys : List (List ℕ)) → unreadable_count cells ≤ 3 → HasBlock cells xs →
    HasBlock cells ys → xs ≡ ys
one_block_outside cells xs ys few hx hy =
    let same : Data xs ≡ Data ys = says_is_function cells (Data xs) (Data ys) (few, hx) (few, hy) in
    cc

block_or_none : {P : Type 0} (cells : List SectorView) (xs : List (List ℕ)) → HasBlock cells xs → HasNoBlock cells → P
block_or_none cells xs has none = absurd (none has.block has.code has.agrees)

first_is_one : (sets : List ℕ) (cells : List SectorView) (xs ys : List (List ℕ)) → AreSmall cells sets →
    HasFirstBlock sets cells xs → HasFirstBlock sets cells ys → xs ≡ ys
first_is_one [] cells xs ys small hx hy = absurd hx
first_is_one (set ∷ sets) cells xs ys small (inl hx) (inl hy) = one_block_outside (hidden set cells) xs ys small.0 hx hy
first_is_one (set ∷ sets) cells xs ys small (inl hx) (inr hy) = block_or_none (hidden set cells) xs hx hy.0
first_is_one (set ∷ sets) cells xs ys small (inr hx) (inl hy) = block_or_none (hidden set cells) ys hy hx.0
first_is_one (set ∷ sets) cells xs ys small (inr hx) (inr hy) = first_is_one sets cells xs ys small.1 hx.1 hy.1

first_or_none : {P : Type 0} (sets : List ℕ) (cells : List SectorView) (xs : List (List ℕ)) → HasFirstBlock sets cells xs →
    HasNoBlocks sets cells → P
first_or_none [] cells xs has none = absurd has
first_or_none (set ∷ sets) cells xs (inl has) none =
    block_or_none (hidden set cells) xs has (All-head (λ (s : ℕ). HasNoBlock (hidden s cells)) set sets none)
first_or_none (set ∷ sets) cells xs (inr has) none =
    first_or_none sets cells xs has.1 (All-tail (λ (s : ℕ). HasNoBlock (hidden s cells)) set sets none)

pub one_answer : (sets : List ℕ) (cells : List SectorView) (a b : Saying) → (unreadable_count cells ≤ 3 → AreSmall cells sets) →
    SaysBy sets cells a → SaysBy sets cells b → a ≡ b
one_answer sets cells (Data xs) (Data ys) small ha hb = ap Data (first_is_one sets cells xs ys (small ha.0) ha.1 hb.1)
one_answer sets cells (Data xs) (LostSectors n) small ha hb = absurd (omega (arith, ha.0, hb.0, hb.1))
one_answer sets cells (Data xs) Mismatch small ha hb = first_or_none sets cells xs ha.1 hb.1
one_answer sets cells (LostSectors m) (Data ys) small ha hb = absurd (omega (arith, hb.0, ha.0, ha.1))
one_answer sets cells (LostSectors m) (LostSectors n) small ha hb = ap LostSectors (sym ha.0 ∙ hb.0)
one_answer sets cells (LostSectors m) Mismatch small ha hb = absurd (omega (arith, hb.0, ha.0, ha.1))
one_answer sets cells Mismatch (Data ys) small ha hb = first_or_none sets cells ys hb.1 ha.1
one_answer sets cells Mismatch (LostSectors n) small ha hb = absurd (omega (arith, ha.0, hb.0, hb.1))
one_answer sets cells Mismatch Mismatch small ha hb = refl

-- ---- something

block_by : (cells : List SectorView) (saying : Saying) → unreadable_count cells ≤ 3 → Says cells saying →
    ((xs : List (List ℕ)) × HasBlock cells xs) ⊎ HasNoBlock cells
block_by cells (Data xs) few says = inl (xs, says.1)
block_by cells (LostSectors n) few says = absurd (omega (arith, few, says.0, says.1))
block_by cells Mismatch few says = inr says.1

find_first : (sets : List ℕ) (cells : List SectorView) → All IsView cells → AreSmall cells sets →
    ((xs : List (List ℕ)) × HasFirstBlock sets cells xs) ⊎ HasNoBlocks sets cells
find_first [] cells views small = inr (All-nil (λ (s : ℕ). HasNoBlock (hidden s cells)))
find_first (set ∷ sets) cells views small =
    let here = says_always (hidden set cells) (views_hidden set 0 cells views) in
    elim (block_by (hidden set cells) here.0 small.0 here.1) [
      | inl has ↦ inl (has.0, inl has.1)
      | inr none ↦ elim (find_first sets cells views small.1) [
        | inl has ↦ inl (has.0, inr (none, has.1))
        | inr others ↦ inr (All-cons (λ (s : ℕ). HasNoBlock (hidden s cells)) set sets none others)
      ]
    ]

pub code_always : (sets : List ℕ) (cells : List SectorView) → All IsView cells → (unreadable_count cells ≤ 3 → AreSmall cells sets) →
    (saying : Saying) × SaysBy sets cells saying
code_always sets cells views small =
    elim (cases_lt 3 (unreadable_count cells)) [
      | inl many ↦ (LostSectors (unreadable_count cells), (refl, many))
      | inr few ↦ elim (find_first sets cells views (small few)) [
        | inl has ↦ (Data has.0, (few, has.1))
        | inr none ↦ (Mismatch, (few, none))
      ]
    ]
