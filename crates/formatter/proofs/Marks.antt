-- The map of the unreadable sectors, sector by sector.
use Rattle.std.proofs.Common.{refl, ◌≡◌, ◌≢◌, ◌↔◌, ℕ, ◌+◌, ◌^◌, ◌<◌, inl, inr, sym, ◌∙◌, ap, subst, arith, List, length, get_or, set, max}
use Rattle.std.proofs.Common.{replicate, ◌*◌}
use Rattle.std.proofs.Common.{get_or-set_same, get_or-set_other, w32, Option, Some, None, IfSome, Bool, true, false, ◌&&◌, ◌==◌}
use Rattle.std.specs.Int.{bit_at, trailing_zeros}
use Rattle.std.proofs.Math.ListN.{length-set}
use Rattle.std.proofs.Math.Pow.{pow-lt}
use Rattle.std.proofs.lemmas.Bool.{cases_eq, cases_lt, false≢true, true≢false}
use Rattle.std.proofs.lemmas.List.{get_or-replicate, get_or_past, length-replicate}
use Rattle.std.proofs.lemmas.Nat.{or_of_32}
use Rattle.std.proofs.lemmas.Nat.Bits.{bit_at_ones, bit_at-zero, bit_at-lt, bit_at_or}
use Rattle.std.proofs.lemmas.Nat.Bits.{bit_at-pow_same, bit_at-pow_other, bit_at-trailing_zeros}
use Rattle.qic_base.specs.Cartridge.{Cartridge, view_at}
use Rattle.qic_base.specs.CartridgeTerms.{place_of, with_place, is_lost}
use Rattle.qic_base.specs.Tape.{Meaning}
use Rattle.qic_base.specs.TapeCalls.{Tells, ReadsSectors, is_readable}
use Rattle.qic_base.specs.declared.tape.SectorView.{SectorView}
use Rattle.qic_base.specs.declared.tape.SectorView.TheVariants.{Blank, Defect, Lost, Holds}
use Rattle.cartridge_laws.specs.Segment.{IsUnreadable}
use Rattle.formatter.specs.Marking.{AreReadable, MarksBelow, MarksUnreadable, HasNoMark, IsMarked}

-- ---- a word with one bit more

bit_same : (word sector : ℕ) → bit_at (with_place word sector) sector ≡ 1
bit_same word sector =
    let other : bit_at word sector < 2 = bit_at-lt word sector in
    bit_at_or word (2 ^ sector) sector ∙ ap (max (bit_at word sector)) (bit_at-pow_same sector) ∙ omega arith

bit_other : (word sector i : ℕ) → i ≢ sector → bit_at (with_place word sector) i ≡ bit_at word i
bit_other word sector i apart =
    bit_at_or word (2 ^ sector) i ∙ ap (max (bit_at word i)) (bit_at-pow_other sector i apart) ∙ omega arith

bit_fits : (word sector : ℕ) → word < 2 ^ 32 → sector < 32 → with_place word sector < 2 ^ 32
bit_fits word sector fits within = or_of_32 word (2 ^ sector) fits (pow-lt {i = sector} {j = 32} within)

-- ---- the map

-- a place is that of one sector
one_place : (s i t j : ℕ) → i < 32 → j < 32 → place_of t j ≡ place_of s i → (t ≡ s) × (j ≡ i)
one_place s i t j low high same = (omega arith, omega arith)

-- what is said of the sectors of other places
other_sector : (c : Cartridge) (place t j : ℕ) (P : Type 0) → place_of t j ≢ place →
    P ↔ (place_of t j < place) × IsUnreadable (view_at c t j) →
    P ↔ (place_of t j < place + 1) × IsUnreadable (view_at c t j)
other_sector c place t j P apart iff = (
  λ is. let both = iff.0 is in let low : place_of t j < place = both.0 in (omega arith, both.1),
  λ both. let low : place_of t j < place + 1 = both.0 in iff.1 (omega arith, both.1),
)

-- the next sector can be read
pub marks_good : (c : Cartridge) (words : List ℕ) (s i : ℕ) → i < 32 → ¬ (IsUnreadable (view_at c s i)) →
    MarksBelow c words (place_of s i) → MarksBelow c words (place_of s i + 1)
marks_good c words s i within readable m = record {
  fits = m.fits;
  each = λ t j there low. elim (cases_eq (place_of t j) (place_of s i)) [
    | inl same ↦
        let one = one_place s i t j within low same in (
          λ is. let both = (m.each t j there low).0 is in let below : place_of t j < place_of s i = both.0 in absurd (omega arith),
          λ both. absurd (readable (subst (λ (k : ℕ). IsUnreadable (view_at c s k)) one.1
              (subst (λ (k : ℕ). IsUnreadable (view_at c k j)) one.0 both.1))),
        )
    | inr apart ↦ other_sector c (place_of s i) t j (IsMarked words t j) apart (m.each t j there low)
  ];
}

-- it can't, and is marked
pub marks_bad : (c : Cartridge) (words : List ℕ) (s i : ℕ) → s < length words → i < 32 → IsUnreadable (view_at c s i) →
    MarksBelow c words (place_of s i) → MarksBelow c (set words s (with_place (get_or words s 0) i)) (place_of s i + 1)
marks_bad c words s i there within unreadable m = record {
  fits = λ t. elim (cases_eq t s) [
    | inl same ↦ subst (λ (k : ℕ). get_or now k 0 < 2 ^ 32) (sym same)
        (subst (λ (word : ℕ). word < 2 ^ 32) (sym word_same) (bit_fits (get_or words s 0) i (m.fits s) within))
    | inr apart ↦ subst (λ (word : ℕ). word < 2 ^ 32) (sym (word_other t apart)) (m.fits t)
  ];
  each = λ t j inside low. elim (cases_eq (place_of t j) (place_of s i)) [
    | inl same ↦
        let one = one_place s i t j within low same in
        let bit : IsMarked now t j = subst (λ (k : ℕ). IsMarked now k j) (sym one.0)
        (subst (λ (k : ℕ). IsMarked now s k) (sym one.1) (ap (λ (word : ℕ). bit_at word i) word_same ∙ bit_same (get_or words s 0) i)) in (
          λ is. (
            omega arith,
            subst (λ (k : ℕ). IsUnreadable (view_at c k j)) (sym one.0)
                (subst (λ (k : ℕ). IsUnreadable (view_at c s k)) (sym one.1) unreadable),
          ),
          λ both. bit,
        )
    | inr apart ↦
        let was : t < length words = subst (λ (n : ℕ). t < n) (length-set words s (with_place (get_or words s 0) i)) inside in
        let kept : bit_at (get_or now t 0) j ≡ bit_at (get_or words t 0) j = bit_kept t j apart in
        let old = other_sector c (place_of s i) t j (IsMarked words t j) apart (m.each t j was low) in
        (λ is. old.0 (sym kept ∙ is), λ both. kept ∙ old.1 both)
  ];
}
  where
    now : List ℕ
    now = set words s (with_place (get_or words s 0) i)

    word_same : get_or now s 0 ≡ with_place (get_or words s 0) i
    word_same = get_or-set_same words s (with_place (get_or words s 0) i) 0 there

    word_other : (t : ℕ) → t ≢ s → get_or now t 0 ≡ get_or words t 0
    word_other t apart = get_or-set_other words s t (with_place (get_or words s 0) i) 0 apart

    bit_kept : (t j : ℕ) → place_of t j ≢ place_of s i → bit_at (get_or now t 0) j ≡ bit_at (get_or words t 0) j
    bit_kept t j apart = elim (cases_eq t s) [
      | inl same ↦
          let sector : j ≢ i = omega arith in
          ap (λ (k : ℕ). bit_at (get_or now k 0) j) same
          ∙ ap (λ (word : ℕ). bit_at word j) word_same
          ∙ bit_other (get_or words s 0) i j sector
          ∙ ap (λ (k : ℕ). bit_at (get_or words k 0) j) (sym same)
      | inr other ↦ ap (λ (word : ℕ). bit_at word j) (word_other t other)
    ]

-- nothing was read, and nothing is marked
no_word : (n segment : ℕ) → ◌≡◌ {A = ℕ} (get_or (replicate n 0) segment 0) 0
no_word n segment = elim (cases_lt segment n) [
  | inl there ↦ get_or-replicate n segment 0 0 there
  | inr past ↦ get_or_past (replicate n 0) segment 0 (grind (arith, length-replicate))
]

pub marks_none : (c : Cartridge) (n : ℕ) → MarksBelow c (replicate n 0) 0
marks_none c n = record {
  fits = λ segment. subst (λ (word : ℕ). word < 2 ^ 32) (sym (no_word n segment)) (omega arith);
  each = λ segment sector there within. (
    λ is. let bit : bit_at (get_or (replicate n 0) segment 0) sector ≡ 0 =
        ap (λ (word : ℕ). bit_at word sector) (no_word n segment) ∙ bit_at-zero sector in absurd (omega arith),
    λ both. let none : place_of segment sector < 0 = both.0 in absurd (omega arith),
  );
}

-- all was read
pub marks_all : (c : Cartridge) (words : List ℕ) → MarksBelow c words (32 * length words) → MarksUnreadable c words
marks_all c words m = record {
  fits = m.fits;
  each = λ segment sector there within.
      let iff = m.each segment sector there within in
      (λ is. (iff.0 is).1, λ bad. iff.1 (let before : place_of segment sector < 32 * length words = omega arith in before, bad));
}

-- by what a read of all 32 found
pub good_readable : (wanted good blank : ℕ) (view : ℕ → SectorView) (old new : List (List ℕ)) → wanted ≡ 4294967295 →
    ReadsSectors wanted good blank view old new → AreReadable good view
good_readable wanted good blank view old new all reads = λ i within.
    let asked : is_lost wanted i ≡ true = ap (λ (w : ℕ). is_lost w i) all ∙ ap (λ (b : ℕ). b == 1) (bit_at_ones 32 i within) in
    reads.good_are i within ∙ ap (λ (b : Bool). b && is_readable (view i)) asked

pub readable : (view : SectorView) → is_readable view ≡ true → ¬ (IsUnreadable view)
readable Blank is = absurd (false≢true is)
readable Defect is = absurd (false≢true is)
readable Lost is = absurd (false≢true is)
readable (Holds bytes) is = λ bad. false≢true bad

pub unreadable : (view : SectorView) → is_readable view ≡ false → IsUnreadable view
unreadable Blank is = refl
unreadable Defect is = refl
unreadable Lost is = refl
unreadable (Holds bytes) is = absurd (true≢false is)

-- ---- a word by its marks

pub record HasMark (words : List ℕ) (segment : ℕ) : Type 0 where
  pub sector : ℕ
  pub within : sector < 32
  pub is_marked : IsMarked words segment sector

pub some_mark : (words : List ℕ) (segment : ℕ) → get_or words segment 0 < 2 ^ 32 → ¬ (HasNoMark words segment) → HasMark words segment
some_mark words segment fits some =
    let word : ℕ = get_or words segment 0 in
    let positive : 0 < get_or words segment 0 = omega (arith, some) in
    let lowest = bit_at-trailing_zeros w32 (get_or words segment 0) positive fits in
    record { sector = trailing_zeros w32 (get_or words segment 0); within = lowest.0; is_marked = lowest.1 }

pub no_mark : (words : List ℕ) (segment sector : ℕ) → HasNoMark words segment → ¬ (IsMarked words segment sector)
no_mark words segment sector none is =
    let bit : bit_at (get_or words segment 0) sector ≡ 0 = ap (λ (word : ℕ). bit_at word sector) none ∙ bit_at-zero sector in
    omega arith

-- ---- what is told

pub tells_chain : {S : Type 0} (m : Meaning S) (s : S) (P Q R : Cartridge → Type 0) → Tells m s (λ c. P c → Q c) →
    Tells m s (λ c. Q c → R c) → Tells m s (λ c. P c → R c)
tells_chain m s P Q R first next = by_cases (m.told s) first next
  where
    by_cases : (held : Option (Option Cartridge)) → IfSome held (λ h. IfSome h (λ c. P c → Q c)) →
        IfSome held (λ h. IfSome h (λ c. Q c → R c)) → IfSome held (λ h. IfSome h (λ c. P c → R c))
    by_cases None f g = tt
    by_cases (Some None) f g = tt
    by_cases (Some (Some c)) f g = λ p. g (f p)
