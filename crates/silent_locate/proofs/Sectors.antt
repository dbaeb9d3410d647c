-- The cells of sectors of which some are lost: what the code blocks that agree with the one say of the other.
use Rattle.std.proofs.Common.{◌≡◌, ℕ, zero, suc, ◌+◌, ◌-◌, ◌/◌, ◌%◌, ◌^◌, ◌<◌, ◌≤◌, ◌↔◌, refl, sym, ◌∙◌, ap, subst, arith, inl, inr, Bool}
use Rattle.std.proofs.Common.{true, false, nat_eq, List, [], ◌∷◌, length, slice_get, get_or, Option, Some, None, zero-add}
use Rattle.std.specs.Option.{option_map}
use Rattle.std.proofs.lemmas.Bool.{cases_eq, ne_eqb, eqb-false, or_parts, or_from}
use Rattle.std.proofs.lemmas.Option.{slice_get_within, slice_get-get_or}
use Rattle.qic_base.specs.CartridgeTerms.{IsLost, is_lost}
use Rattle.qic_base.specs.Cartridge.{lost_places}
use Rattle.qic_base.proofs.LostSetLaws.{lost_places-above}
use Rattle.qic_base.specs.declared.tape.SectorView.{SectorView}
use Rattle.qic_base.specs.declared.tape.SectorView.TheVariants.{Holds}
use Rattle.cartridge_spec.specs.Code.{IsCodeBlock}
use Rattle.gf256_qic.specs.Code.{AgreesOutside, IsSolvable, lost_below}
use Rattle.erasure_solve.specs.Lost.{lost_count}
use Rattle.erasure_solve.proofs.Places.{is_lost_from, lost_below-places}
use Rattle.cartridge_spec.specs.Says.{unreadable_count, Agrees}
use Rattle.silent_locate.specs.Deep.{AgreesBut, IsAllRight, IsWrongAt, HasNoReading, cell_of, cells_from, cells_without}
use Rattle.silent_locate.specs.Laws.{DiffersAt}
use Rattle.silent_locate.specs.Tries.{lost_or}
use Rattle.cartridge_laws.proofs.Cells.{unreadable_at, lost_below-cells}
use Rattle.silent_locate.proofs.Cells.{same_test}
use Rattle.silent_locate.proofs.Readings.{wrong_place_differs}
use Rattle.gf256_qic.proofs.Agreement.{lost_below-same}

-- ---- the cell at a place

length-cells_from : (lost k : ℕ) (sectors : List (List ℕ)) → length (cells_from lost k sectors) ≡ length sectors
unfolding cells_from
length-cells_from lost k [] = refl
length-cells_from lost k (bytes ∷ sectors) = ap suc (length-cells_from lost (suc k) sectors)

slice_get-cells_from : (lost k : ℕ) (sectors : List (List ℕ)) (i : ℕ) →
    slice_get (cells_from lost k sectors) i ≡ option_map (cell_of (is_lost lost (k + i))) (slice_get sectors i)
unfolding cells_from
slice_get-cells_from lost k [] i = refl
slice_get-cells_from lost k (bytes ∷ sectors) zero =
    let here : k ≡ k + 0 = omega arith in
    ap (λ (p : ℕ). Some (cell_of (is_lost lost p) bytes)) here
slice_get-cells_from lost k (bytes ∷ sectors) (suc i) =
    let next : suc k + i ≡ k + suc i = omega arith in
    slice_get-cells_from lost (suc k) sectors i
    ∙ ap (λ (p : ℕ). option_map (cell_of (is_lost lost p)) (slice_get sectors i)) next

pub length-cells_without : (lost : ℕ) (sectors : List (List ℕ)) → length (cells_without lost sectors) ≡ length sectors
length-cells_without lost sectors = length-cells_from lost 0 sectors

slice_get-cells_without : (lost : ℕ) (sectors : List (List ℕ)) (i : ℕ) →
    slice_get (cells_without lost sectors) i ≡ option_map (cell_of (is_lost lost i)) (slice_get sectors i)
slice_get-cells_without lost sectors i =
    slice_get-cells_from lost 0 sectors i
    ∙ ap (λ (p : ℕ). option_map (cell_of (is_lost lost p)) (slice_get sectors i)) (zero-add i)

-- a cell that holds bytes has a place that isn't lost, and its sector's bytes
pub record IsKept (lost : ℕ) (sectors : List (List ℕ)) (i : ℕ) (bytes : List ℕ) : Type 0 where
  pub kept : is_lost lost i ≡ false
  pub held : slice_get sectors i ≡ Some bytes

pub kept_from : (lost : ℕ) (sectors : List (List ℕ)) (i : ℕ) (bytes : List ℕ) →
    slice_get (cells_without lost sectors) i ≡ Some (Holds bytes) → IsKept lost sectors i bytes
kept_from lost sectors i bytes at =
    by_sector (is_lost lost i) (slice_get sectors i) refl refl (sym (slice_get-cells_without lost sectors i) ∙ at)
  where
    by_sector : (b : Bool) (o : Option (List ℕ)) → is_lost lost i ≡ b → slice_get sectors i ≡ o →
        option_map (cell_of b) o ≡ Some (Holds bytes) → IsKept lost sectors i bytes
    by_sector b None test is at' = absurd (cc)
    by_sector true (Some held) test is at' = absurd (cc)
    by_sector false (Some held) test is at' = record { kept = test; held = cc }

-- and each such place has such a cell
pub kept_to : (lost : ℕ) (sectors : List (List ℕ)) (i : ℕ) (bytes : List ℕ) → is_lost lost i ≡ false →
    slice_get sectors i ≡ Some bytes → slice_get (cells_without lost sectors) i ≡ Some (Holds bytes)
kept_to lost sectors i bytes kept at =
    slice_get-cells_without lost sectors i
    ∙ ap (λ (b : Bool). option_map (cell_of b) (slice_get sectors i)) kept
    ∙ ap (option_map (cell_of false)) at

-- ---- places past the last sector

-- the lost places below a number
abbrev pub IsAmong : (some lost count : ℕ) → Type 0
IsAmong some lost count = (place : ℕ) → IsLost some place ↔ (IsLost lost place × (place < count))

among_test : (some lost count i : ℕ) → IsAmong some lost count → i < count → is_lost some i ≡ is_lost lost i
among_test some lost count i among h =
    elim (cases_eq (some / 2 ^ i % 2) 1) [
      | inl on ↦ is_lost_from some i on ∙ sym (is_lost_from lost i ((among i).0 on).0)
      | inr off ↦ ne_eqb (some / 2 ^ i % 2) 1 off ∙ sym (ne_eqb (lost / 2 ^ i % 2) 1 (λ on. off ((among i).1 (on, h))))
    ]

cells_from-same : (a b k : ℕ) (sectors : List (List ℕ)) →
    ((i : ℕ) → i < length sectors → is_lost a (k + i) ≡ is_lost b (k + i)) → cells_from a k sectors ≡ cells_from b k sectors
unfolding cells_from
cells_from-same a b k [] same = refl
cells_from-same a b k (bytes ∷ sectors) same =
    let here : k + 0 ≡ k = omega arith in
    let first : is_lost a k ≡ is_lost b k =
    subst (λ (p : ℕ). is_lost a p ≡ is_lost b p) here (same 0 (omega arith)) in
    let rest : cells_from a (suc k) sectors ≡ cells_from b (suc k) sectors =
    cells_from-same a b (suc k) sectors (λ i h.
    let next : k + suc i ≡ suc k + i = omega arith in
    subst (λ (p : ℕ). is_lost a p ≡ is_lost b p) next (same (suc i) (omega arith))) in
    ap (λ (t : Bool). cell_of t bytes ∷ cells_from a (suc k) sectors) first
    ∙ ap (λ (cells : List SectorView). cell_of (is_lost b k) bytes ∷ cells) rest

-- are left out of account
pub cells_among : (some lost : ℕ) (sectors : List (List ℕ)) → IsAmong some lost (length sectors) →
    cells_without some sectors ≡ cells_without lost sectors
cells_among some lost sectors among =
    cells_from-same some lost 0 sectors (λ i h.
    subst (λ (p : ℕ). is_lost some p ≡ is_lost lost p) (sym (zero-add i))
    (among_test some lost (length sectors) i among h))

-- so as many places are lost as cells are unreadable
pub count_among : (some lost : ℕ) (sectors : List (List ℕ)) → IsAmong some lost (length sectors) → length sectors ≤ 32 →
    lost_count some ≡ unreadable_count (cells_without some sectors)
count_among some lost sectors among most =
    let n : ℕ = length sectors in
    let cells : List SectorView = cells_without some sectors in
    let long : length cells ≡ n = length-cells_without some sectors in
    let whole : n + (32 - n) ≡ 32 = omega arith in
    ap (λ (k : ℕ). length (lost_places some k)) (sym whole)
    ∙ ap (λ (l : List ℕ). length l) (lost_places-above some n (32 - n) (λ place on. ((among place).0 on).1))
    ∙ sym (lost_below-places some n)
    ∙ lost_below-same (is_lost some) (unreadable_at cells) n (λ i h.
    same_test cells i (is_lost some i) (omega arith)
    (λ kept. (get_or sectors i [], kept_to some sectors i (get_or sectors i []) kept (slice_get-get_or sectors i [] h)))
    (λ held. (kept_from some sectors i held.0 held.1).kept))
    ∙ ap (lost_below (unreadable_at cells)) (sym long)
    ∙ lost_below-cells cells

-- ---- code blocks

cells_agree : (lost : ℕ) (sectors block : List (List ℕ)) → AgreesOutside (is_lost lost) sectors block →
    Agrees (cells_without lost sectors) block
cells_agree lost sectors block agrees = record {
  size = sym agrees.size ∙ sym (length-cells_without lost sectors);
  each = λ i bytes at.
      let kept = kept_from lost sectors i bytes at in
      sym (agrees.others i (slice_get_within sectors i bytes kept.held) kept.kept) ∙ kept.held;
}

sectors_agree : (lost : ℕ) (sectors block : List (List ℕ)) → Agrees (cells_without lost sectors) block →
    AgreesOutside (is_lost lost) sectors block
sectors_agree lost sectors block agrees = record {
  size = sym (length-cells_without lost sectors) ∙ sym agrees.size;
  others = λ i h kept.
      let held : slice_get sectors i ≡ Some (get_or sectors i []) = slice_get-get_or sectors i [] h in
      held ∙ sym (agrees.each i (get_or sectors i []) (kept_to lost sectors i (get_or sectors i []) kept held));
}

cells_agree_but : (lost place : ℕ) (sectors block : List (List ℕ)) → AgreesOutside (lost_or lost place) sectors block →
    AgreesBut (cells_without lost sectors) place block
cells_agree_but lost place sectors block agrees = record {
  size = sym agrees.size ∙ sym (length-cells_without lost sectors);
  each = λ i bytes apart at.
      let kept = kept_from lost sectors i bytes at in
      sym (agrees.others i (slice_get_within sectors i bytes kept.held)
      (or_from (is_lost lost i) (nat_eq i place) kept.kept (ne_eqb i place apart)))
      ∙ kept.held;
}

sectors_agree_but : (lost place : ℕ) (sectors block : List (List ℕ)) → AgreesBut (cells_without lost sectors) place block →
    AgreesOutside (lost_or lost place) sectors block
sectors_agree_but lost place sectors block agrees = record {
  size = sym (length-cells_without lost sectors) ∙ sym agrees.size;
  others = λ i h kept.
      let parts = or_parts (is_lost lost i) (nat_eq i place) kept in
      let held : slice_get sectors i ≡ Some (get_or sectors i []) = slice_get-get_or sectors i [] h in
      held
      ∙ sym (agrees.each i (get_or sectors i []) (eqb-false i place parts.1)
      (kept_to lost sectors i (get_or sectors i []) parts.0 held));
}

-- ---- readings

pub all_right : (lost : ℕ) (sectors block : List (List ℕ)) → unreadable_count (cells_without lost sectors) ≤ 3 →
    IsCodeBlock block → AgreesOutside (is_lost lost) sectors block → IsAllRight (cells_without lost sectors) block
all_right lost sectors block few code agrees =
    record { few = few; code = code; agrees = cells_agree lost sectors block agrees }

pub wrong_at : (lost place : ℕ) (sectors block : List (List ℕ)) → unreadable_count (cells_without lost sectors) ≤ 1 →
    (IsSolvable (is_lost lost) sectors → ⊥) → IsCodeBlock block → AgreesOutside (lost_or lost place) sectors block →
    IsWrongAt (cells_without lost sectors) place block
wrong_at lost place sectors block few unsolvable code agrees = record {
  none_agrees = λ other code' agrees'.
      unsolvable (record { block = other; codewords = code'; agrees = sectors_agree lost sectors other agrees' });
  few = few;
  code = code;
  agrees = cells_agree_but lost place sectors block agrees;
}

pub no_reading : (lost : ℕ) (sectors : List (List ℕ)) → (IsSolvable (is_lost lost) sectors → ⊥) →
    ((place : ℕ) → unreadable_count (cells_without lost sectors) ≤ 1 → place < length sectors →
    IsSolvable (lost_or lost place) sectors → ⊥) →
    HasNoReading (cells_without lost sectors)
no_reading lost sectors unsolvable none block None deep =
    unsolvable (record { block = block; codewords = deep.code; agrees = sectors_agree lost sectors block deep.agrees })
no_reading lost sectors unsolvable none block (Some place) deep =
    let differs : DiffersAt (cells_without lost sectors) place block =
    wrong_place_differs (cells_without lost sectors) block place deep in
    let kept : IsKept lost sectors place differs.bytes = kept_from lost sectors place differs.bytes differs.held in
    none place deep.few (slice_get_within sectors place differs.bytes kept.held)
    (record { block = block; codewords = deep.code; agrees = sectors_agree_but lost place sectors block deep.agrees })
