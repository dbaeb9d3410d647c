-- The words of the sectors that hold bytes.
use Rattle.std.proofs.Common.{◌≡◌, ℕ, zero, suc, ◌+◌, ◌*◌, ◌^◌, ◌≤◌, List, [], ◌∷◌, ◌++◌, length, take, drop, ap}
use Rattle.std.proofs.Common.{ap₂, ◌∙◌, arith, length-drop}
use Rattle.std.proofs.Math.Numerals.{add-one}
use Rattle.std.proofs.lemmas.List.{take_all, take-append-le, drop-append-le}
use Rattle.std.proofs.Math.Nat.{pow-suc}
use Rattle.qic_base.specs.declared.tape.SectorView.{SectorView}
use Rattle.qic_base.specs.declared.tape.SectorView.TheVariants.{Blank, Defect, Lost, Holds}
use Rattle.flat_dump.specs.Held.{held_bit, held_word, held_words}

pub held_bit-small : (view : SectorView) → held_bit view ≤ 1
held_bit-small Blank = omega arith
held_bit-small Defect = omega arith
held_bit-small Lost = omega arith
held_bit-small (Holds bytes) = omega arith

pub held_word-more : (views : List SectorView) (view : SectorView) →
    held_word (views ++ view ∷ []) ≡ held_word views + held_bit view * 2 ^ length views
held_word-more [] view = omega arith
held_word-more (first ∷ views) view =
    let rest = held_word-more views view in
    let p : 2 ^ suc (length views) ≡ 2 ^ length views * 2 = pow-suc 2 (length views) in
    let q : held_bit view * 2 ^ suc (length views) ≡ held_bit view * (2 ^ length views * 2) = ap (λ (n : ℕ). held_bit view * n) p in
    ap (λ (n : ℕ). held_bit first + 2 * n) rest ∙ (omega arith)

-- the word of a segment more
pub held_words-more : (count : ℕ) (views more : List SectorView) → length views ≡ 32 * count → length more ≡ 32 →
    held_words (count + 1) (views ++ more) ≡ held_words count views ++ held_word more ∷ []
held_words-more count views more long size = rw (add-one count) (by_count count views long) where
  by_count : (n : ℕ) (vs : List SectorView) → length vs ≡ 32 * n → held_words (suc n) (vs ++ more) ≡ held_words n vs ++ held_word more ∷ []
  by_count zero [] long = ap (λ (vs : List SectorView). held_word vs ∷ []) (take_all 32 more (omega arith))
  by_count zero (v ∷ vs) long = absurd (omega arith)
  by_count (suc n) vs long =
      let front : take 32 (vs ++ more) ≡ take 32 vs = take-append-le 32 vs more (omega arith) in
      let rest : drop 32 (vs ++ more) ≡ drop 32 vs ++ more = drop-append-le 32 vs more (omega arith) in
      let left : length (drop 32 vs) ≡ 32 * n = omega (arith, length-drop 32 vs) in
      ap₂ (λ (w : ℕ) (ws : List ℕ). w ∷ ws) (ap held_word front)
      (ap (held_words (suc n)) rest ∙ by_count n (drop 32 vs) left)
