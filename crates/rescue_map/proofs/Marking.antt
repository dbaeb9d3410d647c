-- The mask, block by block.
use Rattle.std.proofs.Common.{◌≡◌, ◌≢◌, ◌⊎◌, ◌↔◌, inl, inr, ⊎_elim, ℕ, ◌+◌, ◌-◌, ◌*◌, ◌/◌, ◌<◌, ◌≤◌, List, [], ◌∷◌, ◌++◌, length, arith}
use Rattle.std.proofs.lemmas.Bool.{cases_lt}
use Rattle.rescue_map.specs.declared.form.Block.{Block}
use Rattle.rescue_map.specs.Map.{IsIn, Rescued, IsWhole}
use Rattle.rescue_map.specs.Mask.{IsMarked}
use Rattle.rescue_map.specs.Marking.{Marks}

-- ---- a block more

rescued_by : (blocks : List Block) (block : Block) (byte : ℕ) → Rescued (blocks ++ block ∷ []) byte → Rescued blocks byte
    ⊎ ((block.mark ≡ 43) × IsIn block byte)
rescued_by [] block byte r = ⊎_elim (λ h. inr h) (λ none. absurd none) r
rescued_by (b ∷ blocks) block byte r = ⊎_elim (λ h. inl (inl h))
    (λ rest. ⊎_elim (λ h. inl (inr h)) (λ h. inr h) (rescued_by blocks block byte rest)) r

still_rescued : (blocks : List Block) (block : Block) (byte : ℕ) → Rescued blocks byte → Rescued (blocks ++ block ∷ []) byte
still_rescued [] block byte r = absurd r
still_rescued (b ∷ blocks) block byte r = ⊎_elim (λ h. inl h) (λ rest. inr (still_rescued blocks block byte rest)) r

rescued_in : (blocks : List Block) (block : Block) (byte : ℕ) → block.mark ≡ 43 → IsIn block byte → Rescued (blocks ++ block ∷ []) byte
rescued_in [] block byte mark here = inl (mark, here)
rescued_in (b ∷ blocks) block byte mark here = inr (rescued_in blocks block byte mark here)

-- of a block with another mark nothing is rescued
not_by : (blocks : List Block) (block : Block) (byte : ℕ) → block.mark ≢ 43 → Rescued (blocks ++ block ∷ []) byte → Rescued blocks byte
not_by blocks block byte other r = ⊎_elim (λ h. h) (λ h. absurd (other h.0)) (rescued_by blocks block byte r)

pub marks_other : (mask : List ℕ) (blocks : List Block) (from : ℕ) (block : Block) → block.mark ≢ 43 → 1 ≤ block.size →
    Marks mask blocks from block.start →
    Marks mask (blocks ++ block ∷ []) (block.start + block.size) (block.start + block.size)
marks_other mask blocks from block other some marks = record {
  marked = λ q within. (
    (λ m byte low high. still_rescued blocks block byte ((marks.marked q within).0 m byte low high)),
    (λ whole. (marks.marked q within).1 (λ byte low high. not_by blocks block byte other (whole byte low high))),
  );
  low = omega arith;
  above = λ byte past r. marks.above byte (omega arith) (not_by blocks block byte other r);
  rescued = λ byte low high. absurd (omega arith);
  gap = λ byte below all.
      let last : ℕ = block.start + block.size - 1 in
      marks.above last (omega arith) (not_by blocks block last other (all last (omega arith) (omega arith)));
}

-- ---- a block that was rescued

-- a byte before the block is none of it
before_block : (blocks : List Block) (block : Block) (byte : ℕ) → byte < block.start → Rescued (blocks ++ block ∷ []) byte →
    Rescued blocks byte
before_block blocks block byte before r = ⊎_elim (λ h. h) (λ h. let a = h.1.0 in absurd (omega arith)) (rescued_by blocks block byte r)

-- the sectors that the block makes whole, from one on
pub record NewlyWhole (from : ℕ) (block : Block) (first end : ℕ) : Type 0 where
  pub after : from ≤ 1024 * first
  pub not_before : (q : ℕ) → from ≤ 1024 * q → block.start < 1024 * q + 1024 → first ≤ q
  pub end_is : end ≡ (block.start + block.size) / 1024

plus_whole : (mask : List ℕ) (blocks : List Block) (from first end : ℕ) (block : Block) → block.mark ≡ 43 →
    Marks mask blocks from block.start →
    NewlyWhole from block first end → (q : ℕ) → first ≤ q → q < end → IsWhole (blocks ++ block ∷ []) q
plus_whole mask blocks from first end block plus marks new q low high byte here there =
    let after = new.after in
    let is = new.end_is in
    ⊎_elim
    (λ before. still_rescued blocks block byte (marks.rescued byte (omega arith) before))
    (λ behind. rescued_in blocks block byte plus (behind, omega arith))
    (cases_lt byte block.start)

plus_marked : (mask : List ℕ) (blocks : List Block) (from first end : ℕ) (block : Block) → 1 ≤ block.size →
    Marks mask blocks from block.start →
    NewlyWhole from block first end → (q : ℕ) → q < 32 * length mask → IsWhole (blocks ++ block ∷ []) q → IsMarked mask q
    ⊎ ((first ≤ q) × (q < end))
plus_marked mask blocks from first end block some marks new q within whole = ⊎_elim before behind
    (cases_lt block.start (1024 * q + 1024)) where
      last_in : 1024 * q + 1023 < block.start + block.size
      last_in =
          ⊎_elim
          (λ old. ⊎_elim (λ h. omega arith) (λ h. absurd (marks.above (1024 * q + 1023) h old)) (cases_lt (1024 * q + 1023) block.start))
          (λ here. here.1.1)
          (rescued_by blocks block (1024 * q + 1023) (whole (1024 * q + 1023) (omega arith) (omega arith)))

      before : block.start < 1024 * q + 1024 → IsMarked mask q ⊎ ((first ≤ q) × (q < end))
      before reaches =
          let is = new.end_is in
          let l = last_in in
          ⊎_elim
          (λ low. absurd (marks.gap (1024 * q) low
          (λ later here there. before_block blocks block later there (whole later here (omega arith)))))
          (λ low. inr (new.not_before q low reaches, omega arith))
          (cases_lt (1024 * q) from)

      behind : 1024 * q + 1024 ≤ block.start → IsMarked mask q ⊎ ((first ≤ q) × (q < end))
      behind past = inl ((marks.marked q within).1 (λ byte low high. before_block blocks block byte (omega arith) (whole byte low high)))

pub marks_plus : (old new : List ℕ) (blocks : List Block) (from first end : ℕ) (block : Block) → block.mark ≡ 43 → 1 ≤ block.size →
    length new ≡ length old →
    Marks old blocks from block.start → NewlyWhole from block first end →
    ((q : ℕ) → q < 32 * length old → (IsMarked new q ↔ (IsMarked old q ⊎ ((first ≤ q) × (q < end))))) →
    Marks new (blocks ++ block ∷ []) from (block.start + block.size)
marks_plus old new blocks from first end block plus some long marks whole marked = record {
  marked = λ q within.
      let here : q < 32 * length old = omega arith in (
        (λ m. ⊎_elim
            (λ o byte low high. still_rescued blocks block byte ((marks.marked q here).0 o byte low high))
            (λ r. plus_whole old blocks from first end block plus marks whole q r.0 r.1)
            ((marked q here).0 m)),
        (λ w. (marked q here).1 (plus_marked old blocks from first end block some marks whole q here w)),
      );
  low = let l = marks.low in omega arith;
  above = λ byte past r. ⊎_elim (λ o. marks.above byte (omega arith) o) (λ h. let b = h.1.1 in absurd (omega arith))
      (rescued_by blocks block byte r);
  rescued = λ byte low high. ⊎_elim
      (λ before. still_rescued blocks block byte (marks.rescued byte low before))
      (λ behind. rescued_in blocks block byte plus (behind, high))
      (cases_lt byte block.start);
  gap = λ byte below all. marks.gap byte below (λ later here there. before_block blocks block later there (all later here (omega arith)));
}
