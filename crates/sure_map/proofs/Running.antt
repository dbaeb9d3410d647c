-- Bytes behind a run.
use Rattle.std.proofs.Common.{◌≡◌, ◌≢◌, ℕ, zero, suc, ◌+◌, ◌==◌, Bool, true, false, List, [], ◌∷◌, ◌++◌, replicate}
use Rattle.std.proofs.Common.{if◌then◌else◌, refl, ap, ◌∙◌, arith, ⊎_elim}
use Rattle.std.proofs.lemmas.Bool.{cases_eq, eq-eqb, ne_eqb}
use Rattle.rescue_map.specs.Text.{joined, blocks_text}
use Rattle.rescue_map.specs.declared.form.Block.{Block}
use Rattle.rescue_map.proofs.Texting.{block_at, joined-joined}
use Rattle.dump_spec.specs.Output.{mark_byte, mark_blocks}
use Rattle.dump_spec.specs.declared.mark.Mark.{Mark}
use Rattle.sure_map.specs.Runs.{block_of, end_of, goes_on, with_bytes, line_before, blocks_from}
use Rattle.sure_map.specs.declared.run.Run.{Run}

-- bytes of the run's own mark
same_run : (s k n : ℕ) (mark : Mark) (more : List Mark) →
    joined (block_at s k (mark_byte mark)) (mark_blocks (s + k) (replicate n mark ++ more))
    ≡ joined (block_at s (k + n) (mark_byte mark)) (mark_blocks (s + (k + n)) more)
same_run s k zero mark more =
    let none : k ≡ k + 0 = omega arith in
    ap (λ (l : ℕ). joined (block_at s l (mark_byte mark)) (mark_blocks (s + l) more)) none
same_run s k (suc n) mark more =
    let next : s + k + 1 ≡ s + (k + 1) = omega arith in
    let all : k + 1 + n ≡ k + suc n = omega arith in
    joined-joined s k (s + k) 1 (mark_byte mark) (mark_blocks (s + k + 1) (replicate n mark ++ more))
    ∙ ap (λ (p : ℕ). joined (block_at s (k + 1) (mark_byte mark)) (mark_blocks p (replicate n mark ++ more))) next
    ∙ same_run s (k + 1) n mark more
    ∙ ap (λ (l : ℕ). joined (block_at s l (mark_byte mark)) (mark_blocks (s + l) more)) all

-- a run that another one ends
other_run : (s k t n m p : ℕ) (rest : List Block) → (m == p) ≡ false →
    joined (block_at s k m) (joined (block_at t n p) rest) ≡ block_at s k m ∷ joined (block_at t n p) rest
other_run s k t n m p [] other = rw other refl
other_run s k t n m p (next ∷ blocks) other = by_test (p == next.mark) where
  by_test : (u : Bool) →
      joined (block_at s k m) (if u then block_at t (n + next.size) p ∷ blocks else block_at t n p ∷ next ∷ blocks)
      ≡ block_at s k m ∷ (if u then block_at t (n + next.size) p ∷ blocks else block_at t n p ∷ next ∷ blocks)
  by_test true = rw other refl
  by_test false = rw other refl

-- the first bytes of a run
new_run : (s n : ℕ) (mark : Mark) (more : List Mark) → mark_blocks s (replicate (suc n) mark ++ more)
    ≡ joined (block_at s (suc n) (mark_byte mark)) (mark_blocks (s + suc n) more)
new_run s n mark more =
    let all : 1 + n ≡ suc n = omega arith in
    same_run s 1 n mark more
    ∙ ap (λ (l : ℕ). joined (block_at s l (mark_byte mark)) (mark_blocks (s + l) more)) all

-- a run begins with them
starts : (run : Run) (mark : Mark) (n : ℕ) (more : List Mark) → run.size ≡ 0 →
    blocks_text (blocks_from run (replicate (suc n) mark ++ more))
    ≡ line_before run (mark_byte mark) ++ blocks_text (blocks_from (with_bytes run (mark_byte mark) (suc n)) more)
starts run mark n more is =
    let none : (run.size == 0) ≡ true = eq-eqb run.size 0 is in
    let some : (run.size + suc n == 0) ≡ false = ne_eqb (run.size + suc n) 0 (λ e. omega arith) in
    let all : suc n ≡ run.size + suc n = omega arith in
    rw (none, some) (ap blocks_text (new_run run.start n mark more
    ∙ ap (λ (l : ℕ). joined (block_at run.start l (mark_byte mark)) (mark_blocks (run.start + l) more)) all))

-- they go on with it
goes : (run : Run) (mark : Mark) (n : ℕ) (more : List Mark) → run.size ≢ 0 → run.mark ≡ mark_byte mark →
    blocks_text (blocks_from run (replicate (suc n) mark ++ more))
    ≡ line_before run (mark_byte mark) ++ blocks_text (blocks_from (with_bytes run (mark_byte mark) (suc n)) more)
goes run mark n more there same =
    let none : (run.size == 0) ≡ false = ne_eqb run.size 0 there in
    let alike : (run.mark == mark_byte mark) ≡ true = eq-eqb run.mark (mark_byte mark) same in
    let some : (run.size + suc n == 0) ≡ false = ne_eqb (run.size + suc n) 0 (λ e. omega arith) in
    rw (none, alike, some) (ap blocks_text
    (ap (λ (k : ℕ). joined (block_at run.start run.size k) (mark_blocks (run.start + run.size) (replicate (suc n) mark ++ more))) same
    ∙ same_run run.start run.size (suc n) mark more))

-- they end it
ends : (run : Run) (mark : Mark) (n : ℕ) (more : List Mark) → run.size ≢ 0 → run.mark ≢ mark_byte mark →
    blocks_text (blocks_from run (replicate (suc n) mark ++ more))
    ≡ line_before run (mark_byte mark) ++ blocks_text (blocks_from (with_bytes run (mark_byte mark) (suc n)) more)
ends run mark n more there other =
    let none : (run.size == 0) ≡ false = ne_eqb run.size 0 there in
    let unlike : (run.mark == mark_byte mark) ≡ false = ne_eqb run.mark (mark_byte mark) other in
    let some : (suc n == 0) ≡ false = ne_eqb (suc n) 0 (λ e. omega arith) in
    rw (none, unlike, some) (ap blocks_text
    (ap (λ (blocks : List Block). joined (block_of run) blocks) (new_run (run.start + run.size) n mark more)
    ∙ other_run run.start run.size (run.start + run.size) (suc n) run.mark (mark_byte mark)
    (mark_blocks (run.start + run.size + suc n) more) unlike))

-- the lines from a run on, where bytes with a mark come
pub more_lines : (run : Run) (mark : Mark) (count : ℕ) (more : List Mark) → count ≢ 0 →
    blocks_text (blocks_from run (replicate count mark ++ more))
    ≡ line_before run (mark_byte mark) ++ blocks_text (blocks_from (with_bytes run (mark_byte mark) count) more)
more_lines run mark zero more some = absurd (some refl)
more_lines run mark (suc n) more some =
    ⊎_elim (λ (z : run.size ≡ 0). starts run mark n more z)
    (λ (there : run.size ≢ 0). ⊎_elim (λ (e : run.mark ≡ mark_byte mark). goes run mark n more there e)
    (λ (other : run.mark ≢ mark_byte mark). ends run mark n more there other) (cases_eq run.mark (mark_byte mark)))
    (cases_eq run.size 0)

-- the place behind its last byte
pub end_more : (run : Run) (mark count : ℕ) → end_of (with_bytes run mark count) ≡ end_of run + count
end_more run mark count = by_test (goes_on run mark) where
  by_test : (t : Bool) → end_of (if t then record { start = run.start; size = run.size + count; mark = mark }
      else record { start = end_of run; size = count; mark = mark }) ≡ end_of run + count
  by_test true = omega arith
  by_test false = refl
