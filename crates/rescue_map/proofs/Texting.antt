-- The text of a map, written piece by piece.
use Rattle.std.proofs.Common.{◌≡◌, ℕ, suc, ◌+◌, ◌-◌, ◌*◌, ◌<◌, ◌==◌, Bool, true, false, not, List, [], ◌∷◌, ◌++◌, Result, Ok, Err}
use Rattle.std.proofs.Common.{if◌then◌else◌, refl, sym, ap, ◌∙◌, arith, append_assoc, add_assoc}
use Rattle.std.proofs.lemmas.Bool.{eq-eqb}
use mathlib.Core.Bool.{beq}
use Rattle.qic_base.specs.Sink.{Meaning, Wrote}
use Rattle.qic_base.specs.SinkCalls.{BrokeOff, Writes}
use Rattle.qic_base.proofs.Writing.{TakesBoth, Wrote-Wrote, Wrote-BrokeOff, BrokeOff-longer}
use Rattle.rescue_map.specs.declared.form.Block.{Block}
use Rattle.rescue_map.specs.Text.{is_marked, sector_block, run_block, joined, runs_from, block_text, blocks_text}

-- of a text a front was written, and this rest is left
pub record Written {K : Type 0} (m : Meaning K) (old new : K) (text rest : List ℕ) : Type 0 where
  pub front : List ℕ
  pub parts : front ++ rest ≡ text
  pub wrote : Wrote m old new front

-- ---- bytes that are written

pub write_next : {K : Type 0} {m : Meaning K} {old new now : K} {text rest : List ℕ} (piece more : List ℕ) → TakesBoth m →
    piece ++ more ≡ rest → Written m old new text rest → Wrote m new now piece →
    Written m old now text more
write_next piece more both parts written wrote = record {
  front = written.front ++ piece;
  parts = append_assoc written.front piece more ∙ ap (λ t. written.front ++ t) parts ∙ written.parts;
  wrote = Wrote-Wrote both written.wrote wrote;
}

pub write_broke : {K : Type 0} {m : Meaning K} {old new now : K} {text rest : List ℕ} (piece more : List ℕ) → TakesBoth m →
    piece ++ more ≡ rest → Written m old new text rest → BrokeOff m new now piece →
    BrokeOff m old now text
write_broke {text = text} piece more both parts written broke =
    BrokeOff-longer more text
    (append_assoc written.front piece more ∙ ap (λ t. written.front ++ t) parts ∙ written.parts)
    (Wrote-BrokeOff both written.wrote broke)

pub writes_behind : {K T E : Type 0} (m : Meaning K) (old new now : K) (piece more : List ℕ) → TakesBoth m → Wrote m old new piece →
    (result : Result T E) →
    Writes m new now more result → Writes m old now (piece ++ more) result
writes_behind m old new now piece more both wrote (Ok x) writes = Wrote-Wrote both wrote writes
writes_behind m old new now piece more both wrote (Err e) writes = Wrote-BrokeOff both wrote writes

-- ---- runs

pub beq_same : (a b : Bool) → not (beq a b) ≡ false → a ≡ b
beq_same true true e = refl
beq_same true false e = cc
beq_same false true e = cc
beq_same false false e = refl

-- a block of some bytes
abbrev pub block_at : (start size mark : ℕ) → Block
block_at start size mark = record { start = start; size = size; mark = mark }

-- two blocks of one mark are one
pub joined-joined : (s n t k m : ℕ) (rest : List Block) → joined (block_at s n m) (joined (block_at t k m) rest) ≡ joined
    (block_at s (n + k) m) rest
joined-joined s n t k m [] = let same : (m == m) ≡ true = eq-eqb m m refl in rw same refl
joined-joined s n t k m (next ∷ blocks) = by_test (m == next.mark) where
  same : (m == m) ≡ true
  same = eq-eqb m m refl

  by_test : (u : Bool) →
      joined (block_at s n m) (if u then block_at t (k + next.size) m ∷ blocks else block_at t k m ∷ next ∷ blocks)
      ≡ (if u then block_at s ((n + k) + next.size) m ∷ blocks else block_at s (n + k) m ∷ next ∷ blocks)
  by_test true = rw same (ap (λ (size : ℕ). block_at s size m ∷ blocks) (sym (add_assoc n k next.size)))
  by_test false = rw same refl

-- a sector more of a run
pub run-sector : (mask : List ℕ) (first end left : ℕ) → first < end → is_marked mask end ≡ is_marked mask first →
    joined (run_block first end (is_marked mask first)) (runs_from mask end (suc left)) ≡ joined
    (run_block first (end + 1) (is_marked mask first)) (runs_from mask (end + 1) left)
run-sector mask first end left some same =
    ap (λ (b : Bool). joined (run_block first end (is_marked mask first)) (joined (sector_block end b) (runs_from mask (end + 1) left)))
    same
    ∙ joined-joined (1024 * first) (1024 * (end - first)) (1024 * end) 1024 (if is_marked mask first then 43 else 45)
    (runs_from mask (end + 1) left)
    ∙ ap (λ (size : ℕ). joined (block_at (1024 * first) size (if is_marked mask first then 43 else 45)) (runs_from mask (end + 1) left))
    (omega arith)

-- the line of a run, and the lines behind it
pub run_parts : (mask line : List ℕ) (block : Block) (first end here there : ℕ) (marked : Bool) → line ≡ block_text block →
    block ≡ run_block first end marked → marked ≡ is_marked mask first →
    runs_from mask first here ≡ run_block first end (is_marked mask first) ∷ runs_from mask end there →
    line ++ blocks_text (runs_from mask end there) ≡ blocks_text (runs_from mask first here)
run_parts mask line block first end here there marked text is mark run =
    ap (λ (t : List ℕ). t ++ blocks_text (runs_from mask end there)) (text ∙ ap block_text (is ∙ ap (run_block first end) mark))
    ∙ sym (ap blocks_text run)
