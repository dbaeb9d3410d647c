-- What a line does to the reading of a map.
use Rattle.std.proofs.Common.{◌≡◌, ℕ, ◌==◌, Bool, true, false, List, [], length, Option, Some, None, if◌then◌else◌, nat_lt, refl, sym, ap}
use Rattle.std.proofs.Common.{◌∙◌}
use Rattle.std.proofs.lemmas.Bool.{eqb-true}
use Rattle.rescue_map.specs.declared.form.Block.{Block}
use Rattle.rescue_map.specs.declared.form.Expected.{Expected}
use Rattle.rescue_map.specs.declared.form.Expected.TheVariants as awaits
use Rattle.rescue_map.specs.declared.form.Said.TheVariants as said
use Rattle.rescue_map.specs.Lines.{word_at}
use Rattle.rescue_map.specs.Form.{block_form, first_block, next_block, is_missing, line_says}
use Rattle.rescue_map.specs.Marking.{Continues, NoneMarked, Tracked}

-- only where it is expected a line says the status
not_first : (b c : Bool) (o : Option Block) → said.Status ≡ (if b then said.Bad else (if c then said.Nothing else first_block o)) → ⊥
not_first true c o e = cc
not_first false true o e = cc
not_first false false None e = cc
not_first false false (Some block) e = cc

not_next : (b c t : Bool) (end : ℕ) (o : Option Block) →
    said.Status ≡ (if b then said.Bad else (if c then said.Nothing else next_block end o)) → ⊥
not_next true c t end o e = cc
not_next false true t end o e = cc
not_next false false t end None e = cc
not_next false false t end (Some block) e = by_test (block.start == end) e where
  by_test : (t : Bool) → said.Status ≡ (if t then said.Block block else said.Bad) → ⊥
  by_test true e = cc
  by_test false e = cc

pub status_tracked : (expected : Expected) (words : List (List ℕ)) (mask : List ℕ) (blocks : List Block) (from : ℕ) →
    said.Status ≡ line_says expected words →
    Tracked mask blocks expected from → (blocks ≡ []) × NoneMarked mask
status_tracked awaits.Status words mask blocks from e tracked = tracked
status_tracked awaits.First words mask blocks from e tracked =
    absurd (not_first (nat_lt 3 (length words)) (is_missing (word_at words 0))
    (block_form (word_at words 0) (word_at words 1) (word_at words 2)) e)
status_tracked (awaits.Next end) words mask blocks from e tracked =
    absurd (not_next (nat_lt 3 (length words)) (is_missing (word_at words 0)) true end
    (block_form (word_at words 0) (word_at words 1) (word_at words 2)) e)

-- a block that a line says starts where it has to
starts : (b c : Bool) (end : ℕ) (o : Option Block) (block : Block) →
    said.Block block ≡ (if b then said.Bad else (if c then said.Nothing else next_block end o)) → block.start ≡ end
starts true c end o block e = absurd (cc)
starts false true end o block e = absurd (cc)
starts false false end None block e = absurd (cc)
starts false false end (Some other) block e = by_test (other.start == end) refl e where
  by_test : (t : Bool) → t ≡ (other.start == end) → said.Block block ≡ (if t then said.Block other else said.Bad) → block.start ≡ end
  by_test true here e =
      let same : block ≡ other = cc in
      ap (λ (b : Block). b.start) same ∙ eqb-true other.start end (sym here)
  by_test false here e = absurd (cc)

pub block_continues : (expected : Expected) (words : List (List ℕ)) (block : Block) → said.Block block ≡ line_says expected words →
    Continues expected block
block_continues awaits.Status words block e = tt
block_continues awaits.First words block e = tt
block_continues (awaits.Next end) words block e =
    starts (nat_lt 3 (length words)) (is_missing (word_at words 0)) end (block_form (word_at words 0) (word_at words 1) (word_at words 2))
    block e
