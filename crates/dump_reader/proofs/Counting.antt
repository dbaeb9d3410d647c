-- The segments that a dump does not lack, counted.
use Rattle.std.proofs.Common.{◌≡◌, ℕ, suc, ◌+◌, ◌-◌, ◌<◌, ◌≤◌, not, Bool, cond, List, length, sym, ap, ◌∙◌, arith}
use Rattle.std.specs.Prelude.{count_by}
use Rattle.std.specs.List.{range_with_len}
use Rattle.dump_lists.specs.Masks.{IsMissingSet}
use Rattle.dump_spec.specs.Lists.{Span, is_missing}
use Rattle.dump_reader.proofs.Laying.{sum_more, sums_same, missing_same}
use Rattle.dump_reader.specs.Missing.{there_from}
use Rattle.dump_reader.specs.Piece.{is_marked}

-- the segments from one up to another
pub there_below : (missing : List ℕ) → (first segment : ℕ) → ℕ
there_below missing first segment = count_by (λ s. not (is_marked missing s)) (range_with_len first (segment - first))

pub there_none : (missing : List ℕ) (first : ℕ) → there_below missing first first ≡ 0
unfolding there_below
there_none missing first =
    let none : first - first ≡ 0 = omega arith in
    ap (λ (n : ℕ). count_by (λ s. not (is_marked missing s)) (range_with_len first n)) none

pub there_next : (missing : List ℕ) (first segment count next : ℕ) (marked : Bool) → first ≤ segment →
    is_marked missing segment ≡ marked → count ≡ there_below missing first segment → next ≡ count + cond (not marked) 1 0 →
    next ≡ there_below missing first (segment + 1)
unfolding there_below
there_next missing first segment count next marked low is before more =
    let one : ℕ → ℕ = λ s. cond (not (is_marked missing s)) 1 0 in
    let wider : segment + 1 - first ≡ suc (segment - first) = omega arith in
    let here : first + (segment - first) ≡ segment = omega arith in
    let last : one segment ≡ cond (not marked) 1 0 = ap (λ (b : Bool). cond (not b) 1 0) is in
    more ∙ ap (λ (k : ℕ). count + k) (sym last) ∙ ap (λ (k : ℕ). k + one segment) before
    ∙ ap (λ (s : ℕ). count_by (λ s. not (is_marked missing s)) (range_with_len first (segment - first)) + one s) (sym here)
    ∙ sym (sum_more one first (segment - first))
    ∙ ap (λ (n : ℕ). count_by (λ s. not (is_marked missing s)) (range_with_len first n)) (sym wider)

pub there_all : (missing : List ℕ) (first segment : ℕ) → segment ≡ 65536 → there_below missing first segment ≡ there_from missing first
unfolding there_below
there_all missing first segment all =
    ap (λ (n : ℕ). count_by (λ s. not (is_marked missing s)) (range_with_len first (n - first))) all

-- by the spans that the dump lacks
pub there_same : (spans : List Span) (missing : List ℕ) (first : ℕ) → IsMissingSet spans missing → 2048 ≤ length missing → first < 65536 →
    there_from missing first ≡ count_by (λ segment. not (is_missing spans segment)) (range_with_len first (65536 - first))
there_same spans missing first is enough low =
    sums_same (λ s. cond (not (is_marked missing s)) 1 0) (λ s. cond (not (is_missing spans s)) 1 0) first (65536 - first)
    (λ k from below. ap (λ (b : Bool). cond (not b) 1 0) (missing_same spans missing k is (omega arith)))
