use Rattle.std.proofs.Common.{◌≡◌, ℕ, ◌+◌, ◌-◌, ◌^◌, ◌≤◌, sym, ap, ◌∙◌, arith, inl, inr}
use Rattle.std.proofs.lemmas.Bool.{cases_lt}
use Rattle.std.specs.Prelude.{sum_by}
use Rattle.std.specs.List.{range_with_len}
use Rattle.cartridge_spec.specs.Shape.{mask_at, capacity}
use Rattle.command_laws.proofs.Sums.{sum_more}
use Rattle.volume_store.proofs.store.capacity_between.Goals as goal

pub loop-segment-preserved : goal.loop-segment-preserved
loop-segment-preserved c =
    let f : ℕ → ℕ = λ s. capacity (mask_at c.args.map.now s) in
    let after : ℕ = c.loop-segment.segment in
    let from : c.args.start ≤ after = let h = c.loop-segment.auto.segment in let k = c.from-segment.ensures in omega arith in
    let more = sum_more f c.args.start after from in
    let same : c.from-bytes.result ≡ f after = c.from-bytes.ensures ∙ c.capacity.ensures in
    let small : c.from-bytes.result ≤ 2 ^ 32 = let h = c.capacity.type_inv in let k = c.from-bytes.ensures in omega arith in (
      ap (λ (n : ℕ). n + c.from-bytes.result) c.loop-segment.invariant.0
          ∙ ap (λ (n : ℕ). sum_by f (range_with_len c.args.start (after - c.args.start)) + n) same ∙ sym more,
      omega (arith, c.loop-segment.invariant.1),
      λ past. let test = c.loop-segment-test.true in let f = c.from-segment.ensures in absurd (omega arith),
    )

pub returns : goal.returns
returns c =
    let f : ℕ → ℕ = λ s. capacity (mask_at c.args.map.now s) in
    let over : c.from-segment-end.result + 1 ≤ c.loop-segment.segment = c.loop-segment-test.false in
    let last : c.from-segment-end.result ≡ c.args.end = c.from-segment-end.ensures in
    let first : c.from-segment.result ≡ c.args.start = c.from-segment.ensures in
    let n : c.loop-segment.segment - c.args.start ≡ c.args.end + 1 - c.args.start =
    elim (cases_lt (c.args.end + 1) c.args.start) [
      | inl none ↦ let at : c.loop-segment.segment ≡ c.args.start = c.loop-segment.invariant.2 (omega arith) in omega arith
      | inr some ↦ let at : c.loop-segment.segment ≤ c.from-segment-end.result + 1 = c.loop-segment.auto.segment-end (omega arith) in
          omega arith
    ] in
    c.loop-segment.invariant.0 ∙ ap (λ (k : ℕ). sum_by f (range_with_len c.args.start k)) n
