use Rattle.std.proofs.Common.{◌≡◌, ℕ, ◌+◌, ◌-◌, ◌^◌, ◌<◌, ◌≤◌, sym, ap, ◌∙◌, arith, inl, inr}
use Rattle.std.proofs.lemmas.Bool.{cases_lt}
use Rattle.std.specs.Prelude.{sum_by}
use Rattle.std.specs.List.{range_with_len}
use Rattle.cartridge_spec.specs.Shape.{capacity}
use Rattle.command_laws.proofs.Sums.{sum_more}
use Rattle.dump_volumes.proofs.lengths.carried_between.Goals as goal

pub loop-segment-preserved : goal.loop-segment-preserved
loop-segment-preserved c =
    let from : c.args.first ≤ c.loop-segment.segment =
    let a = c.loop-segment.auto.segment in let b = c.from-segment.ensures in omega arith in
    let below : c.loop-segment.segment < c.from-segment-end.result + 1 = c.loop-segment-test.true in
    let end : c.from-segment-end.result ≡ c.args.last = c.from-segment-end.ensures in
    let few : c.args.last < 2 ^ 16 = c.ranges.last.fits in
    record {
      bytes = λ of held.
          let mask = held c.loop-segment.segment (omega arith) in
          ap (λ (n : ℕ). n + c.capacity-bytes.result) (c.loop-segment.invariant.bytes of held)
          ∙ ap (λ (n : ℕ). sum_by (λ s. capacity (of s)) (range_with_len c.args.first (c.loop-segment.segment - c.args.first)) + n)
          (c.capacity-bytes.ensures.bytes ∙ ap capacity mask)
          ∙ sym (sum_more (λ s. capacity (of s)) c.args.first c.loop-segment.segment from);
      small = let more = c.capacity-bytes.ensures.small in let most = c.loop-segment.invariant.small in omega arith;
      within = omega arith;
      none = λ past. let b = c.from-segment.ensures in absurd (omega arith);
    }

pub returns : goal.returns
returns c =
    let over : c.from-segment-end.result + 1 ≤ c.loop-segment.segment = c.loop-segment-test.false in
    let last : c.from-segment-end.result ≡ c.args.last = c.from-segment-end.ensures in
    let first : c.from-segment.result ≡ c.args.first = c.from-segment.ensures in
    let n : c.loop-segment.segment - c.args.first ≡ c.args.last + 1 - c.args.first =
    elim (cases_lt (c.args.last + 1) c.args.first) [
      | inl none ↦ let at : c.loop-segment.segment ≡ c.args.first = c.loop-segment.invariant.none (omega arith) in omega arith
      | inr some ↦ let at : c.loop-segment.segment ≤ c.from-segment-end.result + 1 = c.loop-segment.auto.segment-end (omega arith) in
          omega arith
    ] in
    record {
      bytes = λ of held. c.loop-segment.invariant.bytes of held
          ∙ ap (λ (k : ℕ). sum_by (λ s. capacity (of s)) (range_with_len c.args.first k)) n;
      small = let most = c.loop-segment.invariant.small in let w = c.loop-segment.invariant.within in omega arith;
    }
