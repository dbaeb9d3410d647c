use Rattle.std.proofs.Common.{◌≡◌, ◌==◌, ◌<◌, ◌-◌, ◌/◌, ◌∙◌, ℕ, false, length, get_or, subst, arith}
use Rattle.std.proofs.lemmas.Bool.Decides.{nat_tests}
use Rattle.rescue_map.specs.Spelling.{digit_value}
use Rattle.rescue_map.proofs.Digits.{over, bad_digit, bad_value}
use Rattle.rescue_map.proofs.spelling.read_digits.Goals as goal
use Rattle.rescue_map.proofs.spelling.read_digits.Goals.{then-digit-base-via-then-digit-base}
use Rattle.rescue_map.proofs.spelling.read_digits.Goals.{then-digit-base-via-else-digit-base+then-value-from}

pub returns-then-digit-base : goal.returns-then-digit-base
returns-then-digit-base c =
    let some : (length c.args.digits.now == 0) ≡ false = grind (arith, nat_tests) in
    let is = c.digit_value-digit.ensures in
    elim c.then-digit-base.branch [
      | then-digit-base-via-then-digit-base w ↦
          bad_digit c.args.decimal c.args.base c.loop-byte.value c.loop-byte.byte-index c.args.digits.now c.loop-byte-test.true some
          c.loop-byte.invariant.rest
          (omega arith)
      | then-digit-base-via-else-digit-base+then-value-from w ↦
          let low : digit_value (get_or c.args.digits.now c.loop-byte.byte-index 0) < c.args.base = omega arith in
          bad_value c.args.decimal c.args.base c.loop-byte.value c.loop-byte.byte-index c.args.digits.now
          (let l = c.requires.low in omega arith) c.loop-byte-test.true some
          c.loop-byte.invariant.rest low
          (over c.loop-byte.value (digit_value (get_or c.args.digits.now c.loop-byte.byte-index 0)) c.args.base
          (let l = c.requires.low in omega arith)
          (let h = c.requires.high in omega arith)
          (subst (λ (n : ℕ). (9223372036854775807 - n) / c.args.base < c.loop-byte.value) (w.from.ensures ∙ is)
          (subst (λ (n : ℕ). (9223372036854775807 - w.from.result) / n < c.loop-byte.value) w.from-else-digit-base.ensures
          w.if-value-from.true)))
    ]
