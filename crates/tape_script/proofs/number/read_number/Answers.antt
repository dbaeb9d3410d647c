use Rattle.std.proofs.Common.{◌<◌, ◌+◌, ◌*◌, ◌∙◌, ℕ, get_or, decimal, ap, arith, sym, refl}
use Rattle.std.proofs.lemmas.List.{take_all}
use Rattle.std.proofs.lemmas.Bool.Decides.{nat_tests}
use Rattle.tape_script.proofs.Decimals.{small, more_read, nine_digits, wrong_length, no_leading_zero}
use Rattle.command_laws.proofs.TextDecimals.{all_digits}
use Rattle.tape_script.proofs.number.read_number.Goals as goal

pub returns-then-is_empty : goal.returns-then-is_empty
returns-then-is_empty c n number =
    let long = wrong_length c.args.word.now n number in grind (arith, nat_tests)

pub returns-then-not-is_ascii_digit : goal.returns-then-not-is_ascii_digit
returns-then-not-is_ascii_digit c n number =
    let digit = all_digits c.args.word.now n c.loop-at.at number c.loop-at-test.true in
    let cases = c.if-not-is_ascii_digit.ensures.cases in grind arith

pub returns-then-value-eq0 : goal.returns-then-value-eq0
returns-then-value-eq0 c n number =
    no_leading_zero c.args.word.now n c.loop-at.at number c.if-at-gt0.true c.loop-at-test.true
    (c.loop-at.invariant.so_far c.if-at-gt0.true ∙ ap (λ (v : ℕ). decimal v) c.if-value-eq0.true)

pub overflow_mul-value : goal.overflow_mul-value
overflow_mul-value c =
    let few = small c.args.word.now c.loop-at.at c.loop-at.value (omega arith) c.loop-at-test.true c.if-word-gt-MOST_DIGITS.false
    c.loop-at.invariant.none c.loop-at.invariant.so_far in
    omega arith

pub overflow_add-value : goal.overflow_add-value
overflow_add-value c =
    let few = small c.args.word.now c.loop-at.at c.loop-at.value (omega arith) c.loop-at-test.true c.if-word-gt-MOST_DIGITS.false
    c.loop-at.invariant.none c.loop-at.invariant.so_far in
    let cases = c.if-not-is_ascii_digit.ensures.cases in
    let digit = c.from.ensures in omega arith

pub loop-at-preserved : goal.loop-at-preserved
loop-at-preserved c =
    let few = small c.args.word.now c.loop-at.at c.loop-at.value (omega arith) c.loop-at-test.true c.if-word-gt-MOST_DIGITS.false
    c.loop-at.invariant.none c.loop-at.invariant.so_far in
    let cases = c.if-not-is_ascii_digit.ensures.cases in
    record {
      none = λ e. absurd (omega arith);
      so_far = λ some. more_read c.args.word.now c.loop-at.at c.loop-at.value (get_or c.args.word.now c.loop-at.at 0) c.loop-at-test.true
          c.loop-at.invariant.none c.loop-at.invariant.so_far few c.else-at-gt0.either refl (omega arith) (omega arith)
          ∙ ap (λ (d : ℕ). decimal (10 * c.loop-at.value + d)) (sym c.from.ensures);
    }

pub returns : goal.returns
returns c =
    let some : 0 < c.loop-at.at = grind (arith, nat_tests) in
    let digits = sym (take_all c.loop-at.at c.args.word.now c.loop-at-test.false) ∙ c.loop-at.invariant.so_far some in
    record { digits = digits; nine = nine_digits c.args.word.now c.loop-at.value (omega arith) c.if-word-gt-MOST_DIGITS.false digits }
