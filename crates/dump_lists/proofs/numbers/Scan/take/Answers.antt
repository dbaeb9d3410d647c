use Rattle.std.proofs.Common.{◌≤◌, ◌^◌, ◌∙◌, sym, refl, arith}
use Rattle.std.proofs.Math.Nat.{pow-le-pow_right}
use Rattle.dump_lists.proofs.Numbering.{take_digit, take_other, none_by_byte, none_by_length}
use Rattle.dump_lists.proofs.numbers.Scan.take.Goals as goal
use Rattle.dump_lists.proofs.numbers.Scan.take.Goals.{in_default-via-in-Some+else-self-lt-DIGITS, in_default-via-in_default}

pub overflow_mul-self : goal.overflow_mul-self
overflow_mul-self c =
    let small = c.args.self.now.small in
    let few : c.args.self.now.digits ≤ 8 = omega (arith, c.if-self-lt-DIGITS.true) in
    let most : 10 ^ c.args.self.now.digits ≤ 10 ^ 8 = pow-le-pow_right (omega arith) few in
    omega (arith, small, most)

pub overflow_add-self : goal.overflow_add-self
overflow_add-self c =
    let small = c.args.self.now.small in
    let few : c.args.self.now.digits ≤ 8 = omega (arith, c.if-self-lt-DIGITS.true) in
    let most : 10 ^ c.args.self.now.digits ≤ 10 ^ 8 = pow-le-pow_right (omega arith) few in
    let low = c.in-Some.ensures.digit in
    omega (arith, small, most, low)

pub returns-in-Some : goal.returns-in-Some
returns-in-Some c = λ begun is.
    let low = c.in-Some.ensures.digit in
    take_digit c.args.self.now _ c.args.byte begun (sym c.is_blank.ensures ∙ c.if-is_blank.false) (omega (arith, low)) refl
    (omega (arith, low)) refl is

pub returns-in_default : goal.returns-in_default
returns-in_default c = λ begun is.
    take_other c.args.self.now _ c.args.byte begun (sym c.is_blank.ensures ∙ c.if-is_blank.false)
    (elim c.in_default.branch [
      | in_default-via-in-Some+else-self-lt-DIGITS w ↦
          none_by_length begun c.args.byte (let d = is.digits in omega (arith, w.if-self-lt-DIGITS.false))
      | in_default-via-in_default w ↦ none_by_byte begun c.args.byte c.args.self.now.value is.value (c.digit.ensures.other w.in_default.is)
    ]) refl refl refl
