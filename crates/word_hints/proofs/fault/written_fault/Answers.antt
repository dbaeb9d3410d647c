use Rattle.std.proofs.Common.{refl}
use Rattle.word_hints.proofs.Digits.{leading_zero, too_many}
use Rattle.word_hints.proofs.fault.written_fault.Goals as goal

pub returns-then-word-eq48 : goal.returns-then-word-eq48
returns-then-word-eq48 c = leading_zero c.args.word.now (c.if-not-are_digits.ensures.0 refl) c.requires c.if-word-eq48.true

pub returns-else-word-eq48 : goal.returns-else-word-eq48
returns-else-word-eq48 c = too_many c.args.word.now (c.if-not-are_digits.ensures.0 refl) c.requires c.if-word-eq48.false
