use Rattle.std.proofs.Common.{◌≡◌, ℕ, ◌<◌, ◌≤◌, false}
use Rattle.qic_base.specs.CartridgeTerms.{is_lost}
use Rattle.qic_base.specs.TapeCalls.{is_readable, is_blank}
use Rattle.cart_image.proofs.Choices.{IsChoice}
use Rattle.cart_image.proofs.wanted.words.Given as goal

abbrev pub invariant-loop-i : goal.invariant-loop-i
invariant-loop-i l = record {
  good : (k : ℕ) → k < l.i → IsChoice is_readable l.wanted l.states k (is_lost l.good k);
  good_later : (k : ℕ) → l.i ≤ k → is_lost l.good k ≡ false;
  blank : (k : ℕ) → k < l.i → IsChoice is_blank l.wanted l.states k (is_lost l.blank k);
  blank_later : (k : ℕ) → l.i ≤ k → is_lost l.blank k ≡ false;
}
