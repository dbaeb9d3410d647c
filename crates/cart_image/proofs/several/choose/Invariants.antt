use Rattle.std.proofs.Common.{◌≡◌, ℕ, ◌<◌, ◌≤◌, false, length, get_or}
use Rattle.qic_base.specs.CartridgeTerms.{is_lost}
use Rattle.qic_base.specs.TapeCalls.{is_readable, is_blank}
use Rattle.cart_image.specs.Several.{takes_write}
use Rattle.cart_image.proofs.Choices.{IsChoice}
use Rattle.cart_image.proofs.several.choose.Given as goal

abbrev pub invariant-loop-i : goal.invariant-loop-i
invariant-loop-i l = record {
  long_readable : length l.readable ≡ 32;
  long_taking : length l.taking ≡ 32;
  readable : (k : ℕ) → k < l.i → IsChoice is_readable l.written l.states k (get_or l.readable k false);
  taking : (k : ℕ) → k < l.i → IsChoice takes_write l.written l.states k (get_or l.taking k false);
  blank : (k : ℕ) → k < l.i → IsChoice is_blank l.written l.states k (is_lost l.blank k);
  rest : (k : ℕ) → l.i ≤ k → is_lost l.blank k ≡ false;
}
