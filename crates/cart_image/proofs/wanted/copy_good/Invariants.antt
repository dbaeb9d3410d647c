use Rattle.std.proofs.Common.{◌≡◌, ℕ, ◌+◌, ◌*◌, ◌<◌, ◌≤◌, [], length, get_or}
use Rattle.std.specs.Prelude.{slice_range, if◌then◌else◌}
use Rattle.qic_base.specs.CartridgeTerms.{is_lost}
use Rattle.cart_image.proofs.wanted.copy_good.Given as goal

abbrev pub invariant-loop-i : goal.invariant-loop-i
invariant-loop-i l = record {
  long : length l.into ≡ 32;
  copied : (k : ℕ) → k < l.i → get_or l.into k [] ≡ (if is_lost l.good k then slice_range l.bytes (l.start + l.stride * k)
      (l.start + l.stride * k + 1024) else get_or l.fn.into k []);
  later : (k : ℕ) → l.i ≤ k → get_or l.into k [] ≡ get_or l.fn.into k [];
}
