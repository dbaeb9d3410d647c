-- Two tests that both hold.
use Rattle.std.proofs.Common.{◌≡◌, ◌&&◌, Bool, true, false, refl}

pub both_true : (a b : Bool) → a ≡ true → b ≡ true → (a && b) ≡ true
both_true true true one other = refl
both_true true false one other = absurd (cc)
both_true false b one other = absurd (cc)
