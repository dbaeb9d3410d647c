-- Fields that lie in the first sector.
use Rattle.std.proofs.Common.{◌+◌, ◌&&◌, Bool, true, List, [], ◌∷◌, nat_le, ◌≡◌, false, refl, ◌≤◌, arith}
use Rattle.std.proofs.lemmas.Bool.Decides.{nat_tests}
use Rattle.cartridge_spec.specs.Header.{Field}

abbrev pub are_first : List Field → Bool
are_first [] = true
are_first (f ∷ fs) = nat_le (f.offset + f.width) 1024 && are_first fs

pub and-left : (a b : Bool) → (a && b) ≡ true → a ≡ true
and-left true b h = refl
and-left false b h = h

pub and-right : (a b : Bool) → (a && b) ≡ true → b ≡ true
and-right true b h = h
and-right false b h = absurd (cc)

pub first-head : (f : Field) (fs : List Field) → are_first (f ∷ fs) ≡ true → f.offset + f.width ≤ 1024
first-head f fs first =
    let here : nat_le (f.offset + f.width) 1024 ≡ true = and-left _ _ first in
    grind (arith, nat_tests)

pub first-tail : (f : Field) (fs : List Field) → are_first (f ∷ fs) ≡ true → are_first fs ≡ true
first-tail f fs first = and-right _ _ first
