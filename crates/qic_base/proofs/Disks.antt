-- Laws of what a disk tells.
use Rattle.std.proofs.Common.{◌≡◌, ℕ, Bool, true, false, List, Option, Some, None, refl, ◌∙◌}
use Rattle.std.specs.Option.{option_map}
use Rattle.qic_base.specs.Disk.{Meaning, IsSettled, IsToldRight, Look, Stored, stored}

-- a look leaves the told bytes as they were
pub stored-look : (told : Option (List ℕ)) → option_map (stored Look) told ≡ told
stored-look None = refl
stored-look (Some bytes) = refl

pub told-look : {D : Type 0} {m : Meaning D} {a b : D} → Stored m a b Look → m.told b ≡ m.told a
told-look {m = m} {a = a} s = s.told ∙ stored-look (m.told a)

-- a disk that doesn't tell its crashes loses nothing
pub settled-told : {D : Type 0} (m : Meaning D) (d : D) → IsToldRight m d → (m.tells_stops d ≡ true → IsSettled m d) → IsSettled m d
settled-told m d right settled = by_telling (m.tells_stops d) refl
  where
    by_telling : (telling : Bool) → m.tells_stops d ≡ telling → IsSettled m d
    by_telling true is = settled is
    by_telling false is = right.untold is
