-- What a file is that is taken for an image, and what one that isn't (this project's own).
use Rattle.std.specs.Prelude.{◌≡◌, ◌≢◌, ◌⊎◌, ◌+◌, ◌-◌, ◌^◌, ◌≤◌, ℕ, List, min, IfSome, None, true, false}
use Rattle.qic_base.specs.Disk.{Meaning}
use Rattle.cart_image.specs.Image.{cartridge_of}
use Rattle.image_kind.specs.Free.{is_free}
use Rattle.image_kind.specs.declared.opened.NoTape.{NoTape}
use Rattle.image_kind.specs.declared.opened.NoTape.TheVariants.{HoldsOther, NotSeen}

-- it is an image, or may be taken for one to be made
abbrev pub MayBeTaken : List ℕ → Type 0
MayBeTaken bytes = (cartridge_of bytes ≢ None) ⊎ (is_free bytes ≡ true)

-- it is neither
abbrev pub IsOther : List ℕ → Type 0
IsOther bytes = (cartridge_of bytes ≡ None) × (is_free bytes ≡ false)

-- one look at least failed: the count rose, or was the greatest already
abbrev pub SomeFailed : (before now : ℕ) → Type 0
SomeFailed before now = min (before + 1) (2 ^ 64 - 1) ≤ now

-- it holds something else, or a look at it failed
abbrev pub Refuses : {D : Type 0} (m : Meaning D) (file : D) → NoTape D → Type 0
Refuses m file HoldsOther = IfSome (m.told file) IsOther
Refuses m file (NotSeen failed) = SomeFailed (m.faults file) (m.faults failed)
