-- Fields written into a sector one after the other: each holds its value then, and no other byte changes.
use Rattle.std.proofs.Common.{◌≡◌, ℕ, ◌+◌, ◌-◌, ◌<◌, List, length, refl, arith, min, length-append, length-take, length-drop, ◌&&◌, Bool}
use Rattle.std.proofs.Common.{true, [], ◌∷◌, nat_lt}
use Rattle.std.specs.List.{All}
use Rattle.std.proofs.lemmas.List.Elements.{All-head, All-tail}
use Rattle.std.proofs.lemmas.Bool.Decides.{nat_tests}
use Rattle.cartridge_laws.proofs.HeaderFieldSets.{length-value_bytes}
use Rattle.cartridge_laws.proofs.FreshFields.{and-left, and-right}
use Rattle.cartridge_laws.specs.HeaderWriting.{FieldFits, value_bytes, with_fields}
use Rattle.cartridge_spec.specs.Header.{Field}
use Rattle.qic_base.specs.Field.{overwritten}

-- a sector that is whole after a write was whole before it
length-before : (f : Field) (sector : List ℕ) → FieldFits f → f.offset + f.width < 1024 →
    length (overwritten sector f.offset (value_bytes f.width f.value)) ≡ 1024 → length sector ≡ 1024
unfolding overwritten
length-before f sector room inside whole =
    let size : length (value_bytes f.width f.value) ≡ f.width = length-value_bytes f.width f.value room in
    let parts : length (overwritten sector f.offset (value_bytes f.width f.value)) ≡ min f.offset
    (length sector) + f.width + (length sector - (f.offset + f.width)) =
    simp (length-append, length-take, length-drop, size) refl in
    omega (arith, parts, whole)

-- the fields end before the sector does
abbrev pub end_early : List Field → Bool
end_early [] = true
end_early (f ∷ fs) = nat_lt (f.offset + f.width) 1024 && end_early fs

pub length-before_fields : (fs : List Field) (sector : List ℕ) → end_early fs ≡ true → All FieldFits fs →
    length (with_fields fs sector) ≡ 1024 → length sector ≡ 1024
length-before_fields [] sector early fits whole = whole
length-before_fields (f ∷ fs) sector early fits whole =
    let here : nat_lt (f.offset + f.width) 1024 ≡ true = and-left _ _ early in
    length-before f sector (All-head FieldFits f fs fits) (grind (arith, nat_tests))
    (length-before_fields fs (overwritten sector f.offset (value_bytes f.width f.value)) (and-right _ _ early)
    (All-tail FieldFits f fs fits) whole)
