-- Whether a cartridge has a sector.
use Rattle.std.proofs.Common.{◌≡◌, ◌⊎◌, inl, inr, ℕ, ◌*◌, ◌<◌, Bool, true, false, nat_lt, ltb-true, ltb-false, refl, arith}
use Rattle.qic_base.specs.Cartridge.{IsPlace}

pub place_or_not : (n segment sector : ℕ) → IsPlace n segment sector ⊎ ¬ (IsPlace n segment sector)
place_or_not n segment sector = by_segment (nat_lt segment (28 * n)) refl
  where
    by_sector : segment < 28 * n → (b : Bool) → nat_lt sector 32 ≡ b → IsPlace n segment sector ⊎ ¬ (IsPlace n segment sector)
    by_sector on_tape true is = inl (record { on_tape = on_tape; in_segment = ltb-true sector 32 is })
    by_sector on_tape false is = inr (λ place. let above = ltb-false sector 32 is in let within = place.in_segment in omega arith)

    by_segment : (b : Bool) → nat_lt segment (28 * n) ≡ b → IsPlace n segment sector ⊎ ¬ (IsPlace n segment sector)
    by_segment true is = by_sector (ltb-true segment (28 * n) is) (nat_lt sector 32) refl
    by_segment false is = inr (λ place. let above = ltb-false segment (28 * n) is in let within = place.on_tape in omega arith)
