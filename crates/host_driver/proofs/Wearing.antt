-- A sector of a cartridge that the host knows is worn.
use Rattle.std.proofs.Common.{◌≡◌, ℕ, ◌*◌, ◌<◌, ◌≤◌, ◌⊎◌, inl, inr, [], ◌∷◌, ap, sym, subst, arith, Some, None, Option, IfSome, IsSomeAnd}
use Rattle.std.proofs.Common.{Ok, Err}
use Rattle.qic_base.specs.Cartridge.{IsPlace}
use Rattle.std.proofs.lemmas.Bool.{cases_lt}
use Rattle.qic_base.specs.Step.{Wear}
use Rattle.qic_base.specs.Tape.{Meaning}
use Rattle.qic_base.specs.declared.tape.TapeInfo.{TapeInfo}
use Rattle.drive_spec.specs.Record.{Record}
use Rattle.drive_states.specs.declared.fault.HandFault.TheVariants.{BadPlace}
use Rattle.drive_states.specs.Hand.{HandAnswer, Wears, IsNotReached}
use Rattle.drive_states.specs.Unit.{UnitView}
use Rattle.host_driver.specs.Fits.{AgreesWithTape}
use Rattle.host_driver.proofs.Marks.{wear_keeps, done_agrees, broke_agrees}

wears_agrees : {T : Type 0} (m : Meaning T) (u v : UnitView T) (segment sector : ℕ) (r : HandAnswer (Unit {0})) → v.drive ≡ u.drive →
    Wears m u v segment sector r → AgreesWithTape m u → AgreesWithTape m v
wears_agrees m u v segment sector (Ok (Ok done)) same w = done_agrees m u v (Wear segment sector ∷ []) (wear_keeps segment sector)
    (ap (λ (r : Record). r.deck.cartridge) same) w
wears_agrees m u v segment sector (Ok (Err fault)) same w = absurd w
wears_agrees m u v segment sector (Err failed) same w = broke_agrees m u v (Wear segment sector ∷ []) (wear_keeps segment sector)
    (ap (λ (r : Record). r.deck.cartridge) same) w

placed_or_not : (n segment sector : ℕ) → IsPlace n segment sector ⊎ (¬ (IsPlace n segment sector))
placed_or_not n segment sector = by_segment (cases_lt segment (28 * n)) (cases_lt sector 32)
  where
    by_segment : (segment < 28 * n) ⊎ (28 * n ≤ segment) → (sector < 32) ⊎ (32 ≤ sector) → IsPlace n segment sector
        ⊎ (¬ (IsPlace n segment sector))
    by_segment (inl on) (inl within) = inl record { on_tape = on; in_segment = within }
    by_segment (inl on) (inr over) = inr (λ p. let w = p.in_segment in omega arith)
    by_segment (inr off) t = inr (λ p. let w = p.on_tape in omega arith)

pub wears_of : {T : Type 0} (m : Meaning T) (u v : UnitView T) (n segment sector : ℕ) (r : HandAnswer (Unit {0})) →
    IsSomeAnd u.drive.deck.cartridge (λ info. info.segments_per_track ≡ n) → v.drive ≡ u.drive →
    IfSome u.drive.deck.cartridge (λ info. IsPlace info.segments_per_track segment sector → Wears m u v segment sector r) →
    IfSome u.drive.deck.cartridge (λ info. ¬ (IsPlace info.segments_per_track segment sector) → r ≡ Ok (Err BadPlace)) →
    (IsNotReached r → v ≡ u) → AgreesWithTape m u → AgreesWithTape m v
wears_of m u v n segment sector r there same placed misplaced untouched agrees = by_cartridge u.drive.deck.cartridge there placed misplaced
  where
    by_place : (info : TapeInfo) → IsPlace info.segments_per_track segment sector ⊎ (¬ (IsPlace info.segments_per_track segment sector)) →
        (IsPlace info.segments_per_track segment sector → Wears m u v segment sector r) →
        (¬ (IsPlace info.segments_per_track segment sector) → r ≡ Ok (Err BadPlace)) → AgreesWithTape m v
    by_place info (inl place) p q = wears_agrees m u v segment sector r same (p place) agrees
    by_place info (inr none) p q = subst (λ (w : UnitView _). AgreesWithTape m w) (sym (untouched (inr (q none)))) agrees

    by_cartridge : (c : Option TapeInfo) → IsSomeAnd c (λ info. info.segments_per_track ≡ n) →
        IfSome c (λ info. IsPlace info.segments_per_track segment sector → Wears m u v segment sector r) →
        IfSome c (λ info. ¬ (IsPlace info.segments_per_track segment sector) → r ≡ Ok (Err BadPlace)) → AgreesWithTape m v
    by_cartridge None h p q = absurd h
    by_cartridge (Some info) h p q = by_place info (placed_or_not info.segments_per_track segment sector) p q
