-- A formatting that has begun leaves the reference bursts.
use Rattle.std.proofs.Common.{◌≡◌, ◌⊎◌, ℕ, inl, inr, List, [], ◌∷◌, ap, ◌∙◌, refl, Option, Some, None, IsSomeAnd, true}
use Rattle.cartridge_laws.proofs.FormatWriting.{some_and}
use Rattle.cartridge_laws.specs.ChangeSteps.{HasNoRenew, IsNoRenew}
use Rattle.qic_base.specs.Cartridge.{Cartridge}
use Rattle.qic_base.proofs.SectorsWritten.{StayWritten, sectors_keep, half_keeps}
use Rattle.qic_base.specs.Step.{Step, NewSector, WriteSectors, FormatSegment, SetReferenced, SetProtected, Renew, Wear, Spoil, Upgrade}
use Rattle.qic_base.specs.Step.{changed}
use Rattle.qic_base.specs.Step.{Halfway, Torn}
use Rattle.qic_base.specs.CartridgeTerms.{HalfFormatted}

-- ---- the reference bursts

abbrev pub IsReferenced : Cartridge → Type 0
IsReferenced c = c.info.referenced ≡ true

writes_referenced : (segment : ℕ) (new : List NewSector) → StayWritten IsReferenced segment new
writes_referenced segment [] = tt
writes_referenced segment (first ∷ more) =
    (record { worn = λ c is. is; written = λ c is. is }, writes_referenced segment more)

step_referenced : (s : Step) (c : Cartridge) → IsNoRenew s → IsReferenced c → IsReferenced (changed s c)
step_referenced (WriteSectors segment new) c none is =
    sectors_keep IsReferenced segment new c (writes_referenced segment new) is
step_referenced (FormatSegment segment) c none is = is
step_referenced SetReferenced c none is = refl
step_referenced (SetProtected on) c none is = is
step_referenced (Renew n) c none is = absurd none
step_referenced (Wear segment sector) c none is = is
step_referenced (Spoil segment sector) c none is = is
step_referenced Upgrade c none is = is

half_referenced : (segment : ℕ) (c : Cartridge) (left : Option Cartridge) → IsReferenced c → HalfFormatted segment (Some c) left →
    IsSomeAnd left IsReferenced
half_referenced segment c None is half = absurd half
half_referenced segment c (Some d) is (inl closing) = ap (λ i. i.referenced) closing.info ∙ is
half_referenced segment c (Some d) is (inr opening) = ap (λ i. i.referenced) opening.info ∙ is

step_stopped : (s : Step) (c : Cartridge) (left : Option Cartridge) → IsNoRenew s → IsReferenced c → Halfway s (Some c) left →
    IsSomeAnd left IsReferenced
step_stopped (WriteSectors segment new) c left none is half =
    half_keeps IsReferenced segment new c left (writes_referenced segment new) is half
step_stopped (FormatSegment segment) c left none is half = half_referenced segment c left is half
step_stopped SetReferenced c left none is half = absurd half
step_stopped (SetProtected on) c left none is half = absurd half
step_stopped (Renew n) c left none is half = absurd none
step_stopped (Wear segment sector) c left none is half = absurd half
step_stopped (Spoil segment sector) c left none is half = absurd half
step_stopped Upgrade c left none is half = absurd half

-- they stay, whatever the steps but for a new cartridge
steps_referenced : (steps : List Step) (c : Cartridge) (left : Option Cartridge) → HasNoRenew steps → IsReferenced c →
    Torn steps (Some c) left → IsSomeAnd left IsReferenced
steps_referenced [] c left none is same = some_and IsReferenced c left is same
steps_referenced (s ∷ ss) c left none is (inl same) = some_and IsReferenced c left is same
steps_referenced (s ∷ ss) c left none is (inr (inl half)) = step_stopped s c left none.0 is half
steps_referenced (s ∷ ss) c left none is (inr (inr torn)) = steps_referenced ss (changed s c) left none.1
    (step_referenced s c none.0 is) torn

-- a formatting has not begun, or the bursts are written
pub formatting_references : (steps : List Step) (c : Cartridge) (left : Option Cartridge) → HasNoRenew (SetReferenced ∷ steps) →
    Torn (SetReferenced ∷ steps) (Some c) left →
    (left ≡ Some c) ⊎ IsSomeAnd left IsReferenced
formatting_references steps c left none (inl same) = inl same
formatting_references steps c left none (inr (inl half)) = absurd half
formatting_references steps c left none (inr (inr torn)) = inr (steps_referenced steps (changed SetReferenced c) left none.1 refl torn)
