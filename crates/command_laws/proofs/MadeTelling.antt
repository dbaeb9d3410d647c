-- What is told of a tape behind some steps.
use Rattle.std.proofs.Common.{List, Option, Some, None, IfSome, subst}
use Rattle.std.specs.Option.{option_map}
use Rattle.cartridge_laws.proofs.FormatWriting.{effects-some}
use Rattle.cartridge_spec.specs.Settling.{changed_by}
use Rattle.qic_base.specs.Cartridge.{Cartridge}
use Rattle.qic_base.specs.Step.{Step, effects}
use Rattle.qic_base.specs.Tape as tapes
use Rattle.qic_base.specs.TapeCalls as tape_calls

-- a fact told behind some steps, of the cartridge before them
pub tells_before : {T : Type 0} (t : tapes.Meaning T) (a b : T) (steps : List Step) (P : Cartridge → Type 0) → tapes.Done t a b steps →
    tape_calls.Tells t b P →
    tape_calls.Tells t a (λ c. P (changed_by steps c))
tells_before t a b steps P did told = by_cases (t.told a)
    (subst (λ (o : Option (Option Cartridge)). IfSome o (λ held. IfSome held P)) did.told told)
  where
    by_cases : (o : Option (Option Cartridge)) → IfSome (option_map (effects steps) o) (λ held. IfSome held P) →
        IfSome o (λ held. IfSome held (λ c. P (changed_by steps c)))
    by_cases None fact = tt
    by_cases (Some None) fact = tt
    by_cases (Some (Some c)) fact = subst (λ (held : Option Cartridge). IfSome held P) (effects-some steps c) fact
