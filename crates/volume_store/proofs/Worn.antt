-- A store behind a sector that was worn.
use Rattle.std.proofs.Common.{◌≡◌, ◌⊎◌, inl, inr, List, ℕ, [], ◌∷◌, Option, Some, None, IfSome, OnOk, sym, subst, Result, Ok, Err}
use Rattle.std.specs.Option.{option_map}
use Rattle.cartridge_spec.specs.Table.{Entry}
use Rattle.command_laws.proofs.ScriptPlaces.{place_or_not}
use Rattle.command_laws.proofs.StoreWorn.{worn_list}
use Rattle.drive_spec.specs.Deck.{segments_per_track}
use Rattle.drive_states.specs.Hand.{HandAnswer, Wears}
use Rattle.drive_states.specs.Unit.{UnitView}
use Rattle.drive_states.specs.declared.fault.HandFault.{HandFault}
use Rattle.qic_base.specs.Cartridge.{Cartridge, IsPlace}
use Rattle.qic_base.specs.Step.{Wear, effects}
use Rattle.qic_base.specs.Tape.{Meaning, Done}
use Rattle.qic_base.specs.TapeCalls.{Tells}
use Rattle.volume_store.proofs.Fitting.{Listed}
use Rattle.drive_states.specs.declared.fault.HandFault.TheVariants.{BadPlace}

worn_told : {T : Type 0} (m : Meaning T) (old new : T) (segment sector : ℕ) (entries : List Entry) →
    Done m old new (Wear segment sector ∷ []) →
    Tells m old (Listed entries) → Tells m new (Listed entries)
worn_told m old new segment sector entries done lists =
    subst (λ (held : Option (Option Cartridge)). IfSome held (λ h. IfSome h (Listed entries))) (sym done.told) (by_told (m.told old) lists)
  where
    by_told : (held : Option (Option Cartridge)) → IfSome held (λ h. IfSome h (Listed entries)) →
        IfSome (option_map (effects (Wear segment sector ∷ [])) held) (λ h. IfSome h (Listed entries))
    by_told None known = tt
    by_told (Some None) known = tt
    by_told (Some (Some c)) known = λ mark. worn_list c segment sector entries (known mark)

-- where the tape didn't fail
pub worn_lists : {T : Type 0} (m : Meaning T) (old new : UnitView T) (segment sector : ℕ) (entries : List Entry)
    (answer : HandAnswer (Unit {0})) {P : Type 0} →
    (¬ (IsPlace (segments_per_track old.drive.deck) segment sector) → (answer ≡ Ok (Err BadPlace)) × (new ≡ old)) →
    (IsPlace (segments_per_track old.drive.deck) segment sector → Wears m old new segment sector answer) →
    Tells m old.tape (Listed entries) → (Tells m new.tape (Listed entries) → P) → OnOk answer P
worn_lists m old new segment sector entries (Err failed) misplaced placed lists then_p = tt
worn_lists {T} m old new segment sector entries (Ok answer) misplaced placed lists then_p =
    then_p (by_place (place_or_not (segments_per_track old.drive.deck) segment sector))
  where
    worn : (answer : Result (Unit {0}) HandFault) → Wears m old new segment sector (Ok answer) → Tells m new.tape (Listed entries)
    worn (Ok done) wears = worn_told m old.tape new.tape segment sector entries wears lists
    worn (Err fault) wears = absurd wears

    by_place : IsPlace (segments_per_track old.drive.deck) segment sector ⊎ ¬ (IsPlace (segments_per_track old.drive.deck) segment sector) →
        Tells m new.tape (Listed entries)
    by_place (inl place) = worn answer (placed place)
    by_place (inr none) = subst (λ (u : UnitView T). Tells m u.tape (Listed entries)) (sym (misplaced none).1) lists
