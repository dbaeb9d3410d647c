-- What a person does to the cartridge, past the drive (this project's profile).
use Rattle.std.specs.Prelude.{◌≡◌, ℕ, ◌⊎◌, true, false, [], ◌∷◌, Option, Some, None, Result, Ok, Err}
use Rattle.qic_base.specs.Cartridge.{view_at, IsPlace}
use Rattle.qic_base.specs.CartridgeTerms.{IsVersion}
use Rattle.qic_base.specs.Step.{Step, Wear, Spoil, Upgrade}
use Rattle.qic_base.specs.Tape.{Meaning, Done, Broke, spoil_answer}
use Rattle.qic_base.specs.TapeCalls.{Tells}
use Rattle.qic_base.specs.declared.tape.TapeFailed.{TapeFailed}
use Rattle.qic_base.specs.declared.tape.TapeInfo.{TapeInfo}
use Rattle.drive_spec.specs.Record.{power_on}
use Rattle.drive_states.specs.declared.fault.HandFault.{HandFault}
use Rattle.drive_states.specs.declared.fault.HandFault.TheVariants.{NoCartridge, BadPlace, NotBlank}
use Rattle.drive_states.specs.Unit.{UnitView, IsInserted}

-- what such a call answers: what it came to, or why it can't be done; or that the tape failed
abbrev pub HandAnswer : Type 0 → Type 0
HandAnswer A = Result (Result A HandFault) TapeFailed

-- it was carried out as this says, or the tape failed in it
abbrev pub IsCarriedOut : {A : Type 0} → (Result A TapeFailed → Type 0) → HandAnswer A → Type 0
IsCarriedOut Is (Ok (Ok a)) = Is (Ok a)
IsCarriedOut Is (Ok (Err fault)) = ⊥
IsCarriedOut Is (Err failed) = Is (Err failed)

-- A change of the cartridge after which it is put in again. After a fault of the tape the drive knows of none.
abbrev pub Replaces : {T : Type 0} (m : Meaning T) (old new : UnitView T) (change : Step) → Result (Unit {0}) TapeFailed → Type 0
Replaces m old new change (Ok done) = IsInserted m new × Done m old.tape new.tape (change ∷ [])
Replaces m old new change (Err failed) = (new.drive ≡ power_on None) × Broke m old.tape new.tape (change ∷ [])

-- A sector of the cartridge is worn.
abbrev pub Wears : {T : Type 0} (m : Meaning T) (old new : UnitView T) (segment sector : ℕ) → HandAnswer (Unit {0}) → Type 0
Wears m old new segment sector (Ok (Ok done)) = Done m old.tape new.tape (Wear segment sector ∷ [])
Wears m old new segment sector (Ok (Err fault)) = ⊥
Wears m old new segment sector (Err failed) = Broke m old.tape new.tape (Wear segment sector ∷ [])

-- A sector of the cartridge is spoiled, unless it was formatted.
abbrev pub Spoils : {T : Type 0} (m : Meaning T) (old new : UnitView T) (segment sector : ℕ) → HandAnswer (Unit {0}) → Type 0
Spoils m old new segment sector (Ok (Ok done)) =
    Done m old.tape new.tape (Spoil segment sector ∷ [])
    × Tells m old.tape (λ c. spoil_answer (view_at c segment sector) ≡ true)
Spoils m old new segment sector (Ok (Err NoCartridge)) = ⊥
Spoils m old new segment sector (Ok (Err BadPlace)) = ⊥
Spoils m old new segment sector (Ok (Err NotBlank)) =
    Done m old.tape new.tape (Spoil segment sector ∷ [])
    × Tells m old.tape (λ c. spoil_answer (view_at c segment sector) ≡ false)
Spoils m old new segment sector (Err failed) = Broke m old.tape new.tape (Spoil segment sector ∷ [])

-- The tape keeps its cartridge in the newest layout, and told the version of the layout before.
pub record IsUpgraded {T : Type 0} (m : Meaning T) (old new : T) (version : ℕ) : Type 0 where
  pub done : Done m old new (Upgrade ∷ [])
  pub told : Tells m old (λ c. version ≡ c.version)
  pub layout : IsVersion version
  pub size : m.size new ≡ m.size old

-- The tape failed in that: its size is told no more.
pub record FailsToUpgrade {T : Type 0} (m : Meaning T) (old new : T) : Type 0 where
  pub broke : Broke m old new (Upgrade ∷ [])
  pub size : m.size new ≡ None

-- The cartridge is brought to the newest layout, and the drive goes on as it was. After a fault of the tape it knows of
-- none.
abbrev pub Upgrades : {T : Type 0} (m : Meaning T) (old new : UnitView T) → Result ℕ TapeFailed → Type 0
Upgrades m old new (Ok version) = (new.drive ≡ old.drive) × IsUpgraded m old.tape new.tape version
Upgrades m old new (Err failed) = (new.drive ≡ power_on None) × FailsToUpgrade m old.tape new.tape

-- the place that a call names, by its answer: there is no cartridge, or it has no such sector
abbrev pub IsPlaced : Option TapeInfo → (segment sector : ℕ) → Result ℕ HandFault → Type 0
IsPlaced None segment sector result = result ≡ Err NoCartridge
IsPlaced (Some info) segment sector (Ok index) = (index ≡ sector) × IsPlace info.segments_per_track segment sector
IsPlaced (Some info) segment sector (Err fault) = (fault ≡ BadPlace) × ¬ (IsPlace info.segments_per_track segment sector)

-- the call came to no sector
abbrev pub IsNotReached : HandAnswer (Unit {0}) → Type 0
IsNotReached result = (result ≡ Ok (Err NoCartridge)) ⊎ (result ≡ Ok (Err BadPlace))
