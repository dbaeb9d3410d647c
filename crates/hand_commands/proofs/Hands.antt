-- How a change by hand ends, by what the drive's call answered.
use Rattle.std.proofs.Common.{◌≡◌, ◌≢◌, ◌⊎◌, ℕ, Option, Some, None, IfSome, IfNone, Ok, Err, refl, subst, inl, inr, true, not}
use Rattle.qic_base.specs.Cartridge.{IsLength, IsPlace}
use Rattle.qic_base.specs.declared.tape.TapeInfo.{TapeInfo}
use Rattle.drive_states.specs.declared.fault.HandFault.TheVariants.{NoCartridge, BadPlace}
use Rattle.command_laws.proofs.CommandNumbers.{place_there, place_missing}
use Rattle.command_laws.proofs.ScriptPlaces.{place_or_not}
use Rattle.command_spec.specs.Numbers.{is_on_each, is_sector}
use Rattle.drive_states.specs.Hand.{HandAnswer}
use Rattle.drive_states.specs.Sound.{HasLength}

-- the drive knows a cartridge, and it has the sector
pub record Reached (cartridge : Option TapeInfo) (segment sector : ℕ) (P : Type 0) : Type 0 where
  pub info : TapeInfo
  pub known : cartridge ≡ Some info
  pub place : IsPlace info.segments_per_track segment sector
  pub fact : P

pub record Misplaced (cartridge : Option TapeInfo) (segment sector : ℕ) : Type 0 where
  pub info : TapeInfo
  pub known : cartridge ≡ Some info
  pub none : ¬ (IsPlace info.segments_per_track segment sector)

-- a call for a sector that was not refused came to it
pub reached : (cartridge : Option TapeInfo) (segment sector : ℕ) (result : HandAnswer (Unit {0}))
    (P : HandAnswer (Unit {0}) → Type 0) →
    IfNone cartridge (result ≡ Ok (Err NoCartridge)) →
    IfSome cartridge (λ info. ¬ (IsPlace info.segments_per_track segment sector) → result ≡ Ok (Err BadPlace)) →
    IfSome cartridge (λ info. IsPlace info.segments_per_track segment sector → P result) →
    result ≢ Ok (Err NoCartridge) → result ≢ Ok (Err BadPlace) → Reached cartridge segment sector (P result)
reached None segment sector result P absent misplaced placed some good = absurd (some absent)
reached (Some info) segment sector result P absent misplaced placed some good =
    by_place (place_or_not info.segments_per_track segment sector)
  where
    by_place : IsPlace info.segments_per_track segment sector ⊎ ¬ (IsPlace info.segments_per_track segment sector) →
        Reached (Some info) segment sector (P result)
    by_place (inl place) = record { info = info; known = refl; place = place; fact = placed place }
    by_place (inr none) = absurd (good (misplaced none))

-- one that was refused for want of a cartridge
pub unknown : (cartridge : Option TapeInfo) (segment sector : ℕ) (result : HandAnswer (Unit {0}))
    (P : HandAnswer (Unit {0}) → Type 0) →
    IfSome cartridge (λ info. ¬ (IsPlace info.segments_per_track segment sector) → result ≡ Ok (Err BadPlace)) →
    IfSome cartridge (λ info. IsPlace info.segments_per_track segment sector → P result) →
    result ≡ Ok (Err NoCartridge) → ¬ (P (Ok (Err NoCartridge))) → cartridge ≡ None
unknown None segment sector result P misplaced placed is never = refl
unknown (Some info) segment sector result P misplaced placed is never = by_place (place_or_not info.segments_per_track segment sector)
  where
    by_place : IsPlace info.segments_per_track segment sector ⊎ ¬ (IsPlace info.segments_per_track segment sector) → Some info ≡ None
    by_place (inl place) = absurd (never (subst P is (placed place)))
    by_place (inr none) = let other = misplaced none in absurd (cc)

-- .. and for want of the sector
pub no_place : (cartridge : Option TapeInfo) (segment sector : ℕ) (result : HandAnswer (Unit {0}))
    (P : HandAnswer (Unit {0}) → Type 0) →
    IfNone cartridge (result ≡ Ok (Err NoCartridge)) →
    IfSome cartridge (λ info. IsPlace info.segments_per_track segment sector → P result) →
    result ≡ Ok (Err BadPlace) → ¬ (P (Ok (Err BadPlace))) → Misplaced cartridge segment sector
no_place None segment sector result P absent placed is never = absurd (cc)
no_place (Some info) segment sector result P absent placed is never =
    record { info = info; known = refl; none = λ place. never (subst P is (placed place)) }

-- a sector that was come to is one that there can be
pub reached_there : (cartridge : Option TapeInfo) (segment sector : ℕ) {P : Type 0} → HasLength cartridge →
    Reached cartridge segment sector P → is_sector segment sector ≡ true
reached_there None segment sector long came = let known = came.known in cc
reached_there (Some info) segment sector long came =
    let same : info ≡ came.info = (let known = came.known in cc) in
    place_there came.info.segments_per_track segment sector (subst (λ (i : TapeInfo). IsLength i.segments_per_track) same long) came.place

-- .. and one that the cartridge hasn't, one that there may not be
pub misplaced_there : (cartridge : Option TapeInfo) (segment sector : ℕ) → HasLength cartridge → Misplaced cartridge segment sector →
    not (is_on_each segment sector) ≡ true
misplaced_there None segment sector long out = let known = out.known in cc
misplaced_there (Some info) segment sector long out =
    let same : info ≡ out.info = (let known = out.known in cc) in
    place_missing out.info.segments_per_track segment sector (subst (λ (i : TapeInfo). IsLength i.segments_per_track) same long) out.none

-- ---- a call for the whole cartridge

pub record Switched (cartridge : Option TapeInfo) (P : Type 0) : Type 0 where
  pub info : TapeInfo
  pub known : cartridge ≡ Some info
  pub fact : P

pub record NotSwitched (cartridge : Option TapeInfo) (Q : Type 0) : Type 0 where
  pub known : cartridge ≡ None
  pub same : Q

pub switched : {A : Type 0} (cartridge : Option TapeInfo) (result : HandAnswer A) (P : HandAnswer A → Type 0) (Q : Type 0) →
    IfNone cartridge ((result ≡ Ok (Err NoCartridge)) × Q) → IfSome cartridge (λ info. P result) → result ≢ Ok (Err NoCartridge) →
    Switched cartridge (P result)
switched None result P Q absent present some = absurd (some absent.0)
switched (Some info) result P Q absent present some = record { info = info; known = refl; fact = present }

pub no_switch : {A : Type 0} (cartridge : Option TapeInfo) (result : HandAnswer A) (P : HandAnswer A → Type 0) (Q : Type 0) →
    IfNone cartridge ((result ≡ Ok (Err NoCartridge)) × Q) → IfSome cartridge (λ info. P result) → result ≡ Ok (Err NoCartridge) →
    ¬ (P (Ok (Err NoCartridge))) → NotSwitched cartridge Q
no_switch None result P Q absent present is never = record { known = refl; same = absent.1 }
no_switch (Some info) result P Q absent present is never = absurd (never (subst P is present))
