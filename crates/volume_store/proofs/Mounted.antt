-- How the opening of a cartridge ends, by how its mounting did.
use Rattle.std.proofs.Common.{◌≡◌, ◌⊎◌, ℕ, List, [], true, Option, Some, None, IfSome, IsSomeAnd, Ok, Err, refl, inl}
use Rattle.drive_states.specs.Unit.{UnitView}
use Rattle.qic_base.proofs.Steps.{Done-Done, Done-Broke}
use Rattle.qic_base.specs.Cartridge.{Cartridge}
use Rattle.qic_base.specs.Step.{Step as TapeStep}
use Rattle.qic_base.specs.declared.tape.TapeInfo.{TapeInfo}
use Rattle.volume_store.proofs.Started.{Present, told_known_beside, told_at_start, told_before}
use Rattle.volume_store.specs.Opening.{IsTurnedDown, HasOpened, OpenFails}
use Rattle.cartridge_front.specs.Finding.{is_of_mounting, NamesCause}
use Rattle.cartridge_front.specs.Learning.{MountRefuses}
use Rattle.volume_store.specs.Mounting.{StoreView, StoreFits, IsSettling, SettlingBreaks, MountDoes, IsOpened}
use Rattle.qic_base.specs.declared.store_fault.StoreFault.{StoreFault}
use Rattle.qic_base.specs.CartridgeTerms.{IsInfoOf}
use Rattle.qic_base.specs.Tape as tapes
use Rattle.qic_base.specs.TapeCalls as tape_calls
use Rattle.volume_store.specs.Mounting as stores
use Rattle.qic_base.specs.declared.store_fault.StoreFault.TheVariants as fault

is_mounted : (info : TapeInfo) (store : StoreView) (steps : List TapeStep) (held : Option Cartridge) → IsInfoOf (Some info) held →
    IfSome held (λ c. stores.Settles c store.header store.words store.entries steps) → IsSomeAnd held (λ c. IsOpened c store steps)
is_mounted info store steps None known settles = cc
is_mounted info store steps (Some c) known settles = settles

is_refused : (info : TapeInfo) (f : StoreFault) (held : Option Cartridge) → IsInfoOf (Some info) held →
    IfSome held (λ c. MountRefuses c f) → IsSomeAnd held (λ c. MountRefuses c f)
is_refused info f None known refuses = cc
is_refused info f (Some c) known refuses = refuses

-- a fault before any step
pub cut_first : {T : Type 0} (t : tapes.Meaning T) (a b : T) → tapes.Broke t a b [] → SettlingBreaks t a b
cut_first t a b broke = record { steps = []; broke = broke; front = nothing_begins (t.told a) }
  where
    nothing_begins : (told : Option (Option Cartridge)) →
        IfSome told (λ held. (◌≡◌ {A = List TapeStep} [] []) ⊎ IsSomeAnd held (λ c. IsSettling c []))
    nothing_begins None = tt
    nothing_begins (Some h) = inl refl

pub open_shown : {T : Type 0} (t : tapes.Meaning T) (a b : T) (c : UnitView T) (info : TapeInfo) (store : StoreView) → Present t a b info →
    MountDoes t b c.tape (Ok store) → StoreFits t store c →
    HasOpened t a c store
open_shown t a b c info store there does fits = record {
  steps = does.steps;
  did = Done-Done there.did does.done;
  told = told_known_beside (t.told a) (Some info) (λ d. stores.Settles d store.header store.words store.entries does.steps)
      (λ h. IsSomeAnd h (λ d. IsOpened d store does.steps)) there.known
      (told_at_start t a b there.did (λ d. stores.Settles d store.header store.words store.entries does.steps) does.told)
      (λ held known settles. is_mounted info store does.steps held known settles);
  fits = fits;
}

pub turned : {T : Type 0} (n : ℕ) (t : tapes.Meaning T) (a b : T) (c : UnitView T) (info : TapeInfo) (f : StoreFault) → Present t a b info →
    tapes.Done t b c.tape [] → tape_calls.Tells t b (λ d. MountRefuses d f) →
    is_of_mounting f ≡ true → NamesCause {A = StoreView} n (Err f) → IsTurnedDown t a c.tape f
turned n t a b c info f there did told kind cause = record {
  did = Done-Done there.did did;
  kind = kind;
  segments = n;
  cause = cause;
  told = told_known_beside (t.told a) (Some info) (λ d. MountRefuses d f) (λ h. IsSomeAnd h (λ d. MountRefuses d f)) there.known
      (told_at_start t a b there.did (λ d. MountRefuses d f) told) (λ held known refuses. is_refused info f held known refuses);
}

pub open_failed : {T : Type 0} (n : ℕ) (t : tapes.Meaning T) (a b : T) (c : UnitView T) (info : TapeInfo) (f : StoreFault) →
    Present t a b info → MountDoes t b c.tape (Err f) → is_of_mounting f ≡ true →
    NamesCause {A = StoreView} n (Err f) → OpenFails t a c.tape (Some f)
open_failed n t a b c info fault.NotFormatted there does kind cause =
    turned n t a b c info fault.NotFormatted there does.done does.told kind cause
open_failed n t a b c info (fault.Foreign field value) there does kind cause =
    turned n t a b c info (fault.Foreign field value) there does.done does.told kind cause
open_failed n t a b c info (fault.Lost segment lost) there does kind cause =
    turned n t a b c info (fault.Lost segment lost) there does.done does.told kind cause
open_failed n t a b c info fault.TableMismatch there does kind cause =
    turned n t a b c info fault.TableMismatch there does.done does.told kind cause
open_failed n t a b c info fault.Tape there does kind cause = record {
  steps = does.steps;
  broke = Done-Broke there.did does.broke;
  front = told_before t a b there.did (λ held. (does.steps ≡ []) ⊎ IsSomeAnd held (λ d. IsSettling d does.steps)) does.front;
}
open_failed n t a b c info f there does kind cause = absurd (cc)
