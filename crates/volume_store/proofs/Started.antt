-- What is told of a cartridge that was put in.
use Rattle.std.proofs.Common.{◌≡◌, [], Option, Some, None, IfSome, IsSomeAnd, Result, Ok, Err, IfOk, OnOk, refl, subst}
use Rattle.drive_states.specs.Unit.{UnitView}
use Rattle.host_driver.specs.Calls.{IsReady}
use Rattle.host_driver.specs.Fits.{AgreesWithTape}
use Rattle.host_driver.specs.Starts.{KnowsTold, Starts}
use Rattle.host_driver.specs.declared.host.Host.{Host}
use Rattle.qic_base.proofs.Steps.{Done-told}
use Rattle.qic_base.specs.Cartridge.{Cartridge}
use Rattle.qic_base.specs.declared.tape.TapeFailed.{TapeFailed}
use Rattle.qic_base.specs.declared.tape.TapeInfo.{TapeInfo}
use Rattle.volume_store.specs.Opening.{HasStarted, StartEnds}
use Rattle.qic_base.specs.CartridgeTerms.{IsInfoOf}
use Rattle.qic_base.specs.Tape as tapes
use Rattle.qic_base.specs.TapeCalls as tape_calls

-- a fact of what is told after the insertion was told before it
pub told_before : {T : Type 0} (t : tapes.Meaning T) (a b : T) → tapes.Done t a b [] → (P : Option Cartridge → Type 0) →
    IfSome (t.told b) P → IfSome (t.told a) P
told_before t a b inserted P told = subst (λ (held : Option (Option Cartridge)). IfSome held P) (Done-told inserted) told

-- .. what the drive knows since the insertion among them
known_before : {T : Type 0} (t : tapes.Meaning T) (a b : T) (cartridge : Option TapeInfo) → tapes.Done t a b [] →
    IfSome (t.told b) (IsInfoOf cartridge) → IfSome (t.told a) (IsInfoOf cartridge)
known_before t a b cartridge inserted known = told_before t a b inserted (IsInfoOf cartridge) known

-- .. and what was told of the cartridge
pub told_at_start : {T : Type 0} (t : tapes.Meaning T) (a b : T) → tapes.Done t a b [] → (P : Cartridge → Type 0) → tape_calls.Tells t b P →
    tape_calls.Tells t a P
told_at_start t a b inserted P told = told_before t a b inserted (λ h. IfSome h P) told

none_held : (held : Option (Option Cartridge)) → IfSome held (IsInfoOf None) → IfSome held (λ h. h ≡ None)
none_held None known = tt
none_held (Some None) known = refl
none_held (Some (Some c)) known = absurd (cc)

-- how the start ended, by the answer of the host
pub start_ends : {T : Type 0} (m : tapes.Meaning T) (old new : UnitView T) (answer : Result (Option Host) TapeFailed) →
    Starts m old new answer →
    IfOk answer (λ found. IfSome found (λ host. IsReady m host new)) → (answer ≡ Ok None → new.drive.deck.cartridge ≡ None) →
    OnOk answer (KnowsTold m new) → IfOk answer (λ found. IfSome found (λ host. AgreesWithTape m new)) → StartEnds m old new answer
start_ends m old new (Ok (Some host)) starts ready absent told agrees = record {
  did = starts.1;
  ready = ready;
  known = told;
  agrees = agrees;
}
start_ends m old new (Ok None) starts ready absent told agrees = (
  starts.1,
  none_held (m.told old.tape)
      (subst (λ (i : Option TapeInfo). IfSome (m.told old.tape) (IsInfoOf i)) (absent refl)
      (known_before m old.tape new.tape new.drive.deck.cartridge starts.1 told)),
)
start_ends m old new (Err failed) starts ready absent told agrees = starts.1

-- a fact of what is told follows from what the drive knows
pub told_known : (held : Option (Option Cartridge)) (cartridge : Option TapeInfo) (R : Option Cartridge → Type 0) →
    IfSome held (IsInfoOf cartridge) → ((h : Option Cartridge) → IsInfoOf cartridge h → R h) → IfSome held R
told_known None cartridge R known follows = tt
told_known (Some h) cartridge R known follows = follows h known

-- .. and from a fact of the cartridge
pub told_known_beside : (held : Option (Option Cartridge)) (cartridge : Option TapeInfo) (Q : Cartridge → Type 0)
    (R : Option Cartridge → Type 0) →
    IfSome held (IsInfoOf cartridge) → IfSome held (λ h. IfSome h Q) → ((h : Option Cartridge) → IsInfoOf cartridge h → IfSome h Q → R h) →
    IfSome held R
told_known_beside None cartridge Q R known fact follows = tt
told_known_beside (Some h) cartridge Q R known fact follows = follows h known fact

-- a cartridge that the drive knows
pub record IsThere (cartridge : Option TapeInfo) : Type 0 where
  pub info : TapeInfo
  pub is : cartridge ≡ Some info

is_there : (cartridge : Option TapeInfo) (P : TapeInfo → Type 0) → IsSomeAnd cartridge P → IsThere cartridge
is_there None P there = absurd there
is_there (Some info) P there = record { info = info; is = refl }

-- a host was started on it
pub record Present {T : Type 0} (t : tapes.Meaning T) (a b : T) (info : TapeInfo) : Type 0 where
  pub did : tapes.Done t a b []
  pub known : IfSome (t.told a) (IsInfoOf (Some info))

pub there_of : {T : Type 0} {t : tapes.Meaning T} {a b : UnitView T} {host : Host} → HasStarted t a b host → IsThere b.drive.deck.cartridge
there_of started = is_there _ _ started.ready.fits.cartridge

pub present : {T : Type 0} {t : tapes.Meaning T} {a b : UnitView T} {host : Host} → (started : HasStarted t a b host) →
    Present t a.tape b.tape (there_of started).info
present {t = t} {a = a} {b = b} started = record {
  did = started.did;
  known = subst (λ (i : Option TapeInfo). IfSome (t.told a.tape) (IsInfoOf i)) (there_of started).is
      (known_before t a.tape b.tape b.drive.deck.cartridge started.did started.known);
}
