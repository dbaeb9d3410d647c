-- What stays over the calls of a host.
use Rattle.std.proofs.Common.{◌≡◌, ℕ, Bool, true, false, refl, sym, ap, ◌∙◌, subst, Option, IfSome, IsSomeAnd}
use Rattle.std.specs.Option.{option_map_or}
use Rattle.qic_base.specs.Tape.{Meaning}
use Rattle.qic_base.specs.declared.tape.TapeInfo.{TapeInfo}
use Rattle.qic117_commands.specs.declared.view.Mode.{Mode}
use Rattle.qic117_commands.specs.Views.{is_primary}
use Rattle.drive_spec.specs.declared.deck.Deck.{Deck}
use Rattle.drive_spec.specs.Deck.{segments_per_track}
use Rattle.drive_states.specs.Unit.{UnitView}
use Rattle.host_driver.specs.declared.host.Host.{Host}
use Rattle.host_driver.specs.Calls.{IsReady, MayWrite, Keeps}
use Rattle.host_driver.specs.Fits.{AgreesWithTape}
use Rattle.host_driver.specs.Place.{KeepsMode}
use Rattle.host_driver.specs.Train.{ready_deck}
use Rattle.host_driver.proofs.Reaching.{length_is}

-- a test of the mode is what it was
pub mode_kept : (test : Mode → Bool) (value : Bool) (a b : Deck) → KeepsMode a b → test a.mode ≡ value → test b.mode ≡ value
mode_kept test value a b keeps was = ap test keeps.mode ∙ was

-- and so is a test of the cartridge
pub cartridge_kept : (test : TapeInfo → Bool) (value : Bool) (a b : Deck) → KeepsMode a b → option_map_or test a.cartridge false ≡ value →
    option_map_or test b.cartridge false ≡ value
cartridge_kept test value a b keeps was = ap (λ (cartridge : Option TapeInfo). option_map_or test cartridge false) keeps.cartridge ∙ was

-- what could be written still can
pub may_write_kept : (a b : Deck) → KeepsMode a b → MayWrite a → MayWrite b
may_write_kept a b keeps may = record {
  mode = mode_kept is_primary true a b keeps may.mode;
  writable = cartridge_kept (λ info. info.protected) false a b keeps may.writable;
}

-- where the tape is as it was, and what the drive knows of it
pub agrees_tape : {T : Type 0} (m : Meaning T) (old new : UnitView T) → new.drive.deck.cartridge ≡ old.drive.deck.cartridge →
    new.tape ≡ old.tape →
    AgreesWithTape m old → AgreesWithTape m new
agrees_tape {T} m old new same tape agrees =
    let P : Option TapeInfo → T → Type 0 = λ cartridge t. IfSome cartridge
    (λ info. IfSome (m.told t) (λ there. IsSomeAnd there (λ c. c.info ≡ info))) in
    subst (λ (cartridge : Option TapeInfo). P cartridge new.tape) (sym same)
    (subst (λ (t : T). P old.drive.deck.cartridge t) (sym tape) agrees)

-- a call that leaves the tape as it is
pub keeps_tape : {T : Type 0} {m : Meaning T} {host : Host} {old new : UnitView T} → IsReady m host new →
    KeepsMode old.drive.deck new.drive.deck →
    new.tape ≡ old.tape → Keeps m host old new
keeps_tape {T} {m} {host} {old} {new} ready same tape = record {
  ready = ready;
  same = same;
  agrees = agrees_tape m old new same.cartridge tape;
  size = ap m.size tape;
}

-- no call yet
pub keeps_none : {T : Type 0} {m : Meaning T} {host : Host} {unit : UnitView T} → IsReady m host unit → Keeps m host unit unit
keeps_none ready = record { ready = ready; same = record { cartridge = refl; mode = refl }; agrees = λ agrees. agrees; size = refl }

-- one call after another
pub keeps_both : {T : Type 0} {m : Meaning T} {h k : Host} {a b c : UnitView T} → Keeps m h a b → Keeps m k b c → Keeps m k a c
keeps_both first next = record {
  ready = next.ready;
  same = record { cartridge = next.same.cartridge ∙ first.same.cartridge; mode = next.same.mode ∙ first.same.mode };
  agrees = λ agrees. next.agrees (first.agrees agrees);
  size = next.size ∙ first.size;
}

-- what keeps the mode of a drive once it stands keeps that of the drive
pub stood_keeps : {a b c : Deck} → b ≡ ready_deck a → KeepsMode b c → KeepsMode a c
stood_keeps stood same = record {
  cartridge = same.cartridge ∙ ap (λ (d : Deck). d.cartridge) stood;
  mode = same.mode ∙ ap (λ (d : Deck). d.mode) stood;
}

-- the length that a host learnt is still that of the cartridge
pub length_kept : (n : ℕ) {a b : Deck} → KeepsMode a b → IsSomeAnd a.cartridge (λ info. info.segments_per_track ≡ n) →
    segments_per_track b ≡ n
length_kept n {a} {b} same long =
    ap (λ (cartridge : Option TapeInfo). option_map_or (λ info. info.segments_per_track) cartridge 0) same.cartridge
    ∙ length_is n a.cartridge long
