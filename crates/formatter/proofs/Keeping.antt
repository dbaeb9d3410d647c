-- What stays over the steps of formatting.
use Rattle.std.proofs.Common.{◌≡◌, ℕ, ◌*◌, ◌<◌, true, arith, ap, subst, sym, ◌∙◌, Option, Result, Ok, Err, IsOk, IsErr, refl}
use Rattle.std.specs.Option.{option_map_or}
use Rattle.qic_base.specs.Tape.{Meaning}
use Rattle.qic_base.specs.declared.tape.TapeInfo.{TapeInfo}
use Rattle.drive_states.specs.Unit.{UnitView}
use Rattle.host_driver.specs.declared.host.Host.{Host}
use Rattle.host_driver.specs.Calls.{IsReady, MayWrite, Keeps}
use Rattle.host_driver.proofs.Keeping.{agrees_tape, cartridge_kept, may_write_kept}
use Rattle.segment_io.specs.Calls.{CanWrite}
use Rattle.segment_io.proofs.Going.{front_segment}
use Rattle.formatter.specs.declared.fault.FormatFault.{FormatFault}
use Rattle.formatter.specs.Calls.{CanGo, KeepsCartridge, Leaves}
use Rattle.formatter.proofs.Places.{mark_kept}

-- a mode that isn't refused is entered
pub is_entered : {X E : Type 0} (r : Result X E) → (IsErr r → ⊥) → IsOk r
is_entered (Ok x) none = refl
is_entered (Err e) none = absurd (none refl)

-- ---- the cartridge that the drive knows of

pub kept : {T : Type 0} {m : Meaning T} {host : Host} {old new : UnitView T} → Keeps m host old new → KeepsCartridge m host old new
kept keeps = record { ready = keeps.ready; cartridge = keeps.same.cartridge; agrees = keeps.agrees; size = keeps.size }

-- a mode was entered
pub entered : {T : Type 0} {m : Meaning T} {host : Host} {old new : UnitView T} → IsReady m host new →
    new.drive.deck.cartridge ≡ old.drive.deck.cartridge → new.tape ≡ old.tape → KeepsCartridge m host old new
entered {m = m} {old = old} {new = new} ready same tape = record {
  ready = ready;
  cartridge = same;
  agrees = agrees_tape m old new same tape;
  size = ap m.size tape;
}

-- one step after another
pub kept_both : {T : Type 0} {m : Meaning T} {h k : Host} {a b c : UnitView T} → KeepsCartridge m h a b → KeepsCartridge m k b c →
    KeepsCartridge m k a c
kept_both first next = record {
  ready = next.ready;
  cartridge = next.cartridge ∙ first.cartridge;
  agrees = λ agrees. next.agrees (first.agrees agrees);
  size = next.size ∙ first.size;
}

-- a host that could go to segments still can
pub go_kept : {T : Type 0} {m : Meaning T} {h k : Host} {a b : UnitView T} → CanGo m h a → IsReady m k b →
    b.drive.deck.cartridge ≡ a.drive.deck.cartridge → CanGo m k b
go_kept {a = a} {b = b} go ready same = record { ready = ready; referenced = mark_kept a.drive.deck b.drive.deck same go.referenced }

-- ---- a header copy written

pub can_write_copy : {T : Type 0} {m : Meaning T} {h : Host} {u : UnitView T} (copy : ℕ) → CanGo m h u → MayWrite u.drive.deck → copy < 2 →
    CanWrite m h u copy 4294967295
can_write_copy copy go may front =
    record { ready = go.ready; segment = front_segment copy go.ready.fits go.referenced (omega arith); writable = may }

-- and written again
pub can_write_again : {T : Type 0} {m : Meaning T} {h k : Host} {a b : UnitView T} (copy mask : ℕ) → CanWrite m h a copy mask →
    Keeps m k a b → CanWrite m k b copy mask
can_write_again {a = a} {b = b} copy mask can keeps = record {
  ready = keeps.ready;
  segment = record {
    referenced = cartridge_kept (λ info. info.referenced) true a.drive.deck b.drive.deck keeps.same can.segment.referenced;
    on_tape = subst (λ (o : Option TapeInfo). copy < 28 * option_map_or (λ (info : TapeInfo). info.segments_per_track) o 0)
        (sym keeps.same.cartridge) can.segment.on_tape;
    carries = can.segment.carries;
  };
  writable = may_write_kept a.drive.deck b.drive.deck keeps.same can.writable;
}

-- ---- what is left

-- behind the clearing came a step
pub leaves_then : {T X Y : Type 0} {m : Meaning T} {h k : Host} {a b c : UnitView T} (x : X) (r : Result Y FormatFault) →
    Leaves m h a b (Ok x) → KeepsCartridge m k b c → Leaves m k a c r
leaves_then x r first next = record {
  fits = next.ready.fits;
  rest = λ other. next.ready.rest;
  agrees = λ other was. next.agrees (first.agrees (λ is. cc) was);
  size = next.size ∙ first.size;
}

-- the clearing's fault is the answer
pub leaves_fault : {T X Y : Type 0} {m : Meaning T} {host : Host} {old new : UnitView T} (f : FormatFault) →
    Leaves {X = X} m host old new (Err f) → Leaves {X = Y} m host old new (Err f)
leaves_fault f left = record {
  fits = left.fits;
  rest = λ other. left.rest (λ is. other (cc));
  agrees = λ other. left.agrees (λ is. other (cc));
  size = left.size;
}
