-- What a tape in memory shows: its cartridge, its size as told, its room in segments per track, its chosen failures, what
-- they leave, and the calls that it recorded (this project's profile).
use Rattle.std.specs.Prelude.{◌≡◌, ◌⊎◌, ℕ, Bool, ◌||◌, Option, Some, is_some, IfSome, IsTrue, nat_lt, if◌then◌else◌}
use Rattle.std.specs.Option.{option_map}
use Rattle.std.proofs.Common.{refl, sym, ap}
use Rattle.qic_base.specs.Cartridge.{Cartridge, IsLength}
use Rattle.qic_base.specs.Step.{Step}
use Rattle.qic_base.specs.Tape.{Meaning}
use Rattle.qic_base.specs.TapeCalls.{IsToldRight, IsLeftNow}
use Rattle.qic_mem.specs.declared.tape.MemTape.{MemTape}
use Rattle.qic_mem.specs.declared.tape.outcome.Outcome.{Outcome}
use Rattle.qic_mem.specs.declared.tape.outcome.Outcome.TheVariants.{Old}
use Rattle.qic_mem.specs.declared.tape.outcome.End.{End}
use Rattle.qic_mem.specs.declared.tape.outcome.End.TheVariants.{Done, Failed}
use Rattle.qic_mem.specs.TapeChange.{is_past}
use Rattle.qic_mem.specs.Holder.{holder_state, holder-size_fits, holder-told_right}
use Rattle.qic_mem.specs.TapeLog.{TapeLog, is_full, logged, moment_of, left_of}
use Rattle.qic_mem.specs.TapeLogLaws.{left-counts, left-only, left-earlier}
use Rattle.qic_mem.specs.Outcome.{ended, size_ended}
use Rattle.qic_mem.specs.Plan.{Plan, IsChosen, plan_after}

pub record TapeState : Type 0 where
  pub cartridge : Option Cartridge
  pub size : Option ℕ
  pub room : ℕ
  pub plan : Plan
  pub outcome : Outcome
  -- None: it keeps no record
  pub log : Option TapeLog

unfoldable pub tape_state : MemTape → TapeState
tape_state t = record {
  cartridge = (holder_state t.holder).cartridge;
  size = (holder_state t.holder).size;
  room = (holder_state t.holder).room;
  plan = t.plan;
  outcome = t.outcome;
  log = t.log;
}

-- it tells its cartridge, and where it keeps a record its stops
abbrev pub tape_means : Meaning MemTape
tape_means = record {
  told = λ t. Some (tape_state t).cartridge;
  size = λ t. (tape_state t).size;
  faults = λ t. (tape_state t).plan.faults;
  failed_last = λ t. nat_lt 0 (tape_state t).plan.faults;
  tells_stops = λ t. is_some (tape_state t).log;
  moment = λ t. moment_of (tape_state t).log;
  left_since = λ t moment left. left_of (tape_state t).log moment left;
}

-- a call that changes the cartridge is refused past the room of the record, and a new cartridge past the room for it
abbrev pub is_refused : TapeState → Step → Bool
is_refused s step = is_full s.log || is_past s.room step

-- such a call fails exactly at its chosen numbers and where it is refused
abbrev pub Fails : TapeState → Step → Type 0
Fails s step = IsChosen s.plan ⊎ IsTrue (is_refused s step)

-- how it ends: a chosen failure leaves what was set, and one that is refused leaves all as it was
abbrev pub end_of : TapeState → Step → Bool → End
end_of s step failed = if failed then Failed (if is_refused s step then Old else s.outcome) else Done

-- after a call with this step, which failed or not
abbrev pub after_call : TapeState → Step → Bool → TapeState
after_call s step failed = record s {
  cartridge = ended (end_of s step failed) step s.cartridge;
  size = size_ended step failed s.size;
  plan = plan_after s.plan failed;
  log = logged s.log (record { step = step; end = end_of s step failed });
}

-- after a read of sectors
abbrev pub after_read : TapeState → Bool → TapeState
after_read s failed = record s { plan = plan_after s.plan failed }

-- after a call that told what the cartridge is, or that failed and told nothing
abbrev pub after_info : TapeState → Bool → TapeState
after_info s failed = record s {
  size = if failed then s.size else option_map (λ c. c.info.segments_per_track) s.cartridge;
  plan = plan_after s.plan failed;
}

-- the laws of a tape
pub tape-size_fits : (t : MemTape) → IfSome (tape_means.size t) IsLength
unfolding tape_state
tape-size_fits t = holder-size_fits t.holder

pub tape-told_right : (t : MemTape) → IsToldRight (tape_means.told t) (tape_means.size t)
unfolding tape_state
tape-told_right t = holder-told_right t.holder

pub tape-left_now : (t : MemTape) → IsLeftNow tape_means t
unfolding tape_state
tape-left_now t = record {
  telling = λ telling. refl;
  counts = λ moment left telling early told.
      let is : left ≡ (holder_state t.holder).cartridge = cc in
      left-counts t.log (holder_state t.holder).cartridge moment left t.replayed early is;
  only = λ left telling was. ap Some (sym (left-only t.log (holder_state t.holder).cartridge left t.replayed telling was));
  earlier = λ s u left order early was. left-earlier t.log s u left order was;
}
