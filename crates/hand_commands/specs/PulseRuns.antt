-- What a run of `pulses` did to the outside (this project's own).
use Rattle.std.specs.Prelude.{◌≡◌, ℕ, List, ◌++◌, drop, Option, IfSome, Result, Ok, Err}
use Rattle.std.specs.Option.{option_map}
use Rattle.qic_base.specs.declared.tape.TapeInfo.{TapeInfo}
use Rattle.qic_base.specs.Sink as sinks
use Rattle.qic_base.specs.Source as sources
use Rattle.qic_base.specs.Tape as tapes
use Rattle.qic_base.specs.Acts.{Act, Outside, Failing, TapeFails, SourceFails, SinkFails, Went, Cut}
use Rattle.command_spec.specs.Input.{IsPulse, Reaches, ReachesLine}
use Rattle.command_spec.specs.Machine.{acts_before}
use Rattle.command_spec.specs.Pulses.{train_acts}
use Rattle.drive_spec.specs.Record.{Record, power_on}
use Rattle.hand_commands.specs.declared.pulses.fault.PulseFault.{PulseFault}
use Rattle.hand_commands.specs.declared.pulses.fault.PulseFault.TheVariants as fault
use Rattle.tape_script.specs.Reading.{LeftFromLine}
use Rattle.command_laws.specs.PulseRuns.{PulseRun, PulsesOutcome, Answer, AllSent, ScriptFault}
use Rattle.qic_base.specs.Source.{IsInput}
use Rattle.qic_base.specs.Cartridge.{info_of}

-- What the drive learnt when the cartridge was put in, and the input: what the tape and the source told, or some where
-- they tell none.
pub record Over {T S K : Type 0} (t : tapes.Meaning T) (s : sources.Meaning S) (old : Outside T S K) (known : Option TapeInfo)
    (input : List ℕ) : Type 0 where
  pub cartridge : IfSome (t.told old.tape) (λ held. known ≡ info_of held)
  pub bytes : IsInput (s.left old.source) input

-- what is left of the source: the bytes behind those taken; or, where a line is none, an end of those from that line on
abbrev pub Leaves : {S : Type 0} (s : sources.Meaning S) (old new : S) (taken : ℕ) → Answer → Type 0
Leaves s old new taken AllSent = s.left new ≡ option_map (drop taken) (s.left old)
Leaves s old new taken (ScriptFault line place) = LeftFromLine s old new place

-- It came to its end, with this drive and this answer: the plain machine's outcome, all of whose acts went.
pub record Ended {T S K : Type 0} (t : tapes.Meaning T) (s : sources.Meaning S) (k : sinks.Meaning K) (old new : Outside T S K) (r : Record)
    (answer : Answer) : Type 0 where
  pub known : Option TapeInfo
  pub input : List ℕ
  pub over : Over t s old known input
  pub outcome : PulseRun
  pub plain : PulsesOutcome known input outcome
  pub answered : outcome.answer ≡ answer
  pub drive : r ≡ outcome.drive
  pub went : Went t s k old new outcome.acts
  pub left : Leaves s old.source new.source outcome.taken answer

-- A fault of this object of the outside cut it off, in the midst of the acts of the plain machine's outcome; of the input the lines
-- were taken whose acts were done and written, and into the one behind them.
pub record CutOff {T S K : Type 0} (t : tapes.Meaning T) (s : sources.Meaning S) (k : sinks.Meaning K) (old new : Outside T S K)
    (failing : Failing) : Type 0 where
  pub known : Option TapeInfo
  pub input : List ℕ
  pub over : Over t s old known input
  pub outcome : PulseRun
  pub plain : PulsesOutcome known input outcome
  pub cut : Cut t s k old new outcome.acts failing
  pub taken : ℕ
  pub left : s.left new.source ≡ option_map (drop taken) (s.left old.source)
  pub reaches : Reaches IsPulse
      (λ trains. (rest : List Act)
      × (acts_before t s k old new outcome.acts failing cut ≡ train_acts (power_on known) trains ++ rest)) ReachesLine input taken

-- how a run ended, and with which drive
abbrev pub PulsesEnd : {T S K : Type 0} (t : tapes.Meaning T) (s : sources.Meaning S) (k : sinks.Meaning K) (old new : Outside T S K)
    (r : Record) → Result (Unit {0}) PulseFault → Type 0
PulsesEnd t s k old new r (Ok done) = Ended t s k old new r AllSent
PulsesEnd t s k old new r (Err (fault.Script line place)) = Ended t s k old new r (ScriptFault line place)
PulsesEnd t s k old new r (Err fault.Source) = CutOff t s k old new SourceFails
PulsesEnd t s k old new r (Err fault.Sink) = CutOff t s k old new SinkFails
PulsesEnd t s k old new r (Err fault.Tape) = CutOff t s k old new TapeFails
