-- How an export ended (this project's own).
use Rattle.std.specs.Prelude.{◌≡◌, ℕ, List, [], length, take, All, Option, Some, None, IfSome, Result, Ok, Err}
use Rattle.qic_base.specs.Cartridge.{Cartridge}
use Rattle.qic_base.specs.CartridgeTerms.{IsCartridge, IsView}
use Rattle.qic_base.specs.declared.tape.SectorView.{SectorView}
use Rattle.qic_base.specs.Sink as sinks
use Rattle.qic_base.specs.SinkCalls as sink_calls
use Rattle.qic_base.specs.Tape as tapes
use Rattle.flat_dump.specs.Dump.{dump_of, views_bytes}
use Rattle.flat_dump.specs.Held.{held_mask}
use Rattle.flat_dump.specs.declared.exporting.ExportError.{ExportError}
use Rattle.flat_dump.specs.declared.exporting.ExportError.TheVariants as error

-- the cartridge that the tape tells, or some whole one where it tells none
pub record IsOn {T : Type 0} (t : tapes.Meaning T) (tape : T) (c : Cartridge) : Type 0 where
  pub told : IfSome (t.told tape) (λ held. held ≡ Some c)
  pub whole : IsCartridge c

-- the first sectors of what the tape tells: none of no cartridge
abbrev pub IsFrontOf : List SectorView → Option Cartridge → Type 0
IsFrontOf views None = views ≡ []
IsFrontOf views (Some c) = views ≡ take (length views) c.views

pub record AreFirst {T : Type 0} (t : tapes.Meaning T) (tape : T) (views : List SectorView) : Type 0 where
  pub told : IfSome (t.told tape) (IsFrontOf views)
  pub each : All IsView views

-- The dump was written, all of it, and this is the mask of the sectors that hold bytes.
pub record Exported {T K : Type 0} (t : tapes.Meaning T) (k : sinks.Meaning K) (old new : T) (from to : K) (mask : List ℕ) : Type 0 where
  pub did : tapes.Done t old new []
  pub cartridge : Cartridge
  pub is_on : IsOn t old cartridge
  pub wrote : sinks.Wrote k from to (dump_of cartridge)
  pub masked : mask ≡ held_mask cartridge

-- The tape holds no cartridge, and nothing was written.
pub record HadNone {T K : Type 0} (t : tapes.Meaning T) (k : sinks.Meaning K) (old new : T) (from to : K) : Type 0 where
  pub did : tapes.Done t old new []
  pub told : IfSome (t.told old) (λ held. held ≡ None)
  pub nothing : to ≡ from

-- A fault of the tape came behind the first sectors, whose bytes were written.
pub record TapeBroke {T K : Type 0} (t : tapes.Meaning T) (k : sinks.Meaning K) (old new : T) (from to : K) : Type 0 where
  pub broke : tapes.Broke t old new []
  pub views : List SectorView
  pub first : AreFirst t old views
  pub wrote : sinks.Wrote k from to (views_bytes views)

-- A fault of the sink broke the bytes of the first sectors off.
pub record SinkBroke {T K : Type 0} (t : tapes.Meaning T) (k : sinks.Meaning K) (old new : T) (from to : K) : Type 0 where
  pub did : tapes.Done t old new []
  pub views : List SectorView
  pub first : AreFirst t old views
  pub broke : sink_calls.BrokeOff k from to (views_bytes views)

abbrev pub Exports : {T K : Type 0} (t : tapes.Meaning T) (k : sinks.Meaning K) (old new : T) (from to : K) (mask : List ℕ) →
    Result (Unit {0}) ExportError → Type 0
Exports t k old new from to mask (Ok done) = Exported t k old new from to mask
Exports t k old new from to mask (Err error.NoCartridge) = HadNone t k old new from to
Exports t k old new from to mask (Err error.Tape) = TapeBroke t k old new from to
Exports t k old new from to mask (Err error.Sink) = SinkBroke t k old new from to
