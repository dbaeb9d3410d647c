-- How the bytes of a volume went from its segments to a sink (this project's own).
use Rattle.std.specs.Prelude.{ℕ, Bool, List, length, Result, Ok, Err}
use Rattle.command_laws.specs.OutputText.{printed, AreOf}
use Rattle.command_spec.specs.Restore.{Piece, GivingEnd, Restores, Restored, LostIn, MismatchIn}
use Rattle.command_laws.specs.RestoreTerms.{EndsAt}
use Rattle.qic_base.specs.Acts.{Act, Outside, Went, Failing, Cut, TapeFails, SinkFails}
use Rattle.qic_base.specs.Alone.{no_source}
use Rattle.qic_base.specs.declared.store_fault.StoreFault.{StoreFault}
use Rattle.qic_base.specs.Sink as sinks
use Rattle.qic_base.specs.Tape as tapes
use Rattle.qic_base.specs.TapeCalls as tape_calls
use Rattle.qic_base.specs.declared.store_fault.StoreFault.TheVariants as fault

-- The pieces were read up to this ending, and the sink took their bytes.
pub record GaveVolume {T K : Type 0} (t : tapes.Meaning T) (k : sinks.Meaning K) (words : List ℕ) (needed : List Piece) (lined : Bool)
    (old new : Outside T (Unit {0}) K) (ending : GivingEnd) : Type 0 where
  pub acts : List Act
  pub went : Went t no_source k old new (printed lined needed acts)
  pub told : tape_calls.Tells t old.tape (λ c. Restores c words needed acts ending)
  -- and over any tape
  pub are : AreOf needed acts
  pub ends : EndsAt needed (length acts) ending

-- A fault of the tape or of the sink cut that off.
pub record VolumeCut {T K : Type 0} (t : tapes.Meaning T) (k : sinks.Meaning K) (words : List ℕ) (needed : List Piece) (lined : Bool)
    (old new : Outside T (Unit {0}) K) (failing : Failing) : Type 0 where
  pub told : tape_calls.Tells t old.tape (λ c. (acts : List Act) (ending : GivingEnd) → Restores c words needed acts ending →
      Cut t no_source k old new (printed lined needed acts) failing)
  -- and over any tape
  pub acts : List Act
  pub are : AreOf needed acts
  pub cut : Cut t no_source k old new (printed lined needed acts) failing

-- how it ended
abbrev pub OutputEnds : {T K : Type 0} (t : tapes.Meaning T) (k : sinks.Meaning K) (words : List ℕ) (needed : List Piece) (lined : Bool)
    (old new : Outside T (Unit {0}) K) → Result (Unit {0}) StoreFault → Type 0
OutputEnds t k words needed lined old new (Ok done) = GaveVolume t k words needed lined old new Restored
OutputEnds t k words needed lined old new (Err (fault.Lost segment lost)) = GaveVolume t k words needed lined old new (LostIn segment lost)
OutputEnds t k words needed lined old new (Err (fault.Mismatch segment)) = GaveVolume t k words needed lined old new (MismatchIn segment)
OutputEnds t k words needed lined old new (Err fault.Sink) = VolumeCut t k words needed lined old new SinkFails
OutputEnds t k words needed lined old new (Err fault.Tape) = VolumeCut t k words needed lined old new TapeFails
OutputEnds t k words needed lined old new (Err other) = ⊥
