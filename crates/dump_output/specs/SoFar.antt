-- What was put out so far (this project's own).
use Rattle.std.specs.Prelude.{ℕ, ◌++◌, List, Result, Ok, Err}
use Rattle.dump_spec.specs.Output.{sure_text}
use Rattle.dump_spec.specs.declared.mark.Mark.{Mark}
use Rattle.qic_base.specs.Sink.{Meaning, Wrote}
use Rattle.qic_base.specs.SinkCalls.{BrokeOff}
use Rattle.sure_map.specs.Maps.{IsMapOf}
use Rattle.sure_map.specs.declared.map.SureMap.{SureMap}

-- what was written of the map of bytes with these marks, from an earlier moment of the sink on
pub record MapSoFar {M : Type 0} (s : Meaning M) (from now : M) (map : SureMap) (marks : List Mark) : Type 0 where
  pub front : List ℕ
  pub wrote : Wrote s from now front
  pub is : IsMapOf map marks front

-- .. or a fault broke it off, whatever marks come behind them
abbrev pub MapGoes : {M T E : Type 0} → Meaning M → (from now : M) → SureMap → List Mark → Result T E → Type 0
MapGoes s from now map marks (Ok x) = MapSoFar s from now map marks
MapGoes s from now map marks (Err e) = (more : List Mark) → BrokeOff s from now (sure_text (marks ++ more))
