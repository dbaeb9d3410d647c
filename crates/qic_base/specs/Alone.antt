-- The outside of its parts, and some of them alone (this project's own).
use Rattle.std.specs.Prelude.{◌≡◌, [], None}
use Rattle.qic_base.specs.Acts.{Outside}
use Rattle.qic_base.specs.Sink as sinks
use Rattle.qic_base.specs.Source as sources

-- a source that is never asked
abbrev pub no_source : sources.Meaning (Unit {0})
no_source = record { left = λ asked. None; keeps = λ old new. Unit {0}; faults = λ asked. 0 }

-- a sink that is never asked, so that it takes no byte
abbrev pub no_sink : sinks.Meaning (Unit {0})
no_sink = record { written = λ asked. None; took = λ old text new. text ≡ []; faults = λ asked. 0 }

-- a tape, a source and a sink
abbrev pub outside : {T S K : Type 0} → T → S → K → Outside T S K
outside tape source sink = record { tape = tape; source = source; sink = sink }

-- a tape and a sink alone
abbrev pub around : {T K : Type 0} → T → K → Outside T (Unit {0}) K
around tape sink = record { tape = tape; source = tt; sink = sink }

-- a tape and a source alone
abbrev pub reading : {T S : Type 0} → T → S → Outside T S (Unit {0})
reading tape source = record { tape = tape; source = source; sink = tt }
