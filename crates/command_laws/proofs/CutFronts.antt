-- What was done and written before a fault, where runs over acts join: the fronts of cuts behind acts that went, and of cuts with more
-- acts behind them.
use Rattle.std.proofs.Common.{List, ◌++◌}
use Rattle.command_spec.specs.Machine.{acts_before}
use Rattle.qic_base.proofs.Joins.{sink_cut, sink_cut_longer, source_cut, source_cut_longer, tape_cut, tape_cut_longer}
use Rattle.qic_base.proofs.Writing.{TakesBoth}
use Rattle.qic_base.specs.Acts.{Act, Cut, Failing, Outside, SinkFails, SourceFails, TapeFails, Went}
use Rattle.qic_base.specs.Sink as sinks
use Rattle.qic_base.specs.Source as sources
use Rattle.qic_base.specs.Tape as tapes

module _ {T S K : Type 0} (t : tapes.Meaning T) (s : sources.Meaning S) (k : sinks.Meaning K) where
  -- a fault cut these acts off, and this holds of those before it
  abbrev pub CutBehind : (old new : Outside T S K) (acts : List Act) → Failing → (List Act → Type 0) → Type 0
  CutBehind old new acts failing R = (cut : Cut t s k old new acts failing) × R (acts_before t s k old new acts failing cut)

  -- behind acts that went
  pub cut_then : TakesBoth k → (a b c : Outside T S K) (xs ys : List Act) (failing : Failing) (R Q : List Act → Type 0) →
      Went t s k a b xs → CutBehind b c ys failing R → ((done : List Act) → R done → Q (xs ++ done)) → CutBehind a c (xs ++ ys) failing Q
  cut_then both a b c xs ys TapeFails R Q first (cut, so) follows =
      (tape_cut t s k both a b c xs ys first cut, follows cut.front so)
  cut_then both a b c xs ys SourceFails R Q first (cut, so) follows =
      (source_cut t s k both a b c xs ys first cut, follows cut.front so)
  cut_then both a b c xs ys SinkFails R Q first (cut, so) follows =
      (sink_cut t s k both a b c xs ys first cut, follows cut.at.front so)

  -- in front of others
  pub cut_longer : (a b : Outside T S K) (xs ys : List Act) (failing : Failing) (R : List Act → Type 0) → CutBehind a b xs failing R →
      CutBehind a b (xs ++ ys) failing R
  cut_longer a b xs ys TapeFails R (cut, so) = (tape_cut_longer t s k a b xs ys cut, so)
  cut_longer a b xs ys SourceFails R (cut, so) = (source_cut_longer t s k a b xs ys cut, so)
  cut_longer a b xs ys SinkFails R (cut, so) = (sink_cut_longer t s k a b xs ys cut, so)
