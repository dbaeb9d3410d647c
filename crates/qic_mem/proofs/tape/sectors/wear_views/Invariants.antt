use Rattle.std.proofs.Common.{◌≡◌, ◌++◌, take, drop, map}
use Rattle.std.specs.Prelude.{All}
use Rattle.qic_base.specs.CartridgeTerms.{IsView}
use Rattle.qic_base.specs.Step.{worn_view}
use Rattle.qic_mem.proofs.tape.sectors.wear_views.Given as goal

abbrev pub invariant-loop-view : goal.invariant-loop-view
invariant-loop-view l = record {
  worn : l.views ≡ map worn_view (take l.view-index l.initial.views) ++ drop l.view-index l.initial.views;
  whole : All IsView l.initial.views → All IsView l.views;
}
