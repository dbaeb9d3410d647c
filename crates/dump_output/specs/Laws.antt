-- What the first of some segments give begins what all of them give, as a fact.
use Rattle.std.specs.Prelude.{ℕ, ◌≡◌, ◌++◌, Bool, List}
use Rattle.dump_spec.specs.Dump.{Dump}
use Rattle.dump_spec.specs.Given.{Given}
use Rattle.dump_spec.specs.Output.{GiveInTurn}
use Rattle.dump_spec.specs.Pieces.{Layout}

abbrev pub FrontsBegin : Type 0
FrontsBegin =
    (dump : Dump) (layout : Layout) (zero_lost : Bool) (front rest : List ℕ) (given whole : List Given) →
    GiveInTurn dump layout zero_lost front given → GiveInTurn dump layout zero_lost (front ++ rest) whole →
    (more : List Given) × (whole ≡ given ++ more) × GiveInTurn dump layout zero_lost rest more
