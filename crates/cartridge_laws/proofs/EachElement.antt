-- What holds of the elements of a list one by one holds of each.
use Rattle.std.proofs.Common.{List, [], ◌∷◌, All}
use Rattle.std.proofs.lemmas.List.Elements.{All-nil, All-cons}
use Rattle.std.specs.List.{AllByRecursion}

pub each : {X : Type 0} (P : X → Type 0) (xs : List X) → AllByRecursion P xs → All P xs
each P [] all = All-nil P
each P (x ∷ xs) all = All-cons P x xs all.0 (each P xs all.1)
