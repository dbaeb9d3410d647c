-- A table in memory (this project's own).
use Rattle.std.specs.Prelude.{ℕ, ◌≡◌, ◌≤◌, List, length, Option, IfSome}
use Rattle.dump_spec.specs.Table.{FoundTable}
use Rattle.dump_tables.specs.declared.place.TablePlace.{TablePlace}

-- its data, at most 29 sectors, are among these sectors
abbrev pub FitsIn : (sectors : List (List ℕ)) → Option TablePlace → Type 0
FitsIn sectors table = IfSome table (λ place. (place.sectors ≤ 29) × (place.sectors ≤ length sectors))

-- the place of a table that was found
pub record IsPlace (place : TablePlace) (found : FoundTable) : Type 0 where
  pub segment : place.segment ≡ found.segment
  pub sure : place.sure ≡ found.sure
