-- What a workspace becomes where its sectors are lent.
use Rattle.std.specs.Prelude.{ℕ, List, length, take, drop, ◌++◌}
use Rattle.std.specs.Borrow.{Lends, MutBor, Fml, Array, u8}
use Rattle.segment_solve.specs.contracts.workspace.Workspace.{the_row}

-- its 32 sectors, the first of them replaced
abbrev pub with_sectors : List (List ℕ) → List (List ℕ) → List (List ℕ)
with_sectors old left = take 32 (left ++ drop (length left) old)

-- the workspace ends with the sectors that the caller leaves
abbrev pub LendsSectors : MutBor (List (List ℕ)) → MutBor (List (List ℕ)) → Fml
LendsSectors work sectors = Lends the_row (Array (Array u8 1024) 0) work sectors (with_sectors work.now)
