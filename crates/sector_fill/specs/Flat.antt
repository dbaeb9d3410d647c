-- Sectors of which the first ones are lent as one run of bytes (this project's own).
use Rattle.std.specs.Prelude.{ℕ, List, ◌++◌}
use Rattle.std.specs.Borrow.{LendsBoth, MutBor, Fml, Array, u8}
use Rattle.std.specs.Simd.{first_chunks}

-- once the loan is over, each of the first sectors has its 1,024 bytes of what the run was left as, and the others are as
-- they were left
abbrev pub LendsBytes : MutBor (List (List ℕ)) → (count : ℕ) → MutBor (List ℕ) × MutBor (List (List ℕ)) → Fml
LendsBytes sectors count both =
    LendsBoth (Array (Array u8 1024) 0) (Array u8 0) (Array (Array u8 1024) 0) sectors both
    (λ bytes rest. first_chunks 1024 count bytes ++ rest)
