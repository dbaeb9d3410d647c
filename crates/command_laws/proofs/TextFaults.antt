-- Which line of an input may be at fault.
use Rattle.std.proofs.Common.{◌≡◌, ℕ, ◌+◌, ◌≤◌, ◌&&◌, nat_le, true, List, [], ◌∷◌, length, arith}
use Rattle.std.proofs.lemmas.Bool.Decides.{nat_tests}
use Rattle.command_spec.specs.Input.{HasItems, AtFault, most_items}

-- it is the first behind the items, and no more than so many stand before it
fault_from : {I : Type 0} (Spelled : List ℕ → I → Type 0) (line place : ℕ) (input : List ℕ) (items : List I) (number before : ℕ) →
    line ≤ most_items + 1 →
    HasItems Spelled line place input items (AtFault number before) → (line ≤ number) × (number ≤ most_items + 1)
fault_from Spelled line place input [] number before within ends = let same = ends.1 in (omega arith, omega arith)
fault_from Spelled line place input (item ∷ items) number before within read =
    let few = read.0 in
    let next = fault_from Spelled (line + 1) (place + length read.1.0) read.1.1.0 items number before (omega arith) read.1.1.1.2 in
    (let above = next.0 in omega arith, next.1)

-- it is one of the first 65,537
pub fault_line : {I : Type 0} (Spelled : List ℕ → I → Type 0) (place : ℕ) (input : List ℕ) (items : List I) (number before : ℕ) →
    HasItems Spelled 1 place input items (AtFault number before) → (nat_le 1 number && nat_le number (most_items + 1)) ≡ true
fault_line Spelled place input items number before read =
    let bounds = fault_from Spelled 1 place input items number before (omega arith) read in
    let some = bounds.0 in
    let few = bounds.1 in
    grind (arith, nat_tests)
