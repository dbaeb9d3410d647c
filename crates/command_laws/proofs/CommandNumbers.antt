-- The tests of the numbers that there can be on a cartridge.
use Rattle.std.proofs.Common.{◌≡◌, ◌<◌, ◌≤◌, ◌*◌, ℕ, true, not, nat_le, nat_lt, arith}
use Rattle.std.proofs.lemmas.Bool.{and_parts, false_from_ne_true, le-leb, lt-ltb, ltb-true, not_from_false}
use Rattle.command_laws.proofs.StoreTaking.{both_true}
use Rattle.command_spec.specs.Numbers.{AreTooMany, are_too_many, is_of_volume, is_on_each, is_sector}
use Rattle.qic_base.specs.Cartridge.{IsLength, IsPlace}
use Rattle.qic_base.specs.declared.TheConstants.{LONGEST}

-- so many unreadable sectors are too many
pub too_many : (lost : ℕ) → AreTooMany lost → are_too_many lost ≡ true
too_many lost (more, most) = both_true (nat_lt 3 lost) (nat_le lost 32) (lt-ltb 3 lost more) (le-leb lost 32 most)

-- a segment is a volume's
pub of_volume : (segment : ℕ) → 3 ≤ segment → segment < 28 * LONGEST → is_of_volume segment ≡ true
of_volume segment behind within =
    both_true (nat_le 3 segment) (nat_lt segment (28 * LONGEST)) (le-leb 3 segment behind) (lt-ltb segment (28 * LONGEST) within)

-- a sector of some cartridge is one of the longest
pub place_there : (n segment sector : ℕ) → IsLength n → IsPlace n segment sector → is_sector segment sector ≡ true
place_there n segment sector long place =
    let on_tape = place.on_tape in
    let most = long.longest in
    let within : segment < 28 * LONGEST = omega arith in
    both_true (nat_lt segment (28 * LONGEST)) (nat_lt sector 32) (lt-ltb segment (28 * LONGEST) within) (lt-ltb sector 32 place.in_segment)

-- and what is none of some is none of the shortest
pub place_missing : (n segment sector : ℕ) → IsLength n → ¬ (IsPlace n segment sector) → not (is_on_each segment sector) ≡ true
place_missing n segment sector long none =
    not_from_false (is_on_each segment sector) (false_from_ne_true (is_on_each segment sector) (λ is. none (on_each is)))
  where
    on_each : is_on_each segment sector ≡ true → IsPlace n segment sector
    on_each is =
        let both = and_parts (nat_lt segment (28 * 3)) (nat_lt sector 32) is in
        let low : segment < 28 * 3 = ltb-true segment (28 * 3) both.0 in
        let least = long.shortest in
        record { on_tape = omega arith; in_segment = ltb-true sector 32 both.1 }
