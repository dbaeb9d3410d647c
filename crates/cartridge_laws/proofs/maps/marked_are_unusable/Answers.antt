use Rattle.std.proofs.Common.{◌≡◌, ◌-◌, ◌<◌, w32, arith}
use Rattle.std.specs.Int.{bit_at}
use Rattle.std.proofs.lemmas.Nat.Bits.{bit_at_not, bit_at-lt}
use Rattle.cartridge_spec.specs.Shape.{mask_of}
use Rattle.cartridge_laws.proofs.maps.marked_are_unusable.Goals as goal

pub returns : goal.returns
returns c word sector fits within =
    let turned : bit_at (mask_of word) sector ≡ 1 - bit_at word sector = bit_at_not w32 word sector fits within in
    let bit : bit_at word sector < 2 = bit_at-lt word sector in
    (λ bad usable. omega arith, λ good. omega (arith, good))
