use Rattle.std.proofs.Common.{◌≡◌, ℕ, ◌%◌, ◌^◌, ◌<◌, ◌∙◌, sym, ap, arith, inl, inr, bit_and, bit_xor}
use Rattle.std.specs.Int.{bit_at}
use Rattle.std.specs.Int.Bits.{xor_zero_r}
use Rattle.std.proofs.lemmas.Bool.{cases_eq}
use Rattle.cartridge_spec.specs.Code.{product, power}
use Rattle.gf256_qic.proofs.Products.{product_one_right}
use Rattle.gf256_qic.proofs.Powers.{power_none, product_of_low_bits_none, product_of_low_bits_set, product_of_low_bits_clear}
use Rattle.gf256_qic.proofs.Powers.{product_shifted}
use Rattle.gf256_qic.proofs.Exponents.{masked_set, masked_clear}
use Rattle.gf256_qic.proofs.mul_by_shifts.Goals as goal

pub loop-place-init : goal.loop-place-init
loop-place-init c = record {
  copies = product_of_low_bits_none c.args.a c.args.b;
  copy = sym (ap (product c.args.a) (power_none 2) ∙ product_one_right c.args.a c.ranges.a.fits);
}

pub loop-place-preserved : goal.loop-place-preserved
loop-place-preserved c =
    let a : ℕ = c.args.a in
    let b : ℕ = c.args.b in
    let i : ℕ = c.loop-place.place in
    let sum : ℕ = c.loop-place.sum in
    let shifted : ℕ = c.loop-place.shifted in
    let fits : shifted < 256 = omega arith in
    let before : sum ≡ product a (b % 2 ^ i) = c.loop-place.invariant.copies in
    let copy : shifted ≡ product a (power 2 i) = c.loop-place.invariant.copy in
    record {
      copies =
          ap (λ m. bit_xor sum (bit_and shifted m)) c.mask.ensures
          ∙ elim (cases_eq (bit_at b i) 1) [
            | inl set ↦
                ap (bit_xor sum) (masked_set shifted (bit_at b i) fits set)
                ∙ ap (λ x. bit_xor x shifted) before
                ∙ ap (bit_xor (product a (b % 2 ^ i))) copy
                ∙ product_of_low_bits_set a b i c.loop-place-test.true set
            | inr unset ↦
                let clear : bit_at b i ≡ 0 = omega arith in
                ap (bit_xor sum) (masked_clear shifted (bit_at b i) fits clear)
                ∙ xor_zero_r sum ∙ before ∙ product_of_low_bits_clear a b i clear
          ];
      copy =
          c.times_x-shifted.ensures ∙ ap (λ x. product x 2) copy
          ∙ product_shifted a i c.ranges.a.fits;
    }
