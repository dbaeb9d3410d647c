-- Zero bytes are a code block of their own: cells of zero bytes were written with zero bytes, and say no header.
use Rattle.std.proofs.Common.{◌≡◌, ℕ, zero, suc, ◌∙◌, ap, length, replicate, bit_xor, ◌<◌, ◌≤◌, arith, List, slice_index, refl, ◌∷◌, sym}
use Rattle.std.proofs.Common.{subst, ◌+◌, ◌++◌, [], slice_get, Some, false}
use Rattle.std.specs.Int.Bits.{xor_zero_l}
use Rattle.std.proofs.lemmas.List.{length-replicate, get_or-replicate, replicate-append-replicate}
use Rattle.std.proofs.lemmas.List.Elements.{All-replicate}
use Rattle.std.proofs.lemmas.Option.{slice_get-get_or, slice_get_within}
use Rattle.cartridge_laws.proofs.Sayings.{says_is_function, written_is_said}
use Rattle.cartridge_laws.specs.SayingLaws.{ZeroIsWritten, ZeroSaysZero, ZeroHasNoSignature}
use Rattle.cartridge_spec.specs.Code.{value_at, IsCodeword, column, IsCodeBlock, parity_sectors, power}
use Rattle.qic_base.specs.Cartridge.{IsSector, zero_sector}
use Rattle.cartridge_spec.specs.Header.{has_signature}
use Rattle.cartridge_spec.specs.Says.{Data, Written}
use Rattle.gf256_qic.proofs.Parities.{parity_block_only}
use Rattle.gf256_qic.proofs.Products.{product_zero_left}
use Rattle.gf256_qic.proofs.Values.{value_at-none, value_at-first}
use Rattle.qic_base.specs.Field.{number_at}
use Rattle.qic_base.specs.declared.tape.SectorView.TheVariants.{Holds}
use Rattle.qic_base.proofs.Arrays.{zero_sector-is_sector}

-- a column of zero bytes has the value 0 everywhere
value_at-zeros : (p n : ℕ) → value_at p (replicate n 0) ≡ 0
value_at-zeros p zero = value_at-none p
value_at-zeros p (suc n) =
    value_at-first p 0 (replicate n 0)
    ∙ ap (λ (v : ℕ). bit_xor v (value_at p (replicate n 0))) (product_zero_left (power p (length (replicate n 0))))
    ∙ xor_zero_l (value_at p (replicate n 0))
    ∙ value_at-zeros p n

zeros_codeword : (n : ℕ) → 4 ≤ n → n ≤ 32 → IsCodeword (replicate n 0)
zeros_codeword n least most =
    let zeros : List ℕ = replicate n 0 in
    let long : length zeros ≡ n = length-replicate {A = ℕ} n 0 in
    record {
      least = omega arith;
      most = omega arith;
      bytes = All-replicate (λ c. c < 256) n 0 (omega arith);
      at_inverse = value_at-zeros 0xC3 n;
      at_one = value_at-zeros 0x01 n;
      at_generator = value_at-zeros 0x02 n;
    }

zero_byte : (j : ℕ) → j < 1024 → slice_index zero_sector j ≡ 0
unfolding zero_sector
zero_byte j h = get_or-replicate 1024 j 0 0 h

column-zeros : (j n : ℕ) → j < 1024 → column j (replicate n zero_sector) ≡ replicate n 0
unfolding column
column-zeros j zero h = refl
column-zeros j (suc n) h =
    ap (λ (b : ℕ). b ∷ column j (replicate n zero_sector)) (zero_byte j h)
    ∙ ap (λ (bs : List ℕ). 0 ∷ bs) (column-zeros j n h)

-- sectors of zero bytes are a code block
zeros_block : (n : ℕ) → 4 ≤ n → n ≤ 32 → IsCodeBlock (replicate n zero_sector)
zeros_block n least most = record {
  sectors = All-replicate IsSector n zero_sector zero_sector-is_sector;
  columns = λ j h. subst IsCodeword (sym (column-zeros j n h)) (zeros_codeword n least most);
}

-- with zero bytes as the parity of their data
zeros_with_parity : (n : ℕ) → 1 ≤ n → n ≤ 29 →
    replicate n zero_sector ++ parity_sectors (replicate n zero_sector) ≡ replicate (n + 3) zero_sector
zeros_with_parity n least most =
    let whole : replicate n zero_sector ++ replicate 3 zero_sector ≡ replicate (n + 3) zero_sector =
    replicate-append-replicate n 3 zero_sector in
    let only : replicate 3 zero_sector ≡ parity_sectors (replicate n zero_sector) =
    parity_block_only (replicate n zero_sector) (replicate 3 zero_sector) (length-replicate 3 zero_sector)
    (subst IsCodeBlock (sym whole) (zeros_block (n + 3) (omega arith) (omega arith))) in
    ap (λ (ps : List (List ℕ)). replicate n zero_sector ++ ps) (sym only) ∙ whole

pub zero_is_written : ZeroIsWritten
zero_is_written cells n zeros size least most =
    let block : List (List ℕ) = replicate n zero_sector ++ parity_sectors (replicate n zero_sector) in
    let same : block ≡ replicate (n + 3) zero_sector = zeros_with_parity n least most in
    record {
      size = ap (λ (ss : List (List ℕ)). length ss) same ∙ length-replicate (n + 3) zero_sector ∙ sym size;
      each = λ i bytes held.
          let inside : i < length cells = slice_get_within cells i (Holds bytes) held in
          let long : length (replicate (n + 3) zero_sector) ≡ n + 3 = length-replicate (n + 3) zero_sector in
          ap (λ (ss : List (List ℕ)). slice_get ss i) same
          ∙ slice_get-get_or (replicate (n + 3) zero_sector) i [] (omega arith)
          ∙ ap Some (get_or-replicate (n + 3) i zero_sector [] (omega arith) ∙ sym (zeros i bytes held));
    }

-- ---- a whole segment of zero bytes

pub zero_says_zero : ZeroSaysZero
zero_says_zero cells sectors says zeros size =
    let written : Written cells (replicate 29 zero_sector) =
    zero_is_written cells 29 zeros size (omega arith) (omega arith) in
    let long : length (replicate 29 zero_sector) ≡ 29 = length-replicate 29 zero_sector in
    let same : Data sectors ≡ Data (replicate 29 zero_sector) =
    says_is_function cells (Data sectors) (Data (replicate 29 zero_sector)) says
    (written_is_said cells (replicate 29 zero_sector) (omega arith) (omega arith)
    (All-replicate IsSector 29 zero_sector zero_sector-is_sector) written says.0) in
    cc

zeros_have_no_signature : has_signature (replicate 29 zero_sector) ≡ false
unfolding zero_sector number_at
zeros_have_no_signature = refl

pub zero_has_no_signature : ZeroHasNoSignature
zero_has_no_signature cells sectors says zeros size =
    ap (λ (area : List (List ℕ)). has_signature area) (zero_says_zero cells sectors says zeros size)
    ∙ zeros_have_no_signature
