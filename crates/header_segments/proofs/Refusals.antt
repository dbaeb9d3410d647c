-- The tests of a header's fields, as a reader makes them.
use Rattle.std.proofs.Common.{◌≡◌, ℕ, ◌-◌, ◌/◌, ◌%◌, ◌<◌, List, [], get_or, refl, arith, zero, suc, ◌+◌, ◌∷◌, take, drop, ◌∙◌, ◌==◌, true}
use Rattle.std.proofs.Common.{None, sym, eq-eqb, false, Some, Bool, cond, ap, Option}
use Rattle.std.proofs.lemmas.Option.{unwrap_or-slice_get}
use Rattle.std.specs.Option.{option_map}
use Rattle.std.proofs.lemmas.Bool.{ne_eqb}
use Rattle.cartridge_laws.proofs.HeaderRefusals.{fault-segments}
use Rattle.cartridge_spec.specs.Header.{number_in, tested, header_fault, has_signature, HeaderFault, word_in}
use Rattle.cartridge_laws.specs.HeaderTerms.{field_fault, fault_as, map_fault}
use Rattle.header_segments.specs.Refusal.{foreign, refusal}
use Rattle.header_segments.specs.declared.fault.HeaderFault.TheVariants.{Foreign, NoSignature}
use Rattle.qic_base.specs.Field.{number_at, little_endian}
use Rattle.qic_base.specs.declared.foreign.ForeignField.{ForeignField}
use Rattle.qic_base.specs.declared.foreign.ForeignField.TheVariants.{Map}

-- a field of the first sector
number_in-first : (area : List (List ℕ)) (at width : ℕ) → at < 1024 → number_in area at width ≡ number_at (get_or area 0 []) at width
number_in-first area at width h =
    let sector : at / 1024 ≡ 0 = omega arith in
    let place : at % 1024 ≡ at = omega arith in
    rw (sector, place, unwrap_or-slice_get area 0 []) refl

number_at-one : (bytes : List ℕ) (at : ℕ) → number_at bytes at 1 ≡ get_or bytes at 0
unfolding number_at
number_at-one bytes at =
    let wide : at + 1 - at ≡ 1 = omega arith in
    rw wide (first bytes at)
  where
    first : (xs : List ℕ) (n : ℕ) → little_endian (take 1 (drop n xs)) ≡ get_or xs n 0
    first [] zero = refl
    first [] (suc n) = refl
    first (x ∷ xs) zero = omega arith
    first (x ∷ xs) (suc n) = first xs n

pub number_in-byte : (area : List (List ℕ)) (at : ℕ) → at < 1024 → number_in area at 1 ≡ get_or (get_or area 0 []) at 0
number_in-byte area at h = number_in-first area at 1 h ∙ number_at-one (get_or area 0 []) at

-- a test by the number that was found
pub tested-same : (area : List (List ℕ)) (name : ForeignField) (at width value found : ℕ) → found ≡ number_in area at width →
    found ≡ value → None ≡ option_map foreign (field_fault area (tested name at width value))
tested-same area name at width value found is same =
    let equal : (number_in area at width == value) ≡ true = eq-eqb _ _ (sym is ∙ same) in
    rw equal refl

pub tested-other : (area : List (List ℕ)) (name : ForeignField) (at width value found : ℕ) → found ≡ number_in area at width →
    (found ≡ value → ⊥) → Some (Foreign name found) ≡ option_map foreign (field_fault area (tested name at width value))
tested-other area name at width value found is other =
    let unequal : (number_in area at width == value) ≡ false = ne_eqb _ _ (λ e. other (is ∙ e)) in
    rw (is, unequal) refl

refusal-signed : (area : List (List ℕ)) (n : ℕ) → has_signature area ≡ true → refusal area n ≡ option_map foreign (header_fault area n)
refusal-signed area n signed = ap (λ (b : Bool). cond b (option_map foreign (header_fault area n)) (Some NoSignature)) signed

refusal-unsigned : (area : List (List ℕ)) (n : ℕ) → has_signature area ≡ false → refusal area n ≡ Some NoSignature
refusal-unsigned area n unsigned = ap (λ (b : Bool). cond b (option_map foreign (header_fault area n)) (Some NoSignature)) unsigned

-- and so have data that are not refused
pub refusal-segments : (area : List (List ℕ)) (n : ℕ) → refusal area n ≡ None → number_in area 24 2 ≡ n
refusal-segments area n none = by_signature (has_signature area) refl
  where
    mapped : (o : Option HeaderFault) → option_map foreign o ≡ None → o ≡ None
    mapped None h = refl
    mapped (Some x) h = absurd (cc)

    by_signature : (b : Bool) → has_signature area ≡ b → number_in area 24 2 ≡ n
    by_signature true signed =
        let foreign_none : option_map foreign (header_fault area n) ≡ None = sym (refusal-signed area n signed) ∙ none in
        fault-segments area n (mapped (header_fault area n) foreign_none)
    by_signature false unsigned =
        let some : refusal area n ≡ Some NoSignature = refusal-unsigned area n unsigned in
        absurd (cc)

pub map_fault-first : (area : List (List ℕ)) (s : ℕ) → s < 3 → ((j : ℕ) → j < s → word_in area j ≡ 0) → (word_in area s ≡ 0 → ⊥) →
    map_fault area ≡ Some (fault_as Map s)
map_fault-first area zero h before bad = rw (ne_eqb _ 0 bad) refl
map_fault-first area (suc zero) h before bad = rw (eq-eqb _ 0 (before 0 (omega arith)), ne_eqb _ 0 bad) refl
map_fault-first area (suc (suc zero)) h before bad =
    rw (eq-eqb _ 0 (before 0 (omega arith)), eq-eqb _ 0 (before 1 (omega arith)), ne_eqb _ 0 bad) refl
map_fault-first area (suc (suc (suc n))) h before bad = absurd (omega arith)
