-- Two tables that differ in one sector of data differ in their parity, and a code block near a table's is that.
use Rattle.std.proofs.Common.{◌≡◌, ℕ, ◌<◌, ◌∙◌, ap, List, length, slice_get, slice_index, Some, ◌≤◌, sym, arith, [], ◌∷◌, ◌≢◌, inl, inr}
use Rattle.std.proofs.Common.{subst}
use Rattle.std.specs.Option.{option_map}
use Rattle.std.proofs.lemmas.Bool.{cases_eq, cases_lt}
use Rattle.cartridge_laws.proofs.MountParts.{sector_there, few_named, length-block, code_block, near_blocks, front_sector}
use Rattle.cartridge_laws.proofs.Sets.{IsNoneOf, unnamed_is_none}
use Rattle.cartridge_laws.specs.OneLossLaws.{NearBlockIsTables, ParityBytesDiffer, ParityDiffers}
use Rattle.cartridge_laws.specs.OneLossTables.{DifferInOne}
use Rattle.cartridge_spec.specs.Code.{column, IsCodeBlock}
use Rattle.cartridge_spec.specs.Says.{with_parity, set_of}
use Rattle.cartridge_spec.specs.Shape.{sector_at}
use Rattle.gf256_qic.proofs.Agreement.{slice_get-column, one_codeword, length-column}
use Rattle.qic_base.specs.CartridgeTerms.{is_lost}

-- ---- a code block near a table's

byte_there : (xs : List (List ℕ)) (i j : ℕ) → i < length xs → slice_get (column j xs) i ≡ Some (slice_index (sector_at xs i) j)
byte_there xs i j h = slice_get-column j xs i ∙ ap (option_map (λ s. slice_index s j)) (sector_there xs i h)

-- columns with the same bytes outside three places at most are the same
near_columns : (xs ys : List (List ℕ)) (j : ℕ) (ps : List ℕ) → IsCodeBlock xs → IsCodeBlock ys → length xs ≡ 32 →
    length ys ≡ 32 → j < 1024 →
    length ps ≤ 3 → ((i : ℕ) → i < 32 → IsNoneOf ps i → slice_index (sector_at xs i) j ≡ slice_index (sector_at ys i) j) →
    column j xs ≡ column j ys
near_columns xs ys j ps hx hy nx ny small few same =
    let count : length (column j xs) ≡ length xs = length-column j xs in
    one_codeword (is_lost (set_of ps)) (column j xs) (column j ys) (hx.columns j small) (hy.columns j small)
    (record {
      size = length-column j xs ∙ nx ∙ sym ny ∙ sym (length-column j ys);
      others = λ i h unnamed.
          byte_there xs i j (omega arith)
          ∙ ap (λ (x : ℕ). Some x) (same i (omega arith) (unnamed_is_none ps i unnamed))
          ∙ sym (byte_there ys i j (omega arith));
    })
    (few_named ps (length (column j xs)) few)

pub near_block_is_tables : NearBlockIsTables
near_block_is_tables area block first second third is code long same =
    near_blocks block (with_parity area) (first ∷ second ∷ third ∷ []) code (code_block area is) long (length-block area is) (omega arith)
    (λ i h none. same i h none.0 none.1.0 none.1.1.0)

-- ---- the parity of two tables

-- the two sectors of parity besides one
record AreOthers (parity q r : ℕ) : Type 0 where
  rest : (i : ℕ) → 29 ≤ i → i < 32 → i ≢ q → i ≢ r → i ≡ parity

with_others : (X : Type 0) (parity : ℕ) → 29 ≤ parity → parity < 32 → ((q r : ℕ) → AreOthers parity q r → X) → X
with_others X parity from below give =
    elim (cases_eq parity 29) [
      | inl first ↦ give 30 31 (record { rest = λ i l h nq nr. omega arith })
      | inr not_first ↦ elim (cases_eq parity 30) [
        | inl second ↦ give 29 31 (record { rest = λ i l h nq nr. omega arith })
        | inr not_second ↦ give 29 30 (record { rest = λ i l h nq nr. omega arith })
      ]
    ]

pub same_data : (old new : List (List ℕ)) (changed i : ℕ) → DifferInOne old new changed → i < 29 → i ≢ changed →
    sector_at (with_parity old) i ≡ sector_at (with_parity new) i
same_data old new changed i differ h apart =
    front_sector old differ.old_area i h ∙ differ.others i h apart ∙ sym (front_sector new differ.new_area i h)

pub parity_bytes_differ : ParityBytesDiffer
parity_bytes_differ old new changed parity j differ from below small apart same =
    with_others ⊥ parity from below (λ q r others.
    let place : changed < 29 = differ.data_sector in
    let long_old : length (with_parity old) ≡ 32 = length-block old differ.old_area in
    let long_new : length (with_parity new) ≡ 32 = length-block new differ.new_area in
    let columns : column j (with_parity old) ≡ column j (with_parity new) =
    near_columns (with_parity old) (with_parity new) j (changed ∷ q ∷ r ∷ []) (code_block old differ.old_area)
    (code_block new differ.new_area)
    long_old long_new small (omega arith) (λ i h none.
    elim (cases_lt i 29) [
      | inl front ↦ ap (λ (s : List ℕ). slice_index s j) (same_data old new changed i differ front none.0)
      | inr behind ↦
          let there : i ≡ parity = others.rest i behind h none.1.0 none.1.1.0 in
          subst (λ (p : ℕ). slice_index (sector_at (with_parity old) p) j ≡ slice_index (sector_at (with_parity new) p) j) (sym there) same
    ]) in
    let bytes : Some (slice_index (sector_at (with_parity old) changed) j) ≡ Some (slice_index (sector_at (with_parity new) changed) j) =
    sym (byte_there (with_parity old) changed j (omega arith))
    ∙ ap (λ (c : List ℕ). slice_get c changed) columns
    ∙ byte_there (with_parity new) changed j (omega arith) in
    let here : slice_index (sector_at (with_parity old) changed) j ≡ slice_index (sector_at (with_parity new) changed) j = cc in
    apart (ap (λ (s : List ℕ). slice_index s j) (sym (front_sector old differ.old_area changed place))
    ∙ here ∙ ap (λ (s : List ℕ). slice_index s j) (front_sector new differ.new_area changed place)))

pub parity_differs : ParityDiffers
parity_differs old new changed parity differ from below same =
    with_others ⊥ parity from below (λ q r others.
    let place : changed < 29 = differ.data_sector in
    let blocks : with_parity old ≡ with_parity new =
    near_blocks (with_parity old) (with_parity new) (changed ∷ q ∷ r ∷ []) (code_block old differ.old_area) (code_block new differ.new_area)
    (length-block old differ.old_area) (length-block new differ.new_area) (omega arith) (λ i h none.
    elim (cases_lt i 29) [
      | inl front ↦ same_data old new changed i differ front none.0
      | inr behind ↦
          let there : i ≡ parity = others.rest i behind h none.1.0 none.1.1.0 in
          subst (λ (p : ℕ). sector_at (with_parity old) p ≡ sector_at (with_parity new) p) (sym there) same
    ]) in
    differ.differs (sym (front_sector old differ.old_area changed place)
    ∙ ap (λ (ss : List (List ℕ)). sector_at ss changed) blocks
    ∙ front_sector new differ.new_area changed place))
