-- Cells say something: whether a code block agrees with them is found column by column.
use Rattle.std.proofs.Common.{ℕ, slice_index, Option, Some, None, List, map, ◌≡◌, length, ◌∙◌, ap, slice_get, ◌<◌, arith, suc, refl, []}
use Rattle.std.proofs.Common.{◌∷◌, All, inl, inr, get_or, zero-add, sym, subst, ◌⊎◌}
use Rattle.std.proofs.lemmas.List.{length-map, same_lists, get_or_default, ext_get_or}
use Rattle.std.specs.Option.{option_map}
use Rattle.std.proofs.lemmas.Option.{slice_get-map, same_Some, slice_get_within, get_or_from_slice_get, slice_get-get_or}
use Rattle.std.proofs.lemmas.List.Elements.{All-get_or, All-head, All-tail, All-from_get_or}
use Rattle.std.proofs.Math.Nat.{suc_inj}
use Rattle.std.specs.List.{range_with_len}
use Rattle.std.proofs.lemmas.List.FromFn.{length-map-range_with_len, get_or-map-range_with_len}
use Rattle.std.proofs.lemmas.Bool.{cases_lt}
use Rattle.cartridge_laws.proofs.Search.{FitsKnown, Filled, Decided, decide_filled, decide_codeword, length-fits, known_byte}
use Rattle.cartridge_laws.proofs.Search.{decide_each_below}
use Rattle.cartridge_laws.specs.SayingLaws.{SaysAlways}
use Rattle.qic_base.specs.Cartridge.{IsSector}
use Rattle.cartridge_spec.specs.Code.{column, IsCodeword, IsCodeBlock}
use Rattle.cartridge_spec.specs.Says.{Agrees, HasNoBlock, Data, LostSectors, Mismatch, unreadable_count}
use Rattle.cartridge_laws.specs.Segment.{data_of}
use Rattle.gf256_qic.proofs.Agreement.{length-column, get_or-column}
use Rattle.qic_base.specs.CartridgeTerms.{IsView}
use Rattle.qic_base.specs.declared.tape.SectorView.{SectorView}
use Rattle.qic_base.specs.declared.tape.SectorView.TheVariants.{Blank, Defect, Lost, Holds}

-- ---- columns of cells

-- byte j of a cell, where it can be read
abbrev byte_of : ℕ → SectorView → Option ℕ
byte_of j Blank = None
byte_of j Defect = None
byte_of j Lost = None
byte_of j (Holds bytes) = Some (slice_index bytes j)

-- byte j of each cell
unfoldable known : ℕ → List SectorView → List (Option ℕ)
known j cells = map (byte_of j) cells

length-known : (j : ℕ) (cells : List SectorView) → length (known j cells) ≡ length cells
unfolding known
length-known j cells = length-map cells (byte_of j)

slice_get-known : (j : ℕ) (cells : List SectorView) (i : ℕ) (bytes : List ℕ) → slice_get cells i ≡ Some (Holds bytes) →
    slice_get (known j cells) i ≡ Some (Some (slice_index bytes j))
unfolding known
slice_get-known j cells i bytes held =
    slice_get-map (byte_of j) cells i ∙ ap (option_map (byte_of j)) held

byte_below : (s : List ℕ) (j : ℕ) → j < 1024 → IsSector s → slice_index s j < 256
byte_below s j h sector =
    let size : length s ≡ 1024 = sector.size in
    All-get_or (λ b. b < 256) s j 0 (omega arith) sector.each

-- sectors that agree with the cells have columns that fit
columns_fit : (j : ℕ) (cells : List SectorView) (ss : List (List ℕ)) → j < 1024 → All IsSector ss → length ss ≡ length cells →
    ((i : ℕ) (bytes : List ℕ) → slice_get cells i ≡ Some (Holds bytes) → slice_get ss i ≡ Some bytes) →
    FitsKnown (known j cells) (column j ss)
unfolding known column FitsKnown
columns_fit j [] [] h all size each = tt
columns_fit j [] (s ∷ ss) h all size each = absurd (cc)
columns_fit j (cell ∷ cells) [] h all size each = absurd (cc)
columns_fit j (Blank ∷ cells) (s ∷ ss) h all size each = record {
  first = byte_below s j h (All-head IsSector s ss all);
  second = columns_fit j cells ss h (All-tail IsSector s ss all) (suc_inj size) (λ i. each (suc i));
}
columns_fit j (Defect ∷ cells) (s ∷ ss) h all size each = record {
  first = byte_below s j h (All-head IsSector s ss all);
  second = columns_fit j cells ss h (All-tail IsSector s ss all) (suc_inj size) (λ i. each (suc i));
}
columns_fit j (Lost ∷ cells) (s ∷ ss) h all size each = record {
  first = byte_below s j h (All-head IsSector s ss all);
  second = columns_fit j cells ss h (All-tail IsSector s ss all) (suc_inj size) (λ i. each (suc i));
}
columns_fit j (Holds bytes ∷ cells) (s ∷ ss) h all size each = record {
  first = ap (λ (xs : List ℕ). slice_index xs j) (same_Some s bytes (each 0 bytes refl));
  second = columns_fit j cells ss h (All-tail IsSector s ss all) (suc_inj size) (λ i. each (suc i));
}

-- a codeword that fits column j of the cells
abbrev HasColumn : List SectorView → ℕ → Type 0
HasColumn cells j = Filled (known j cells) IsCodeword

decide_column : (cells : List SectorView) (j : ℕ) → Decided (HasColumn cells j)
decide_column cells j = decide_filled (known j cells) IsCodeword decide_codeword

-- ---- the block of these columns

bytes_of : (cells : List SectorView) (j : ℕ) → Decided (HasColumn cells j) → List ℕ
bytes_of cells j (inl column) = column.bytes
bytes_of cells j (inr none) = []

-- the codeword that fits column j, where there is one
found : List SectorView → ℕ → List ℕ
found cells j = bytes_of cells j (decide_column cells j)

record IsFound (cells : List SectorView) (j : ℕ) (bytes : List ℕ) : Type 0 where
  fits : FitsKnown (known j cells) bytes
  word : IsCodeword bytes

bytes_of-are_found : (cells : List SectorView) (j : ℕ) (d : Decided (HasColumn cells j)) → HasColumn cells j →
    IsFound cells j (bytes_of cells j d)
unfolding bytes_of
bytes_of-are_found cells j (inl column) some = record { fits = column.fits; word = column.holds }
bytes_of-are_found cells j (inr none) some = absurd (none some)

found-is_found : (cells : List SectorView) (j : ℕ) → HasColumn cells j → IsFound cells j (found cells j)
unfolding found
found-is_found cells j some = bytes_of-are_found cells j (decide_column cells j) some

length-found : (cells : List SectorView) (j : ℕ) → HasColumn cells j → length (found cells j) ≡ length cells
length-found cells j some =
    length-fits (known j cells) (found cells j) (found-is_found cells j some).fits ∙ length-known j cells

-- its byte i, in each column
sector_found : List SectorView → ℕ → List ℕ
sector_found cells i = map (λ j. get_or (found cells j) i 0) (range_with_len 0 1024)

length-sector_found : (cells : List SectorView) (i : ℕ) → length (sector_found cells i) ≡ 1024
unfolding sector_found
length-sector_found cells i = length-map-range_with_len (λ j. get_or (found cells j) i 0) 0 1024

get_or-sector_found : (cells : List SectorView) (i j : ℕ) → j < 1024 →
    get_or (sector_found cells i) j 0 ≡ get_or (found cells j) i 0
unfolding sector_found
get_or-sector_found cells i j h =
    get_or-map-range_with_len (λ k. get_or (found cells k) i 0) 0 1024 j j 0 h (zero-add j)

block_found : List SectorView → List (List ℕ)
block_found cells = map (sector_found cells) (range_with_len 0 (length cells))

length-block_found : (cells : List SectorView) → length (block_found cells) ≡ length cells
unfolding block_found
length-block_found cells = length-map-range_with_len (sector_found cells) 0 (length cells)

get_or-block_found : (cells : List SectorView) (i : ℕ) (d : List ℕ) → i < length cells →
    get_or (block_found cells) i d ≡ sector_found cells i
unfolding block_found
get_or-block_found cells i d h = get_or-map-range_with_len (sector_found cells) 0 (length cells) i i d h (zero-add i)

-- each column of the cells has a codeword that fits
abbrev HasColumns : List SectorView → Type 0
HasColumns cells = (j : ℕ) → j < 1024 → HasColumn cells j

sector_found-is_sector : (cells : List SectorView) (i : ℕ) → HasColumns cells → i < length cells → IsSector (sector_found cells i)
sector_found-is_sector cells i all inside = record {
  size = length-sector_found cells i;
  each = All-from_get_or (λ b. b < 256) (sector_found cells i) 0 (λ j lt.
      let size : length (sector_found cells i) ≡ 1024 = length-sector_found cells i in
      let within : j < 1024 = omega arith in
      let long : length (found cells j) ≡ length cells = length-found cells j (all j within) in
      let P : ℕ → Type 0 = λ b. b < 256 in
      subst P (sym (get_or-sector_found cells i j within))
      (All-get_or P (found cells j) i 0 (omega arith) (found-is_found cells j (all j within)).word.bytes));
}

column-block_found : (cells : List SectorView) (j : ℕ) → HasColumns cells → j < 1024 →
    column j (block_found cells) ≡ found cells j
column-block_found cells j all h =
    let count : length (column j (block_found cells)) ≡ length (block_found cells) = length-column j (block_found cells) in
    let size : length (block_found cells) ≡ length cells = length-block_found cells in
    let long : length (found cells j) ≡ length cells = length-found cells j (all j h) in
    same_lists (column j (block_found cells)) (found cells j) (count ∙ size ∙ sym long) (λ i d lt.
    get_or-column j (block_found cells) i [] d (omega arith)
    ∙ ap (λ (s : List ℕ). get_or s j 0) (get_or-block_found cells i [] (omega arith))
    ∙ get_or-sector_found cells i j h
    ∙ get_or_default (found cells j) i 0 d (omega arith))

block_found-is_code_block : (cells : List SectorView) → HasColumns cells → IsCodeBlock (block_found cells)
block_found-is_code_block cells all = record {
  sectors = All-from_get_or IsSector (block_found cells) [] (λ i lt.
      let size : length (block_found cells) ≡ length cells = length-block_found cells in
      let inside : i < length cells = omega arith in
      subst IsSector (sym (get_or-block_found cells i [] inside)) (sector_found-is_sector cells i all inside));
  columns = λ j h. subst IsCodeword (sym (column-block_found cells j all h)) (found-is_found cells j (all j h)).word;
}

-- what a cell holds is a sector
pub held_sector : (cells : List SectorView) (i : ℕ) (bytes : List ℕ) → All IsView cells → slice_get cells i ≡ Some (Holds bytes) →
    IsSector bytes
held_sector cells i bytes views held =
    let view : IsView (get_or cells i Blank) =
    All-get_or IsView cells i Blank (slice_get_within cells i (Holds bytes) held) views in
    subst IsView (get_or_from_slice_get cells i (Holds bytes) Blank held) view

block_found-agrees : (cells : List SectorView) → All IsView cells → HasColumns cells → Agrees cells (block_found cells)
block_found-agrees cells views all = record {
  size = length-block_found cells;
  each = λ i bytes held.
      let inside : i < length cells = slice_get_within cells i (Holds bytes) held in
      let size : length (block_found cells) ≡ length cells = length-block_found cells in
      let long : length (sector_found cells i) ≡ 1024 = length-sector_found cells i in
      let same : sector_found cells i ≡ bytes =
      ext_get_or 0 (sector_found cells i) bytes (long ∙ sym (held_sector cells i bytes views held).size) (λ j lt.
      let within : j < 1024 = omega arith in
      get_or-sector_found cells i j within
      ∙ get_or_from_slice_get (found cells j) i (slice_index bytes j) 0
      (known_byte (known j cells) (found cells j) i (slice_index bytes j) (found-is_found cells j (all j within)).fits
      (slice_get-known j cells i bytes held))) in
      slice_get-get_or (block_found cells) i [] (omega arith)
      ∙ ap Some (get_or-block_found cells i [] inside ∙ same);
}

-- ---- what the cells say

-- a code block that agrees with the cells
pub record HasSomeBlock (cells : List SectorView) : Type 0 where
  pub block : List (List ℕ)
  pub code : IsCodeBlock block
  pub agrees : Agrees cells block

-- some code block agrees with the cells, or none does
decide_block : (cells : List SectorView) → All IsView cells → HasSomeBlock cells ⊎ HasNoBlock cells
decide_block cells views =
    elim (decide_each_below 1024 (HasColumn cells) (decide_column cells)) [
      | inl all ↦ inl (record {
        block = block_found cells;
        code = block_found-is_code_block cells all;
        agrees = block_found-agrees cells views all;
      })
      | inr some ↦ inr (λ block code agrees. some.holds (record {
        bytes = column some.number block;
        fits = columns_fit some.number cells block some.below code.sectors agrees.size agrees.each;
        holds = code.columns some.number some.below;
      }))
    ]

pub says_always : SaysAlways
says_always cells views =
    elim (cases_lt 3 (unreadable_count cells)) [
      | inl many ↦ (LostSectors (unreadable_count cells), (refl, many))
      | inr few ↦ elim (decide_block cells views) [
        | inl some ↦ (
          Data (data_of some.block),
          (few, record { block = some.block; code = some.code; agrees = some.agrees; shown = refl }),
        )
        | inr none ↦ (Mismatch, (few, none))
      ]
    ]
