-- One piece of a volume, by its number.
use Rattle.std.proofs.Common.{◌≡◌, ℕ, zero, suc, ◌+◌, ◌-◌, ◌*◌, ◌/◌, ◌<◌, ◌≤◌, inl, inr, nat_le, Bool, cond, List, [], ◌∷◌, length, take}
use Rattle.std.proofs.Common.{drop, All, Some, None, slice_get, refl, sym, ap, ◌∙◌, subst, arith}
use Rattle.std.specs.Prelude.{min}
use Rattle.std.proofs.lemmas.Bool.{cases_Bool}
use Rattle.std.proofs.lemmas.List.{length-take-le, take-append-le, take-append-drop}
use Rattle.std.proofs.lemmas.List.Elements.{All-take}
use Rattle.qic_base.proofs.Steps.{Tells-map}
use Rattle.qic_base.specs.Cartridge.{Cartridge, IsSector}
use Rattle.cartridge_spec.specs.Code.{IsCodeBlock}
use Rattle.cartridge_spec.specs.Says.{Says, Data, cells_of}
use Rattle.cartridge_laws.specs.Segment.{data_of}
use Rattle.cartridge_spec.specs.Shape.{mask_at, usable_count, data_count, capacity}
use Rattle.cartridge_laws.proofs.Places.{count_below}
use Rattle.cartridge_laws.proofs.Segments.{count_of_cells}
use Rattle.command_spec.specs.Restore.{Piece, piece_cells}
use Rattle.segment_solve.specs.Reading.{HasSolved}
use Rattle.volume_output.specs.Part.{ReadsPiece}
use Rattle.volume_output.specs.Piece.{piece_of}
use Rattle.volume_output.proofs.Walking.{left_behind, left_skipped, left_given}
use Rattle.command_laws.specs.OutputLaws.{pieces_between}
use Rattle.qic_base.specs.Tape as tapes
use Rattle.qic_base.specs.TapeCalls as tape_calls

-- ---- the walk to a piece

-- the piece that is looked for is the one with this number among those that are left
abbrev pub IsAmongLeft : (words : List ℕ) (start end bytes number segment left before : ℕ) → Type 0
IsAmongLeft words start end bytes number segment left before =
    slice_get (pieces_between words start end bytes) number ≡ slice_get (pieces_between words segment end left) before

past_first : (piece : Piece) (rest : List Piece) (before : ℕ) → 0 < before → slice_get (piece ∷ rest) before ≡ slice_get rest (before - 1)
past_first piece rest zero some = absurd (omega arith)
past_first piece rest (suc n) some = let same : n ≡ suc n - 1 = omega arith in ap (slice_get rest) same

module _ (words : List ℕ) (start end bytes number segment left before : ℕ)
    (among : IsAmongLeft words start end bytes number segment left before) where
  pub none_left : end < segment → slice_get (pieces_between words start end bytes) number ≡ None
  none_left past = among ∙ ap (λ (ps : List Piece). slice_get ps before) (left_behind words segment end left past)

  pub segment_skipped : segment ≤ end → min left (capacity (mask_at words segment)) ≡ 0 →
      IsAmongLeft words start end bytes number (segment + 1) left before
  segment_skipped within none = among ∙ ap (λ (ps : List Piece). slice_get ps before) (left_skipped words segment end within left none)

  module _ (within : segment ≤ end) (count : ℕ) (is : count ≡ min left (capacity (mask_at words segment))) (some : 0 < count) where
    pub piece_here : before ≡ 0 → slice_get (pieces_between words start end bytes) number ≡ Some (piece_of segment count)
    piece_here first =
        among ∙ ap (λ (ps : List Piece). slice_get ps before) (left_given words segment end within left count is some)
        ∙ ap (slice_get (piece_of segment count ∷ pieces_between words (segment + 1) end (left - count))) first

    pub piece_behind : 0 < before → IsAmongLeft words start end bytes number (segment + 1) (left - count) (before - 1)
    piece_behind more =
        among ∙ ap (λ (ps : List Piece). slice_get ps before) (left_given words segment end within left count is some)
        ∙ past_first (piece_of segment count) (pieces_between words (segment + 1) end (left - count)) before more

-- ---- a segment that holds some bytes

-- in all its data sectors
capacity_some : (mask count : ℕ) → 0 < count → count ≤ capacity mask → capacity mask ≡ 1024 * data_count mask
capacity_some mask count some within =
    elim (cases_Bool (nat_le 4 (usable_count mask))) [
      | inl passes ↦ ap (λ (b : Bool). cond b (1024 * data_count mask) 0) passes
      | inr fails ↦
          let none : capacity mask ≡ 0 = ap (λ (b : Bool). cond b (1024 * data_count mask) 0) fails in
          absurd (omega arith)
    ]

-- as many as its capacity says
sectors_of_capacity : (mask count answered : ℕ) → 0 < count → count ≤ capacity mask → answered ≡ capacity mask →
    answered / 1024 ≡ data_count mask
sectors_of_capacity mask count answered some within is =
    let all : capacity mask ≡ 1024 * data_count mask = capacity_some mask count some within in
    omega arith

-- the data of the first sectors of 32 are the first of these
data_first : (mask : ℕ) (sectors : List (List ℕ)) → length sectors ≡ 32 →
    data_of (take (usable_count mask) sectors) ≡ take (data_count mask) sectors
data_first mask sectors room =
    let n : ℕ = usable_count mask in
    let few : n ≤ 32 = count_below mask 32 in
    let size : length (take n sectors) ≡ n = length-take-le n sectors (omega arith) in
    ap (λ (m : ℕ). take (m - 3) (take n sectors)) size
    ∙ sym (take-append-le (n - 3) (take n sectors) (drop n sectors) (omega arith))
    ∙ ap (take (n - 3)) (take-append-drop n sectors)

module _ {T : Type 0} (t : tapes.Meaning T) (words : List ℕ) (segment count mask : ℕ) (is : mask ≡ mask_at words segment) (old new : T)
    (did : tapes.Done t old new []) where
  module _ (some : 0 < count) (within : count ≤ capacity mask) (sectors : List (List ℕ)) (room : length sectors ≡ 32)
      (block : IsCodeBlock (take (usable_count mask) sectors)) where
    said_data : (c : Cartridge) → HasSolved (cells_of c segment mask) sectors →
        Says (piece_cells c words (piece_of segment count)) (Data (take (data_count mask) sectors))
    said_data c solved =
        let n : length (cells_of c segment mask) ≡ usable_count mask = count_of_cells c segment mask in
        subst (λ (m : ℕ). Says (cells_of c segment m) (Data (take (data_count mask) sectors))) is
        (subst (λ (shown : List (List ℕ)). Says (cells_of c segment mask) (Data shown)) (data_first mask sectors room)
        (subst (λ (m : ℕ). Says (cells_of c segment mask) (Data (data_of (take m sectors)))) n solved.says))

    pub piece_read : (answered : ℕ) → answered ≡ capacity mask → tape_calls.Tells t old (λ c. HasSolved (cells_of c segment mask) sectors) →
        ReadsPiece t words (piece_of segment count) old new (take (answered / 1024) sectors) count
    piece_read answered held told =
        let n : ℕ = usable_count mask in
        let few : n ≤ 32 = count_below mask 32 in
        let by : answered / 1024 ≡ data_count mask = sectors_of_capacity mask count answered some within held in
        let all : capacity mask ≡ 1024 * data_count mask = capacity_some mask count some within in
        let size : length (take (data_count mask) sectors) ≡ data_count mask = length-take-le (data_count mask) sectors (omega arith) in
        let size_block : length (take n sectors) ≡ n = length-take-le n sectors (omega arith) in
        let are : All IsSector (data_of (take n sectors)) = All-take IsSector (length (take n sectors) - 3)
        (take n sectors) block.sectors in
        let read : ReadsPiece t words (piece_of segment count) old new (take (data_count mask) sectors) count = record {
          counted = refl;
          some = some;
          within = omega arith;
          did = did;
          told = Tells-map t old (λ c. HasSolved (cells_of c segment mask) sectors)
              (λ c. Says (piece_cells c words (piece_of segment count)) (Data (take (data_count mask) sectors))) said_data told;
          size = size ∙ ap data_count is;
          are = subst (All IsSector) (data_first mask sectors room) are;
        } in
        subst (λ (m : ℕ). ReadsPiece t words (piece_of segment count) old new (take m sectors) count) (sym by) read
