-- A restore takes no step, and its text is as long as the pieces that were read.
use Rattle.std.proofs.Common.{◌≡◌, ◌+◌, List, [], ◌∷◌, ◌++◌, refl, ap, ◌∙◌, suc, length, sym, ℕ, ◌≤◌, zero, ◌-◌, All, ◌*◌, arith, Bool}
use Rattle.std.proofs.Common.{true, false, cond, ◌&&◌, nat_le, ◌==◌, length-append, take, subst}
use Rattle.std.specs.Prelude.{min}
use Rattle.std.proofs.Math.Nat.{min-le_right}
use Rattle.std.proofs.lemmas.List.Elements.{All-nil, All-cons, All-head, All-tail}
use Rattle.std.proofs.lemmas.List.Sums.{sum_by-cons}
use Rattle.std.proofs.lemmas.Bool.{leb-true}
use Rattle.std.proofs.lemmas.List.{length-take-le, take_all}
use Rattle.cartridge_laws.proofs.AppendBytes.{carried_all, capacity_of, capacity_cons, between_carries}
use Rattle.cartridge_laws.proofs.AppendSegments.{carrying_carry}
use Rattle.cartridge_laws.proofs.Sayings.{said_are_sectors}
use Rattle.cartridge_laws.proofs.Segments.{count_of_cells}
use Rattle.cartridge_laws.specs.SayingLaws.{AreDataSectors}
use Rattle.cartridge_laws.specs.Shape.{Carries}
use Rattle.cartridge_spec.specs.Volumes.{bytes_in, capacity_between, carrying_segments, volume_length}
use Rattle.cartridge_spec.specs.Shape.{mask_at, capacity, usable_count, data_count}
use Rattle.cartridge_spec.specs.Table.{Entry}
use Rattle.command_laws.specs.RestoreLaws.{RestoresInNoStep, FramedInNoStep, PiecesHoldAll, TextHoldsPieces, RestoredIsLong}
use Rattle.command_spec.specs.Restore.{framed, Piece, pieces_of, IsRead, piece_cells, GivingEnd, Restores, pieces, Restored}
use Rattle.command_laws.specs.RestoreTerms.{bytes_held}
use Rattle.qic_base.specs.Acts.{Act, steps_of, text_of}
use Rattle.qic_base.specs.Cartridge.{IsSector, Cartridge}
use Rattle.qic_base.specs.Step.{Step}
use Rattle.qic_base.specs.declared.tape.SectorView.{SectorView}

-- ---- no step

pub restores_in_no_step : RestoresInNoStep
restores_in_no_step c words [] acts ending h = ap steps_of h.0
restores_in_no_step c words (piece ∷ needed) [] ending h = refl
restores_in_no_step c words (piece ∷ needed) (act ∷ acts) ending h =
    let none : act.steps ≡ [] = ap (λ (a : Act). a.steps) h.0.shown in
    ap (λ (steps : List Step). steps ++ steps_of acts) none ∙ restores_in_no_step c words needed acts ending h.1

pub framed_in_no_step : FramedInNoStep
framed_in_no_step c words [] acts ending h = (refl, sym (ap (λ (xs : List Act). length xs) h.0))
framed_in_no_step c words (piece ∷ needed) [] ending h = (refl, refl)
framed_in_no_step c words (piece ∷ needed) (act ∷ acts) ending h =
    let rest = framed_in_no_step c words needed acts ending h.1 in
    let none : act.steps ≡ [] = ap (λ (a : Act). a.steps) h.0.shown in
    (ap (λ (steps : List Step). steps ++ steps_of (framed needed acts)) none ∙ rest.0, ap suc rest.1)

-- ---- the pieces of a volume

-- a piece of a segment that carries data, of no more bytes than that carries
pub record FitsIn (words : List ℕ) (piece : Piece) : Type 0 where
  pub carry : Carries (mask_at words piece.segment)
  pub within : piece.count ≤ capacity (mask_at words piece.segment)

pub pieces_fit : (words segments : List ℕ) (left : ℕ) → All (λ s. Carries (mask_at words s)) segments →
    All (FitsIn words) (pieces_of words segments left)
pieces_fit words [] left carry = All-nil (FitsIn words)
pieces_fit words (s ∷ ss) zero carry = All-nil (FitsIn words)
pieces_fit words (s ∷ ss) (suc left) carry =
    let cap : ℕ = capacity (mask_at words s) in
    All-cons (FitsIn words) (record { segment = s; count = min (suc left) cap }) (pieces_of words ss (suc left - cap))
    (record { carry = All-head (λ (t : ℕ). Carries (mask_at words t)) s ss carry; within = min-le_right (suc left) cap })
    (pieces_fit words ss (suc left - cap) (All-tail (λ (t : ℕ). Carries (mask_at words t)) s ss carry))

counts_are : (words segments : List ℕ) (left : ℕ) → All (λ s. Carries (mask_at words s)) segments →
    All (λ piece. 1 ≤ piece.count) (pieces_of words segments left)
counts_are words [] left carry = All-nil (λ (piece : Piece). 1 ≤ piece.count)
counts_are words (s ∷ ss) zero carry = All-nil (λ (piece : Piece). 1 ≤ piece.count)
counts_are words (s ∷ ss) (suc left) carry =
    let cap : ℕ = capacity (mask_at words s) in
    let here : Carries (mask_at words s) = All-head (λ (t : ℕ). Carries (mask_at words t)) s ss carry in
    let some : 4 ≤ usable_count (mask_at words s) = here in
    let all : cap ≡ 1024 * data_count (mask_at words s) = carried_all words s here in
    let least : 1 ≤ cap = omega arith in
    All-cons (λ (piece : Piece). 1 ≤ piece.count) (record { segment = s; count = min (suc left) cap }) (pieces_of words ss (suc left - cap))
    (omega arith)
    (counts_are words ss (suc left - cap) (All-tail (λ (t : ℕ). Carries (mask_at words t)) s ss carry))

held_all : (words segments : List ℕ) (left : ℕ) → left ≤ capacity_of words segments → bytes_held (pieces_of words segments left) ≡ left
held_all words [] left within = omega arith
held_all words (s ∷ ss) zero within = refl
held_all words (s ∷ ss) (suc left) within =
    let cap : ℕ = capacity (mask_at words s) in
    let rest : List Piece = pieces_of words ss (suc left - cap) in
    let first : bytes_held (record { segment = s; count = min (suc left) cap } ∷ rest) ≡ min (suc left) cap + bytes_held rest =
    sum_by-cons (λ (piece : Piece). piece.count) (record { segment = s; count = min (suc left) cap }) rest in
    let more : capacity_of words (s ∷ ss) ≡ cap + capacity_of words ss = capacity_cons words s ss in
    let behind : bytes_held rest ≡ suc left - cap = held_all words ss (suc left - cap) (omega arith) in
    omega arith

-- a volume is no longer than what its segments carry
by_fit : (none fits : Bool) (size all : ℕ) → (fits ≡ true → size ≤ all) → cond (none && fits) size all ≤ all
by_fit true true size all within = within refl
by_fit true false size all within = omega arith
by_fit false fits size all within = omega arith

pub length_within : (words : List ℕ) (e : Entry) → volume_length words e ≤ capacity_of words (carrying_segments words e)
length_within words e =
    let all : ℕ = capacity_between words e.start e.end in
    let most : volume_length words e ≤ all = by_fit (e.directory == 0) (nat_le e.size all) e.size all (leb-true e.size all) in
    let same : all ≡ capacity_of words (carrying_segments words e) = between_carries words e.start e.end in
    omega arith

pub pieces_hold_all : PiecesHoldAll
pieces_hold_all words e = (
  held_all words (carrying_segments words e) (volume_length words e) (length_within words e),
  counts_are words (carrying_segments words e) (volume_length words e) (carrying_carry words e.start e.end),
)

-- ---- the text

pub length-bytes_in : (sectors : List (List ℕ)) → All IsSector sectors → length (bytes_in sectors) ≡ 1024 * length sectors
length-bytes_in [] are = refl
length-bytes_in (sector ∷ sectors) are =
    let here : length sector ≡ 1024 = (All-head IsSector sector sectors are).size in
    let rest : length (bytes_in sectors) ≡ 1024 * length sectors = length-bytes_in sectors (All-tail IsSector sector sectors are) in
    length-append sector (bytes_in sectors) ∙ omega arith

-- a piece that is read gives its bytes
pub read_count : (c : Cartridge) (words : List ℕ) (piece : Piece) (act : Act) → FitsIn words piece → IsRead c words piece act →
    length act.text ≡ piece.count
read_count c words piece act fits read =
    let mask : ℕ = mask_at words piece.segment in
    let cells : List SectorView = piece_cells c words piece in
    let are : AreDataSectors cells read.sectors = said_are_sectors cells read.sectors read.says in
    let size : length read.sectors + 3 ≡ length cells = are.size in
    let usable : length cells ≡ usable_count mask = count_of_cells c piece.segment mask in
    let long : length (bytes_in read.sectors) ≡ 1024 * length read.sectors =
    length-bytes_in read.sectors are.each in
    let all : capacity mask ≡ 1024 * data_count mask = carried_all words piece.segment fits.carry in
    let within : piece.count ≤ capacity mask = fits.within in
    ap (λ (a : Act). length a.text) read.shown ∙ length-take-le piece.count (bytes_in read.sectors) (omega arith)

text_held : (c : Cartridge) (words : List ℕ) (needed : List Piece) (acts : List Act) (ending : GivingEnd) → All (FitsIn words) needed →
    Restores c words needed acts ending → length (text_of acts) ≡ bytes_held (take (length acts) needed)
text_held c words [] acts ending fit h =
    subst (λ (xs : List Act). length (text_of xs) ≡ bytes_held (take (length xs) [])) (sym h.0) refl
text_held c words (piece ∷ needed) [] ending fit h = refl
text_held c words (piece ∷ needed) (act ∷ acts) ending fit h =
    let here : length act.text ≡ piece.count = read_count c words piece act (All-head (FitsIn words) piece needed fit) h.0 in
    let rest : length (text_of acts) ≡ bytes_held (take (length acts) needed) =
    text_held c words needed acts ending (All-tail (FitsIn words) piece needed fit) h.1 in
    let first : bytes_held (piece ∷ take (length acts) needed) ≡ piece.count + bytes_held (take (length acts) needed) =
    sum_by-cons (λ (p : Piece). p.count) piece (take (length acts) needed) in
    length-append act.text (text_of acts) ∙ omega arith

pub text_holds_pieces : TextHoldsPieces
text_holds_pieces c words e acts ending h =
    text_held c words (pieces words e) acts ending
    (pieces_fit words (carrying_segments words e) (volume_length words e) (carrying_carry words e.start e.end)) h

all_read : (c : Cartridge) (words : List ℕ) (needed : List Piece) (acts : List Act) → Restores c words needed acts Restored →
    length acts ≡ length needed
all_read c words [] acts h = ap (λ (xs : List Act). length xs) h.0
all_read c words (piece ∷ needed) [] h = absurd h
all_read c words (piece ∷ needed) (act ∷ acts) h = ap suc (all_read c words needed acts h.1)

pub restored_is_long : RestoredIsLong
restored_is_long c words e acts h =
    let same : length acts ≡ length (pieces words e) = all_read c words (pieces words e) acts h in
    text_holds_pieces c words e acts Restored h
    ∙ ap bytes_held (take_all (length acts) (pieces words e) (omega arith))
    ∙ (pieces_hold_all words e).0
