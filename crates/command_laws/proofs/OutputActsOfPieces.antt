-- Acts of the first of some pieces: how many bytes, and no step.
use Rattle.std.proofs.Common.{ℕ, List, [], ◌∷◌, All, sym, ap, subst, length, ◌≡◌, ◌+◌, ◌++◌, ◌∙◌, suc, true, false, refl, ◌≤◌, take, arith}
use Rattle.std.proofs.Common.{length-append}
use Rattle.std.proofs.lemmas.List.Elements.{All-head, All-tail}
use Rattle.std.proofs.lemmas.List.Sums.{count_by-le-length, sum_by-cons}
use Rattle.cartridge_laws.proofs.AppendSegments.{carrying_carry}
use Rattle.cartridge_laws.proofs.Places.{count_below}
use Rattle.cartridge_laws.proofs.Segments.{count_of_cells}
use Rattle.cartridge_spec.specs.Says.{unreadable_count}
use Rattle.cartridge_spec.specs.Shape.{is_unreadable, mask_at, usable_count}
use Rattle.cartridge_spec.specs.Volumes.{carrying}
use Rattle.command_laws.proofs.OutputJoining.{EndsAt-more}
use Rattle.command_laws.proofs.RestoreCounts.{FitsIn, read_count, pieces_fit}
use Rattle.command_laws.specs.OutputLaws.{RestoredAreOf, PrintedInNoStep, TextOfFirst}
use Rattle.command_laws.specs.OutputText.{AreOf}
use Rattle.command_spec.specs.Restore.{Piece, GivingEnd, Restores, Restored, LostIn, MismatchIn, PieceEnds, framed, piece_cells}
use Rattle.command_laws.specs.RestoreTerms.{EndsAt, bytes_held}
use Rattle.qic_base.specs.Acts.{Act, steps_of, text_of}
use Rattle.qic_base.specs.Cartridge.{Cartridge}
use Rattle.qic_base.specs.Step.{Step}
use Rattle.qic_base.specs.declared.tape.SectorView.{SectorView}

are_of : (c : Cartridge) (words : List ℕ) (needed : List Piece) (acts : List Act) (ending : GivingEnd) → All (FitsIn words) needed →
    Restores c words needed acts ending → AreOf needed acts
are_of c words [] acts ending fit h = subst (λ (xs : List Act). AreOf [] xs) (sym h.0) tt
are_of c words (piece ∷ needed) [] ending fit h = tt
are_of c words (piece ∷ needed) (act ∷ acts) ending fit h = (
  ap (λ (a : Act). a.steps) h.0.shown,
  read_count c words piece act (All-head (FitsIn words) piece needed fit) h.0,
  are_of c words needed acts ending (All-tail (FitsIn words) piece needed fit) h.1,
)

ends_first : (c : Cartridge) (words : List ℕ) (piece : Piece) (needed : List Piece) (ending : GivingEnd) → PieceEnds c words piece ending →
    EndsAt (piece ∷ needed) 0 ending
ends_first c words piece needed Restored ends = absurd ends
ends_first c words piece needed (LostIn segment lost) ends =
    let cells : List SectorView = piece_cells c words piece in
    let count : unreadable_count cells ≤ length cells = count_by-le-length is_unreadable cells in
    let size : length cells ≡ usable_count (mask_at words piece.segment) = count_of_cells c piece.segment (mask_at words piece.segment) in
    let most : usable_count (mask_at words piece.segment) ≤ 32 = count_below (mask_at words piece.segment) 32 in
    let all : unreadable_count cells ≡ lost = ends.1.0 in
    ((ends.1.1, omega arith), sym ends.0)
ends_first c words piece needed (MismatchIn segment) ends = sym ends.0

ends_at : (c : Cartridge) (words : List ℕ) (needed : List Piece) (acts : List Act) (ending : GivingEnd) →
    Restores c words needed acts ending →
    EndsAt needed (length acts) ending
ends_at c words [] acts ending h =
    subst (λ (e : GivingEnd). EndsAt [] (length acts) e) (sym h.1) (ap (λ (xs : List Act). length xs) h.0)
ends_at c words (piece ∷ needed) [] ending h = ends_first c words piece needed ending h
ends_at c words (piece ∷ needed) (act ∷ acts) ending h = EndsAt-more piece needed (length acts) ending
    (ends_at c words needed acts ending h.1)

pub restored_are_of : RestoredAreOf
restored_are_of c words start end bytes acts ending h = (
  are_of c words _ acts ending (pieces_fit words (carrying words start end) bytes (carrying_carry words start end)) h,
  ends_at c words _ acts ending h,
)

-- ---- no step, and the text

-- as they are printed, the acts of one more piece take no step more
pub no_step : (steps : List Step) (acts : List Act) → steps ≡ [] → steps_of acts ≡ [] → steps ++ steps_of acts ≡ []
no_step steps acts none rest = ap (λ (ss : List Step). ss ++ steps_of acts) none ∙ rest

pub printed_in_no_step : PrintedInNoStep
printed_in_no_step [] true [] are = (refl, refl)
printed_in_no_step (piece ∷ needed) true [] are = (refl, refl)
printed_in_no_step [] true (act ∷ acts) are = absurd are
printed_in_no_step (piece ∷ needed) true (act ∷ acts) (steps, size, are) =
    let rest = printed_in_no_step needed true acts are in
    (no_step act.steps (framed needed acts) steps rest.0, ap suc rest.1)
printed_in_no_step needed false [] are = (refl, refl)
printed_in_no_step [] false (act ∷ acts) are = absurd are
printed_in_no_step (piece ∷ needed) false (act ∷ acts) (steps, size, are) =
    let rest = printed_in_no_step needed false acts are in
    (no_step act.steps acts steps rest.0, refl)

pub text_of_first : TextOfFirst
text_of_first needed [] are = (omega arith, refl)
text_of_first [] (act ∷ acts) are = absurd are
text_of_first (piece ∷ needed) (act ∷ acts) (steps, size, are) =
    let rest = text_of_first needed acts are in
    let few : length acts ≤ length needed = rest.0 in
    let text : length (text_of acts) ≡ bytes_held (take (length acts) needed) = rest.1 in
    let first : bytes_held (piece ∷ take (length acts) needed) ≡ piece.count + bytes_held (take (length acts) needed) =
    sum_by-cons (λ (p : Piece). p.count) piece (take (length acts) needed) in
    (omega arith, length-append act.text (text_of acts) ∙ omega arith)
