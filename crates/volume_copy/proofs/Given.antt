-- What the source of a copy gives, where its tape tells its cartridge.
use Rattle.std.proofs.Common.{◌≡◌, ℕ, zero, suc, ◌+◌, ◌-◌, ◌<◌, ◌≤◌, List, [], ◌∷◌, ◌++◌, length, drop, All, Contains, slice_get, Some}
use Rattle.std.proofs.Common.{IfSome, Result, refl, ap, sym, subst, ◌∙◌, arith, length-append}
use Rattle.std.specs.Option.{option_map}
use Rattle.std.proofs.lemmas.List.Elements.{All-drop, All-head, Contains-get_or}
use Rattle.std.proofs.lemmas.List.{length-drop}
use Rattle.std.proofs.lemmas.List.Sums.{sum_by-cons}
use Rattle.std.proofs.lemmas.Option.{get_or_from_slice_get, same_Some, slice_get_within}
use Rattle.cartridge_laws.proofs.AppendSegments.{carrying_carry}
use Rattle.cartridge_spec.specs.Table.{Entry}
use Rattle.cartridge_spec.specs.Volumes.{carrying_segments, volume_length}
use Rattle.command_laws.proofs.CommandEnds.{over_at}
use Rattle.command_laws.proofs.RestoreCounts.{FitsIn, pieces_fit, pieces_hold_all}
use Rattle.command_laws.proofs.RestoreGiven.{given_is_long, length-given}
use Rattle.command_spec.specs.Copying.{GivenBytes}
use Rattle.command_spec.specs.Restore.{GivingEnd, Piece, PieceEnds, Restored, Restores, pieces, volume_at}
use Rattle.command_laws.specs.RestoreTerms.{act_of, bytes_held}
use Rattle.command_spec.specs.declared.copy_status.CopyStatus.{CopyStatus}
use Rattle.qic_base.specs.Acts.{Act}
use Rattle.qic_base.specs.Cartridge.{Cartridge}
use Rattle.volume_copy.specs.Runs.{CopiesOne, SideView}
use Rattle.volume_copy.proofs.Bytes.{given_is}
use Rattle.volume_copy.specs.Given.{given_bytes}
use Rattle.volume_copy.specs.Source.{FirstRead, FirstUnread, IsRefusal, Reads, SourceView, bytes_left, left_where, new_source, pieces_at}
use Rattle.volume_copy.specs.Source.{pieces_of_number, source_means, source_pieces}
use Rattle.qic_base.specs.Tape as tapes

-- ---- pieces that are read

-- where the segments of all of them say data, all bytes are given
all_restored : (c : Cartridge) (words : List ℕ) (needed : List Piece) →
    ((i : ℕ) (piece : Piece) → i < length needed → slice_get needed i ≡ Some piece → Reads c words piece) → (read : List Act) ×
    Restores c words needed read Restored
all_restored c words [] reads = ([], (refl, refl))
all_restored c words (p ∷ ps) reads =
    let here : Reads c words p = reads 0 p (omega arith) refl in
    let rest = all_restored c words ps (λ i piece within at. reads (suc i) piece (omega (arith, within)) at) in
    (act_of p here.0 ∷ rest.0, (record { sectors = here.0; says = here.1; shown = refl }, rest.1))

-- and else those before the first that doesn't
first_ends : (c : Cartridge) (words : List ℕ) (needed : List Piece) (ending : GivingEnd) (number : ℕ) (piece : Piece) →
    slice_get needed number ≡ Some piece →
    FirstRead c words needed number → PieceEnds c words piece ending → (read : List Act) × Restores c words needed read ending
first_ends c words [] ending number piece there before ends = absurd (cc)
first_ends c words (p ∷ ps) ending zero piece there before ends =
    let same : p ≡ piece = same_Some p piece there in ([], subst (λ (q : Piece). PieceEnds c words q ending) (sym same) ends)
first_ends c words (p ∷ ps) ending (suc number) piece there before ends =
    let here : Reads c words p = before 0 p (omega arith) refl in
    let rest = first_ends c words ps ending number piece there (λ i q within at. before (suc i) q (omega (arith, within)) at) ends in
    (act_of p here.0 ∷ rest.0, (record { sectors = here.0; says = here.1; shown = refl }, rest.1))

pub unread_restored : (c : Cartridge) (words : List ℕ) (needed : List Piece) (ending : GivingEnd) → FirstUnread c words needed ending →
    (read : List Act) × Restores c words needed read ending
unread_restored c words needed ending unread = first_ends c words needed ending unread.number unread.piece unread.there unread.before
    unread.ends

entry_pieces_fit : (words : List ℕ) (e : Entry) → All (FitsIn words) (pieces words e)
entry_pieces_fit words e = pieces_fit words (carrying_segments words e) (volume_length words e) (carrying_carry words e.start e.end)

-- pieces that hold no byte are none
none_left : (needed : List Piece) → All (λ piece. 1 ≤ piece.count) needed → bytes_held needed ≡ 0 → needed ≡ []
none_left [] counts none = refl
none_left (p ∷ ps) counts none =
    let some : 1 ≤ p.count = All-head (λ (piece : Piece). 1 ≤ piece.count) p ps counts in
    let parts : bytes_held (p ∷ ps) ≡ p.count + bytes_held ps = sum_by-cons (λ (piece : Piece). piece.count) p ps in
    absurd (omega (arith, some, parts, none))

-- the volume with a number is among them
pub numbered_there : (entries : List Entry) (number : ℕ) (e : Entry) → volume_at entries number ≡ Some e → Contains entries e
numbered_there entries zero e at = absurd (cc)
numbered_there entries (suc n) e at =
    subst (Contains entries) (get_or_from_slice_get entries n e e at) (Contains-get_or entries n e (slice_get_within entries n e at))

-- ---- a copy of one

module _ {A B : Type 0} (a : tapes.Meaning A) (b : tapes.Meaning B) (number : ℕ) (from after : SideView A) (to new : SideView B)
    (result : Result ℕ CopyStatus) (one : CopiesOne a b number from after to new result)
    (c : Cartridge) (told : a.told from.unit.tape ≡ Some (Some c)) where
  abbrev pub words : List ℕ
  words = from.store.words

  abbrev pub e : Entry
  e = one.entry

  abbrev pub needed : List Piece
  needed = pieces words e

  -- its bytes, with zero bytes where a segment says none
  abbrev pub bytes : List ℕ
  bytes = given_bytes c words needed

  abbrev made : SourceView A
  made = new_source from.store from.unit number

  pub given : GivenBytes c words needed bytes
  given = given_is c words needed

  pub long : length bytes ≡ volume_length words e
  long = given_is_long c words e bytes given

  pub left_before : (source_means a).left made ≡ Some bytes
  left_before =
      ap (left_where made) told ∙ ap (λ (ps : List Piece). Some (given_bytes c words (drop 0 ps))) (ap (pieces_at words) one.numbered)

  told_after : a.told one.source.unit.tape ≡ Some (Some c)
  told_after = one.kept.told ∙ told

  pieces_after : source_pieces one.source ≡ needed
  pieces_after =
      ap (λ (n : ℕ). pieces_of_number one.source.store n) one.kept.number
      ∙ ap (λ (ws : List ℕ). pieces_at ws (volume_at one.source.store.entries number)) one.kept.store.words
      ∙ ap (λ (es : List Entry). pieces_at words (volume_at es number)) one.kept.store.entries
      ∙ ap (pieces_at words) one.numbered

  read_so_far : FirstRead c words needed one.source.done
  read_so_far =
      let told_so : FirstRead c one.source.store.words (source_pieces one.source) one.source.done =
      over_at (a.told one.source.unit.tape) (λ held. IfSome held (λ f. FirstRead f one.source.store.words (source_pieces one.source)
      one.source.done)) (Some c) one.sound.reads told_after in
      subst (λ (ps : List Piece). FirstRead c words ps one.source.done) pieces_after
      (subst (λ (ws : List ℕ). FirstRead c ws (source_pieces one.source) one.source.done) one.kept.store.words told_so)

  -- once all bytes were taken all segments were read
  pub taken_restored : (source_means a).left one.source ≡ option_map (drop (volume_length words e)) ((source_means a).left made) →
      (read : List Act) × Restores c words needed read Restored
  taken_restored left =
      let after : Some (bytes_left one.source c) ≡ Some (drop (volume_length words e) bytes) =
      sym (ap (left_where one.source) told_after) ∙ left ∙ ap (option_map (drop (volume_length words e))) left_before in
      let rest : List Piece = drop one.source.done needed in
      let same : one.source.unread ++ given_bytes c words rest ≡ drop (volume_length words e) bytes =
      ap (λ (ps : List Piece). one.source.unread ++ given_bytes c words (drop one.source.done ps)) (sym pieces_after)
      ∙ ap (λ (ws : List ℕ). one.source.unread ++ given_bytes c ws (drop one.source.done (source_pieces one.source)))
      (sym one.kept.store.words)
      ∙ same_Some (bytes_left one.source c) (drop (volume_length words e) bytes) after in
      let behind : length (drop (volume_length words e) bytes) ≡ length bytes - volume_length words e = length-drop (volume_length words e)
      bytes in
      let whole : length (one.source.unread ++ given_bytes c words rest) ≡ length one.source.unread + length (given_bytes c words rest) =
      length-append one.source.unread (given_bytes c words rest) in
      let long_so : length (one.source.unread ++ given_bytes c words rest) ≡ length (drop (volume_length words e) bytes) = ap length same in
      let none : length (given_bytes c words rest) ≡ 0 = omega (arith, behind, whole, long_so, long) in
      let held : length (given_bytes c words rest) ≡ bytes_held rest =
      length-given c words rest (given_bytes c words rest) (All-drop (FitsIn words) one.source.done needed (entry_pieces_fit words e))
      (given_is c words rest) in
      let empty : rest ≡ [] =
      none_left rest (All-drop (λ (piece : Piece). 1 ≤ piece.count) one.source.done needed (pieces_hold_all words e).1)
      (omega (arith, none, held)) in
      let few : length rest ≡ length needed - one.source.done = length-drop one.source.done needed in
      let zero_left : length rest ≡ 0 = ap length empty in
      all_restored c words needed (λ i piece within at. read_so_far i piece (omega (arith, within, few, zero_left)) at)

  -- what it was refused for
  pub refused_so : IsRefusal c words needed one.source.fault
  refused_so =
      let told_so : IsRefusal c one.source.store.words (source_pieces one.source) one.source.fault =
      over_at (a.told one.source.unit.tape) (λ held. IfSome held (λ f. IsRefusal f one.source.store.words (source_pieces one.source)
      one.source.fault)) (Some c) one.sound.refused told_after in
      subst (λ (ps : List Piece). IsRefusal c words ps one.source.fault) pieces_after
      (subst (λ (ws : List ℕ). IsRefusal c ws (source_pieces one.source) one.source.fault) one.kept.store.words told_so)
