-- What the machine gives of a volume of a cartridge that stands for a plain one.
use Rattle.std.proofs.Common.{◌≢◌, ◌≡◌, ℕ, suc, zero, ◌<◌, List, [], ◌∷◌, slice_get, Some, subst, arith, All, ap, ◌∙◌, ◌≤◌, sym, inl, inr}
use Rattle.std.proofs.Common.{Contains, ◌++◌, refl, take, drop}
use Rattle.std.proofs.lemmas.Option.{same_Some, slice_get-map, none-some, slice_get_within, get_or_from_slice_get}
use Rattle.std.proofs.lemmas.List.Elements.{All-nil, All-cons, All-head, All-tail, All-weaker, Contains-get_or}
use Rattle.std.specs.Option.{option_map}
use Rattle.std.proofs.lemmas.List.{take-append-drop}
use Rattle.cartridge_laws.proofs.AppendSegments.{carrying_from}
use Rattle.cartridge_laws.proofs.FormatStanding.{same_cells}
use Rattle.cartridge_laws.proofs.MountOnce.{mounts_is_function}
use Rattle.cartridge_laws.proofs.MountSettled.{settled_keeps_table, settled_stands}
use Rattle.cartridge_laws.proofs.MountStanding.{standing_mounts}
use Rattle.cartridge_laws.proofs.TableOrders.{faultless_is_sound}
use Rattle.cartridge_laws.specs.Table.{LieBehind}
use Rattle.cartridge_spec.specs.Volumes.{volume_bytes, Plain, Volume, entries_of, carrying_segments, volume_length}
use Rattle.cartridge_spec.specs.TableSegment.{TableIs}
use Rattle.cartridge_spec.specs.HeaderCopies.{last_segment}
use Rattle.cartridge_spec.specs.Mounting.{settled, Mounting, mounted_as}
use Rattle.cartridge_spec.specs.Says.{unreadable_count}
use Rattle.cartridge_spec.specs.Shape.{mask_at}
use Rattle.cartridge_spec.specs.Table.{Entry}
use Rattle.command_laws.proofs.RestoreStanding.{restores_byte_for_byte, restores_front, few_or_first_lost}
use Rattle.command_laws.specs.RestoreLaws.{HasVolume, GivesFront}
use Rattle.command_spec.specs.Outcome.{settling_act, CommandOutcome, Opened, output_of}
use Rattle.command_spec.specs.Restore.{Piece, pieces_of, piece_cells, pieces_in, LosesFew, GivingEnd, Restores, ending_status, pieces}
use Rattle.command_spec.specs.Restore.{volume_at, Gives, FirstLost, HasNumber}
use Rattle.qic_base.specs.Acts.{Act}
use Rattle.qic_base.specs.Cartridge.{Cartridge, view_at}
use Rattle.qic_base.specs.declared.tape.SectorView.{SectorView}
use Rattle.command_laws.specs.RestoreTerms.{bytes_held}
use Rattle.command_laws.specs.Outcomes.{RestoreOutcome}
use Rattle.command_spec.specs.declared.status.Status.TheVariants as status

-- ---- the segments of a volume lie behind that of the table

starts_behind : (entries : List Entry) (before last i : ℕ) (e : Entry) → LieBehind before last entries → slice_get entries i ≡ Some e →
    before < e.start
starts_behind [] before last i e order at = absurd (cc)
starts_behind (x ∷ xs) before last zero e order at = subst (λ (y : Entry). before < y.start) (same_Some x e at) order.0
starts_behind (x ∷ xs) before last (suc i) e order at =
    let rest = starts_behind xs x.end last i e order.3 at in omega (arith, order.0, order.1, rest)

pieces_where : (P : ℕ → Type 0) (words segments : List ℕ) (left : ℕ) → All P segments →
    All (λ piece. P piece.segment) (pieces_of words segments left)
pieces_where P words [] left each = All-nil (λ (piece : Piece). P piece.segment)
pieces_where P words (s ∷ ss) zero each = All-nil (λ (piece : Piece). P piece.segment)
pieces_where P words (s ∷ ss) (suc left) each =
    All-cons (λ (piece : Piece). P piece.segment) _ _ (All-head P s ss each) (pieces_where P words ss _ (All-tail P s ss each))

-- ---- the settled cartridge

-- a piece's cells are the same there
abbrev pub IsAlike : (c d : Cartridge) (words : List ℕ) → Piece → Type 0
IsAlike c d words piece = piece_cells d words piece ≡ piece_cells c words piece

-- the place of a volume in the list, counted from 0
record IsAt (plain : Plain) (number : ℕ) (volume : Volume) : Type 0 where
  place : ℕ
  numbered : number ≡ suc place
  is : slice_get plain.volumes place ≡ Some volume

is_at : (number : ℕ) (c : Cartridge) (plain : Plain) (volume : Volume) → HasNumber c plain number volume → IsAt plain number volume
is_at zero c plain volume has = absurd (none-some volume has.is)
is_at (suc n) c plain volume has = record { place = n; numbered = refl; is = has.is }

entry_at : (plain : Plain) (number : ℕ) (volume : Volume) → (at : IsAt plain number volume) →
    slice_get (entries_of plain) at.place ≡ Some volume.entry
entry_at plain number volume at = slice_get-map (λ (v : Volume). v.entry) plain.volumes at.place
    ∙ ap (option_map (λ (v : Volume). v.entry)) at.is

-- the pieces of a volume lie behind the table, so they are those of another cartridge that differs in the table alone
pub pieces_elsewhere : (number : ℕ) (e : Cartridge) (plain : Plain) (volume : Volume) → HasNumber e plain number volume →
    (c d : Cartridge) → ((segment sector : ℕ) → sector < 32 → segment ≢ 2 → view_at d segment sector ≡ view_at c segment sector) →
    All (IsAlike c d plain.words) (pieces_in plain volume)
pieces_elsewhere number e plain volume has c d others =
    let at = is_at number e plain volume has in
    let first : 2 < volume.entry.start =
    starts_behind (entries_of plain) 2 (last_segment e) at.place volume.entry
    (faultless_is_sound plain.table_area (last_segment e) (entries_of plain) has.stands.sound_table has.stands.shown)
    (entry_at plain number volume at) in
    All-weaker (λ (piece : Piece). volume.entry.start ≤ piece.segment) (IsAlike c d plain.words)
    (λ piece behind. same_cells c d piece.segment (mask_at plain.words piece.segment)
    (λ i small. others piece.segment i small (λ two. omega (arith, first, behind, two))))
    (pieces_in plain volume)
    (pieces_where (λ s. volume.entry.start ≤ s) plain.words (carrying_segments plain.words volume.entry)
    (volume_length plain.words volume.entry)
    (carrying_from plain.words volume.entry.start volume.entry.end))

pieces_alike : (number : ℕ) (c : Cartridge) (plain : Plain) (volume : Volume) → HasNumber c plain number volume →
    TableIs c plain.table_area →
    All (IsAlike c (settled plain.table_area c) plain.words) (pieces_in plain volume)
pieces_alike number c plain volume has table =
    pieces_elsewhere number c plain volume has c (settled plain.table_area c) (settled_keeps_table c plain.table_area table).others

pub few_alike : (c d : Cartridge) (words : List ℕ) (ps : List Piece) → All (IsAlike c d words) ps → All (LosesFew c words) ps →
    All (LosesFew d words) ps
few_alike c d words [] alike few = All-nil (LosesFew d words)
few_alike c d words (p ∷ ps) alike few =
    All-cons (LosesFew d words) p ps
    (subst (λ (cells : List SectorView). unreadable_count cells ≤ 3) (sym (All-head (IsAlike c d words) p ps alike))
    (All-head (LosesFew c words) p ps few))
    (few_alike c d words ps (All-tail (IsAlike c d words) p ps alike) (All-tail (LosesFew c words) p ps few))

split_all : (P : Piece → Type 0) (xs ys : List Piece) → All P (xs ++ ys) → All P xs × All P ys
split_all P [] ys each = (All-nil P, each)
split_all P (x ∷ xs) ys each =
    let rest = split_all P xs ys (All-tail P x (xs ++ ys) each) in
    (All-cons P x xs (All-head P x (xs ++ ys) each) rest.0, rest.1)

-- the first piece that lost more is the same there, too
pub record LostAlike (c d : Cartridge) (words : List ℕ) (needed : List Piece) (first : FirstLost c words needed) : Type 0 where
  pub there : FirstLost d words needed
  pub front : there.front ≡ first.front
  pub piece : there.piece ≡ first.piece
  pub count : unreadable_count (piece_cells d words there.piece) ≡ unreadable_count (piece_cells c words first.piece)

pub lost_alike : (c d : Cartridge) (words : List ℕ) (needed : List Piece) (first : FirstLost c words needed) →
    All (IsAlike c d words) needed →
    LostAlike c d words needed first
lost_alike c d words needed first alike =
    let parts = split_all (IsAlike c d words) first.front (first.piece ∷ first.rest)
    (subst (All (IsAlike c d words)) (sym first.whole) alike) in
    let here : piece_cells d words first.piece ≡ piece_cells c words first.piece =
    All-head (IsAlike c d words) first.piece first.rest parts.1 in
    let count : unreadable_count (piece_cells d words first.piece) ≡ unreadable_count (piece_cells c words first.piece) =
    ap unreadable_count here in
    record {
      there = record {
        front = first.front;
        piece = first.piece;
        rest = first.rest;
        whole = first.whole;
        few = few_alike c d words first.front parts.0 first.few;
        many = subst (λ (n : ℕ). 3 < n) (sym count) first.many;
      };
      front = refl;
      piece = refl;
      count = count;
    }

-- ---- what the machine gives of it

pub record IsGiven (number : ℕ) (c : Cartridge) (plain : Plain) (volume : Volume) (outcome : CommandOutcome) : Type 0 where
  pub table : TableIs c plain.table_area
  pub acts : List Act
  pub ending : GivingEnd
  pub restores : Restores (settled plain.table_area c) plain.words (pieces_in plain volume) acts ending
  pub is : outcome ≡ record { acts = settling_act plain.table_area c ∷ acts; taken = 0; status = ending_status ending }

pub given : (number : ℕ) (c : Cartridge) (plain : Plain) (volume : Volume) (outcome : CommandOutcome) → HasNumber c plain number volume →
    RestoreOutcome number (Some c) outcome →
    IsGiven number c plain volume outcome
given number c plain volume outcome has (m, mounts, opened) =
    let mounted = standing_mounts c plain has.stands has.reads in
    let same : m ≡ mounted_as plain = mounts_is_function c m (mounted_as plain) mounts mounted in
    by_gives mounted.reads (subst (λ (a : Mounting). Opened (Gives number) c a outcome) same opened)
  where
    at : volume_at (entries_of plain) number ≡ Some volume.entry
    at =
        let is = is_at number c plain volume has in ap (volume_at (entries_of plain)) is.numbered ∙ entry_at plain number volume is

    by_gives : TableIs c plain.table_area → Gives number c plain.header plain.words plain.table_area (entries_of plain) outcome →
        IsGiven number c plain volume outcome
    by_gives table (inl none) = absurd (none-some volume.entry (sym none.0 ∙ at))
    by_gives table (inr found) =
        let same : found.entry ≡ volume.entry = same_Some found.entry volume.entry (sym found.numbered ∙ at) in
        record {
          table = table;
          acts = found.acts;
          ending = found.ending;
          restores = subst (λ (e : Entry). Restores (settled plain.table_area c) plain.words (pieces plain.words e) found.acts found.ending)
              same found.restores;
          is = found.is;
        }

has_volume : (number : ℕ) (c : Cartridge) (plain : Plain) (volume : Volume) → HasNumber c plain number volume → TableIs c plain.table_area →
    HasVolume (settled plain.table_area c) plain volume
has_volume number c plain volume has table = record {
  stands = settled_stands c plain plain.table_area has.stands table;
  among =
      let at = is_at number c plain volume has in
      subst (Contains plain.volumes) (get_or_from_slice_get plain.volumes at.place volume volume at.is)
      (Contains-get_or plain.volumes at.place volume (slice_get_within plain.volumes at.place volume at.is));
}

-- just its bytes
abbrev pub WasWhole : Plain → Volume → CommandOutcome → Type 0
WasWhole plain volume outcome = (outcome.status ≡ status.Done) × (output_of outcome ≡ volume_bytes plain.words volume)

pub given_whole : (number : ℕ) (c : Cartridge) (plain : Plain) (volume : Volume) (outcome : CommandOutcome) →
    HasNumber c plain number volume → IsGiven number c plain volume outcome →
    All (LosesFew c plain.words) (pieces_in plain volume) → WasWhole plain volume outcome
given_whole number c plain volume outcome has g few =
    let d : Cartridge = settled plain.table_area c in
    let gives = restores_byte_for_byte d plain volume g.acts g.ending (has_volume number c plain volume has g.table)
    (few_alike c d plain.words (pieces_in plain volume) (pieces_alike number c plain volume has g.table) few) g.restores in
    (ap (λ (o : CommandOutcome). o.status) g.is ∙ ap ending_status gives.0, ap output_of g.is ∙ gives.1)

-- or those of the segments before the first that lost more
abbrev pub WasLost : (c : Cartridge) (plain : Plain) (volume : Volume) → FirstLost c plain.words (pieces_in plain volume) → CommandOutcome →
    Type 0
WasLost c plain volume first outcome =
    (outcome.status ≡ status.Lost first.piece.segment (unreadable_count (piece_cells c plain.words first.piece)))
    × (output_of outcome ≡ take (bytes_held first.front) (volume_bytes plain.words volume))

pub given_lost : (number : ℕ) (c : Cartridge) (plain : Plain) (volume : Volume) (first : FirstLost c plain.words (pieces_in plain volume))
    (outcome : CommandOutcome) → HasNumber c plain number volume →
    IsGiven number c plain volume outcome → WasLost c plain volume first outcome
given_lost number c plain volume first outcome has g =
    let d : Cartridge = settled plain.table_area c in
    let alike = lost_alike c d plain.words (pieces_in plain volume) first (pieces_alike number c plain volume has g.table) in
    let gives : GivesFront d plain volume alike.there g.acts g.ending =
    restores_front d plain volume alike.there g.acts g.ending (has_volume number c plain volume has g.table) g.restores in (
      ap (λ (o : CommandOutcome). o.status) g.is ∙ ap ending_status gives.ends
          ∙ ap (λ (p : Piece). status.Lost p.segment (unreadable_count (piece_cells d plain.words alike.there.piece))) alike.piece
          ∙ ap (status.Lost first.piece.segment) alike.count,
      ap output_of g.is ∙ gives.text ∙ ap (λ (front : List Piece). take (bytes_held front) (volume_bytes plain.words volume)) alike.front,
    )

-- a front of its bytes, whatever was lost
pub record IsFront (text bytes : List ℕ) : Type 0 where
  pub rest : List ℕ
  pub parts : text ++ rest ≡ bytes

pub given_front : (number : ℕ) (c : Cartridge) (plain : Plain) (volume : Volume) (outcome : CommandOutcome) →
    HasNumber c plain number volume → IsGiven number c plain volume outcome →
    IsFront (output_of outcome) (volume_bytes plain.words volume)
given_front number c plain volume outcome has g =
    let bytes : List ℕ = volume_bytes plain.words volume in
    elim (few_or_first_lost c plain.words (pieces_in plain volume)) [
      | inl few ↦
          record { rest = []; parts = append_nothing (output_of outcome) ∙ (given_whole number c plain volume outcome has g few).1 }
      | inr first ↦
          record {
            rest = drop (bytes_held first.front) bytes;
            parts =
                ap (λ (xs : List ℕ). xs ++ drop (bytes_held first.front) bytes) (given_lost number c plain volume first outcome has g).1
                ∙ take-append-drop (bytes_held first.front) bytes;
          }
    ]
  where
    append_nothing : (xs : List ℕ) → xs ++ [] ≡ xs
    append_nothing [] = refl
    append_nothing (x ∷ xs) = ap (λ (ys : List ℕ). x ∷ ys) (append_nothing xs)
