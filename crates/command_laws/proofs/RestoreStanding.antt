-- A volume of what a cartridge stands for is restored byte for byte, or up to the first segment that lost too much.
use Rattle.std.proofs.Common.{◌≡◌, ℕ, List, length, All, ◌+◌, ◌-◌, ◌∷◌, take, drop, ◌∙◌, arith, ◌≤◌, ◌*◌, sym, ap, [], ◌++◌, refl, inl, inr}
use Rattle.std.proofs.Common.{zero, suc, ◌<◌, subst, get_or}
use Rattle.std.proofs.lemmas.List.{length-drop, length-take-le, append_assoc, take-append-drop, append-nil, take_all, take_min}
use Rattle.std.proofs.lemmas.List.{take-append-le}
use Rattle.std.proofs.lemmas.List.Elements.{All-tail, All-drop, All-head, All-take, All-contains, All-nil, All-cons}
use Rattle.std.proofs.lemmas.List.Sums.{sum_by-cons}
use Rattle.std.specs.Prelude.{min}
use Rattle.std.proofs.Math.Seq.{take-append-add}
use Rattle.std.proofs.lemmas.Bool.{cases_lt}
use Rattle.cartridge_laws.proofs.AppendBytes.{carried_all, capacity_of, sectors_carry}
use Rattle.cartridge_laws.proofs.AppendSegments.{carrying_carry}
use Rattle.cartridge_laws.proofs.Places.{count_below}
use Rattle.cartridge_laws.proofs.Sayings.{written_is_said, written_is_lost}
use Rattle.cartridge_laws.specs.Shape.{Carries}
use Rattle.cartridge_spec.specs.Volumes.{bytes_in, volume_bytes, parts_of, Part, Plain, Volume, VolumeStands, carrying_segments}
use Rattle.cartridge_spec.specs.Volumes.{volume_length}
use Rattle.cartridge_spec.specs.Says.{cells_of, Written, unreadable_count, Says, Data, LostSectors}
use Rattle.cartridge_spec.specs.Shape.{mask_at, data_count, capacity, usable_count}
use Rattle.cartridge_laws.specs.VolumeParts.{PartStands, sectors_in}
use Rattle.command_laws.proofs.RestoreCounts.{length-bytes_in, length_within}
use Rattle.command_laws.proofs.RestoreEndings.{restores_is_function}
use Rattle.command_laws.specs.RestoreLaws.{HasVolume, VolumeIsLong, RestoresByteForByte, FewOrFirstLost, RestoresFront, NeverMismatch}
use Rattle.command_laws.specs.RestoreLaws.{StandingRestores}
use Rattle.command_spec.specs.Restore.{Piece, Restored, Restores, LosesFew, pieces_of, LostIn, piece_cells, pieces_in, FirstLost}
use Rattle.command_spec.specs.Restore.{MismatchIn}
use Rattle.command_laws.specs.RestoreTerms.{act_of, bytes_held}
use Rattle.qic_base.specs.Acts.{Act, text_of}
use Rattle.qic_base.specs.Cartridge.{Cartridge, IsSector}

-- ---- an area in its segments

-- each of these segments carries data and was written with its part of the area
record IsHeld (c : Cartridge) (words segments : List ℕ) (area : List (List ℕ)) : Type 0 where
  parts : All (PartStands c words) (parts_of words segments area)
  size : length area ≡ sectors_in words segments
  sectors : All IsSector area
  carry : All (λ s. Carries (mask_at words s)) segments

held_tail : (c : Cartridge) (words : List ℕ) (s : ℕ) (ss : List ℕ) (area : List (List ℕ)) → IsHeld c words (s ∷ ss) area →
    IsHeld c words ss (drop (data_count (mask_at words s)) area)
held_tail c words s ss area held =
    let n : ℕ = data_count (mask_at words s) in
    let part : Part = record { segment = s; sectors = take n area } in
    let whole : length area ≡ n + sectors_in words ss = held.size ∙ sum_by-cons (λ t. data_count (mask_at words t)) s ss in
    record {
      parts = All-tail (PartStands c words) part (parts_of words ss (drop n area)) held.parts;
      size = length-drop n area ∙ omega arith;
      sectors = All-drop IsSector n area held.sectors;
      carry = All-tail (λ (t : ℕ). Carries (mask_at words t)) s ss held.carry;
    }

-- what the first of them holds
record HoldsFirst (c : Cartridge) (words : List ℕ) (s : ℕ) (area : List (List ℕ)) : Type 0 where
  written : Written (cells_of c s (mask_at words s)) (take (data_count (mask_at words s)) area)
  least : 1 ≤ length (take (data_count (mask_at words s)) area)
  most : length (take (data_count (mask_at words s)) area) ≤ 29
  sectors : All IsSector (take (data_count (mask_at words s)) area)
  count : length (bytes_in (take (data_count (mask_at words s)) area)) ≡ capacity (mask_at words s)

held_head : (c : Cartridge) (words : List ℕ) (s : ℕ) (ss : List ℕ) (area : List (List ℕ)) → IsHeld c words (s ∷ ss) area →
    HoldsFirst c words s area
held_head c words s ss area held =
    let n : ℕ = data_count (mask_at words s) in
    let part : Part = record { segment = s; sectors = take n area } in
    let whole : length area ≡ n + sectors_in words ss = held.size ∙ sum_by-cons (λ t. data_count (mask_at words t)) s ss in
    let size : length (take n area) ≡ n = length-take-le n area (omega arith) in
    let carry : Carries (mask_at words s) = All-head (λ (t : ℕ). Carries (mask_at words t)) s ss held.carry in
    let some : 4 ≤ usable_count (mask_at words s) = carry in
    let all : usable_count (mask_at words s) ≤ 32 = count_below (mask_at words s) 32 in
    let are : All IsSector (take n area) = All-take IsSector n area held.sectors in
    record {
      written = All-head (PartStands c words) part (parts_of words ss (drop n area)) held.parts;
      least = omega arith;
      most = omega arith;
      sectors = are;
      count = length-bytes_in (take n area) are ∙ ap (λ (k : ℕ). 1024 * k) size ∙ sym (carried_all words s carry);
    }

-- it says them where it lost at most three sectors
first_says : (c : Cartridge) (words : List ℕ) (s : ℕ) (area : List (List ℕ)) → HoldsFirst c words s area →
    unreadable_count (cells_of c s (mask_at words s)) ≤ 3 →
    Says (cells_of c s (mask_at words s)) (Data (take (data_count (mask_at words s)) area))
first_says c words s area holds few =
    let sectors : List (List ℕ) = take (data_count (mask_at words s)) area in
    written_is_said (cells_of c s (mask_at words s)) sectors holds.least holds.most holds.sectors holds.written few

-- ---- bytes in parts

pub bytes_in-append : (xs ys : List (List ℕ)) → bytes_in (xs ++ ys) ≡ bytes_in xs ++ bytes_in ys
bytes_in-append [] ys = refl
bytes_in-append (x ∷ xs) ys =
    ap (λ (bytes : List ℕ). x ++ bytes) (bytes_in-append xs ys) ∙ sym (append_assoc x (bytes_in xs) (bytes_in ys))

bytes_in-parts : (n : ℕ) (area : List (List ℕ)) → bytes_in (take n area) ++ bytes_in (drop n area) ≡ bytes_in area
bytes_in-parts n area = sym (bytes_in-append (take n area) (drop n area)) ∙ ap bytes_in (take-append-drop n area)

-- the first bytes of two parts
take_both : (left : ℕ) (xs ys : List ℕ) → take (min left (length xs)) xs ++ take (left - length xs) ys ≡ take left (xs ++ ys)
take_both left xs ys =
    elim (cases_lt (length xs) left) [
      | inl more ↦
          let whole : length xs + (left - length xs) ≡ left = omega arith in
          ap (λ (front : List ℕ). front ++ take (left - length xs) ys) (take_all (min left (length xs)) xs (omega arith))
          ∙ sym (take-append-add xs ys (left - length xs))
          ∙ ap (λ (k : ℕ). take k (xs ++ ys)) whole
      | inr few ↦
          let none : left - length xs ≡ 0 = omega arith in
          ap (λ (k : ℕ). take (min left (length xs)) xs ++ take k ys) none
          ∙ append-nil (take (min left (length xs)) xs)
          ∙ take_min left xs
          ∙ sym (take-append-le left xs ys few)
    ]

piece_text : (left cap : ℕ) (xs ys text : List ℕ) → length xs ≡ cap → text ≡ take (left - cap) ys →
    take (min left cap) xs ++ text ≡ take left (xs ++ ys)
piece_text left cap xs ys text long is =
    ap (λ (bytes : List ℕ). take (min left cap) xs ++ bytes) is
    ∙ ap (λ (k : ℕ). take (min left k) xs ++ take (left - k) ys) (sym long)
    ∙ take_both left xs ys

nothing_held : (left : ℕ) (area : List (List ℕ)) → length area ≡ 0 → [] ≡ take left (bytes_in area)
nothing_held left [] none = sym (take_all left [] (omega arith))
nothing_held left (sector ∷ sectors) none = absurd (omega arith)

-- ---- where each segment lost few

record GivesAll (c : Cartridge) (words : List ℕ) (needed : List Piece) (bytes : List ℕ) : Type 0 where
  acts : List Act
  restores : Restores c words needed acts Restored
  text : text_of acts ≡ bytes

standing_few : (c : Cartridge) (words segments : List ℕ) (area : List (List ℕ)) (left : ℕ) → IsHeld c words segments area →
    All (LosesFew c words) (pieces_of words segments left) → GivesAll c words (pieces_of words segments left) (take left (bytes_in area))
standing_few c words [] area left held few = record { acts = []; restores = (refl, refl); text = nothing_held left area held.size }
standing_few c words (s ∷ ss) area zero held few = record { acts = []; restores = (refl, refl); text = refl }
standing_few c words (s ∷ ss) area (suc left) held few =
    let cap : ℕ = capacity (mask_at words s) in
    let n : ℕ = data_count (mask_at words s) in
    let piece : Piece = record { segment = s; count = min (suc left) cap } in
    let needed : List Piece = pieces_of words ss (suc left - cap) in
    let holds : HoldsFirst c words s area = held_head c words s ss area held in
    let rest : GivesAll c words needed (take (suc left - cap) (bytes_in (drop n area))) =
    standing_few c words ss (drop n area) (suc left - cap) (held_tail c words s ss area held)
    (All-tail (LosesFew c words) piece needed few) in
    record {
      acts = act_of piece (take n area) ∷ rest.acts;
      restores = (
        record {
          sectors = take n area;
          says = first_says c words s area holds (All-head (LosesFew c words) piece needed few);
          shown = refl;
        },
        rest.restores,
      );
      text = piece_text (suc left) cap (bytes_in (take n area)) (bytes_in (drop n area)) (text_of rest.acts) holds.count rest.text
          ∙ ap (take (suc left)) (bytes_in-parts n area);
    }

-- ---- where one lost more

record EndsBehind (c : Cartridge) (words : List ℕ) (front : List Piece) (piece : Piece) (needed : List Piece) (bytes : List ℕ)
    (left : ℕ) : Type 0 where
  acts : List Act
  restores : Restores c words needed acts (LostIn piece.segment (unreadable_count (piece_cells c words piece)))
  text : text_of acts ≡ take (bytes_held front) bytes
  within : bytes_held front ≤ left

not_empty : (front : List Piece) (piece : Piece) (rest : List Piece) → front ++ piece ∷ rest ≡ [] → ⊥
not_empty [] piece rest is = absurd (cc)
not_empty (first ∷ front) piece rest is = absurd (cc)

none_left : (words segments : List ℕ) → pieces_of words segments 0 ≡ []
none_left words [] = refl
none_left words (s ∷ ss) = refl

-- a piece stands behind a segment only where that is full
more_left : (words ss : List ℕ) (left cap : ℕ) (front : List Piece) (piece : Piece) (rest : List Piece) →
    front ++ piece ∷ rest ≡ pieces_of words ss (left - cap) → cap < left
more_left words ss left cap front piece rest is =
    elim (cases_lt cap left) [
      | inl more ↦ more
      | inr few ↦
          let none : left - cap ≡ 0 = omega arith in
          absurd (not_empty front piece rest (is ∙ ap (pieces_of words ss) none ∙ none_left words ss))
    ]

front_lost : (c : Cartridge) (words : List ℕ) (front : List Piece) (piece : Piece) (rest : List Piece) (segments : List ℕ)
    (area : List (List ℕ)) (left : ℕ) → IsHeld c words segments area → front ++ piece ∷ rest ≡ pieces_of words segments left →
    All (LosesFew c words) front → 3 < unreadable_count (piece_cells c words piece) →
    EndsBehind c words front piece (pieces_of words segments left) (bytes_in area) left
front_lost c words front piece rest [] area left held is few many = absurd (not_empty front piece rest is)
front_lost c words front piece rest (s ∷ ss) area zero held is few many = absurd (not_empty front piece rest is)
front_lost c words [] piece rest (s ∷ ss) area (suc left) held is few many =
    let first : Piece = record { segment = s; count = min (suc left) (capacity (mask_at words s)) } in
    let same : piece ≡ first = ap (λ (needed : List Piece). get_or needed 0 piece) is in
    record {
      acts = [];
      restores = (
        ap (λ (p : Piece). p.segment) same,
        subst (λ (p : Piece). Says (piece_cells c words p) (LostSectors (unreadable_count (piece_cells c words piece)))) same
            (written_is_lost (piece_cells c words piece) many),
      );
      text = refl;
      within = omega arith;
    }
front_lost c words (first ∷ front) piece rest (s ∷ ss) area (suc left) held is few many =
    let cap : ℕ = capacity (mask_at words s) in
    let n : ℕ = data_count (mask_at words s) in
    let here : Piece = record { segment = s; count = min (suc left) cap } in
    let needed : List Piece = pieces_of words ss (suc left - cap) in
    let same : first ≡ here = ap (λ (ps : List Piece). get_or ps 0 first) is in
    let behind : front ++ piece ∷ rest ≡ needed = ap (λ (ps : List Piece). drop 1 ps) is in
    let holds : HoldsFirst c words s area = held_head c words s ss area held in
    let others : EndsBehind c words front piece needed (bytes_in (drop n area)) (suc left - cap) =
    front_lost c words front piece rest ss (drop n area) (suc left - cap) (held_tail c words s ss area held) behind
    (All-tail (LosesFew c words) first front few) many in
    let reads : LosesFew c words here = subst (LosesFew c words) same (All-head (LosesFew c words) first front few) in
    let full : cap < suc left = more_left words ss (suc left) cap front piece rest behind in
    let h : ℕ = bytes_held front in
    let inside : h ≤ suc left - cap = others.within in
    let count : first.count ≡ min (suc left) cap = ap (λ (p : Piece). p.count) same in
    let sum : bytes_held (first ∷ front) ≡ first.count + h = sum_by-cons (λ (p : Piece). p.count) first front in
    let all : cap + h ≡ bytes_held (first ∷ front) = omega arith in
    let least : min (suc left) cap ≡ min (cap + h) cap = omega arith in
    let over : h ≡ cap + h - cap = omega arith in
    record {
      acts = act_of here (take n area) ∷ others.acts;
      restores = (
        record { sectors = take n area; says = first_says c words s area holds reads; shown = refl },
        others.restores,
      );
      text = ap (λ (k : ℕ). take k (bytes_in (take n area)) ++ text_of others.acts) least
          ∙ piece_text (cap + h) cap (bytes_in (take n area)) (bytes_in (drop n area)) (text_of others.acts) holds.count
          (others.text ∙ ap (λ (k : ℕ). take k (bytes_in (drop n area))) over)
          ∙ ap (take (cap + h)) (bytes_in-parts n area)
          ∙ ap (λ (k : ℕ). take k (bytes_in area)) all;
      within = omega arith;
    }

-- ---- a volume

volume_held : (c : Cartridge) (plain : Plain) (volume : Volume) → HasVolume c plain volume →
    IsHeld c plain.words (carrying_segments plain.words volume.entry) volume.area
volume_held c plain volume has =
    let stands : VolumeStands c plain.words volume =
    All-contains (VolumeStands c plain.words) plain.volumes volume has.stands.volumes has.among in
    record {
      parts = stands.parts;
      size = stands.size;
      sectors = All-contains (λ (v : Volume). All IsSector v.area) plain.volumes volume has.stands.whole.areas has.among;
      carry = carrying_carry plain.words volume.entry.start volume.entry.end;
    }

pub volume_is_long : VolumeIsLong
volume_is_long c plain volume has =
    let words : List ℕ = plain.words in
    let segments : List ℕ = carrying_segments words volume.entry in
    let held : IsHeld c words segments volume.area = volume_held c plain volume has in
    let all : capacity_of words segments ≡ 1024 * sectors_in words segments = sectors_carry words segments held.carry in
    let size : length volume.area ≡ sectors_in words segments = held.size in
    let long : length (bytes_in volume.area) ≡ 1024 * length volume.area = length-bytes_in volume.area held.sectors in
    let most : volume_length words volume.entry ≤ capacity_of words segments = length_within words volume.entry in
    length-take-le (volume_length words volume.entry) (bytes_in volume.area) (omega arith)

volume_given : (c : Cartridge) (plain : Plain) (volume : Volume) → HasVolume c plain volume →
    All (LosesFew c plain.words) (pieces_in plain volume) → GivesAll c plain.words (pieces_in plain volume)
    (volume_bytes plain.words volume)
volume_given c plain volume has few =
    standing_few c plain.words (carrying_segments plain.words volume.entry) volume.area (volume_length plain.words volume.entry)
    (volume_held c plain volume has) few

pub restores_byte_for_byte : RestoresByteForByte
restores_byte_for_byte c plain volume acts ending has few restores =
    let made : GivesAll c plain.words (pieces_in plain volume) (volume_bytes plain.words volume) = volume_given c plain volume has few in
    let same = restores_is_function c plain.words (pieces_in plain volume) acts made.acts ending Restored restores made.restores in
    (same.1, ap text_of same.0 ∙ made.text)

-- ---- the first segment that lost more

pub few_or_first_lost : FewOrFirstLost
few_or_first_lost c words [] = inl (All-nil (LosesFew c words))
few_or_first_lost c words (piece ∷ needed) =
    elim (cases_lt 3 (unreadable_count (piece_cells c words piece))) [
      | inl many ↦
          inr (record { front = []; piece = piece; rest = needed; whole = refl; few = All-nil (LosesFew c words); many = many })
      | inr here ↦
          elim (few_or_first_lost c words needed) [
            | inl few ↦ inl (All-cons (LosesFew c words) piece needed here few)
            | inr first ↦
                inr
                (record {
                  front = piece ∷ first.front;
                  piece = first.piece;
                  rest = first.rest;
                  whole = ap (λ (ps : List Piece). piece ∷ ps) first.whole;
                  few = All-cons (LosesFew c words) piece first.front here first.few;
                  many = first.many;
                })
          ]
    ]

front_given : (c : Cartridge) (plain : Plain) (volume : Volume) (first : FirstLost c plain.words (pieces_in plain volume)) →
    HasVolume c plain volume →
    EndsBehind c plain.words first.front first.piece (pieces_in plain volume) (bytes_in volume.area)
    (volume_length plain.words volume.entry)
front_given c plain volume first has =
    front_lost c plain.words first.front first.piece first.rest (carrying_segments plain.words volume.entry) volume.area
    (volume_length plain.words volume.entry) (volume_held c plain volume has) first.whole first.few first.many

pub restores_front : RestoresFront
restores_front c plain volume first acts ending has restores =
    let words : List ℕ = plain.words in
    let size : ℕ = volume_length words volume.entry in
    let bytes : List ℕ = volume_bytes words volume in
    let made : EndsBehind c words first.front first.piece (pieces_in plain volume) (bytes_in volume.area) size =
    front_given c plain volume first has in
    let same =
    restores_is_function c words (pieces_in plain volume) acts made.acts ending
    (LostIn first.piece.segment (unreadable_count (piece_cells c words first.piece))) restores made.restores in
    let within : bytes_held first.front ≤ size = made.within in
    let long : length bytes ≡ size = volume_is_long c plain volume has in
    let text : text_of acts ≡ take (bytes_held first.front) bytes =
    ap text_of same.0 ∙ made.text
    ∙ ap (take (bytes_held first.front)) (sym (take-append-drop size (bytes_in volume.area)))
    ∙ take-append-le (bytes_held first.front) bytes (drop size (bytes_in volume.area)) (omega arith) in
    record {
      ends = same.1;
      text = text;
      count = ap (λ (xs : List ℕ). length xs) text ∙ length-take-le (bytes_held first.front) bytes (omega arith);
    }

pub never_mismatch : NeverMismatch
never_mismatch c plain volume acts segment has restores =
    elim (few_or_first_lost c plain.words (pieces_in plain volume)) [
      | inl few ↦
          let ends = (restores_byte_for_byte c plain volume acts (MismatchIn segment) has few restores).0 in
          absurd (cc)
      | inr first ↦
          let ends = (restores_front c plain volume first acts (MismatchIn segment) has restores).ends in
          absurd (cc)
    ]

pub standing_restores : StandingRestores
standing_restores c plain volume has =
    elim (few_or_first_lost c plain.words (pieces_in plain volume)) [
      | inl few ↦
          let made = volume_given c plain volume has few in
          (made.acts, Restored, made.restores)
      | inr first ↦
          let made = front_given c plain volume first has in
          (made.acts, LostIn first.piece.segment (unreadable_count (piece_cells c plain.words first.piece)), made.restores)
    ]
