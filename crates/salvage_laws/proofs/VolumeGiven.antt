-- What the segments of a volume give.
use Rattle.std.proofs.Common.{◌≡◌, ℕ, zero, suc, ◌+◌, ◌-◌, ◌*◌, ◌<◌, ◌≤◌, nat_le, Bool, true, false, cond, List, [], ◌∷◌, ◌++◌, length, min}
use Rattle.std.proofs.Common.{take}
use Rattle.std.proofs.Common.{drop, All, refl, sym, ap, subst, ◌∙◌, inl, inr, arith}
use Rattle.std.proofs.Math.Seq.{take-append-add}
use Rattle.std.proofs.lemmas.Bool.{cases_lt, leb-true, leb-false}
use Rattle.std.proofs.lemmas.List.{length-drop, length-take-le, nil_from_length, take-append-drop, take-append-le}
use Rattle.std.proofs.lemmas.List.Elements.{All-drop, All-head, All-tail, All-take}
use Rattle.std.proofs.lemmas.List.Sums.{sum_by-cons}
use Rattle.std.proofs.lemmas.Grind.{flat_map-append}
use Rattle.std.specs.List.{AllZip, filter, flat_map, range_with_len}
use Rattle.cartridge_laws.proofs.AppendBytes.{carried_all}
use Rattle.cartridge_laws.proofs.ChangeStanding.{written_less}
use Rattle.cartridge_laws.proofs.ChangeViews.{same_count}
use Rattle.cartridge_laws.proofs.Places.{count_below}
use Rattle.cartridge_laws.proofs.Segments.{count_of_cells}
use Rattle.cartridge_laws.specs.VolumeParts.{PartStands, sectors_in}
use Rattle.cartridge_spec.specs.Says.{cells_of, unreadable_count}
use Rattle.cartridge_spec.specs.Shape.{capacity, data_count, mask_at, usable_count, usable_places}
use Rattle.cartridge_spec.specs.Volumes.{Part, bytes_in, parts_of}
use Rattle.command_laws.proofs.RestoreCounts.{length-bytes_in}
use Rattle.command_laws.proofs.RestoreStanding.{bytes_in-append}
use Rattle.command_spec.specs.Restore.{LosesFew, Piece, pieces_of}
use Rattle.flat_dump.proofs.Standing.{reads_alike}
use Rattle.flat_dump.specs.Imported.{brought_back}
use Rattle.qic_base.specs.Cartridge.{Cartridge, IsSector, view_at}
use Rattle.qic_base.specs.declared.tape.SectorView.{SectorView}
use Rattle.dump_spec.specs.Cells.{cells_in}
use Rattle.dump_spec.specs.Dump.{Dump}
use Rattle.dump_spec.specs.Given.{Given, Gives, given_area}
use Rattle.dump_spec.specs.Output.{GiveInTurn}
use Rattle.dump_spec.specs.Pieces.{Layout}
use Rattle.dump_spec.specs.declared.form.Form.{Form}
use Rattle.dump_spec.specs.declared.form.Form.TheVariants as forms
use Rattle.salvage_laws.proofs.SegmentGiven.{IsSameOrFilled, WasWritten, given_any, given_few, given_none, zip-append}
use Rattle.salvage_laws.proofs.ToldBytes.{bytes_of_area}

-- ---- the segments of an area

-- a segment carries data
abbrev pub carries : (words : List ℕ) (s : ℕ) → Bool
carries words s = nat_le 4 (usable_count (mask_at words s))

-- those from one on that do, of so many
abbrev pub carrying_in : (words : List ℕ) (a n : ℕ) → List ℕ
carrying_in words a n = filter (carries words) (range_with_len a n)

-- they were written with the area's parts
pub record Hold (c : Cartridge) (words segments : List ℕ) (area : List (List ℕ)) : Type 0 where
  pub parts : All (PartStands c words) (parts_of words segments area)
  pub size : length area ≡ sectors_in words segments
  pub sectors : All IsSector area

-- the area's sectors are given, or filled; and where its first bytes lie in segments that lost few they are given
pub record AreGiven (c : Cartridge) (words segments : List ℕ) (area : List (List ℕ)) (given : List Given) : Type 0 where
  pub each : AllZip IsSameOrFilled given area
  pub few : (left : ℕ) → All (LosesFew c words) (pieces_of words segments left) →
      take left (flat_map (λ g. g.bytes) given) ≡ take left (bytes_in area)

-- ---- the first segment

back_count : (c : Cartridge) (s mask : ℕ) → unreadable_count (cells_of (brought_back c) s mask) ≡ unreadable_count (cells_of c s mask)
back_count c s mask =
    same_count (view_at (brought_back c) s) (view_at c s) (usable_places mask) (λ p. (reads_alike c).unreadable s p)

first_written : (c : Cartridge) (words : List ℕ) (s : ℕ) (ss : List ℕ) (area : List (List ℕ)) → 4 ≤ usable_count (mask_at words s) →
    Hold c words (s ∷ ss) area →
    WasWritten (cells_of (brought_back c) s (mask_at words s)) (take (data_count (mask_at words s)) area)
first_written c words s ss area some hold =
    let n : ℕ = data_count (mask_at words s) in
    let part : Part = record { segment = s; sectors = take n area } in
    let whole : length area ≡ n + sectors_in words ss = hold.size ∙ sum_by-cons (λ t. data_count (mask_at words t)) s ss in
    let size : length (take n area) ≡ n = length-take-le n area (omega arith) in
    let all : usable_count (mask_at words s) ≤ 32 = count_below (mask_at words s) 32 in
    record {
      written = written_less c (brought_back c) s (mask_at words s) (take n area) (reads_alike c).no_more
          (All-head (PartStands c words) part (parts_of words ss (drop n area)) hold.parts);
      least = omega arith;
      most = omega arith;
      are = All-take IsSector n area hold.sectors;
    }

rest_holds : (c : Cartridge) (words : List ℕ) (s : ℕ) (ss : List ℕ) (area : List (List ℕ)) → Hold c words (s ∷ ss) area →
    Hold c words ss (drop (data_count (mask_at words s)) area)
rest_holds c words s ss area hold =
    let n : ℕ = data_count (mask_at words s) in
    let part : Part = record { segment = s; sectors = take n area } in
    let whole : length area ≡ n + sectors_in words ss = hold.size ∙ sum_by-cons (λ t. data_count (mask_at words t)) s ss in
    record {
      parts = All-tail (PartStands c words) part (parts_of words ss (drop n area)) hold.parts;
      size = length-drop n area ∙ omega arith;
      sectors = All-drop IsSector n area hold.sectors;
    }

-- ---- bytes

-- the first bytes of two parts, of which the first one has so many
front_of_two : (left size : ℕ) (xs ys zs : List ℕ) → length xs ≡ size → take (left - size) ys ≡ take (left - size) zs →
    take left (xs ++ ys) ≡ take left (xs ++ zs)
front_of_two left size xs ys zs long same = elim (cases_lt size left) [
  | inl more ↦
      let all : length xs + (left - size) ≡ left = omega arith in
      ap (λ (n : ℕ). take n (xs ++ ys)) (sym all)
      ∙ take-append-add xs ys (left - size)
      ∙ ap (λ (bytes : List ℕ). xs ++ bytes) same
      ∙ sym (take-append-add xs zs (left - size))
      ∙ ap (λ (n : ℕ). take n (xs ++ zs)) all
  | inr few ↦ take-append-le left xs ys (omega arith) ∙ sym (take-append-le left xs zs (omega arith))
]

few_bytes : (c : Cartridge) (words : List ℕ) (s : ℕ) (ss : List ℕ) (area : List (List ℕ)) (here behind : List Given) →
    4 ≤ usable_count (mask_at words s) → Hold c words (s ∷ ss) area →
    Gives forms.Sectors false (cells_of (brought_back c) s (mask_at words s)) here →
    AreGiven c words ss (drop (data_count (mask_at words s)) area) behind →
    (left : ℕ) → All (LosesFew c words) (pieces_of words (s ∷ ss) left) →
    take left (flat_map (λ g. g.bytes) (here ++ behind)) ≡ take left (bytes_in area)
few_bytes c words s ss area here behind some hold gives rest zero few = refl
few_bytes c words s ss area here behind some hold gives rest (suc left) few =
    let mask : ℕ = mask_at words s in
    let n : ℕ = data_count mask in
    let piece : Piece = record { segment = s; count = min (suc left) (capacity mask) } in
    let needed : List Piece = pieces_of words ss (suc left - capacity mask) in
    let was = first_written c words s ss area some hold in
    let lost : unreadable_count (cells_of c s mask) ≤ 3 = All-head (LosesFew c words) piece needed few in
    let count = back_count c s mask in
    let area_is : given_area here ≡ take n area = given_few (cells_of (brought_back c) s mask) (take n area) here was (omega arith) gives in
    let front : flat_map (λ g. g.bytes) here ≡ bytes_in (take n area) = bytes_of_area here ∙ ap bytes_in area_is in
    let whole : length area ≡ n + sectors_in words ss = hold.size ∙ sum_by-cons (λ t. data_count (mask_at words t)) s ss in
    let long : length (bytes_in (take n area)) ≡ capacity mask =
    length-bytes_in (take n area) was.are ∙ ap (λ (k : ℕ). 1024 * k) (length-take-le n area (omega arith))
    ∙ sym (carried_all words s some) in
    ap (take (suc left)) (flat_map-append (λ (g : Given). g.bytes) here behind)
    ∙ ap (λ (bytes : List ℕ). take (suc left) (bytes ++ flat_map (λ g. g.bytes) behind)) front
    ∙ front_of_two (suc left) (capacity mask) (bytes_in (take n area)) (flat_map (λ g. g.bytes) behind) (bytes_in (drop n area)) long
    (rest.few (suc left - capacity mask) (All-tail (LosesFew c words) piece needed few))
    ∙ ap (take (suc left)) (sym (bytes_in-append (take n area) (drop n area)) ∙ ap bytes_in (take-append-drop n area))

-- ---- all of them

-- the cells of these segments are those of the cartridge
abbrev pub AreCells : Cartridge → (words : List ℕ) → Dump → Layout → (a n : ℕ) → Type 0
AreCells c words dump layout a n =
    (s : ℕ) → a ≤ s → s < a + n → cells_in dump layout s ≡ cells_of (brought_back c) s (mask_at words s)

one_more : (c : Cartridge) (words : List ℕ) (s : ℕ) (ss : List ℕ) (area : List (List ℕ)) (here behind : List Given) →
    4 ≤ usable_count (mask_at words s) → Hold c words (s ∷ ss) area →
    Gives forms.Sectors false (cells_of (brought_back c) s (mask_at words s)) here →
    AreGiven c words ss (drop (data_count (mask_at words s)) area) behind → AreGiven c words (s ∷ ss) area (here ++ behind)
one_more c words s ss area here behind some hold gives rest =
    let n : ℕ = data_count (mask_at words s) in
    record {
      each = subst (λ (all : List (List ℕ)). AllZip IsSameOrFilled (here ++ behind) all) (take-append-drop n area)
          (zip-append IsSameOrFilled here behind (take n area) (drop n area)
          (given_any (cells_of (brought_back c) s (mask_at words s)) (take n area) here (first_written c words s ss area some hold) gives)
          rest.each);
      few = few_bytes c words s ss area here behind some hold gives rest;
    }

-- one segment in front of others, which carries data or not
one_in_front : (c : Cartridge) (words : List ℕ) (a n : ℕ) (area : List (List ℕ)) (here behind : List Given) →
    Gives forms.Sectors false (cells_of (brought_back c) a (mask_at words a)) here → Hold c words (carrying_in words a (suc n)) area →
    ((x : List (List ℕ)) → Hold c words (carrying_in words (a + 1) n) x → AreGiven c words (carrying_in words (a + 1) n) x behind) →
    AreGiven c words (carrying_in words a (suc n)) area (here ++ behind)
one_in_front c words a n area here behind gives hold rest = by_test (carries words a) refl where
  by_test : (b : Bool) → carries words a ≡ b → AreGiven c words (carrying_in words a (suc n)) area (here ++ behind)
  by_test true some =
      let segments : carrying_in words a (suc n) ≡ a ∷ carrying_in words (a + 1) n =
      ap (λ (b : Bool). cond b (a ∷ carrying_in words (a + 1) n) (carrying_in words (a + 1) n)) some in
      let holds : Hold c words (a ∷ carrying_in words (a + 1) n) area = subst (λ (ss : List ℕ). Hold c words ss area) segments hold in
      subst (λ (ss : List ℕ). AreGiven c words ss area (here ++ behind)) (sym segments)
      (one_more c words a (carrying_in words (a + 1) n) area here behind (leb-true 4 (usable_count (mask_at words a)) some) holds gives
      (rest (drop (data_count (mask_at words a)) area) (rest_holds c words a (carrying_in words (a + 1) n) area holds)))
  by_test false none =
      let segments : carrying_in words a (suc n) ≡ carrying_in words (a + 1) n =
      ap (λ (b : Bool). cond b (a ∷ carrying_in words (a + 1) n) (carrying_in words (a + 1) n)) none in
      let short : usable_count (mask_at words a) < 4 = leb-false 4 (usable_count (mask_at words a)) none in
      let count = count_of_cells (brought_back c) a (mask_at words a) in
      let nothing : here ≡ [] = given_none (cells_of (brought_back c) a (mask_at words a)) here (omega arith) gives in
      subst (λ (ss : List ℕ). AreGiven c words ss area (here ++ behind)) (sym segments)
      (subst (λ (gs : List Given). AreGiven c words (carrying_in words (a + 1) n) area (gs ++ behind)) (sym nothing)
      (rest area (subst (λ (ss : List ℕ). Hold c words ss area) segments hold)))

pub given_in_turn : (c : Cartridge) (words : List ℕ) (dump : Dump) (layout : Layout) (a n : ℕ) (area : List (List ℕ))
    (given : List Given) → layout.form ≡ forms.Sectors → AreCells c words dump layout a n → Hold c words (carrying_in words a n) area →
    GiveInTurn dump layout false (range_with_len a n) given → AreGiven c words (carrying_in words a n) area given
given_in_turn c words dump layout a zero area given form cells hold none =
    let empty : area ≡ [] = nil_from_length area hold.size in
    subst (λ (gs : List Given). AreGiven c words [] area gs) (sym none)
    (subst (λ (sectors : List (List ℕ)). AreGiven c words [] sectors []) (sym empty) (record { each = tt; few = λ left few. refl }))
given_in_turn c words dump layout a (suc n) area given form cells hold give =
    let gives : Gives forms.Sectors false (cells_of (brought_back c) a (mask_at words a)) give.0 =
    subst (λ (f : Form). Gives f false (cells_of (brought_back c) a (mask_at words a)) give.0) form
    (subst (λ (xs : List SectorView). Gives layout.form false xs give.0) (cells a (omega arith) (omega arith)) give.3) in
    subst (λ (gs : List Given). AreGiven c words (carrying_in words a (suc n)) area gs) (sym give.2)
    (one_in_front c words a n area give.0 give.1 gives hold
    (λ x holds.
    given_in_turn c words dump layout (a + 1) n x give.1 form (λ s low high. cells s (omega arith) (omega arith)) holds give.4))
