-- What is found of a segment, by the deep reading of its cells.
use Rattle.std.proofs.Common.{◌≡◌, ◌≢◌, ◌↔◌, ℕ, ◌+◌, ◌<◌, ◌≤◌, refl, sym, ◌∙◌, ap, subst, arith, inl, inr, true, false, List, length}
use Rattle.std.proofs.Common.{slice_get, get_or, slice_index, Option, Some, None, IsSomeAnd}
use Rattle.std.proofs.lemmas.Bool.{cases_eq, cases_lt, false≢true}
use Rattle.std.proofs.lemmas.Option.{slice_get_past}
use Rattle.cartridge_laws.proofs.ChangeViews.{held_before, worn_reads_no_more}
use Rattle.cartridge_laws.proofs.Places.{usable_small}
use Rattle.cartridge_laws.proofs.Sayings.{says_is_function}
use Rattle.cartridge_laws.proofs.Segments.{count_of_cells}
use Rattle.cartridge_laws.proofs.WrongTableLost.{worn_unreadable}
use Rattle.cartridge_laws.specs.Segment.{IsUnreadable, data_of}
use Rattle.cartridge_spec.specs.Says.{Saying, Data, LostSectors, Mismatch, Says, unreadable_count}
use Rattle.cartridge_spec.specs.Shape.{usable_places, usable_count}
use Rattle.cartridge_spec.specs.Volumes.{worn}
use Rattle.command_laws.proofs.ScrubOneWrong.{IsPlace, wrong_place, cell_unworn, cell_worn, worn_count}
use Rattle.command_laws.proofs.ScrubSeen.{worn_here, worn_elsewhere}
use Rattle.command_laws.proofs.ScrubStanding.{same_place}
use Rattle.cartridge_laws.proofs.Writing.{cell_at}
use Rattle.command_spec.specs.Scrub.{Looked, cells_at, reads, IsWrong, HasFoundBy}
use Rattle.qic_base.proofs.Steps.{Tells-map}
use Rattle.qic_base.specs.Cartridge.{Cartridge, view_at}
use Rattle.qic_base.specs.CartridgeTerms.{IsLost}
use Rattle.qic_base.specs.Step.{worn_view}
use Rattle.qic_base.specs.Tape.{Meaning}
use Rattle.qic_base.specs.declared.tape.SectorView.{SectorView}
use Rattle.qic_base.specs.declared.tape.SectorView.TheVariants.{Holds}
use Rattle.segment_solve.specs.Gathered.{IsUnreadableAt, NamesUnreadable}
use Rattle.segment_mending.specs.Locating.{IsFoundBy, MayBeIn, Finds}
use Rattle.segment_mending.specs.declared.locating.Found.{Found}
use Rattle.segment_mending.specs.declared.locating.Found.TheVariants.{Reads, Fails}
use Rattle.silent_locate.proofs.Readings.{one_deep_reading}
use Rattle.silent_locate.specs.Deep.{Deep, HasNoReading}

-- the index of the usable sector at a place
abbrev pub index_at : Looked → ℕ → ℕ
index_at l place = slice_index (usable_places l.mask) place

size_of_worn : (c d : Cartridge) (l : Looked) → length (cells_at c l) ≡ length (cells_at d l)
size_of_worn c d l = count_of_cells c l.segment l.mask ∙ sym (count_of_cells d l.segment l.mask)

-- ---- a wrong sector, by the deep reading

wrong_of_deep : (c : Cartridge) (l : Looked) (place : ℕ) (block : List (List ℕ)) → place < usable_count l.mask →
    Deep (cells_at c l) block (Some place) → reads l (Data (data_of block)) ≡ true → IsWrong c l (index_at l place) (data_of block)
wrong_of_deep c l place block within deep can =
    let sector : ℕ = index_at l place in
    let d : Cartridge = worn l.segment sector c in
    let here : IsPlace l place sector = record { within = within; index = refl } in
    let few : unreadable_count (cells_at c l) ≤ 1 = deep.few in
    let more : unreadable_count (cells_at d l) ≤ unreadable_count (cells_at c l) + 1 = worn_count c l place sector here in
    record {
      place = place;
      within = within;
      index = refl;
      mismatch = (omega arith, deep.none_agrees);
      few = few;
      says = (
        omega arith,
        record {
          block = block;
          code = deep.code;
          agrees = record {
            size = deep.agrees.size ∙ size_of_worn c d l;
            each = λ i bytes at. elim (cases_eq i place) [
              | inl same ↦ absurd (cell_worn c l place sector bytes here
                  (subst (λ (p : ℕ). slice_get (cells_at d l) p ≡ Some (Holds bytes)) same at))
              | inr apart ↦ deep.agrees.each i bytes apart
                  (held_before c d l.segment l.mask i bytes (worn_reads_no_more c l.segment sector) at)
            ];
          };
          shown = refl;
        },
      );
      can_be_read = can;
    }

-- the block of a wrong sector, as a deep reading
record HasDeep (c : Cartridge) (l : Looked) (place : ℕ) (ds : List (List ℕ)) : Type 0 where
  block : List (List ℕ)
  deep : Deep (cells_at c l) block (Some place)
  shown : ds ≡ data_of block

deep_of_wrong : (c : Cartridge) (l : Looked) (sector : ℕ) (ds : List (List ℕ)) (wrong : IsWrong c l sector ds) → HasDeep c l wrong.place ds
deep_of_wrong c l sector ds wrong =
    let has = wrong.says.1 in
    record {
      block = has.block;
      deep = record {
        none_agrees = wrong.mismatch.1;
        few = wrong.few;
        code = has.code;
        agrees = record {
          size = has.agrees.size ∙ size_of_worn (worn l.segment sector c) c l;
          each = λ i bytes apart at. has.agrees.each i bytes (cell_unworn c l wrong.place sector i bytes (wrong_place wrong) apart at);
        };
      };
      shown = has.shown;
    }

-- ---- findings

-- what says anything but that it has no block has no wrong sector
plainly : (searched : Type 0) (c : Cartridge) (l : Looked) (s : Saying) → Says (cells_at c l) s → (s ≡ Mismatch → ⊥) →
    HasFoundBy searched c l s None
plainly searched c l s says other =
    (says, λ is sector ds wrong. other (says_is_function (cells_at c l) s Mismatch says wrong.mismatch))

pub found_right : (searched : Type 0) (c : Cartridge) (l : Looked) (block : List (List ℕ)) → Deep (cells_at c l) block None →
    HasFoundBy searched c l (Data (data_of block)) None
found_right searched c l block deep =
    plainly searched c l (Data (data_of block)) (deep.few, record { block = block; code = deep.code; agrees = deep.agrees; shown = refl })
    (λ same. cc)

pub found_many : (searched : Type 0) (c : Cartridge) (l : Looked) (n : ℕ) → Says (cells_at c l) (LostSectors n) →
    HasFoundBy searched c l (LostSectors n) None
found_many searched c l n says = plainly searched c l (LostSectors n) says (λ same. cc)

pub found_none : (searched : Type 0) (c : Cartridge) (l : Looked) → unreadable_count (cells_at c l) ≤ 3 → HasNoReading (cells_at c l) →
    HasFoundBy searched c l Mismatch None
found_none searched c l few none = (
  (few, λ block code agrees. none block None (record { few = few; code = code; agrees = agrees })),
  λ is sector ds wrong. let other = deep_of_wrong c l sector ds wrong in none other.block (Some wrong.place) other.deep,
)

pub found_wrong : (searched : Type 0) (c : Cartridge) (l : Looked) (place : ℕ) (block : List (List ℕ)) → searched →
    place < usable_count l.mask → Deep (cells_at c l) block (Some place) → reads l (Data (data_of block)) ≡ true →
    HasFoundBy searched c l (Data (data_of block)) (Some (index_at l place))
found_wrong searched c l place block is within deep can = (is, data_of block, refl, wrong_of_deep c l place block within deep can)

-- a block that does not read is the only one that could be had, so no sector is wrong
pub found_unfit : (searched : Type 0) (c : Cartridge) (l : Looked) (place : ℕ) (block : List (List ℕ)) →
    Deep (cells_at c l) block (Some place) → reads l (Data (data_of block)) ≡ false → HasFoundBy searched c l Mismatch None
found_unfit searched c l place block deep unfit =
    let few : unreadable_count (cells_at c l) ≤ 1 = deep.few in (
      (omega arith, deep.none_agrees),
      λ is sector ds wrong.
          let other = deep_of_wrong c l sector ds wrong in
          let same : block ≡ other.block =
          (one_deep_reading (cells_at c l) block other.block (Some place) (Some wrong.place) deep other.deep).0 in
          false≢true (sym unfit ∙ ap (λ (b : List (List ℕ)). reads l (Data (data_of b))) same
          ∙ ap (λ (xs : List (List ℕ)). reads l (Data xs)) (sym other.shown)
          ∙ wrong.can_be_read),
    )

-- ---- the places to be written

-- the wrong sector counts as lost, ..
wrong_unread : (c : Cartridge) (l : Looked) (place : ℕ) → place < usable_count l.mask →
    IsUnreadableAt (cells_at (worn l.segment (index_at l place) c) l) place
wrong_unread c l place within =
    let sector : ℕ = index_at l place in
    let d : Cartridge = worn l.segment sector c in
    let at : slice_get (cells_at d l) place ≡ Some (worn_view (view_at c l.segment sector)) =
    cell_at d l.segment l.mask place within ∙ ap (λ (view : SectorView). Some view) (worn_here c l.segment sector) in
    subst (λ (o : Option SectorView). IsSomeAnd o IsUnreadable) (sym at) (worn_unreadable (view_at c l.segment sector))

-- .. and the others are as they were
other_cell : (c : Cartridge) (l : Looked) (place i : ℕ) → place < usable_count l.mask → i ≢ place →
    slice_get (cells_at (worn l.segment (index_at l place) c) l) i ≡ slice_get (cells_at c l) i
other_cell c l place i within apart =
    let sector : ℕ = index_at l place in
    let d : Cartridge = worn l.segment sector c in
    elim (cases_lt i (usable_count l.mask)) [
      | inl h ↦
          let other : ℕ = get_or (usable_places l.mask) i 0 in
          let same : view_at d l.segment other ≡ view_at c l.segment other =
          worn_elsewhere c l.segment sector l.segment other (usable_small l.mask place within) (usable_small l.mask i h)
          (λ here e. apart (same_place l.mask i place h within (sym e))) in
          cell_at d l.segment l.mask i h ∙ ap (λ (view : SectorView). Some view) same ∙ sym (cell_at c l.segment l.mask i h)
      | inr past ↦
          slice_get_past (cells_at d l) i (omega (arith, count_of_cells d l.segment l.mask))
          ∙ sym (slice_get_past (cells_at c l) i (omega (arith, count_of_cells c l.segment l.mask)))
    ]

pub names_with_wrong : (c : Cartridge) (l : Looked) (place lost places : ℕ) → place < usable_count l.mask →
    NamesUnreadable (cells_at c l) lost →
    IsLost places place → ((other : ℕ) → other ≢ place → IsLost places other ↔ IsLost lost other) →
    NamesUnreadable (cells_at (worn l.segment (index_at l place) c) l) places
names_with_wrong c l place lost places within names here others i =
    let d : Cartridge = worn l.segment (index_at l place) c in
    elim (cases_eq i place) [
      | inl same ↦ (
        λ is. subst (IsUnreadableAt (cells_at d l)) (sym same) (wrong_unread c l place within),
        λ u. subst (IsLost places) (sym same) here,
      )
      | inr apart ↦
          let as_it_was : slice_get (cells_at d l) i ≡ slice_get (cells_at c l) i = other_cell c l place i within apart in (
            λ is. subst (λ (o : Option SectorView). IsSomeAnd o IsUnreadable) (sym as_it_was) ((names i).0 ((others i apart).0 is)),
            λ u. (others i apart).1 ((names i).1 (subst (λ (o : Option SectorView). IsSomeAnd o IsUnreadable) as_it_was u)),
          )
    ]

-- ---- what is found of a segment that is searched on two like conditions

found_by : (p q : Type 0) (c : Cartridge) (l : Looked) (found : Found) (sectors : List (List ℕ)) → p ↔ q →
    IsFoundBy p c l found sectors → IsFoundBy q c l found sectors
found_by p q c l (Reads places None) sectors like found =
    record { finds = (found.finds.0, λ is. found.finds.1 (like.1 is)); places = found.places }
found_by p q c l (Reads places (Some sector)) sectors like found =
    record { finds = (like.0 found.finds.0, found.finds.1, found.finds.2, found.finds.3); places = found.places }
found_by p q c l (Fails why) sectors like found =
    record { finds = (found.finds.0, λ is. found.finds.1 (like.1 is)); places = tt }

may_by : (p q : Type 0) (l : Looked) (found : Found) (sectors : List (List ℕ)) → p ↔ q →
    MayBeIn p l found sectors → MayBeIn q l found sectors
may_by p q l (Reads places None) sectors like may =
    record { within = may.within; code = may.code; can_be_read = may.can_be_read; may = tt }
may_by p q l (Reads places (Some sector)) sectors like may =
    record { within = may.within; code = may.code; can_be_read = may.can_be_read; may = (like.0 may.may.0, may.may.1) }
may_by p q l (Fails why) sectors like may = may

pub finds_by : {T : Type 0} (t : Meaning T) (tape : T) (p q : Type 0) (l : Looked) (found : Found) (sectors : List (List ℕ)) → p ↔ q →
    Finds t tape p l found sectors → Finds t tape q l found sectors
finds_by t tape p q l found sectors like finds = record {
  told = Tells-map t tape (λ c. IsFoundBy p c l found sectors) (λ c. IsFoundBy q c l found sectors)
      (λ c is. found_by p q c l found sectors like is) finds.told;
  may = record { fits = may_by p q l found sectors like finds.may.fits; count = λ is. finds.may.count (like.1 is) };
}
