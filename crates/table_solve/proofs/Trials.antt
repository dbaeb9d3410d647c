-- What is found where the collected sectors of the table's segment are solved by one set after the other.
use Rattle.std.proofs.Common.{◌≡◌, ◌≢◌, ◌↔◌, ℕ, zero, suc, ◌/◌, ◌%◌, ◌^◌, ◌<◌, ◌≤◌, ◌++◌, inl, inr, refl, sym, ◌∙◌, ap, subst, arith, true}
use Rattle.std.proofs.Common.{List, [], ◌∷◌, length, take, drop, map, Option, Some, slice_get, IfSome, IsSomeAnd}
use Rattle.std.proofs.lemmas.Bool.{cases_eq, cases_lt, eqb-true, eq-eqb, false≢true}
use Rattle.std.proofs.lemmas.List.{length-take-le, take_at, take_all}
use Rattle.std.proofs.lemmas.List.Elements.{All-nil, All-cons}
use Rattle.qic_base.specs.CartridgeTerms.{IsLost, is_lost}
use Rattle.qic_base.specs.Cartridge.{lost_places}
use Rattle.qic_base.specs.declared.tape.SectorView.{SectorView}
use Rattle.qic_base.specs.declared.tape.SectorView.TheVariants.{Holds}
use Rattle.cartridge_laws.specs.Segment.{IsUnreadable, HasNoBlocks, hidden}
use Rattle.cartridge_spec.specs.Says.{Mismatch, ByCode, TableSays, HasBlock, HasNoBlock, HasFirstBlock, Agrees, unreadable_count, set_of}
use Rattle.cartridge_spec.specs.Says.{sets_by}
use Rattle.cartridge_laws.specs.TableCells.{unreadable_places, last_used, table_sets}
use Rattle.cartridge_laws.specs.Says.{LosesData}
use Rattle.cartridge_laws.proofs.Hiding.{nothing_is_hidden}
use Rattle.cartridge_laws.proofs.Readings.{AreSmall, small_sets}
use Rattle.cartridge_laws.proofs.Sets.{IsOneOf, length-hidden, named_is_one, one_is_named, unreadable_is_named}
use Rattle.volume_table.proofs.Trying.{set_of_places}
use Rattle.segment_solve.specs.Gathered.{Gathered, NamesUnreadable}
use Rattle.segment_solve.specs.Reading.{HasSolved}
use Rattle.segment_solve.proofs.GatheredCells.{lost_within}
use Rattle.segment_solve.proofs.SolvedCells.{count_of_lost, slice_get-take}
use Rattle.table_solve.specs.declared.unread.Unread.{Unread}
use Rattle.table_solve.specs.Reading.{HoldsOther, Unsolved, IsSolvedAt, IsUnsolved, HasTableData}
use Rattle.table_solve.proofs.Segment.{collected_loses, data_of-whole}
use Rattle.table_solve.proofs.Tried.{EachSet, Fits, each_fits, gathered_hidden, held_at, hidden_kept, last_lost, places_lost, same_lost}

-- what was collected, and which sets are tried
pub record IsCollected (cells : List SectorView) (lost : ℕ) (used : Option ℕ) (sectors : List (List ℕ)) : Type 0 where
  pub count : length cells ≡ 32
  pub room : length sectors ≡ 32
  pub gathered : Gathered cells lost sectors
  pub mask : lost < 2 ^ 32
  pub few : length (lost_places lost 32) ≤ 3
  pub loses : LosesData lost
  pub last : used ≡ last_used (hidden lost (map Holds (take 29 sectors)))
  pub data_sector : IfSome used (λ k. k < 29)
  pub kept : (i : ℕ) → used ≡ Some i → ¬ (IsLost lost i)

abbrev further : (lost : ℕ) (used : Option ℕ) → List ℕ
further lost used = sets_by used (lost_places lost 32)

-- ---- the sets by the cells

few_cells : (cells : List SectorView) (lost : ℕ) (used : Option ℕ) (sectors : List (List ℕ)) → IsCollected cells lost used sectors →
    unreadable_count cells ≤ 3
few_cells cells lost used sectors is =
    let same : length (lost_places lost 32) ≡ unreadable_count cells = count_of_lost cells lost
    (omega (arith, is.count)) is.gathered.unreadable in
    omega (arith, is.few)

sets_are : (cells : List SectorView) (lost : ℕ) (used : Option ℕ) (sectors : List (List ℕ)) → IsCollected cells lost used sectors →
    table_sets cells ≡ 0 ∷ further lost used
sets_are cells lost used sectors is =
    ap (λ (o : Option ℕ). 0 ∷ sets_by o (unreadable_places cells))
    (last_lost cells lost (take 29 sectors) is.count (length-take-le 29 sectors (omega (arith, is.room))) is.gathered.unreadable
    (λ i bytes within at. slice_get-take 29 sectors i within ∙ is.gathered.readable i bytes at) ∙ sym is.last)
    ∙ ap (λ (ps : List ℕ). 0 ∷ sets_by used ps) (places_lost cells lost is.count is.gathered.unreadable)

-- the places are those that are lost
lost_is_one : (cells : List SectorView) (lost i : ℕ) → length cells ≡ 32 → NamesUnreadable cells lost → IsLost lost i →
    IsOneOf (lost_places lost 32) i
lost_is_one cells lost i count names_them is =
    subst (λ (ps : List ℕ). IsOneOf ps i) (places_lost cells lost count names_them)
    (unreadable_is_named cells i (sym (same_lost cells lost i names_them) ∙ eq-eqb _ 1 is))

one_is_lost : (lost i : ℕ) → lost < 2 ^ 32 → IsOneOf (lost_places lost 32) i → IsLost lost i
one_is_lost lost i within one =
    let named : is_lost lost i ≡ true = ap (λ (set : ℕ). is_lost set i) (set_of_places lost within)
    ∙ one_is_named (lost_places lost 32) i one in
    eqb-true _ 1 named

-- ---- the sets outside which the cells were gathered

pub record IsGood (cells : List SectorView) (sectors : List (List ℕ)) (set : ℕ) : Type 0 where
  pub gathered : Gathered (hidden set cells) set sectors
  pub few : unreadable_count (hidden set cells) ≤ 3

length_outside : (set : ℕ) (cells : List SectorView) → length cells ≡ 32 → length (hidden set cells) ≡ 32
length_outside set cells count = length-hidden set 0 cells ∙ count

fits_is_good : (cells : List SectorView) (lost : ℕ) (used : Option ℕ) (sectors : List (List ℕ)) (sets : List ℕ) →
    IsCollected cells lost used sectors →
    EachSet (Fits used (lost_places lost 32)) sets → AreSmall cells sets → EachSet (IsGood cells sectors) sets
fits_is_good cells lost used sectors [] is fits small = tt
fits_is_good cells lost used sectors (set ∷ sets) is fits small = (
  record {
    gathered = gathered_hidden cells lost set sectors is.count is.gathered
        (λ i there. eqb-true _ 1 (fits.0.covers i (lost_is_one cells lost i is.count is.gathered.unreadable there)))
        (λ i there. fits.0.within i (eq-eqb _ 1 there));
    few = small.0;
  },
  fits_is_good cells lost used sectors sets is fits.1 small.1,
)

all_fit : (cells : List SectorView) (lost : ℕ) (used : Option ℕ) (sectors : List (List ℕ)) → IsCollected cells lost used sectors →
    EachSet (Fits used (lost_places lost 32)) (further lost used)
all_fit cells lost used sectors is =
    each_fits used (lost_places lost 32) is.data_sector
    (λ i one. let within = lost_within cells lost i is.gathered.unreadable (one_is_lost lost i is.mask one) in
    omega (arith, is.count, within))

all_good : (cells : List SectorView) (lost : ℕ) (used : Option ℕ) (sectors : List (List ℕ)) → IsCollected cells lost used sectors →
    EachSet (IsGood cells sectors) (further lost used)
all_good cells lost used sectors is =
    fits_is_good cells lost used sectors (further lost used) is (all_fit cells lost used sectors is)
    (subst (λ (ps : List ℕ). AreSmall cells (sets_by used ps)) (places_lost cells lost is.count is.gathered.unreadable)
    (small_sets cells used (unreadable_places cells) (unreadable_is_named cells)))

each_at : (P : ℕ → Type 0) (sets : List ℕ) (place set : ℕ) → EachSet P sets → slice_get sets place ≡ Some set → P set
each_at P [] place set each at = absurd (cc)
each_at P (s ∷ sets) zero set each at = let same : s ≡ set = cc in subst P same each.0
each_at P (s ∷ sets) (suc place) set each at = each_at P sets place set each.1 at

-- ---- the first set with a block

no_block_outside : (cells : List SectorView) (sectors : List (List ℕ)) (set : ℕ) → length cells ≡ 32 → IsGood cells sectors set →
    Unsolved set sectors →
    HasNoBlock (hidden set cells)
no_block_outside cells sectors set count good unsolved = unsolved (hidden set cells) (length_outside set cells count) good.gathered good.few

none_of : (cells : List SectorView) (sectors : List (List ℕ)) (sets : List ℕ) → length cells ≡ 32 → EachSet (IsGood cells sectors) sets →
    ((i other : ℕ) → slice_get sets i ≡ Some other → Unsolved other sectors) → HasNoBlocks sets cells
none_of cells sectors [] count good each = All-nil (λ (s : ℕ). HasNoBlock (hidden s cells))
none_of cells sectors (set ∷ sets) count good each =
    All-cons (λ (s : ℕ). HasNoBlock (hidden s cells)) set sets (no_block_outside cells sectors set count good.0 (each 0 set refl))
    (none_of cells sectors sets count good.1 (λ i other at. each (suc i) other at))

first_of : (cells : List SectorView) (sectors : List (List ℕ)) (sets : List ℕ) (place set : ℕ) (area : List (List ℕ)) → length cells ≡ 32 →
    EachSet (IsGood cells sectors) sets → slice_get sets place ≡ Some set →
    ((i other : ℕ) → i < place → slice_get sets i ≡ Some other → Unsolved other sectors) → HasBlock (hidden set cells) area →
    HasFirstBlock sets cells area
first_of cells sectors [] place set area count good at before has = absurd (cc)
first_of cells sectors (s ∷ sets) zero set area count good at before has =
    let same : set ≡ s = cc in inl (subst (λ (t : ℕ). HasBlock (hidden t cells) area) same has)
first_of cells sectors (s ∷ sets) (suc place) set area count good at before has =
    inr (
      no_block_outside cells sectors s count good.0 (before 0 s (omega arith) refl),
      first_of cells sectors sets place set area count good.1 at (λ i other lt there. before (suc i) other (omega arith) there) has,
    )

nothing_out : (cells : List SectorView) → HasNoBlock cells → HasNoBlock (hidden 0 cells)
nothing_out cells none = subst (λ (cs : List SectorView). HasNoBlock cs) (sym (nothing_is_hidden cells)) none

-- no set solves the sectors
pub says_mismatch : (cells : List SectorView) (lost : ℕ) (used : Option ℕ) (old new : List (List ℕ)) → IsCollected cells lost used old →
    IsUnsolved (lost ∷ further lost used) old new → TableSays cells (ByCode Mismatch)
says_mismatch cells lost used old new is unsolved =
    let few : unreadable_count cells ≤ 3 = few_cells cells lost used old is in
    let none : HasNoBlocks (0 ∷ further lost used) cells = All-cons (λ (s : ℕ). HasNoBlock (hidden s cells)) 0 (further lost used)
    (nothing_out cells (unsolved.each 0 lost refl cells is.count is.gathered few))
    (none_of cells old (further lost used) is.count (all_good cells lost used old is) (λ i other at. unsolved.each (suc i) other at)) in (
      collected_loses cells lost old is.gathered is.loses,
      (few, subst (λ (sets : List ℕ). HasNoBlocks sets cells) (sym (sets_are cells lost used old is)) none),
    )

-- ---- the set that solves them

-- What is known of it: the cells outside it were gathered; with another sector of data than the lost ones it has only that and
-- those, and then no block agrees with all cells; and its block is the first.
pub record IsChosen (cells : List SectorView) (lost : ℕ) (used : Option ℕ) (old : List (List ℕ)) (set : ℕ) : Type 0 where
  pub covers : (i : ℕ) → IsLost lost i → IsLost set i
  pub gathered : Gathered (hidden set cells) set old
  pub by_used : (i : ℕ) → i < 29 → IsLost set i → ¬ (IsLost lost i) → (used ≡ Some i) × (set ≡ set_of (i ∷ lost_places lost 32))
  pub none : (i : ℕ) → IsLost set i → ¬ (IsLost lost i) → HasNoBlock cells
  pub first : (area : List (List ℕ)) → HasBlock (hidden set cells) area → HasFirstBlock (table_sets cells) cells area

block_inside : (cells : List SectorView) (lost : ℕ) (area : List (List ℕ)) → NamesUnreadable cells lost →
    HasBlock (hidden lost cells) area → HasBlock cells area
block_inside cells lost area names_them has = record {
  block = has.block;
  code = has.code;
  agrees = record {
    size = has.agrees.size ∙ length-hidden lost 0 cells;
    each = λ i bytes at.
        has.agrees.each i bytes (hidden_kept lost cells i (λ is. readable_only (slice_get cells i) bytes at ((names_them i).0 is)) ∙ at);
  };
  shown = has.shown;
}
  where
    readable_only : (o : Option SectorView) (bytes : List ℕ) → o ≡ Some (Holds bytes) → IsSomeAnd o IsUnreadable → ⊥
    readable_only o bytes at un = false≢true (subst (λ (q : Option SectorView). IsSomeAnd q IsUnreadable) at un)

chosen_at : (cells : List SectorView) (lost : ℕ) (used : Option ℕ) (old : List (List ℕ)) (place set : ℕ) → IsCollected cells lost used old →
    slice_get (lost ∷ further lost used) place ≡ Some set →
    ((i other : ℕ) → i < place → slice_get (lost ∷ further lost used) i ≡ Some other → Unsolved other old) →
    IsChosen cells lost used old set
chosen_at cells lost used old zero set is at before =
    let same : lost ≡ set = cc in
    subst (IsChosen cells lost used old) same (record {
      covers = λ i there. there;
      gathered = gathered_hidden cells lost lost old is.count is.gathered (λ i there. there)
          (λ i there. let within = lost_within cells lost i is.gathered.unreadable there in omega (arith, is.count, within));
      by_used = λ i data_sector there kept. absurd (kept there);
      none = λ i there kept. absurd (kept there);
      first = λ area has.
          subst (λ (sets : List ℕ). HasFirstBlock sets cells area) (sym (sets_are cells lost used old is))
          (inl (subst (λ (cs : List SectorView). HasBlock cs area) (sym (nothing_is_hidden cells))
          (block_inside cells lost area is.gathered.unreadable has)));
    })
chosen_at cells lost used old (suc place) set is at before =
    let fits : Fits used (lost_places lost 32) set = each_at (Fits used (lost_places lost 32)) (further lost used) place set
    (all_fit cells lost used old is) at in
    let good : IsGood cells old set = each_at (IsGood cells old) (further lost used) place set (all_good cells lost used old is) at in
    let none : HasNoBlock cells = before 0 lost (omega arith) refl cells is.count is.gathered (few_cells cells lost used old is) in
    record {
      covers = λ i there. eqb-true _ 1 (fits.covers i (lost_is_one cells lost i is.count is.gathered.unreadable there));
      gathered = good.gathered;
      by_used = λ i data_sector there kept. fits.by_used i data_sector (eq-eqb _ 1 there) (λ one. kept (one_is_lost lost i is.mask one));
      none = λ i there kept. none;
      first = λ area has.
          subst (λ (sets : List ℕ). HasFirstBlock sets cells area) (sym (sets_are cells lost used old is))
          (inr (
            nothing_out cells none,
            first_of cells old (further lost used) place set area is.count (all_good cells lost used old is) at
                (λ i other lt there. before (suc i) other (omega arith) there) has,
          ));
    }

-- ---- the data, and what stands beside them

mixed_front : {A : Type 0} (n : ℕ) (xs rest : List A) (i : ℕ) → i < n → n ≤ length xs → slice_get (take n xs ++ rest) i ≡ slice_get xs i
mixed_front zero xs rest i within long = absurd (omega arith)
mixed_front (suc n) [] rest i within long = absurd (omega arith)
mixed_front (suc n) (x ∷ xs) rest zero within long = refl
mixed_front (suc n) (x ∷ xs) rest (suc i) within long = mixed_front n xs rest i (omega arith) (omega arith)

mixed_back : {A : Type 0} (n : ℕ) (xs ys : List A) (i : ℕ) → n ≤ i → n ≤ length xs → n ≤ length ys →
    slice_get (take n xs ++ drop n ys) i ≡ slice_get ys i
mixed_back zero xs ys i past long other = refl
mixed_back (suc n) [] ys i past long other = absurd (omega arith)
mixed_back (suc n) (x ∷ xs) [] i past long other = absurd (omega arith)
mixed_back (suc n) (x ∷ xs) (y ∷ ys) zero past long other = absurd (omega arith)
mixed_back (suc n) (x ∷ xs) (y ∷ ys) (suc i) past long other = mixed_back n xs ys i (omega arith) (omega arith) (omega arith)

pub has_data : (cells : List SectorView) (lost : ℕ) (used : Option ℕ) (old new final : List (List ℕ)) (set : ℕ) (unread : Unread) →
    IsCollected cells lost used old →
    IsSolvedAt (lost ∷ further lost used) old new set → length new ≡ 32 → final ≡ take 29 new ++ drop 29 old → unread.lost ≡ lost →
    ((i : ℕ) → IsLost unread.left_out i ↔ ((used ≡ Some i) × IsLost set i)) → HasTableData cells final unread
has_data cells lost used old new final set unread is solved size put same out = record {
  says = (
    collected_loses cells lost old is.gathered is.loses,
    (
      few_cells cells lost used old is,
      subst (λ (area : List (List ℕ)). HasFirstBlock (table_sets cells) cells area) (sym data_is) (chosen.first (take 29 new) block),
    ),
  );
  known = record {
    lost = subst (NamesUnreadable cells) (sym same) is.gathered.unreadable;
    left_out = λ i. (λ there. holds_other i ((out i).0 there), λ other. (out i).1 (is_left i other));
    held = λ i bytes kept at.
        elim (cases_lt i 29) [
          | inl lower ↦
              front i lower ∙ agrees.each i bytes (outside i bytes at (λ there. kept ((out i).1 (inside i bytes lower at there))))
          | inr upper ↦ back i upper ∙ is.gathered.readable i bytes at
        ];
  };
}
  where
    chosen : IsChosen cells lost used old set
    chosen = chosen_at cells lost used old solved.place set is solved.there solved.before

    has_solved : HasSolved (hidden set cells) new
    has_solved = solved.solved (hidden set cells) (length_outside set cells is.count) chosen.gathered

    agrees : Agrees (hidden set cells) new
    agrees = subst (Agrees (hidden set cells)) (take_all (length (hidden set cells)) new (omega (arith, length_outside set cells is.count)))
        has_solved.agrees

    block : HasBlock (hidden set cells) (take 29 new)
    block = subst (HasBlock (hidden set cells)) (data_of-whole new (length (hidden set cells)) (length_outside set cells is.count) size)
        has_solved.says.1

    data_is : take 29 final ≡ take 29 new
    data_is = ap (take 29) put ∙ take_at (take 29 new) (drop 29 old) 29 (length-take-le 29 new (omega arith))

    front : (i : ℕ) → i < 29 → slice_get final i ≡ slice_get new i
    front i lower = ap (λ (l : List (List ℕ)). slice_get l i) put ∙ mixed_front 29 new (drop 29 old) i lower (omega arith)

    back : (i : ℕ) → 29 ≤ i → slice_get final i ≡ slice_get old i
    back i upper = ap (λ (l : List (List ℕ)). slice_get l i) put ∙ mixed_back 29 new old i upper (omega arith) (omega (arith, is.room))

    -- a readable cell outside the set is seen
    outside : (i : ℕ) (bytes : List ℕ) → slice_get cells i ≡ Some (Holds bytes) → ¬ (IsLost set i) → slice_get (hidden set cells) i ≡ Some
        (Holds bytes)
    outside i bytes at kept = hidden_kept set cells i kept ∙ at

    -- a readable one is not lost
    not_lost : (i : ℕ) (bytes : List ℕ) → slice_get cells i ≡ Some (Holds bytes) → ¬ (IsLost lost i)
    not_lost i bytes at = λ there.
        false≢true (subst (λ (o : Option SectorView). IsSomeAnd o IsUnreadable) at ((is.gathered.unreadable i).0 there))

    -- and of data and in the set it is the last used one
    inside : (i : ℕ) (bytes : List ℕ) → i < 29 → slice_get cells i ≡ Some (Holds bytes) → IsLost set i → (used ≡ Some i) × IsLost set i
    inside i bytes lower at there = ((chosen.by_used i lower there (not_lost i bytes at)).0, there)

    is_left : (i : ℕ) → HoldsOther cells final i → (used ≡ Some i) × IsLost set i
    is_left i other =
        elim (cases_eq (set / 2 ^ i % 2) 1) [
          | inl there ↦ inside i other.bytes other.data_sector other.held there
          | inr kept ↦ absurd (other.other (front i other.data_sector ∙ agrees.each i other.bytes (outside i other.bytes other.held kept)))
        ]

    used_below : (o : Option ℕ) (i : ℕ) → o ≡ Some i → IfSome o (λ k. k < 29) → i < 29
    used_below o i at below = subst (λ (q : Option ℕ). IfSome q (λ k. k < 29)) at below

    -- with the left out cell as the block has it, the block would agree with all cells
    all_agree : (i : ℕ) (bytes : List ℕ) → used ≡ Some i → IsLost set i → slice_get cells i ≡ Some (Holds bytes) →
        slice_get new i ≡ Some bytes → Agrees cells new
    all_agree i bytes at there held stands = record {
      size = size ∙ sym is.count;
      each = λ j others seen.
          elim (cases_eq (set / 2 ^ j % 2) 1) [
            | inl in_set ↦ elim (cases_eq j i) [
              | inl here ↦
                  let one : Some (Holds others) ≡ Some (Holds bytes) = sym seen ∙ ap (λ (k : ℕ). slice_get cells k) here ∙ held in
                  let equal : others ≡ bytes = cc in
                  ap (λ (k : ℕ). slice_get new k) here ∙ stands ∙ ap Some (sym equal)
              | inr apart ↦ absurd (not_other j others in_set seen apart)
            ]
            | inr kept ↦ agrees.each j others (outside j others seen kept)
          ];
    }
      where
        lower : i < 29
        lower = used_below used i at is.data_sector

        set_is : set ≡ set_of (i ∷ lost_places lost 32)
        set_is = (chosen.by_used i lower there (is.kept i at)).1

        not_other : (j : ℕ) (others : List ℕ) → IsLost set j → slice_get cells j ≡ Some (Holds others) → j ≢ i → ⊥
        not_other j others in_set seen apart =
            elim (named_is_one (i ∷ lost_places lost 32) j (ap (λ (s : ℕ). is_lost s j) (sym set_is) ∙ eq-eqb _ 1 in_set)) [
              | inl here ↦ apart here
              | inr one ↦ not_lost j others seen (one_is_lost lost j is.mask one)
            ]

    holds_other : (i : ℕ) → (used ≡ Some i) × IsLost set i → HoldsOther cells final i
    holds_other i left =
        let lower : i < 29 = used_below used i left.0 is.data_sector in
        let held = held_at cells lost i (omega (arith, is.count)) is.gathered.unreadable (is.kept i left.0) in
        record {
          data_sector = lower;
          bytes = held.0;
          held = held.1;
          other = λ stands.
              chosen.none i left.1 (is.kept i left.0) new solved.code
              (all_agree i held.0 left.0 left.1 held.1 (sym (front i lower) ∙ stands));
        }
