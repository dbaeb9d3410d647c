-- The unreadable sectors of the table's segment, its last sector with a used slot, and blocks that agree with the cells
-- outside a set.
use Rattle.std.proofs.Common.{◌⊎◌, ℕ, inl, inr, List, [], ◌∷◌, ◌+◌, ◌++◌, ◌≡◌, ◌<◌, sym, subst, arith, zero, suc, true, length, false, ◌≤◌}
use Rattle.std.proofs.Common.{refl, ◌∙◌, ap, Bool, slice_get, Some, ◌≢◌, Option}
use Rattle.std.proofs.lemmas.Bool.{cases_eq, cases_lt, lt-ltb}
use Rattle.std.specs.Prelude.{if◌then◌else◌, unwrap_or}
use Rattle.cartridge_laws.proofs.Cells.{unreadable_at, IsReadable, readable_from_count}
use Rattle.cartridge_laws.proofs.FormatCopies.{view_held, held_view}
use Rattle.cartridge_laws.proofs.MountParts.{readable_front, length-block, sector_there, code_block, near_blocks}
use Rattle.cartridge_laws.proofs.Sayings.{data_of-parity}
use Rattle.cartridge_laws.proofs.Segments.{length-whole_cells, cells_of_whole}
use Rattle.cartridge_laws.proofs.Sets.{IsOneOf, IsNoneOf, few_unreadable, unnamed_is_none, held_outside, length-hidden, none_is_unnamed}
use Rattle.cartridge_laws.proofs.Sets.{seen_outside}
use Rattle.cartridge_laws.specs.MountBlocks.{HoldsPart}
use Rattle.cartridge_laws.specs.Segment.{IsUnreadable, unreadable_data, hidden}
use Rattle.cartridge_spec.specs.TableSegment.{table_cells, TableIs}
use Rattle.cartridge_spec.specs.Shape.{IsArea, is_unreadable, sector_at}
use Rattle.cartridge_spec.specs.Says.{unreadable_count, HasBlock, with_parity, HasNoBlock, HasFirstBlock, unreadable_from, shows_used_slot}
use Rattle.cartridge_spec.specs.Says.{last_used_below, set_of, sets_by}
use Rattle.cartridge_laws.specs.TableCells.{unreadable_places, sets_by_one, sets_by_two, last_used}
use Rattle.qic_base.specs.Cartridge.{Cartridge, view_at}
use Rattle.qic_base.specs.declared.tape.SectorView.{SectorView}
use Rattle.qic_base.specs.declared.tape.SectorView.TheVariants.{Holds, Lost}

-- ---- places

pub one_or_none : (ps : List ℕ) (i : ℕ) → IsOneOf ps i ⊎ IsNoneOf ps i
one_or_none [] i = inr tt
one_or_none (p ∷ ps) i =
    elim (cases_eq i p) [
      | inl same ↦ inl (inl same)
      | inr apart ↦ elim (one_or_none ps i) [ inl one ↦ inl (inr one) | inr none ↦ inr (apart, none) ]
    ]

pub none_of_first : (ps rs : List ℕ) (i : ℕ) → IsNoneOf (ps ++ rs) i → IsNoneOf ps i
none_of_first [] rs i none = tt
none_of_first (p ∷ ps) rs i none = (none.0, none_of_first ps rs i none.1)

none_of_both : (ps rs : List ℕ) (i : ℕ) → IsNoneOf ps i → IsNoneOf rs i → IsNoneOf (ps ++ rs) i
none_of_both [] rs i none others = others
none_of_both (p ∷ ps) rs i none others = (none.0, none_of_both ps rs i none.1 others)

pub by_place : (P : ℕ → Type 0) → ((i : ℕ) → i < 29 → P i) → P 29 → P 30 → P 31 → (i : ℕ) → i < 32 → P i
by_place P front p29 p30 p31 i h =
    elim (cases_lt i 29) [
      | inl small ↦ front i small
      | inr large ↦ elim (cases_eq i 29) [
        | inl first ↦ subst P (sym first) p29
        | inr not_first ↦ elim (cases_eq i 30) [
          | inl second ↦ subst P (sym second) p30
          | inr not_second ↦ let third : 31 ≡ i = omega arith in subst P third p31
        ]
      ]
    ]

-- ---- which cells are unreadable

unreadable_within : (cells : List SectorView) (i : ℕ) → unreadable_at cells i ≡ true → i < length cells
unfolding unreadable_at
unreadable_within [] i un = absurd (cc)
unreadable_within (cell ∷ cells) zero un = omega arith
unreadable_within (cell ∷ cells) (suc i) un = let rest = unreadable_within cells i un in omega arith

pub not_both : {P : Type 0} (cells : List SectorView) (i : ℕ) → unreadable_at cells i ≡ true → IsReadable cells i → P
unfolding unreadable_at
not_both [] i un held = absurd (cc)
not_both (cell ∷ cells) zero un held = let kept : is_unreadable cell ≡ false = readable_front cell cells held in absurd (cc)
not_both (cell ∷ cells) (suc i) un held = not_both cells i un held

-- cells of which each but those at some places can be read
few_of_readable : (cells : List SectorView) (ps : List ℕ) → ((i : ℕ) → i < length cells → IsNoneOf ps i → IsReadable cells i) →
    unreadable_count cells ≤ length ps
few_of_readable cells ps each =
    few_unreadable cells ps (λ i un.
    elim (one_or_none ps i) [
      | inl one ↦ one
      | inr none ↦ not_both cells i un (each i (unreadable_within cells i un) none)
    ])

none_places : (place : ℕ) (cells : List SectorView) → ((i : ℕ) → i < length cells → IsReadable cells i) → unreadable_from place cells ≡ []
unfolding unreadable_from
none_places place [] each = refl
none_places place (cell ∷ cells) each =
    ap (λ (b : Bool). if b then place ∷ unreadable_from (suc place) cells else unreadable_from (suc place) cells)
    (readable_front cell cells (each 0 (omega arith)))
    ∙ none_places (suc place) cells (λ i h. each (suc i) (omega arith))

unreadable_there : (cells : List SectorView) (i : ℕ) (view : SectorView) → slice_get cells i ≡ Some view → IsUnreadable view →
    unreadable_at cells i ≡ true
unfolding unreadable_at
unreadable_there [] i view at gone = absurd (cc)
unreadable_there (cell ∷ cells) zero view at gone = let here : cell ≡ view = cc in ap is_unreadable here ∙ gone
unreadable_there (cell ∷ cells) (suc i) view at gone = unreadable_there cells i view at gone

one_from : (place m : ℕ) (cells : List SectorView) → m < length cells → unreadable_at cells m ≡ true →
    ((i : ℕ) → i < length cells → i ≢ m → IsReadable cells i) → unreadable_from place cells ≡ (place + m) ∷ []
unfolding unreadable_from unreadable_at
one_from place m [] h lost each = absurd (omega arith)
one_from place zero (cell ∷ cells) h lost each =
    let same : place ≡ place + 0 = omega arith in
    ap (λ (b : Bool). if b then place ∷ unreadable_from (suc place) cells else unreadable_from (suc place) cells) lost
    ∙ ap (λ (ps : List ℕ). place ∷ ps) (none_places (suc place) cells (λ i l. each (suc i) (omega arith) (λ e. omega arith)))
    ∙ ap (λ (p : ℕ). p ∷ []) same
one_from place (suc m) (cell ∷ cells) h lost each =
    let same : suc place + m ≡ place + suc m = omega arith in
    ap (λ (b : Bool). if b then place ∷ unreadable_from (suc place) cells else unreadable_from (suc place) cells)
    (readable_front cell cells (each 0 (omega arith) (λ e. omega arith)))
    ∙ one_from (suc place) m cells (omega arith) lost (λ i l apart. each (suc i) (omega arith) (λ e. apart (omega arith)))
    ∙ ap (λ (p : ℕ). p ∷ []) same

two_from : (place m other : ℕ) (cells : List SectorView) → m < other → other < length cells →
    unreadable_at cells m ≡ true → unreadable_at cells other ≡ true →
    ((i : ℕ) → i < length cells → i ≢ m → i ≢ other → IsReadable cells i) → unreadable_from place cells ≡ (place + m) ∷ (place + other) ∷ []
unfolding unreadable_from unreadable_at
two_from place m other [] order h lost gone each = absurd (omega arith)
two_from place m zero (cell ∷ cells) order h lost gone each = absurd (omega arith)
two_from place zero (suc other) (cell ∷ cells) order h lost gone each =
    let same : place ≡ place + 0 = omega arith in
    let behind : suc place + other ≡ place + suc other = omega arith in
    ap (λ (b : Bool). if b then place ∷ unreadable_from (suc place) cells else unreadable_from (suc place) cells) lost
    ∙ ap (λ (ps : List ℕ). place ∷ ps)
    (one_from (suc place) other cells (omega arith) gone
    (λ i l apart. each (suc i) (omega arith) (λ e. omega arith) (λ e. apart (omega arith))))
    ∙ ap (λ (p : ℕ). p ∷ (suc place + other) ∷ []) same
    ∙ ap (λ (p : ℕ). (place + 0) ∷ p ∷ []) behind
two_from place (suc m) (suc other) (cell ∷ cells) order h lost gone each =
    let same : suc place + m ≡ place + suc m = omega arith in
    let behind : suc place + other ≡ place + suc other = omega arith in
    ap (λ (b : Bool). if b then place ∷ unreadable_from (suc place) cells else unreadable_from (suc place) cells)
    (readable_front cell cells (each 0 (omega arith) (λ e. omega arith) (λ e. omega arith)))
    ∙ two_from (suc place) m other cells (omega arith) (omega arith) lost gone
    (λ i l apart away. each (suc i) (omega arith) (λ e. apart (omega arith)) (λ e. away (omega arith)))
    ∙ ap (λ (p : ℕ). p ∷ (suc place + other) ∷ []) same
    ∙ ap (λ (p : ℕ). (place + suc m) ∷ p ∷ []) behind

-- ---- the table's segment

-- each sector but those at some places holds its part of an area
abbrev pub HoldsOutside : Cartridge → (area : List (List ℕ)) → (ps : List ℕ) → Type 0
HoldsOutside d area ps = (i : ℕ) → i < 32 → IsNoneOf ps i → HoldsPart d area i

-- each sector but those at some places holds bytes
abbrev pub ReadsOutside : Cartridge → (ps : List ℕ) → Type 0
ReadsOutside d ps = (i : ℕ) → i < 32 → IsNoneOf ps i → (bytes : List ℕ) × (view_at d 2 i ≡ Holds bytes)

pub few_in_table : (d : Cartridge) (ps : List ℕ) → ReadsOutside d ps → unreadable_count (table_cells d) ≤ length ps
few_in_table d ps reads =
    let long : length (table_cells d) ≡ 32 = length-whole_cells d 2 in
    few_of_readable (table_cells d) ps (λ i h none.
    let held = reads i (omega arith) none in
    (held.0, view_held d 2 i held.0 (omega arith) held.1))

pub gone_there : (d : Cartridge) (i : ℕ) → i < 32 → IsUnreadable (view_at d 2 i) → unreadable_at (table_cells d) i ≡ true
gone_there d i within gone = unreadable_there (table_cells d) i (view_at d 2 i) (cells_of_whole d 2 i within) gone

pub one_in_table : (d : Cartridge) (m : ℕ) → m < 32 → IsUnreadable (view_at d 2 m) → ReadsOutside d (m ∷ []) →
    unreadable_places (table_cells d) ≡ m ∷ []
one_in_table d m within lost reads =
    let long : length (table_cells d) ≡ 32 = length-whole_cells d 2 in
    let same : 0 + m ≡ m = omega arith in
    one_from 0 m (table_cells d) (omega arith) (gone_there d m within lost)
    (λ i h apart.
    let held = reads i (omega arith) (apart, tt) in
    (held.0, view_held d 2 i held.0 (omega arith) held.1))
    ∙ ap (λ (p : ℕ). p ∷ []) same

pub two_in_table : (d : Cartridge) (m other : ℕ) → m < other → other < 32 → IsUnreadable (view_at d 2 m) →
    IsUnreadable (view_at d 2 other) →
    ReadsOutside d (m ∷ other ∷ []) → unreadable_places (table_cells d) ≡ m ∷ other ∷ []
two_in_table d m other order within lost gone reads =
    let long : length (table_cells d) ≡ 32 = length-whole_cells d 2 in
    let same : 0 + m ≡ m = omega arith in
    let behind : 0 + other ≡ other = omega arith in
    two_from 0 m other (table_cells d) order (omega arith) (gone_there d m (omega arith) lost)
    (gone_there d other within gone)
    (λ i h apart away.
    let held = reads i (omega arith) (apart, (away, tt)) in
    (held.0, view_held d 2 i held.0 (omega arith) held.1))
    ∙ ap (λ (p : ℕ). p ∷ (0 + other) ∷ []) same
    ∙ ap (λ (p : ℕ). m ∷ p ∷ []) behind

-- a sector of data is unreadable
pub some_lost : (d : Cartridge) (m : ℕ) → m < 29 → IsUnreadable (view_at d 2 m) → 0 < unreadable_data (table_cells d)
some_lost d m small lost =
    elim (cases_lt 0 (unreadable_data (table_cells d))) [
      | inl some ↦ some
      | inr none ↦
          let long : length (table_cells d) ≡ 32 = length-whole_cells d 2 in
          let held = readable_from_count 29 (table_cells d) (omega arith) (omega arith) m small in
          not_both (table_cells d) m (gone_there d m (omega arith) lost) held
    ]

-- ---- the last sector with a used slot

pub last_used_is : (cells : List SectorView) (n k : ℕ) → k < n → shows_used_slot (unwrap_or (slice_get cells k) Lost) ≡ true →
    ((i : ℕ) → k < i → i < n → shows_used_slot (unwrap_or (slice_get cells i) Lost) ≡ false) → last_used_below cells n ≡ Some k
unfolding last_used_below
last_used_is cells zero k h used behind = absurd (omega arith)
last_used_is cells (suc n) k h used behind =
    elim (cases_eq n k) [
      | inl same ↦
          let here : shows_used_slot (unwrap_or (slice_get cells n) Lost) ≡ true =
          subst (λ (i : ℕ). shows_used_slot (unwrap_or (slice_get cells i) Lost) ≡ true) (sym same) used in
          ap (λ (b : Bool). if b then Some n else last_used_below cells n) here ∙ ap Some same
      | inr apart ↦
          ap (λ (b : Bool). if b then Some n else last_used_below cells n) (behind n (omega arith) (omega arith))
          ∙ last_used_is cells n k (omega arith) used (λ i l small. behind i l (omega arith))
    ]

-- ---- blocks outside a set

-- the sectors outside the set hold their part of an area, but for some that are unreadable
pub block_outside : (d : Cartridge) (area : List (List ℕ)) (ps rs : List ℕ) → IsArea area → HoldsOutside d area (ps ++ rs) →
    ((i : ℕ) → IsOneOf rs i → IsUnreadable (view_at d 2 i)) → HasBlock (hidden (set_of ps) (table_cells d)) area
block_outside d area ps rs is holds lost = record {
  block = with_parity area;
  code = code_block area is;
  agrees = record {
    size = length-block area is ∙ sym (length-whole_cells d 2) ∙ sym (length-hidden (set_of ps) 0 (table_cells d));
    each = λ i bytes seen.
        let out = held_outside (set_of ps) (table_cells d) i bytes seen in
        let view = held_view d 2 i bytes out.1 in
        let within : i < 32 = view.within in
        let held : view_at d 2 i ≡ Holds bytes = view.view in
        let long : length (with_parity area) ≡ 32 = length-block area is in
        elim (one_or_none rs i) [
          | inl one ↦ let gone : IsUnreadable (view_at d 2 i) = lost i one in let read = ap is_unreadable held in absurd (cc)
          | inr none ↦
              let part : view_at d 2 i ≡ Holds (sector_at (with_parity area) i) =
              holds i within (none_of_both ps rs i (unnamed_is_none ps i out.0) none) in
              let same : sector_at (with_parity area) i ≡ bytes = cc in
              sector_there (with_parity area) i (omega arith) ∙ ap (λ (b : List ℕ). Some b) same
        ];
  };
  shown = sym (data_of-parity area);
}

-- No block agrees with the sectors outside a set where all but three sectors hold their part of an area, and one outside the
-- set holds other bytes.
pub no_block_outside : (d : Cartridge) (area : List (List ℕ)) (ps rs : List ℕ) (p : ℕ) (other : List ℕ) → IsArea area →
    length (ps ++ rs) ≤ 3 →
    HoldsOutside d area (ps ++ rs) → p < 32 → IsNoneOf ps p → view_at d 2 p ≡ Holds other → other ≢ sector_at (with_parity area) p →
    HasNoBlock (hidden (set_of ps) (table_cells d))
no_block_outside d area ps rs p other is few holds within outside view differs block code agrees =
    let cells : List SectorView = hidden (set_of ps) (table_cells d) in
    let long : length block ≡ 32 = agrees.size ∙ length-hidden (set_of ps) 0 (table_cells d) ∙ length-whole_cells d 2 in
    let seen : (i : ℕ) (bytes : List ℕ) → i < 32 → IsNoneOf ps i → view_at d 2 i ≡ Holds bytes → sector_at block i ≡ bytes =
    λ i bytes h none held.
    let there : slice_get block i ≡ Some bytes =
    agrees.each i bytes
    (seen_outside (set_of ps) (table_cells d) i bytes (none_is_unnamed ps i none) (view_held d 2 i bytes h held)) in
    ap (λ (o : Option (List ℕ)). unwrap_or o []) there in
    let same : block ≡ with_parity area =
    near_blocks block (with_parity area) (ps ++ rs) code (code_block area is) long (length-block area is) few (λ i h none.
    seen i (sector_at (with_parity area) i) h (none_of_first ps rs i none) (holds i h none)) in
    differs (sym (seen p other within outside view) ∙ ap (λ (ss : List (List ℕ)). sector_at ss p) same)

-- ---- the sets that are tried

pub first_set : (d : Cartridge) (area : List (List ℕ)) → HasBlock (hidden (set_of []) (table_cells d)) area →
    HasBlock (hidden 0 (table_cells d)) area
unfolding set_of
first_set d area has = has

pub not_first_set : (d : Cartridge) → HasNoBlock (hidden (set_of []) (table_cells d)) → HasNoBlock (hidden 0 (table_cells d))
unfolding set_of
not_first_set d none = none

pub sets_of_one : (used : Option ℕ) (m : ℕ) → m < 29 → sets_by used (m ∷ []) ≡ sets_by_one used m
sets_of_one used m small = ap (λ (b : Bool). if b then sets_by_one used m else []) (lt-ltb m 29 small)

pub sets_of_two : (used : Option ℕ) (m other : ℕ) → m < 29 → sets_by used (m ∷ other ∷ []) ≡ sets_by_two used m other
sets_of_two used m other small = ap (λ (b : Bool). if b then sets_by_two used m other else []) (lt-ltb m 29 small)

-- a reading by the sets
pub by_gone : (d : Cartridge) (area : List (List ℕ)) (m : ℕ) (sets : List ℕ) → m < 29 → IsUnreadable (view_at d 2 m) →
    unreadable_count (table_cells d) ≤ 3 →
    sets_by (last_used (table_cells d)) (unreadable_places (table_cells d)) ≡ sets → HasFirstBlock (0 ∷ sets) (table_cells d) area →
    TableIs d area
by_gone d area m sets small gone few tried first =
    inr (some_lost d m small gone, (few, subst (λ (ss : List ℕ). HasFirstBlock (0 ∷ ss) (table_cells d) area) (sym tried) first))
