-- The reading of a table's segment whose data are new but for one sector that is lost, by what its sectors of parity hold.
use Rattle.std.proofs.Common.{◌≡◌, ◌≢◌, ℕ, ◌<◌, List, sym, ◌∙◌, ap, [], ◌∷◌, arith, slice_get, Option, inl, inr, Some, ◌≤◌, refl, length}
use Rattle.std.specs.Prelude.{unwrap_or}
use Rattle.std.proofs.lemmas.Bool.{cases_eq}
use Rattle.cartridge_laws.proofs.MountParts.{front_sector}
use Rattle.cartridge_laws.proofs.MountSeen.{HoldsOutside, by_place, ReadsOutside, last_used_is, by_gone, few_in_table, block_outside}
use Rattle.cartridge_laws.proofs.MountSeen.{first_set, one_in_table, sets_of_one, two_in_table, sets_of_two, no_block_outside}
use Rattle.cartridge_laws.proofs.MountSeen.{not_first_set}
use Rattle.cartridge_laws.proofs.OneLossParity.{same_data, parity_differs}
use Rattle.cartridge_laws.proofs.Segments.{cells_of_whole}
use Rattle.cartridge_laws.proofs.Sets.{IsNoneOf, IsOneOf}
use Rattle.cartridge_laws.specs.MountBlocks.{HoldsPart}
use Rattle.cartridge_laws.specs.OneLossTables.{DifferInOne, IsLastInUse}
use Rattle.cartridge_spec.specs.Shape.{IsArea, sector_at, is_unreadable}
use Rattle.cartridge_spec.specs.TableSegment.{table_cells, TableIs}
use Rattle.cartridge_spec.specs.Says.{with_parity, HasFirstBlock, unreadable_count, shows_used_slot, sets_by, with_used, set_of}
use Rattle.cartridge_laws.specs.TableCells.{last_used, unreadable_places, sets_by_one, sets_by_two}
use Rattle.cartridge_laws.specs.Slots.{has_used_slot}
use Rattle.qic_base.specs.Cartridge.{Cartridge, view_at}
use Rattle.qic_base.specs.declared.tape.SectorView.{SectorView}
use Rattle.qic_base.specs.declared.tape.SectorView.TheVariants.{Lost, Holds}

-- ---- the sectors

-- the data are new, but for a sector that is lost
pub record IsBroken (d : Cartridge) (old new : List (List ℕ)) (changed lost : ℕ) : Type 0 where
  pub differ : DifferInOne old new changed
  pub last : IsLastInUse new changed
  pub small : lost < 29
  pub here : view_at d 2 lost ≡ Lost
  pub data_sectors : (i : ℕ) → i < 29 → i ≢ lost → HoldsPart d new i

-- the sectors of data that are in both areas
both_hold : (d : Cartridge) (old new : List (List ℕ)) (k m i : ℕ) → IsBroken d old new k m → i < 29 → i ≢ m → i ≢ k → HoldsPart d old i
both_hold d old new k m i broken h apart other =
    broken.data_sectors i h apart ∙ ap Holds (sym (same_data old new k i broken.differ h other))

-- old data outside some places, of which the lost and the changed one are two
old_outside : (d : Cartridge) (old new : List (List ℕ)) (k m : ℕ) (ps : List ℕ) → IsBroken d old new k m →
    ((i : ℕ) → IsNoneOf ps i → IsNoneOf (m ∷ k ∷ []) i) →
    (IsNoneOf ps 29 → HoldsPart d old 29) → (IsNoneOf ps 30 → HoldsPart d old 30) → (IsNoneOf ps 31 → HoldsPart d old 31) →
    HoldsOutside d old ps
old_outside d old new k m ps broken among p29 p30 p31 =
    by_place (λ i. IsNoneOf ps i → HoldsPart d old i)
    (λ i h none. let apart = among i none in both_hold d old new k m i broken h apart.0 apart.1.0) p29 p30 p31

-- new data outside some places, of which the lost one is one
new_outside : (d : Cartridge) (old new : List (List ℕ)) (k m : ℕ) (ps : List ℕ) → IsBroken d old new k m →
    ((i : ℕ) → IsNoneOf ps i → i ≢ m) →
    (IsNoneOf ps 29 → HoldsPart d new 29) → (IsNoneOf ps 30 → HoldsPart d new 30) → (IsNoneOf ps 31 → HoldsPart d new 31) →
    HoldsOutside d new ps
new_outside d old new k m ps broken among p29 p30 p31 =
    by_place (λ i. IsNoneOf ps i → HoldsPart d new i)
    (λ i h none. broken.data_sectors i h (among i none)) p29 p30 p31

-- a sector holds bytes
abbrev IsRead : Cartridge → ℕ → Type 0
IsRead d i = (bytes : List ℕ) × (view_at d 2 i ≡ Holds bytes)

-- bytes outside some places, of which the lost one is one
read_outside : (d : Cartridge) (old new : List (List ℕ)) (k m : ℕ) (ps : List ℕ) → IsBroken d old new k m →
    ((i : ℕ) → IsNoneOf ps i → i ≢ m) →
    (IsNoneOf ps 29 → IsRead d 29) → (IsNoneOf ps 30 → IsRead d 30) → (IsNoneOf ps 31 → IsRead d 31) → ReadsOutside d ps
read_outside d old new k m ps broken among p29 p30 p31 =
    by_place (λ i. IsNoneOf ps i → IsRead d i)
    (λ i h none. (sector_at (with_parity new) i, broken.data_sectors i h (among i none))) p29 p30 p31

part_read : (d : Cartridge) (area : List (List ℕ)) (i : ℕ) → HoldsPart d area i → IsRead d i
part_read d area i part = (sector_at (with_parity area) i, part)

-- the changed sector differs from the old one
changed_differs : (d : Cartridge) (old new : List (List ℕ)) (k m : ℕ) → IsBroken d old new k m →
    sector_at (with_parity new) k ≢ sector_at (with_parity old) k
changed_differs d old new k m broken same =
    let differ : DifferInOne old new k = broken.differ in
    differ.differs (sym (front_sector old differ.old_area k differ.data_sector) ∙ sym same
    ∙ front_sector new differ.new_area k differ.data_sector)

pub shows_used : (d : Cartridge) (area : List (List ℕ)) (i : ℕ) → IsArea area → i < 29 → HoldsPart d area i →
    shows_used_slot (unwrap_or (slice_get (table_cells d) i) Lost) ≡ has_used_slot (sector_at area i)
shows_used d area i is h part =
    ap (λ (o : Option SectorView). shows_used_slot (unwrap_or o Lost)) (cells_of_whole d 2 i (omega arith))
    ∙ ap shows_used_slot part
    ∙ ap has_used_slot (front_sector area is i h)

-- the last sector with a used slot is the changed one, where that is not lost
used_is_changed : (d : Cartridge) (old new : List (List ℕ)) (k m : ℕ) → IsBroken d old new k m → m ≢ k → last_used (table_cells d) ≡ Some k
used_is_changed d old new k m broken other =
    let is : IsArea new = broken.differ.new_area in
    let place : k < 29 = broken.differ.data_sector in
    last_used_is (table_cells d) 29 k place
    (shows_used d new k is place (broken.data_sectors k place (λ e. other (sym e))) ∙ broken.last.used)
    (λ i behind h.
    elim (cases_eq i m) [
      | inl same ↦
          let gone : view_at d 2 i ≡ Lost = ap (view_at d 2) same ∙ broken.here in
          ap (λ (o : Option SectorView). shows_used_slot (unwrap_or o Lost)) (cells_of_whole d 2 i (omega arith)) ∙ ap shows_used_slot gone
      | inr apart ↦ shows_used d new i is h (broken.data_sectors i h apart) ∙ broken.last.behind i behind h
    ])

by_sets : (d : Cartridge) (area : List (List ℕ)) (m : ℕ) (sets : List ℕ) → m < 29 → view_at d 2 m ≡ Lost →
    unreadable_count (table_cells d) ≤ 3 →
    sets_by (last_used (table_cells d)) (unreadable_places (table_cells d)) ≡ sets → HasFirstBlock (0 ∷ sets) (table_cells d) area →
    TableIs d area
by_sets d area m sets small lost = by_gone d area m sets small (ap is_unreadable lost)

-- the block of an area agrees at once
at_once : (d : Cartridge) (area : List (List ℕ)) (m : ℕ) (rs : List ℕ) → IsArea area → m < 29 → view_at d 2 m ≡ Lost → length rs ≤ 3 →
    HoldsOutside d area rs → ((i : ℕ) → IsOneOf rs i → view_at d 2 i ≡ Lost) → TableIs d area
at_once d area m rs is small lost few holds gone =
    let count : unreadable_count (table_cells d) ≤ length rs =
    few_in_table d rs (λ i h none. part_read d area i (holds i h none)) in
    by_sets d area m (sets_by (last_used (table_cells d)) (unreadable_places (table_cells d))) small lost (omega arith) refl
    (inl (first_set d area (block_outside d area [] rs is holds (λ i one. ap is_unreadable (gone i one)))))

-- the two places are lost
lost_ones : (d : Cartridge) (m other : ℕ) → view_at d 2 m ≡ Lost → view_at d 2 other ≡ Lost →
    (i : ℕ) → IsOneOf (m ∷ other ∷ []) i → view_at d 2 i ≡ Lost
lost_ones d m other lost gone i (inl same) = ap (view_at d 2) same ∙ lost
lost_ones d m other lost gone i (inr (inl same)) = ap (view_at d 2) same ∙ gone
lost_ones d m other lost gone i (inr (inr more)) = absurd more

lost_one : (d : Cartridge) (m : ℕ) → view_at d 2 m ≡ Lost → (i : ℕ) → IsOneOf (m ∷ []) i → view_at d 2 i ≡ Lost
lost_one d m lost i (inl same) = ap (view_at d 2) same ∙ lost
lost_one d m lost i (inr more) = absurd more

-- the sets where the lost sector of data alone is unreadable
one_lost : (d : Cartridge) (old new : List (List ℕ)) (k m : ℕ) → IsBroken d old new k m → ReadsOutside d (m ∷ []) →
    sets_by (last_used (table_cells d)) (unreadable_places (table_cells d)) ≡ sets_by_one (last_used (table_cells d)) m
one_lost d old new k m broken reads =
    let small : m < 29 = broken.small in
    ap (sets_by (last_used (table_cells d))) (one_in_table d m (omega arith) (ap is_unreadable broken.here) reads)
    ∙ sets_of_one (last_used (table_cells d)) m small

-- and where another one behind it is
two_lost : (d : Cartridge) (old new : List (List ℕ)) (k m other : ℕ) → IsBroken d old new k m → 29 ≤ other → other < 32 →
    view_at d 2 other ≡ Lost → ReadsOutside d (m ∷ other ∷ []) →
    sets_by (last_used (table_cells d)) (unreadable_places (table_cells d)) ≡ sets_by_two (last_used (table_cells d)) m other
two_lost d old new k m other broken from below gone reads =
    let small : m < 29 = broken.small in
    ap (sets_by (last_used (table_cells d)))
    (two_in_table d m other (omega arith) below (ap is_unreadable broken.here) (ap is_unreadable gone) reads)
    ∙ sets_of_two (last_used (table_cells d)) m other small

-- ---- line by line, where the changed sector is not lost

-- old, old, old
pub all_old : (d : Cartridge) (old new : List (List ℕ)) (k m : ℕ) → IsBroken d old new k m → m ≢ k →
    HoldsPart d old 29 → HoldsPart d old 30 → HoldsPart d old 31 → TableIs d old
all_old d old new k m broken other p29 p30 p31 =
    let is : IsArea old = broken.differ.old_area in
    let place : k < 29 = broken.differ.data_sector in
    let small : m < 29 = broken.small in
    let seen : HoldsPart d new k = broken.data_sectors k place (λ e. other (sym e)) in
    let new_here : List ℕ = sector_at (with_parity new) k in
    let differs : new_here ≢ sector_at (with_parity old) k = changed_differs d old new k m broken in
    let reads : ReadsOutside d (m ∷ []) =
    read_outside d old new k m (m ∷ []) broken (λ i none. none.0) (λ none. part_read d old 29 p29) (λ none. part_read d old 30 p30)
    (λ none. part_read d old 31 p31) in
    let few : unreadable_count (table_cells d) ≤ 1 = few_in_table d (m ∷ []) reads in
    let holds : (ps : List ℕ) → ((i : ℕ) → IsNoneOf ps i → IsNoneOf (m ∷ k ∷ []) i) → HoldsOutside d old ps =
    λ ps among. old_outside d old new k m ps broken among (λ none. p29) (λ none. p30) (λ none. p31) in
    by_sets d old m (sets_by_one (Some k) m) small broken.here (omega arith)
    (one_lost d old new k m broken reads ∙ ap (λ (used : Option ℕ). sets_by_one used m) (used_is_changed d old new k m broken other))
    (inr (
      not_first_set d (no_block_outside d old [] (m ∷ k ∷ []) k new_here is (omega arith) (holds (m ∷ k ∷ []) (λ i none. none))
          (omega arith) tt seen differs),
      inr (
        no_block_outside d old (m ∷ 31 ∷ []) (k ∷ []) k new_here is (omega arith)
            (holds (m ∷ 31 ∷ k ∷ []) (λ i none. (none.0, (none.1.1.0, tt))))
            (omega arith) ((λ e. other (sym e)), ((λ e. omega arith), tt)) seen differs,
        inr (
          no_block_outside d old (m ∷ 29 ∷ []) (k ∷ []) k new_here is (omega arith)
              (holds (m ∷ 29 ∷ k ∷ []) (λ i none. (none.0, (none.1.1.0, tt))))
              (omega arith) ((λ e. other (sym e)), ((λ e. omega arith), tt)) seen differs,
          inl (block_outside d old (k ∷ m ∷ []) [] is (holds (k ∷ m ∷ []) (λ i none. (none.1.0, (none.0, tt)))) (λ i one. absurd one)),
        ),
      ),
    ))

-- lost, old, old
pub first_lost : (d : Cartridge) (old new : List (List ℕ)) (k m : ℕ) → IsBroken d old new k m → m ≢ k →
    view_at d 2 29 ≡ Lost → HoldsPart d old 30 → HoldsPart d old 31 → TableIs d old
first_lost d old new k m broken other gone p30 p31 =
    let is : IsArea old = broken.differ.old_area in
    let place : k < 29 = broken.differ.data_sector in
    let small : m < 29 = broken.small in
    let seen : HoldsPart d new k = broken.data_sectors k place (λ e. other (sym e)) in
    let new_here : List ℕ = sector_at (with_parity new) k in
    let reads : ReadsOutside d (m ∷ 29 ∷ []) =
    read_outside d old new k m (m ∷ 29 ∷ []) broken (λ i none. none.0) (λ none. absurd (none.1.0 refl)) (λ none. part_read d old 30 p30)
    (λ none. part_read d old 31 p31) in
    let few : unreadable_count (table_cells d) ≤ 2 = few_in_table d (m ∷ 29 ∷ []) reads in
    by_sets d old m (with_used (Some k) (m ∷ 29 ∷ [])) small broken.here (omega arith)
    (two_lost d old new k m 29 broken (omega arith) (omega arith) gone reads
    ∙ ap (λ (used : Option ℕ). sets_by_two used m 29) (used_is_changed d old new k m broken other))
    (inr (
      not_first_set d (no_block_outside d old [] (m ∷ k ∷ 29 ∷ []) k new_here is (omega arith)
          (old_outside d old new k m (m ∷ k ∷ 29 ∷ []) broken (λ i none. (none.0, (none.1.0, tt)))
          (λ none. absurd (none.1.1.0 refl)) (λ none. p30) (λ none. p31))
          (omega arith) tt seen (changed_differs d old new k m broken)),
      inl (block_outside d old (k ∷ m ∷ 29 ∷ []) [] is
          (old_outside d old new k m (k ∷ m ∷ 29 ∷ []) broken (λ i none. (none.1.0, (none.0, tt)))
          (λ none. absurd (none.1.1.0 refl)) (λ none. p30) (λ none. p31))
          (λ i one. absurd one)),
    ))

-- new, old, old
pub one_new : (d : Cartridge) (old new : List (List ℕ)) (k m : ℕ) → IsBroken d old new k m → m ≢ k →
    HoldsPart d new 29 → HoldsPart d old 30 → HoldsPart d old 31 → TableIs d new
one_new d old new k m broken other p29 p30 p31 =
    let is_old : IsArea old = broken.differ.old_area in
    let is_new : IsArea new = broken.differ.new_area in
    let place : k < 29 = broken.differ.data_sector in
    let small : m < 29 = broken.small in
    let seen : HoldsPart d new k = broken.data_sectors k place (λ e. other (sym e)) in
    let reads : ReadsOutside d (m ∷ []) =
    read_outside d old new k m (m ∷ []) broken (λ i none. none.0) (λ none. part_read d new 29 p29) (λ none. part_read d old 30 p30)
    (λ none. part_read d old 31 p31) in
    let few : unreadable_count (table_cells d) ≤ 1 = few_in_table d (m ∷ []) reads in
    let differs_30 : sector_at (with_parity old) 30 ≢ sector_at (with_parity new) 30 =
    parity_differs old new k 30 broken.differ (omega arith) (omega arith) in
    let differs_29 : sector_at (with_parity new) 29 ≢ sector_at (with_parity old) 29 =
    λ e. parity_differs old new k 29 broken.differ (omega arith) (omega arith) (sym e) in
    by_sets d new m (sets_by_one (Some k) m) small broken.here (omega arith)
    (one_lost d old new k m broken reads ∙ ap (λ (used : Option ℕ). sets_by_one used m) (used_is_changed d old new k m broken other))
    (inr (
      not_first_set d (no_block_outside d new [] (m ∷ 30 ∷ 31 ∷ []) 30 (sector_at (with_parity old) 30) is_new (omega arith)
          (new_outside d old new k m (m ∷ 30 ∷ 31 ∷ []) broken (λ i none. none.0) (λ none. p29) (λ none. absurd (none.1.0 refl))
          (λ none. absurd (none.1.1.0 refl)))
          (omega arith) tt p30 differs_30),
      inr (
        no_block_outside d new (m ∷ 31 ∷ []) (30 ∷ []) 30 (sector_at (with_parity old) 30) is_new (omega arith)
            (new_outside d old new k m (m ∷ 31 ∷ 30 ∷ []) broken (λ i none. none.0) (λ none. p29) (λ none. absurd (none.1.1.0 refl))
            (λ none. absurd (none.1.0 refl)))
            (omega arith) ((λ e. omega arith), ((λ e. omega arith), tt)) p30 differs_30,
        inr (
          no_block_outside d old (m ∷ 29 ∷ []) (k ∷ []) k (sector_at (with_parity new) k) is_old (omega arith)
              (old_outside d old new k m (m ∷ 29 ∷ k ∷ []) broken (λ i none. (none.0, (none.1.1.0, tt))) (λ none. absurd (none.1.0 refl))
              (λ none. p30) (λ none. p31))
              (omega arith) ((λ e. other (sym e)), ((λ e. omega arith), tt)) seen (changed_differs d old new k m broken),
          inr (
            no_block_outside d old (k ∷ m ∷ []) (29 ∷ []) 29 (sector_at (with_parity new) 29) is_old (omega arith)
                (old_outside d old new k m (k ∷ m ∷ 29 ∷ []) broken (λ i none. (none.1.0, (none.0, tt))) (λ none. absurd (none.1.1.0 refl))
                (λ none. p30) (λ none. p31))
                (omega arith) ((λ e. omega arith), ((λ e. omega arith), tt)) p29 differs_29,
            inl (block_outside d new (m ∷ 30 ∷ 31 ∷ []) [] is_new
                (new_outside d old new k m (m ∷ 30 ∷ 31 ∷ []) broken (λ i none. none.0) (λ none. p29) (λ none. absurd (none.1.0 refl))
                (λ none. absurd (none.1.1.0 refl)))
                (λ i one. absurd one)),
          ),
        ),
      ),
    ))

-- ---- whichever sector of data is lost

-- new, lost, old
pub second_lost : (d : Cartridge) (old new : List (List ℕ)) (k m : ℕ) → IsBroken d old new k m →
    HoldsPart d new 29 → view_at d 2 30 ≡ Lost → HoldsPart d old 31 → TableIs d new
second_lost d old new k m broken p29 gone p31 =
    let is : IsArea new = broken.differ.new_area in
    let small : m < 29 = broken.small in
    let reads : ReadsOutside d (m ∷ 30 ∷ []) =
    read_outside d old new k m (m ∷ 30 ∷ []) broken (λ i none. none.0) (λ none. part_read d new 29 p29) (λ none. absurd (none.1.0 refl))
    (λ none. part_read d old 31 p31) in
    let few : unreadable_count (table_cells d) ≤ 2 = few_in_table d (m ∷ 30 ∷ []) reads in
    let holds : HoldsOutside d new (m ∷ 30 ∷ 31 ∷ []) =
    new_outside d old new k m (m ∷ 30 ∷ 31 ∷ []) broken (λ i none. none.0) (λ none. p29) (λ none. absurd (none.1.0 refl))
    (λ none. absurd (none.1.1.0 refl)) in
    by_sets d new m (set_of (m ∷ 30 ∷ 31 ∷ []) ∷ []) small broken.here (omega arith)
    (two_lost d old new k m 30 broken (omega arith) (omega arith) gone reads)
    (inr (
      not_first_set d (no_block_outside d new [] (m ∷ 30 ∷ 31 ∷ []) 31 (sector_at (with_parity old) 31) is (omega arith) holds
          (omega arith) tt p31 (parity_differs old new k 31 broken.differ (omega arith) (omega arith))),
      inl (block_outside d new (m ∷ 30 ∷ 31 ∷ []) [] is holds (λ i one. absurd one)),
    ))

-- new, new, old
pub two_new : (d : Cartridge) (old new : List (List ℕ)) (k m : ℕ) → IsBroken d old new k m →
    HoldsPart d new 29 → HoldsPart d new 30 → HoldsPart d old 31 → TableIs d new
two_new d old new k m broken p29 p30 p31 =
    let is : IsArea new = broken.differ.new_area in
    let small : m < 29 = broken.small in
    let reads : ReadsOutside d (m ∷ []) =
    read_outside d old new k m (m ∷ []) broken (λ i none. none.0) (λ none. part_read d new 29 p29) (λ none. part_read d new 30 p30)
    (λ none. part_read d old 31 p31) in
    let few : unreadable_count (table_cells d) ≤ 1 = few_in_table d (m ∷ []) reads in
    let holds : HoldsOutside d new (m ∷ 31 ∷ []) =
    new_outside d old new k m (m ∷ 31 ∷ []) broken (λ i none. none.0) (λ none. p29) (λ none. p30) (λ none. absurd (none.1.0 refl)) in
    by_sets d new m (sets_by_one (last_used (table_cells d)) m) small broken.here (omega arith) (one_lost d old new k m broken reads)
    (inr (
      not_first_set d (no_block_outside d new [] (m ∷ 31 ∷ []) 31 (sector_at (with_parity old) 31) is (omega arith) holds
          (omega arith) tt p31 (parity_differs old new k 31 broken.differ (omega arith) (omega arith))),
      inl (block_outside d new (m ∷ 31 ∷ []) [] is holds (λ i one. absurd one)),
    ))

-- new, new, lost
pub third_lost : (d : Cartridge) (old new : List (List ℕ)) (k m : ℕ) → IsBroken d old new k m →
    HoldsPart d new 29 → HoldsPart d new 30 → view_at d 2 31 ≡ Lost → TableIs d new
third_lost d old new k m broken p29 p30 gone =
    at_once d new m (m ∷ 31 ∷ []) broken.differ.new_area broken.small broken.here (omega arith)
    (new_outside d old new k m (m ∷ 31 ∷ []) broken (λ i none. none.0) (λ none. p29) (λ none. p30) (λ none. absurd (none.1.0 refl)))
    (lost_ones d m 31 broken.here gone)

-- new, new, new
pub all_new : (d : Cartridge) (old new : List (List ℕ)) (k m : ℕ) → IsBroken d old new k m →
    HoldsPart d new 29 → HoldsPart d new 30 → HoldsPart d new 31 → TableIs d new
all_new d old new k m broken p29 p30 p31 =
    at_once d new m (m ∷ []) broken.differ.new_area broken.small broken.here (omega arith)
    (new_outside d old new k m (m ∷ []) broken (λ i none. none.0) (λ none. p29) (λ none. p30) (λ none. p31))
    (lost_one d m broken.here)

-- ---- where the changed sector is lost

changed_is_lost : (k m i : ℕ) → m ≡ k → i ≢ m → IsNoneOf (m ∷ k ∷ []) i
changed_is_lost k m i same apart = (apart, ((λ e. apart (e ∙ sym same)), tt))

-- old, old, old
pub all_old_at_once : (d : Cartridge) (old new : List (List ℕ)) (k m : ℕ) → IsBroken d old new k m → m ≡ k →
    HoldsPart d old 29 → HoldsPart d old 30 → HoldsPart d old 31 → TableIs d old
all_old_at_once d old new k m broken same p29 p30 p31 =
    at_once d old m (m ∷ []) broken.differ.old_area broken.small broken.here (omega arith)
    (old_outside d old new k m (m ∷ []) broken (λ i none. changed_is_lost k m i same none.0) (λ none. p29) (λ none. p30) (λ none. p31))
    (lost_one d m broken.here)

-- lost, old, old
pub first_lost_at_once : (d : Cartridge) (old new : List (List ℕ)) (k m : ℕ) → IsBroken d old new k m → m ≡ k →
    view_at d 2 29 ≡ Lost → HoldsPart d old 30 → HoldsPart d old 31 → TableIs d old
first_lost_at_once d old new k m broken same gone p30 p31 =
    at_once d old m (m ∷ 29 ∷ []) broken.differ.old_area broken.small broken.here (omega arith)
    (old_outside d old new k m (m ∷ 29 ∷ []) broken (λ i none. changed_is_lost k m i same none.0) (λ none. absurd (none.1.0 refl))
    (λ none. p30) (λ none. p31))
    (lost_ones d m 29 broken.here gone)

-- new, old, old
pub one_new_still_old : (d : Cartridge) (old new : List (List ℕ)) (k m : ℕ) → IsBroken d old new k m → m ≡ k →
    HoldsPart d new 29 → HoldsPart d old 30 → HoldsPart d old 31 → TableIs d old
one_new_still_old d old new k m broken same p29 p30 p31 =
    let is : IsArea old = broken.differ.old_area in
    let small : m < 29 = broken.small in
    let reads : ReadsOutside d (m ∷ []) =
    read_outside d old new k m (m ∷ []) broken (λ i none. none.0) (λ none. part_read d new 29 p29) (λ none. part_read d old 30 p30)
    (λ none. part_read d old 31 p31) in
    let few : unreadable_count (table_cells d) ≤ 1 = few_in_table d (m ∷ []) reads in
    let holds : HoldsOutside d old (m ∷ 29 ∷ []) =
    old_outside d old new k m (m ∷ 29 ∷ []) broken (λ i none. changed_is_lost k m i same none.0) (λ none. absurd (none.1.0 refl))
    (λ none. p30) (λ none. p31) in
    let differs : sector_at (with_parity new) 29 ≢ sector_at (with_parity old) 29 =
    λ e. parity_differs old new k 29 broken.differ (omega arith) (omega arith) (sym e) in
    by_sets d old m (sets_by_one (last_used (table_cells d)) m) small broken.here (omega arith) (one_lost d old new k m broken reads)
    (inr (
      not_first_set d (no_block_outside d old [] (m ∷ 29 ∷ []) 29 (sector_at (with_parity new) 29) is (omega arith) holds
          (omega arith) tt p29 differs),
      inr (
        no_block_outside d old (m ∷ 31 ∷ []) (29 ∷ []) 29 (sector_at (with_parity new) 29) is (omega arith)
            (old_outside d old new k m (m ∷ 31 ∷ 29 ∷ []) broken (λ i none. changed_is_lost k m i same none.0)
            (λ none. absurd (none.1.1.0 refl))
            (λ none. p30) (λ none. p31))
            (omega arith) ((λ e. omega arith), ((λ e. omega arith), tt)) p29 differs,
        inl (block_outside d old (m ∷ 29 ∷ []) [] is holds (λ i one. absurd one)),
      ),
    ))
