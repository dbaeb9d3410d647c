-- The reading of a table's segment whose sectors hold their parts but for few, whichever views those have.
use Rattle.std.proofs.Common.{◌≡◌, ℕ, List, ◌⊎◌, inl, inr, refl, ap, ◌≢◌, sym, ◌∙◌, ◌<◌, subst, ◌≤◌, arith, length, [], ◌∷◌}
use Rattle.std.proofs.lemmas.Bool.{cases_Bool, true≢false, cases_eq}
use Rattle.std.proofs.lemmas.Slice.Eq.{bytes_eq-Decides}
use Rattle.std.specs.Str.{bytes_eq}
use Rattle.cartridge_laws.proofs.FormatStanding.{same_cells}
use Rattle.cartridge_laws.proofs.MountParts.{data_read, length-block}
use Rattle.cartridge_laws.proofs.MountSeen.{HoldsOutside, one_or_none, few_in_table, by_place, ReadsOutside, one_in_table, block_outside}
use Rattle.cartridge_laws.proofs.MountSeen.{no_block_outside, not_first_set, sets_of_one, by_gone, two_in_table, sets_of_two}
use Rattle.cartridge_laws.proofs.MountStanding.{written_table}
use Rattle.cartridge_laws.proofs.MountStops.{block_written}
use Rattle.cartridge_laws.proofs.Sets.{IsOneOf, IsNoneOf}
use Rattle.cartridge_laws.specs.MountBlocks.{HoldsPart}
use Rattle.cartridge_laws.specs.Segment.{IsUnreadable}
use Rattle.cartridge_spec.specs.TableSegment.{TableIs, table_cells}
use Rattle.cartridge_spec.specs.Shape.{IsArea, is_unreadable, sector_at}
use Rattle.cartridge_spec.specs.Says.{whole_mask, TableSays, AsRead, ByCode, Data, unreadable_count, with_parity, sets_by, set_of}
use Rattle.cartridge_laws.specs.TableCells.{sets_by_one, last_used}
use Rattle.qic_base.specs.Cartridge.{Cartridge, view_at}
use Rattle.qic_base.specs.declared.tape.SectorView.{SectorView}
use Rattle.qic_base.specs.declared.tape.SectorView.TheVariants.{Holds, Blank, Defect, Lost}

-- ---- views

-- a sector holds bytes
abbrev pub IsRead : SectorView → Type 0
IsRead view = (bytes : List ℕ) × (view ≡ Holds bytes)

pub gone_or_read : (view : SectorView) → IsUnreadable view ⊎ IsRead view
gone_or_read Blank = inl refl
gone_or_read Defect = inl refl
gone_or_read Lost = inl refl
gone_or_read (Holds bytes) = inr (bytes, refl)

-- not both
pub gone_not_read : {P : Type 0} (view : SectorView) (bytes : List ℕ) → IsUnreadable view → view ≡ Holds bytes → P
gone_not_read view bytes gone read = let kept = ap is_unreadable read in absurd (cc)

same_or_not : (xs ys : List ℕ) → (xs ≡ ys) ⊎ (xs ≢ ys)
same_or_not xs ys =
    elim (cases_Bool (bytes_eq xs ys)) [
      | inl same ↦ inl ((bytes_eq-Decides xs ys).0 same)
      | inr apart ↦ inr (λ e. true≢false (sym ((bytes_eq-Decides xs ys).1 e) ∙ apart))
    ]

-- ---- sectors

-- a sector holds its part of an area, or is unreadable
abbrev pub PartOrGone : Cartridge → (area : List (List ℕ)) → (i : ℕ) → Type 0
PartOrGone d area i = HoldsPart d area i ⊎ IsUnreadable (view_at d 2 i)

-- each sector of data but one holds its part
abbrev pub AllBut : Cartridge → (area : List (List ℕ)) → (m : ℕ) → Type 0
AllBut d area m = (i : ℕ) → i < 29 → i ≢ m → HoldsPart d area i

-- the same views, and so the same reading
pub same_reads : (c d : Cartridge) (area : List (List ℕ)) → ((i : ℕ) → i < 32 → view_at d 2 i ≡ view_at c 2 i) → TableIs c area →
    TableIs d area
same_reads c d area same reads =
    let cells : table_cells d ≡ table_cells c = same_cells c d 2 whole_mask same in
    subst (λ (cs : List SectorView). TableSays cs (AsRead area) ⊎ TableSays cs (ByCode (Data area))) (sym cells) reads

-- all data are as they are
pub data_reads : (d : Cartridge) (area : List (List ℕ)) (m : ℕ) → IsArea area → AllBut d area m → HoldsPart d area m → TableIs d area
data_reads d area m is all here =
    inl (data_read d area is (λ i h.
    elim (cases_eq i m) [ inl same ↦ subst (HoldsPart d area) (sym same) here | inr apart ↦ all i h apart ]))

-- the sectors hold their parts, but for three at most that are unreadable
pub few_gone : (d : Cartridge) (area : List (List ℕ)) (ps : List ℕ) → IsArea area → length ps ≤ 3 → HoldsOutside d area ps →
    ((i : ℕ) → IsOneOf ps i → PartOrGone d area i) → TableIs d area
few_gone d area ps is few holds others =
    let count : unreadable_count (table_cells d) ≤ length ps =
    few_in_table d ps (λ i h none. (sector_at (with_parity area) i, holds i h none)) in
    written_table d area is
    (block_written d area (length-block area is) (λ i held h view.
    elim (one_or_none ps i) [
      | inl one ↦ right i held view (others i one)
      | inr none ↦ right i held view (inl (holds i h none))
    ]))
    (inr (omega arith))
  where
    right : (i : ℕ) (held : List ℕ) → view_at d 2 i ≡ Holds held → PartOrGone d area i → held ≡ sector_at (with_parity area) i
    right i held view (inl part) = let there : Holds held ≡ Holds (sector_at (with_parity area) i) = sym view ∙ part in cc
    right i held view (inr gone) = gone_not_read (view_at d 2 i) held gone view

outside_but : (d : Cartridge) (area : List (List ℕ)) (m : ℕ) (ps : List ℕ) → AllBut d area m → ((i : ℕ) → IsNoneOf ps i → i ≢ m) →
    (IsNoneOf ps 29 → HoldsPart d area 29) → (IsNoneOf ps 30 → HoldsPart d area 30) → (IsNoneOf ps 31 → HoldsPart d area 31) →
    HoldsOutside d area ps
outside_but d area m ps all among p29 p30 p31 =
    by_place (λ i. IsNoneOf ps i → HoldsPart d area i) (λ i h none. all i h (among i none)) p29 p30 p31

read_but : (d : Cartridge) (area : List (List ℕ)) (m : ℕ) (ps : List ℕ) → AllBut d area m → ((i : ℕ) → IsNoneOf ps i → i ≢ m) →
    (IsNoneOf ps 29 → IsRead (view_at d 2 29)) → (IsNoneOf ps 30 → IsRead (view_at d 2 30)) → IsRead (view_at d 2 31) → ReadsOutside d ps
read_but d area m ps all among p29 p30 p31 =
    by_place (λ i. IsNoneOf ps i → IsRead (view_at d 2 i)) (λ i h none. (sector_at (with_parity area) i, all i h (among i none))) p29 p30
    (λ none. p31)

part_read : (d : Cartridge) (area : List (List ℕ)) (i : ℕ) → HoldsPart d area i → IsRead (view_at d 2 i)
part_read d area i part = (sector_at (with_parity area) i, part)

two_parts : (d : Cartridge) (area : List (List ℕ)) (p q i : ℕ) → PartOrGone d area p → PartOrGone d area q → IsOneOf (p ∷ q ∷ []) i →
    PartOrGone d area i
two_parts d area p q i at_p at_q (inl same) = subst (PartOrGone d area) (sym same) at_p
two_parts d area p q i at_p at_q (inr (inl same)) = subst (PartOrGone d area) (sym same) at_q
two_parts d area p q i at_p at_q (inr (inr more)) = absurd more

pub three_parts : (d : Cartridge) (area : List (List ℕ)) (p q r i : ℕ) → PartOrGone d area p → PartOrGone d area q → PartOrGone d area r →
    IsOneOf (p ∷ q ∷ r ∷ []) i → PartOrGone d area i
three_parts d area p q r i at_p at_q at_r (inl same) = subst (PartOrGone d area) (sym same) at_p
three_parts d area p q r i at_p at_q at_r (inr one) = two_parts d area q r i at_q at_r one

-- ---- the second and the third sector of parity hold their parts

pub first_gone : (d : Cartridge) (area : List (List ℕ)) (m : ℕ) → IsArea area → AllBut d area m → PartOrGone d area m →
    PartOrGone d area 29 → HoldsPart d area 30 → HoldsPart d area 31 → TableIs d area
first_gone d area m is all here p29 p30 p31 =
    few_gone d area (m ∷ 29 ∷ []) is (omega arith)
    (outside_but d area m (m ∷ 29 ∷ []) all (λ i none. none.0) (λ none. absurd (none.1.0 refl)) (λ none. p30) (λ none. p31))
    (λ i one. two_parts d area m 29 i here p29 one)

-- ---- the first sector of parity holds its part

-- the third one differs, and only the sector of data is unreadable
third_differs : (d : Cartridge) (area : List (List ℕ)) (m : ℕ) (other : List ℕ) → IsArea area → m < 29 → AllBut d area m →
    IsUnreadable (view_at d 2 m) → HoldsPart d area 29 → HoldsPart d area 30 → view_at d 2 31 ≡ Holds other →
    other ≢ sector_at (with_parity area) 31 → TableIs d area
third_differs d area m other is small all gone p29 p30 view differs =
    let reads : ReadsOutside d (m ∷ []) =
    read_but d area m (m ∷ []) all (λ i none. none.0) (λ none. part_read d area 29 p29) (λ none. part_read d area 30 p30) (other, view) in
    let few : unreadable_count (table_cells d) ≤ 1 = few_in_table d (m ∷ []) reads in
    let holds : HoldsOutside d area (m ∷ 31 ∷ []) =
    outside_but d area m (m ∷ 31 ∷ []) all (λ i none. none.0) (λ none. p29) (λ none. p30) (λ none. absurd (none.1.0 refl)) in
    by_gone d area m (sets_by_one (last_used (table_cells d)) m) small gone (omega arith)
    (ap (sets_by (last_used (table_cells d))) (one_in_table d m (omega arith) gone reads) ∙ sets_of_one (last_used (table_cells d)) m small)
    (inr (
      not_first_set d (no_block_outside d area [] (m ∷ 31 ∷ []) 31 other is (omega arith) holds (omega arith) tt view differs),
      inl (block_outside d area (m ∷ 31 ∷ []) [] is holds (λ i one. absurd one)),
    ))

-- and the second one is unreadable as well
second_gone : (d : Cartridge) (area : List (List ℕ)) (m : ℕ) (other : List ℕ) → IsArea area → m < 29 → AllBut d area m →
    IsUnreadable (view_at d 2 m) → HoldsPart d area 29 → IsUnreadable (view_at d 2 30) → view_at d 2 31 ≡ Holds other →
    other ≢ sector_at (with_parity area) 31 → TableIs d area
second_gone d area m other is small all gone p29 gone_30 view differs =
    let reads : ReadsOutside d (m ∷ 30 ∷ []) =
    read_but d area m (m ∷ 30 ∷ []) all (λ i none. none.0) (λ none. part_read d area 29 p29) (λ none. absurd (none.1.0 refl))
    (other, view) in
    let few : unreadable_count (table_cells d) ≤ 2 = few_in_table d (m ∷ 30 ∷ []) reads in
    let holds : HoldsOutside d area (m ∷ 30 ∷ 31 ∷ []) =
    outside_but d area m (m ∷ 30 ∷ 31 ∷ []) all (λ i none. none.0) (λ none. p29) (λ none. absurd (none.1.0 refl))
    (λ none. absurd (none.1.1.0 refl)) in
    by_gone d area m (set_of (m ∷ 30 ∷ 31 ∷ []) ∷ []) small gone (omega arith)
    (ap (sets_by (last_used (table_cells d))) (two_in_table d m 30 (omega arith) (omega arith) gone gone_30 reads)
    ∙ sets_of_two (last_used (table_cells d)) m 30 small)
    (inr (
      not_first_set d (no_block_outside d area [] (m ∷ 30 ∷ 31 ∷ []) 31 other is (omega arith) holds (omega arith) tt view differs),
      inl (block_outside d area (m ∷ 30 ∷ 31 ∷ []) [] is holds (λ i one. absurd one)),
    ))

-- whatever the third one is
pub third_any : (d : Cartridge) (area : List (List ℕ)) (m : ℕ) → IsArea area → m < 29 → AllBut d area m → PartOrGone d area m →
    HoldsPart d area 29 → PartOrGone d area 30 → TableIs d area
third_any d area m is small all (inl here) p29 p30 = data_reads d area m is all here
third_any d area m is small all (inr gone) p29 p30 =
    elim (gone_or_read (view_at d 2 31)) [
      | inl lost ↦ without (inr lost)
      | inr read ↦ elim (same_or_not read.0 (sector_at (with_parity area) 31)) [
        | inl same ↦ without (inl (read.1 ∙ ap Holds same))
        | inr differs ↦ by_second read.0 read.1 differs p30
      ]
    ]
  where
    without : PartOrGone d area 31 → TableIs d area
    without p31 =
        few_gone d area (m ∷ 30 ∷ 31 ∷ []) is (omega arith)
        (outside_but d area m (m ∷ 30 ∷ 31 ∷ []) all (λ i none. none.0) (λ none. p29) (λ none. absurd (none.1.0 refl))
        (λ none. absurd (none.1.1.0 refl)))
        (λ i one. three_parts d area m 30 31 i (inr gone) p30 p31 one)

    by_second : (other : List ℕ) → view_at d 2 31 ≡ Holds other → other ≢ sector_at (with_parity area) 31 → PartOrGone d area 30 →
        TableIs d area
    by_second other view differs (inl part) = third_differs d area m other is small all gone p29 part view differs
    by_second other view differs (inr lost) = second_gone d area m other is small all gone p29 lost view differs
