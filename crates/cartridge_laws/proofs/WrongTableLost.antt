-- Once the sector of the table's segment that silently holds other bytes is lost, the table is that of the block of all others.
use Rattle.std.proofs.Common.{◌≡◌, ℕ, List, [], ◌∷◌, ◌≤◌, arith, ap, sym, ◌∙◌, refl, true, inl, inr, subst}
use Rattle.cartridge_laws.proofs.ChangeStanding.{header_elsewhere}
use Rattle.cartridge_laws.proofs.ChangeViews.{view_of_other}
use Rattle.cartridge_laws.proofs.FormatViews.{view_of_sector}
use Rattle.cartridge_laws.proofs.Hiding.{nothing_is_hidden}
use Rattle.cartridge_laws.proofs.MountSeen.{HoldsOutside, block_outside, few_in_table, first_set, no_block_outside, not_first_set}
use Rattle.cartridge_laws.proofs.MountSeen.{some_lost}
use Rattle.cartridge_laws.proofs.OneLossComesBack.{whole_comes_back}
use Rattle.cartridge_laws.proofs.Sets.{IsOneOf}
use Rattle.cartridge_laws.proofs.TableSayings.{said_is_table}
use Rattle.cartridge_laws.proofs.WrongTable.{worn_other}
use Rattle.cartridge_laws.specs.Segment.{IsUnreadable, hidden}
use Rattle.cartridge_laws.specs.WrongTableLaws.{LostWrongIsSolved, LostWrongMounts, RottenComesBack, RottenIsWrong}
use Rattle.cartridge_spec.specs.Says.{Data, HasBlock, HasNoBlock, set_of, unreadable_count, with_parity}
use Rattle.cartridge_spec.specs.Shape.{is_unreadable, sector_at}
use Rattle.cartridge_spec.specs.TableSegment.{LosesOneAlone, table_cells}
use Rattle.cartridge_spec.specs.Volumes.{worn}
use Rattle.qic_base.specs.Cartridge.{Cartridge, view_at}
use Rattle.qic_base.specs.Step.{worn_view}
use Rattle.qic_base.specs.declared.tape.SectorView.{SectorView}
use Rattle.qic_base.specs.declared.tape.SectorView.TheVariants.{Blank, Defect, Holds, Lost}

-- ---- the sector, lost

pub worn_unreadable : (view : SectorView) → is_unreadable (worn_view view) ≡ true
worn_unreadable Blank = refl
worn_unreadable Defect = refl
worn_unreadable Lost = refl
worn_unreadable (Holds bytes) = refl

worn_here : (c : Cartridge) (wrong : ℕ) → view_at (worn 2 wrong c) 2 wrong ≡ worn_view (view_at c 2 wrong)
worn_here c wrong = view_of_sector c 2 wrong worn_view refl

gone : (c : Cartridge) (wrong : ℕ) → IsUnreadable (view_at (worn 2 wrong c) 2 wrong)
gone c wrong = ap is_unreadable (worn_here c wrong) ∙ worn_unreadable (view_at c 2 wrong)

-- ---- what is read then

pub lost_wrong_is_solved : LostWrongIsSolved
lost_wrong_is_solved c wrong area small is =
    let d : Cartridge = worn 2 wrong c in
    inr (said_is_table (table_cells d) (Data area) (some_lost d wrong small (gone c wrong)) is.says (λ same. absurd (cc)))

pub lost_wrong_mounts : LostWrongMounts
lost_wrong_mounts c header_area header words wrong area entries small is formatted sound shown = record {
  area = header_area;
  formatted = record {
    has_header = header_elsewhere c 2 wrong header_area (omega arith) (omega arith) formatted.has_header;
    sound = formatted.sound;
    shown = formatted.shown;
  };
  reads = lost_wrong_is_solved c wrong area small is;
  sound = sound;
  shown = shown;
}

-- ---- what rotted

all_cells : (c : Cartridge) (area : List (List ℕ)) → HasBlock (hidden (set_of []) (table_cells c)) area → HasBlock (table_cells c) area
all_cells c area has = subst (λ (cells : List SectorView). HasBlock cells area) (nothing_is_hidden (table_cells c)) (first_set c area has)

none_in_all : (c : Cartridge) → HasNoBlock (hidden (set_of []) (table_cells c)) → HasNoBlock (table_cells c)
none_in_all c none = subst HasNoBlock (nothing_is_hidden (table_cells c)) (not_first_set c none)

pub rotten_is_wrong : RottenIsWrong
rotten_is_wrong c d area wrong sectors whole rots =
    let e : Cartridge = worn 2 wrong d in
    let here : HoldsOutside d area (wrong ∷ []) = λ i h none. rots.others i h none.0 ∙ whole i h in
    let behind : HoldsOutside e area (wrong ∷ []) = λ i h none. worn_other d wrong i none.0 ∙ here i h none in
    let count : unreadable_count (table_cells e) ≤ 1 =
    few_in_table e (wrong ∷ []) (λ i h none. (sector_at (with_parity area) i, behind i h none)) in
    record {
      within = rots.within;
      mismatch = none_in_all d
          (no_block_outside d area [] (wrong ∷ []) wrong rots.held sectors (omega arith) here rots.within tt rots.here rots.differs);
      says = (
        omega arith,
        all_cells e area (block_outside e area [] (wrong ∷ []) sectors behind (λ i one. only i one)),
      );
    }
  where
    only : (i : ℕ) → IsOneOf (wrong ∷ []) i → IsUnreadable (view_at (worn 2 wrong d) 2 i)
    only i (inl same) = subst (λ (j : ℕ). IsUnreadable (view_at (worn 2 wrong d) 2 j)) (sym same) (gone d wrong)
    only i (inr more) = absurd more

pub rotten_comes_back : RottenComesBack
rotten_comes_back c d plain wrong stood whole rots =
    let e : Cartridge = worn 2 wrong d in
    let lost : LosesOneAlone c e wrong = record {
      loses = record {
        within = rots.within;
        here = worn_here d wrong ∙ ap worn_view rots.here;
        others = λ i h apart. worn_other d wrong i apart ∙ rots.others i h apart;
      };
      alone = record {
        info = rots.alone.info;
        others = λ s i h apart.
            view_of_other d 2 wrong s i (worn_view (view_at d 2 wrong)) rots.within h apart ∙ rots.alone.others s i h apart;
      };
    } in
    whole_comes_back c plain stood whole stood.whole.table_area e wrong lost
