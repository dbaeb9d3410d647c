-- A table of which each sector that takes a write holds its part, and the writes of its new data.
use Rattle.std.proofs.Common.{ℕ, inl, List, arith, ◌≡◌, ◌⊎◌, sym, ◌∙◌, subst, refl, Bool, cond, ap, ◌≤◌, ◌∷◌, suc, ◌<◌, [], length, Some}
use Rattle.std.proofs.Common.{inr}
use Rattle.cartridge_laws.proofs.AppendBetween.{none_if_readable}
use Rattle.cartridge_laws.proofs.AppendStanding.{AreKeptTo}
use Rattle.cartridge_laws.proofs.AppendTableWrites.{HoldParts, DifferIn, table_written, table_lived}
use Rattle.cartridge_laws.proofs.Cells.{IsReadable, unreadable_count-first, count_of_readable, readable_from_count, one_if_any}
use Rattle.cartridge_laws.proofs.FormatCopies.{held_view, view_held}
use Rattle.cartridge_laws.proofs.FormatStanding.{same_cells}
use Rattle.cartridge_laws.proofs.MountFar.{length-table_block}
use Rattle.cartridge_laws.proofs.MountParts.{data_read, length-block, readable_front}
use Rattle.cartridge_laws.proofs.MountSettled.{settled_keeps_table}
use Rattle.cartridge_laws.proofs.MountStanding.{can_be_read, written_table}
use Rattle.cartridge_laws.proofs.MountStops.{block_written}
use Rattle.cartridge_laws.proofs.MountWriting.{IsAllWritten, all_written}
use Rattle.cartridge_laws.proofs.Segments.{length-whole_cells}
use Rattle.cartridge_laws.specs.AppendBetween.{IsWhole}
use Rattle.cartridge_laws.specs.AppendLaws.{IsReadyFor}
use Rattle.cartridge_laws.specs.AppendSettled.{IsSettledFor, SettledIsSettledFor}
use Rattle.cartridge_spec.specs.Appending.{table_writes, Content}
use Rattle.cartridge_spec.specs.Shape.{IsArea, IsLive, sector_at, usable_places, is_unreadable}
use Rattle.cartridge_spec.specs.TableSegment.{table_cells, CanBeRead}
use Rattle.cartridge_spec.specs.Mounting.{settled}
use Rattle.cartridge_spec.specs.Says.{whole_mask, Data, AsRead, ByCode, TableSays, with_parity, Written, unreadable_count}
use Rattle.cartridge_spec.specs.Settling.{writes_of, changed_by}
use Rattle.cartridge_spec.specs.Volumes.{Plain}
use Rattle.qic_base.specs.Cartridge.{Cartridge, view_at}
use Rattle.qic_base.specs.Step.{written_view}
use Rattle.qic_base.specs.declared.tape.SectorView.{SectorView}
use Rattle.qic_base.specs.declared.tape.SectorView.TheVariants.{Blank, Defect, Lost, Holds}

-- ---- which tables are so

whole_settled : (c : Cartridge) (area : List (List ℕ)) → IsArea area → IsWhole c area → IsSettledFor c area
whole_settled c area is whole = record {
  table = inl (data_read c area is (λ i h. whole i (omega arith)));
  live = λ i h live. whole i h;
}

pub ready_settled : {c : Cartridge} {plain : Plain} {content : Content} → IsReadyFor c plain content → IsSettledFor c plain.table_area
ready_settled {c = c} {plain = plain} ready = whole_settled c plain.table_area ready.may.stands.whole.table_area ready.whole

pub settled_kept : (c d : Cartridge) (area : List (List ℕ)) → AreKeptTo 2 c d → IsSettledFor c area → IsSettledFor d area
settled_kept c d area kept known =
    let same : table_cells d ≡ table_cells c = same_cells c d 2 whole_mask (λ i h. kept 2 i (omega arith) h) in
    record {
      table = subst (λ (cells : List SectorView). TableSays cells (AsRead area) ⊎ TableSays cells (ByCode (Data area)))
          (sym same) known.table;
      live = λ i h live. kept 2 i (omega arith) h ∙ known.live i h (subst IsLive (kept 2 i (omega arith) h) live);
    }

live_holds : (view : SectorView) (bytes : List ℕ) → IsLive (written_view bytes view) → written_view bytes view ≡ Holds bytes
live_holds Blank bytes live = absurd live
live_holds Defect bytes live = absurd live
live_holds Lost bytes live = refl
live_holds (Holds old) bytes live = refl

pub settled_is_settled_for : SettledIsSettledFor
settled_is_settled_for c area table is =
    let block : List (List ℕ) = with_parity area in
    let all : Cartridge = changed_by (writes_of 2 (usable_places whole_mask) block) c in
    let written : IsAllWritten block c (settled area c) =
    subst (IsAllWritten block c) (sym (ap (λ (b : Bool). cond b c all) is)) (all_written block c (length-table_block c area table)) in
    record {
      table = (settled_keeps_table c area table).table;
      live = λ i h live.
          written.table i h ∙ live_holds (view_at c 2 i) (sector_at block i) (subst IsLive (written.table i h) live);
    }

-- ---- what it says

-- sector i of the table's segment takes what is written to it
abbrev IsLiveIn : Cartridge → (i : ℕ) → Type 0
IsLiveIn c i = IsLive (view_at c 2 i)

pub live_written : (c : Cartridge) (area : List (List ℕ)) → IsArea area → HoldParts (IsLiveIn c) c area → Written (table_cells c) area
live_written c area is holds =
    block_written c area (length-block area is) (λ i held h view.
    let there : Holds held ≡ Holds (sector_at (with_parity area) i) = sym view ∙ holds i h (subst IsLive (sym view) tt) in
    cc)

counts_no_more : (x y : SectorView) (xs : List SectorView) → ((bytes : List ℕ) → y ≡ Holds bytes → IsReadable (x ∷ xs) 0) →
    cond (is_unreadable x) 1 0 ≤ cond (is_unreadable y) 1 0
counts_no_more x Blank xs held = one_if_any (is_unreadable x)
counts_no_more x Defect xs held = one_if_any (is_unreadable x)
counts_no_more x Lost xs held = one_if_any (is_unreadable x)
counts_no_more x (Holds bytes) xs held = none_if_readable (is_unreadable x) (readable_front x xs (held bytes refl))

-- where each cell can be read that another list can
no_more_unreadable : (xs ys : List SectorView) → length xs ≡ length ys → ((i : ℕ) → i < length ys → IsReadable ys i → IsReadable xs i) →
    unreadable_count xs ≤ unreadable_count ys
no_more_unreadable [] ys long held = let none : unreadable_count [] ≡ 0 = refl in omega arith
no_more_unreadable (x ∷ xs) [] long held = absurd (omega arith)
no_more_unreadable (x ∷ xs) (y ∷ ys) long held =
    let first = counts_no_more x y xs (λ bytes is. held 0 (omega arith) (bytes, ap (λ (z : SectorView). Some z) is)) in
    let rest = no_more_unreadable xs ys (omega arith) (λ i h. held (suc i) (omega arith)) in
    omega (arith, unreadable_count-first x xs, unreadable_count-first y ys)

-- a table can be read where each of its sectors can that could before
still_read : (c d : Cartridge) → ((i : ℕ) → i < 32 → IsReadable (table_cells c) i → IsReadable (table_cells d) i) → CanBeRead c →
    CanBeRead d
still_read c d held (inl none) =
    let long : length (table_cells c) ≡ 32 = length-whole_cells c 2 in
    inl (count_of_readable 29 (table_cells d) (λ i h. held i (omega arith) (readable_from_count 29 (table_cells c) (omega arith) none i h)))
still_read c d held (inr few) =
    let long : length (table_cells c) ≡ 32 = length-whole_cells c 2 in
    let same : length (table_cells d) ≡ 32 = length-whole_cells d 2 in
    let fewer = no_more_unreadable (table_cells d) (table_cells c) (omega arith) (λ i h. held i (omega arith)) in
    inr (omega arith)

-- ---- the four writes of the new data

pub table_settled : (c : Cartridge) (old new : List (List ℕ)) (k : ℕ) → k < 29 → DifferIn old new k → IsArea new → IsSettledFor c old →
    IsSettledFor (changed_by (table_writes k new) c) new
table_settled c old new k small differ is known =
    let d : Cartridge = changed_by (table_writes k new) c in
    let parts : HoldParts (IsLiveIn c) d new = table_written (IsLiveIn c) c old new k small differ known.live in
    let live : HoldParts (IsLiveIn d) d new = λ i h is_live. parts i h (table_lived c new k i small h is_live) in
    record {
      table = written_table d new is (live_written d new is live) (still_read c d
          (λ i h read. (
            sector_at (with_parity new) i,
            view_held d 2 i (sector_at (with_parity new) i) h (parts i h (subst IsLive (sym (held_view c 2 i read.0 read.1).view) tt)),
          ))
          (can_be_read c old known.table));
      live = live;
    }
