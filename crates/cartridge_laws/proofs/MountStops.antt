-- What a stop among writes to the table's segment keeps, and the plain reading after one.
use Rattle.std.proofs.Common.{◌≡◌, ℕ, ◌<◌, Bool, true, List, inl, inr, ◌∷◌, Option, Some, IsSomeAnd, zero, suc, ◌+◌, ◌≤◌, subst, arith}
use Rattle.std.proofs.Common.{None, refl, ◌≢◌, length, ◌*◌, sym, ap, ◌∙◌, false, not, []}
use Rattle.std.proofs.lemmas.Bool.{cases_Bool, cases_eq, cases_lt, true≢false}
use Rattle.std.proofs.lemmas.List.{length-set}
use Rattle.std.proofs.lemmas.Slice.Eq.{bytes_eq-Decides}
use Rattle.std.proofs.lemmas.Option.{slice_get-get_or, unwrap_or-slice_get}
use Rattle.cartridge_laws.proofs.FormatCopies.{held_view, view_held, no_fewer_unreadable}
use Rattle.cartridge_laws.proofs.FormatViews.{view_of_sector, view_of_other_sector}
use Rattle.cartridge_laws.proofs.FormatWriting.{some_and, some_weaker}
use Rattle.cartridge_laws.proofs.MountParts.{length-block}
use Rattle.cartridge_laws.proofs.MountStanding.{said_area}
use Rattle.cartridge_laws.proofs.MountWriting.{steps_that, steps_none, steps_passes, steps_fails, table_block, unsettled_data}
use Rattle.cartridge_laws.proofs.MountWriting.{unsettled_parity, solved_agree, IsAllWritten, all_written, same_written}
use Rattle.cartridge_laws.proofs.Sayings.{written_is_said}
use Rattle.cartridge_laws.proofs.Segments.{cells_of_whole, length-whole_cells}
use Rattle.cartridge_spec.specs.TableSegment.{table_cells, ReadsPlainly}
use Rattle.cartridge_spec.specs.Shape.{IsArea, sector_at, is_unreadable, usable_places}
use Rattle.cartridge_spec.specs.Says.{ReadsAll, Says, Data, Written, unreadable_count, whole_mask}
use Rattle.cartridge_spec.specs.Settling.{holds, writes_of, changed_by}
use Rattle.cartridge_laws.specs.TableCells.{is_unsettled}
use Rattle.qic_base.proofs.SectorsWritten.{torn_write}
use Rattle.qic_base.specs.Cartridge.{Cartridge, view_at, with_view}
use Rattle.qic_base.specs.Step.{write_sector, Wear, changed, Step, written_view, worn_view, Torn}
use Rattle.qic_base.specs.declared.tape.SectorView.{SectorView}
use Rattle.qic_base.specs.declared.tape.SectorView.TheVariants.{Blank, Defect, Lost, Holds}

-- ---- a fact that each write keeps, done or stopped

pub record IsKept (P : Cartridge → Type 0) (test : ℕ → Bool) (block : List (List ℕ)) : Type 0 where
  pub written : (i : ℕ) (d : Cartridge) → i < 32 → test i ≡ true → P d → P (changed (write_sector 2 i (sector_at block i)) d)
  pub worn : (i : ℕ) (d : Cartridge) → i < 32 → test i ≡ true → P d → P (changed (Wear 2 i) d)

first_stopped : (P : Cartridge → Type 0) (test : ℕ → Bool) (block : List (List ℕ)) (i : ℕ) (rest : List Step) (c : Cartridge)
    (left : Option Cartridge) → IsKept P test block → i < 32 → test i ≡ true → P c →
    (Torn rest (Some (changed (write_sector 2 i (sector_at block i)) c)) left → IsSomeAnd left P) →
    Torn (write_sector 2 i (sector_at block i) ∷ rest) (Some c) left → IsSomeAnd left P
first_stopped P test block i rest c left kept small passes holds then torn =
    elim (torn_write 2 i (sector_at block i) rest (Some c) left torn) [
      | inl before ↦ some_and P c left holds before
      | inr (inl worn) ↦ some_and P (changed (Wear 2 i) c) left (kept.worn i c small passes holds) worn
      | inr (inr behind) ↦ then behind
    ]

steps_stopped : (P : Cartridge → Type 0) (test : ℕ → Bool) (block : List (List ℕ)) (m from : ℕ) (c : Cartridge) (left : Option Cartridge) →
    IsKept P test block → from + m ≤ 32 → P c → Torn (steps_that test block from m) (Some c) left → IsSomeAnd left P
steps_stopped P test block zero from c left kept room holds torn =
    some_and P c left holds (subst (λ (ss : List Step). Torn ss (Some c) left) (steps_none test block from) torn)
steps_stopped P test block (suc m) from c left kept room holds torn =
    elim (cases_Bool (test from)) [
      | inl passes ↦
          first_stopped P test block from (steps_that test block (from + 1) m) c left kept (omega arith) passes holds
          (λ behind. steps_stopped P test block m (from + 1) (changed (write_sector 2 from (sector_at block from)) c) left kept
          (omega arith)
          (kept.written from c (omega arith) passes holds) behind)
          (subst (λ (ss : List Step). Torn ss (Some c) left) (steps_passes test block from m passes) torn)
      | inr fails ↦
          steps_stopped P test block m (from + 1) c left kept (omega arith) holds
          (subst (λ (ss : List Step). Torn ss (Some c) left) (steps_fails test block from m fails) torn)
    ]

pub some_both : (P Q : Cartridge → Type 0) (left : Option Cartridge) → IsSomeAnd left P → IsSomeAnd left Q → IsSomeAnd left (λ d. P d × Q d)
some_both P Q None p q = absurd p
some_both P Q (Some d) p q = (p, q)

-- ---- one sector changed

-- a change of a sector that leaves it as live as it was
pub record IsMild (f : SectorView → SectorView) : Type 0 where
  blank : f Blank ≡ Blank
  takes : (bytes : List ℕ) (view : SectorView) → written_view bytes (f view) ≡ written_view bytes view

written_twice : (bytes old : List ℕ) (view : SectorView) → written_view bytes (written_view old view) ≡ written_view bytes view
written_twice bytes old Blank = refl
written_twice bytes old Defect = refl
written_twice bytes old Lost = refl
written_twice bytes old (Holds held) = refl

written_worn : (bytes : List ℕ) (view : SectorView) → written_view bytes (worn_view view) ≡ written_view bytes view
written_worn bytes Blank = refl
written_worn bytes Defect = refl
written_worn bytes Lost = refl
written_worn bytes (Holds held) = refl

pub written_mild : (old : List ℕ) → IsMild (written_view old)
written_mild old = record { blank = refl; takes = λ bytes view. written_twice bytes old view }

pub worn_mild : IsMild worn_view
worn_mild = record { blank = refl; takes = written_worn }

abbrev with_change : Cartridge → (i : ℕ) → (SectorView → SectorView) → Cartridge
with_change d i f = with_view d 2 i (f (view_at d 2 i))

-- nothing but sectors of the table's segment changed, and each takes what is written to it as before
pub record IsOnTheWay (c d : Cartridge) : Type 0 where
  pub info : d.info ≡ c.info
  pub version : d.version ≡ c.version
  pub size : length d.views ≡ length c.views
  pub others : (s i : ℕ) → i < 32 → s ≢ 2 → view_at d s i ≡ view_at c s i
  pub takes : (i : ℕ) (bytes : List ℕ) → i < 32 → written_view bytes (view_at d 2 i) ≡ written_view bytes (view_at c 2 i)

pub way_begun : (c : Cartridge) → IsOnTheWay c c
way_begun c = record { info = refl; version = refl; size = refl; others = λ s i h apart. refl; takes = λ i bytes h. refl }

pub way_more : (c d : Cartridge) (i : ℕ) (f : SectorView → SectorView) → i < 32 → IsMild f → IsOnTheWay c d →
    IsOnTheWay c (with_change d i f)
way_more c d i f small mild way =
    let view : SectorView = f (view_at d 2 i) in
    record {
      info = way.info;
      version = way.version;
      size = length-set d.views (32 * 2 + i) view ∙ way.size;
      others = λ s j h apart.
          view_of_other_sector d 2 i s j view small h (λ same e. absurd (apart same)) ∙ way.others s j h apart;
      takes = λ j bytes h.
          elim (cases_eq j i) [
            | inl same ↦ subst (λ (k : ℕ). written_view bytes (view_at (with_change d i f) 2 k) ≡ written_view bytes (view_at c 2 k))
                (sym same)
                (ap (written_view bytes) (view_of_sector d 2 i f mild.blank) ∙ mild.takes bytes (view_at d 2 i) ∙ way.takes i bytes small)
            | inr apart ↦
                ap (written_view bytes) (view_of_other_sector d 2 i 2 j view small h (λ e same. apart (sym same)))
                ∙ way.takes j bytes h
          ];
    }

-- ---- where all data are read

record IsReadWay (c d : Cartridge) : Type 0 where
  way : IsOnTheWay c d
  kept : (i : ℕ) → i < 29 → view_at d 2 i ≡ view_at c 2 i

read_more : (c d : Cartridge) (i : ℕ) (f : SectorView → SectorView) → i < 32 → 29 ≤ i → IsMild f → IsReadWay c d →
    IsReadWay c (with_change d i f)
read_more c d i f small parity mild way = record {
  way = way_more c d i f small mild way.way;
  kept = λ j h.
      view_of_other_sector d 2 i 2 j (f (view_at d 2 i)) small (omega arith) (λ same e. absurd (omega arith)) ∙ way.kept j h;
}

-- only parity is written
only_parity : (c : Cartridge) (area : List (List ℕ)) (i : ℕ) → ReadsAll (table_cells c) area → i < 32 →
    is_unsettled c (table_block area) i ≡ true → 29 ≤ i
only_parity c area i reads small passes =
    elim (cases_lt i 29) [
      | inl data_sector ↦
          let here = reads.each i data_sector in
          let both : Some (view_at c 2 i) ≡ Some (Holds here.0) = sym (cells_of_whole c 2 i small) ∙ here.1 in
          let view : view_at c 2 i ≡ Holds here.0 = cc in
          absurd (true≢false (sym passes ∙ unsettled_data c (table_block area) i data_sector
          ∙ ap (λ (v : SectorView). is_unreadable v) view))
      | inr parity ↦ parity
    ]

read_kept : (c : Cartridge) (area : List (List ℕ)) → ReadsAll (table_cells c) area →
    IsKept (IsReadWay c) (is_unsettled c (table_block area)) (table_block area)
read_kept c area reads = record {
  written = λ i d small passes way.
      read_more c d i (written_view (sector_at (table_block area) i)) small (only_parity c area i reads small passes)
      (written_mild (sector_at (table_block area) i)) way;
  worn = λ i d small passes way. read_more c d i worn_view small (only_parity c area i reads small passes) worn_mild way;
}

reads_still : (c d : Cartridge) (area : List (List ℕ)) → ReadsAll (table_cells c) area → IsReadWay c d → ReadsAll (table_cells d) area
reads_still c d area reads way = record {
  size = reads.size;
  each = λ i h.
      let here = reads.each i h in (
        here.0,
        cells_of_whole d 2 i (omega arith) ∙ ap (λ (v : SectorView). Some v) (way.kept i h) ∙ sym (cells_of_whole c 2 i (omega arith))
            ∙ here.1,
        here.2,
      );
}

-- ---- where the code found them

record IsSolvedWay (block : List (List ℕ)) (c d : Cartridge) : Type 0 where
  way : IsOnTheWay c d
  agrees : (i : ℕ) (held : List ℕ) → i < 32 → view_at d 2 i ≡ Holds held → held ≡ sector_at block i
  kept : (i : ℕ) (held : List ℕ) → i < 32 → view_at c 2 i ≡ Holds held → view_at d 2 i ≡ Holds held

solved_more : (block : List (List ℕ)) (c d : Cartridge) (i : ℕ) (f : SectorView → SectorView) → i < 32 → IsMild f →
    ((view : SectorView) (held : List ℕ) → f view ≡ Holds held → held ≡ sector_at block i) →
    ((held : List ℕ) → view_at c 2 i ≡ Holds held → ⊥) → IsSolvedWay block c d → IsSolvedWay block c (with_change d i f)
solved_more block c d i f small mild right lost way =
    let view : SectorView = f (view_at d 2 i) in
    record {
      way = way_more c d i f small mild way.way;
      agrees = λ j held h is.
          elim (cases_eq j i) [
            | inl same ↦
                let here : view_at (with_change d i f) 2 i ≡ Holds held =
                subst (λ (k : ℕ). view_at (with_change d i f) 2 k ≡ Holds held) same is in
                right (view_at d 2 i) held (sym (view_of_sector d 2 i f mild.blank) ∙ here) ∙ ap (sector_at block) (sym same)
            | inr apart ↦
                way.agrees j held h (sym (view_of_other_sector d 2 i 2 j view small h (λ e same. apart (sym same))) ∙ is)
          ];
      kept = λ j held h is.
          elim (cases_eq j i) [
            | inl same ↦ absurd (lost held (subst (λ (k : ℕ). view_at c 2 k ≡ Holds held) same is))
            | inr apart ↦ view_of_other_sector d 2 i 2 j view small h (λ e same. apart (sym same)) ∙ way.kept j held h is
          ];
    }

pub written_right : (bytes : List ℕ) (view : SectorView) (held : List ℕ) → written_view bytes view ≡ Holds held → held ≡ bytes
written_right bytes Blank held is = absurd (cc)
written_right bytes Defect held is = absurd (cc)
written_right bytes Lost held is = cc
written_right bytes (Holds old) held is = cc

worn_right : (bytes : List ℕ) (view : SectorView) (held : List ℕ) → worn_view view ≡ Holds held → held ≡ bytes
worn_right bytes Blank held is = absurd (cc)
worn_right bytes Defect held is = absurd (cc)
worn_right bytes Lost held is = absurd (cc)
worn_right bytes (Holds old) held is = absurd (cc)

pub holds_same : (bytes : List ℕ) → not (holds (Holds bytes) bytes) ≡ false
holds_same bytes = ap (λ (b : Bool). not b) ((bytes_eq-Decides bytes bytes).1 refl)

-- only sectors are written that could not be read
only_lost : (c : Cartridge) (area : List (List ℕ)) (i : ℕ) (held : List ℕ) → Says (table_cells c) (Data area) → i < 32 →
    is_unsettled c (table_block area) i ≡ true → view_at c 2 i ≡ Holds held → ⊥
only_lost c area i held says small passes is =
    let bytes : List ℕ = sector_at (table_block area) i in
    let same : held ≡ bytes = solved_agree c area i held says small is in
    let view : view_at c 2 i ≡ Holds bytes = is ∙ ap (λ (b : List ℕ). Holds b) same in
    elim (cases_lt i 29) [
      | inl data_sector ↦
          true≢false (sym passes ∙ unsettled_data c (table_block area) i data_sector ∙ ap (λ (v : SectorView). is_unreadable v) view)
      | inr parity ↦
          true≢false (sym passes ∙ unsettled_parity c (table_block area) i parity
          ∙ ap (λ (v : SectorView). not (holds v bytes)) view ∙ holds_same bytes)
    ]

solved_kept : (c : Cartridge) (area : List (List ℕ)) → Says (table_cells c) (Data area) →
    IsKept (IsSolvedWay (table_block area) c) (is_unsettled c (table_block area)) (table_block area)
solved_kept c area says = record {
  written = λ i d small passes way.
      solved_more (table_block area) c d i (written_view (sector_at (table_block area) i)) small
      (written_mild (sector_at (table_block area) i))
      (written_right (sector_at (table_block area) i)) (λ held is. only_lost c area i held says small passes is) way;
  worn = λ i d small passes way.
      solved_more (table_block area) c d i worn_view small worn_mild
      (worn_right (sector_at (table_block area) i)) (λ held is. only_lost c area i held says small passes is) way;
}

solved_begun : (c : Cartridge) (area : List (List ℕ)) → Says (table_cells c) (Data area) → IsSolvedWay (table_block area) c c
solved_begun c area says = record {
  way = way_begun c;
  agrees = λ i held h is. solved_agree c area i held says h is;
  kept = λ i held h is. is;
}

pub block_written : (d : Cartridge) (area : List (List ℕ)) → length (table_block area) ≡ 32 →
    ((i : ℕ) (held : List ℕ) → i < 32 → view_at d 2 i ≡ Holds held → held ≡ sector_at (table_block area) i) → Written (table_cells d) area
block_written d area long agrees = record {
  size = long ∙ sym (length-whole_cells d 2);
  each = λ i held at.
      let is = held_view d 2 i held at in
      let within : i < 32 = is.within in
      slice_get-get_or (table_block area) i [] (omega arith)
      ∙ ap (λ (b : List ℕ). Some b) (sym (unwrap_or-slice_get (table_block area) i []) ∙ sym (agrees i held within is.view));
}

solved_still : (c d : Cartridge) (area : List (List ℕ)) → Says (table_cells c) (Data area) → length (table_block area) ≡ 32 →
    IsSolvedWay (table_block area) c d → Says (table_cells d) (Data area)
solved_still c d area says long way =
    let few : unreadable_count (table_cells c) ≤ 3 = says.0 in
    let fewer : unreadable_count (table_cells d) ≤ unreadable_count (table_cells c) =
    no_fewer_unreadable (table_cells d) (table_cells c) (length-whole_cells d 2 ∙ sym (length-whole_cells c 2))
    (λ i held at.
    let is = held_view c 2 i held at in
    view_held d 2 i held is.within (way.kept i held is.within is.view)) in
    let is_area : IsArea area = said_area c area says in
    let size : length area ≡ 29 = is_area.size in
    written_is_said (table_cells d) area (omega arith) (omega arith) is_area.sectors (block_written d area long way.agrees)
    (omega arith)

-- ---- a stop

-- where no readable sector was left out of account, none is after a stop among the writes of the others
pub plain_stopped : (c : Cartridge) (area : List (List ℕ)) (left : Option Cartridge) → ReadsPlainly c area →
    Torn (steps_that (is_unsettled c (table_block area)) (table_block area) 0 32) (Some c) left → IsSomeAnd left (λ d. ReadsPlainly d area)
plain_stopped c area left (inl reads) torn =
    some_weaker left (λ d way. inl (reads_still c d area reads way))
    (steps_stopped (IsReadWay c) (is_unsettled c (table_block area)) (table_block area) 32 0 c left (read_kept c area reads) (omega arith)
    (record { way = way_begun c; kept = λ i h. refl }) torn)
plain_stopped c area left (inr says) torn =
    some_weaker left (λ d way. inr (solved_still c d area says (length-block area (said_area c area says)) way))
    (steps_stopped (IsSolvedWay (table_block area) c) (is_unsettled c (table_block area)) (table_block area) 32 0 c left
    (solved_kept c area says) (omega arith) (solved_begun c area says) torn)

-- ---- settling after it

way_written : (block : List (List ℕ)) (c d e : Cartridge) → IsOnTheWay c d → IsAllWritten block d e → IsAllWritten block c e
way_written block c d e way written = record {
  info = written.info ∙ way.info;
  version = written.version ∙ way.version;
  size = written.size ∙ way.size;
  table = λ i h. written.table i h ∙ way.takes i (sector_at block i) h;
  others = λ s i h apart. written.others s i h apart ∙ way.others s i h apart;
}

pub open_alike : (block : List (List ℕ)) (c d : Cartridge) → length block ≡ 32 → IsOnTheWay c d →
    changed_by (writes_of 2 (usable_places whole_mask) block) d ≡ changed_by (writes_of 2 (usable_places whole_mask) block) c
open_alike block c d long way =
    same_written block c _ _ (way_written block c d _ way (all_written block d long)) (all_written block c long)
