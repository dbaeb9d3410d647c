-- What comes between an append and the loss of one sector more, step by step.
use Rattle.std.proofs.Common.{◌≡◌, ◌≢◌, ◌∙◌, ◌⊎◌, ◌<◌, ◌≤◌, ◌+◌, ◌*◌, ◌==◌, nat_lt, if◌then◌else◌, ℕ, List, Bool, true, false, inl, inr, ap}
use Rattle.std.proofs.Common.{sym, subst, refl, arith, length, get_or}
use Rattle.std.proofs.lemmas.Bool.{cases_Bool, cases_lt, eqb-true, eqb-false, le-ltb, lt-ltb}
use Rattle.std.proofs.lemmas.List.{get_or-set_same, length-set, set_past}
use Rattle.std.proofs.lemmas.Option.{unwrap_or-slice_get}
use Rattle.cartridge_laws.proofs.ChangeMounted.{protected_mounts}
use Rattle.cartridge_laws.proofs.ChangeStanding.{spoiled_stands, worn_stands}
use Rattle.cartridge_laws.proofs.ChangeViews.{one_view, view_of_other}
use Rattle.cartridge_laws.proofs.FormatStanding.{same_cells}
use Rattle.cartridge_laws.proofs.FormatViews.{view_of_other_sector, view_of_sector}
use Rattle.cartridge_laws.proofs.MountSettled.{settled_keeps_table}
use Rattle.cartridge_laws.proofs.MountWriting.{length-writes_of}
use Rattle.cartridge_laws.proofs.OneLossComesBack.{table_alone_comes_back}
use Rattle.cartridge_spec.specs.TableSegment.{TableIs, IsTableLive, LosesOneAlone}
use Rattle.cartridge_spec.specs.Mounting.{Mounts, mounted_as, settled, ComesBackAs}
use Rattle.cartridge_spec.specs.Says.{AsRead, ByCode, Data, TableSays, whole_mask, with_parity}
use Rattle.cartridge_spec.specs.Settling.{changed_by, writes_of}
use Rattle.cartridge_spec.specs.Shape.{IsLive, usable_places}
use Rattle.cartridge_spec.specs.Volumes.{Plain, Stands, entries_of, worn}
use Rattle.command_laws.specs.Between.{ComesBackOnceFree, FreeMayComeBack, MountsWhileProtected, StepsBetweenCarryOn, without_mark}
use Rattle.command_spec.specs.OneLoss.{ComesBackAsOneOf}
use Rattle.qic_base.specs.Cartridge.{Cartridge, view_at, with_view}
use Rattle.qic_base.specs.Step.{FormatSegment, Renew, SetProtected, SetReferenced, Spoil, Upgrade, Wear, WriteSectors, changed}
use Rattle.qic_base.specs.Step.{spoiled_view, worn_view}
use Rattle.qic_base.specs.declared.tape.SectorView.{SectorView}
use Rattle.qic_base.specs.declared.tape.SectorView.TheVariants.{Blank, Defect, Holds, Lost}
use Rattle.qic_base.specs.declared.tape.TapeInfo.{TapeInfo}

-- ---- a sector that is lost besides

-- one that takes writes is lost
lost_now : (view : SectorView) → IsLive view → worn_view view ≡ Lost
lost_now Blank live = absurd live
lost_now Defect live = absurd live
lost_now Lost live = refl
lost_now (Holds bytes) live = refl

pub loses_one : (c : Cartridge) (lost : ℕ) → IsTableLive c → lost < 32 → LosesOneAlone c (worn 2 lost c) lost
loses_one c lost live small = record {
  loses = record {
    within = small;
    here = view_of_sector c 2 lost worn_view refl ∙ lost_now (view_at c 2 lost) (live lost small);
    others = λ i h apart. view_of_other_sector c 2 lost 2 i (worn_view (view_at c 2 lost)) small h (λ same one. apart (sym one));
  };
  alone = record {
    info = refl;
    others = λ s i h apart. view_of_other c 2 lost s i (worn_view (view_at c 2 lost)) small h apart;
  };
}

-- ---- a sector outside the table's segment that is changed

abbrev pub touched : (change : SectorView → SectorView) (segment sector : ℕ) → Cartridge → Cartridge
touched change segment sector c = with_view c segment sector (change (view_at c segment sector))

-- the sector's view behind that, where so many are there
touched_here : (change : SectorView → SectorView) (c : Cartridge) (s i : ℕ) → view_at (touched change s i c) s i ≡
    (if nat_lt (32 * s + i) (length c.views) then change (view_at c s i) else view_at c s i)
touched_here change c s i =
    let p : ℕ = 32 * s + i in
    unwrap_or-slice_get (touched change s i c).views p Blank
    ∙ elim (cases_lt p (length c.views)) [
      | inl within ↦
          get_or-set_same c.views p (change (view_at c s i)) Blank within
          ∙ ap (λ (b : Bool). if b then change (view_at c s i) else view_at c s i) (sym (lt-ltb p (length c.views) within))
      | inr past ↦
          ap (λ (views : List SectorView). get_or views p Blank) (set_past c.views p (change (view_at c s i)) past)
          ∙ sym (unwrap_or-slice_get c.views p Blank)
          ∙ ap (λ (b : Bool). if b then change (view_at c s i) else view_at c s i) (sym (le-ltb p (length c.views) past))
    ]

-- it is the same of two cartridges with as many views, of which the sector is the same
pub touched_alike : (change : SectorView → SectorView) (c d : Cartridge) (segment sector s i : ℕ) → sector < 32 → i < 32 →
    length c.views ≡ length d.views →
    view_at c s i ≡ view_at d s i → view_at (touched change segment sector c) s i ≡ view_at (touched change segment sector d) s i
touched_alike change c d segment sector s i small low long same =
    elim (cases_Bool (s == segment)) [
      | inl there ↦ elim (cases_Bool (sector == i)) [
        | inl here ↦
            let is : segment ≡ s = sym (eqb-true s segment there) in
            let at : sector ≡ i = eqb-true sector i here in
            subst (λ (n : ℕ). view_at (touched change n sector c) s i ≡ view_at (touched change n sector d) s i) (sym is)
            (subst (λ (n : ℕ). view_at (touched change s n c) s i ≡ view_at (touched change s n d) s i) (sym at)
            (touched_here change c s i
            ∙ ap (λ (n : ℕ). if nat_lt (32 * s + i) n then change (view_at c s i) else view_at c s i) long
            ∙ ap (λ (view : SectorView). if nat_lt (32 * s + i) (length d.views) then change view else view) same
            ∙ sym (touched_here change d s i)))
        | inr elsewhere ↦ beside (λ one at. let no : sector ≢ i = eqb-false sector i elsewhere in no at)
      ]
      | inr elsewhere ↦ beside (λ one at. let no : s ≢ segment = eqb-false s segment elsewhere in no one)
    ]
  where
    beside : (s ≡ segment → sector ≡ i → ⊥) → view_at (touched change segment sector c) s i ≡ view_at (touched change segment sector d) s i
    beside apart =
        view_of_other_sector c segment sector s i (change (view_at c segment sector)) small low apart ∙ same
        ∙ sym (view_of_other_sector d segment sector s i (change (view_at d segment sector)) small low apart)

pub settled_long : (area : List (List ℕ)) (c : Cartridge) → length (settled area c).views ≡ length c.views
settled_long area c = by_mark c.info.protected
  where
    by_mark : (mark : Bool) → length (if mark then c else changed_by (writes_of 2 (usable_places whole_mask) (with_parity area)) c).views ≡
        length c.views
    by_mark true = refl
    by_mark false = length-writes_of (usable_places whole_mask) (with_parity area) 2 c

-- it leaves the sectors of the table's segment
abbrev pub LeavesTable : Cartridge → Cartridge → Type 0
LeavesTable c d = (i : ℕ) → i < 32 → view_at d 2 i ≡ view_at c 2 i

-- what comes back without the change comes back with it, where what stands still does
module _ (change : SectorView → SectorView) (c : Cartridge) (segment sector : ℕ) (small : sector < 32) (live : IsTableLive c)
    (free : c.info.protected ≡ false)
    (stays : LeavesTable c (touched change segment sector c))
    (stands : (d : Cartridge) (plain : Plain) → Stands d plain → Stands (touched change segment sector d) plain) where
  touched_as : (f : Cartridge) (lost : ℕ) (plain : Plain) → LosesOneAlone (touched change segment sector c) f lost →
      ComesBackAs (worn 2 lost c) plain → ComesBackAs f plain
  touched_as f lost plain loses comes =
      let without : Cartridge = worn 2 lost c in
      let known = loses_one c lost live loses.loses.within in
      let still : Cartridge = settled plain.table_area without in
      let keeps = settled_keeps_table without plain.table_area comes.mounts.reads in
      let long : length c.views ≡ length still.views =
      sym (settled_long plain.table_area without ∙ length-set c.views (32 * 2 + lost) (worn_view (view_at c 2 lost))) in
      let stood : Stands (touched change segment sector still) plain = stands still plain (comes.stands free) in
      let same : (i : ℕ) → i < 32 → view_at f 2 i ≡ view_at without 2 i =
      λ i h. elim (cases_Bool (i == lost)) [
        | inl here ↦
            let at : i ≡ lost = eqb-true i lost here in
            subst (λ (n : ℕ). view_at f 2 n ≡ view_at without 2 n) (sym at) (loses.loses.here ∙ sym known.loses.here)
        | inr elsewhere ↦
            let apart : i ≢ lost = eqb-false i lost elsewhere in
            loses.loses.others i h apart ∙ stays i h ∙ sym (known.loses.others i h apart)
      ] in
      let table : TableIs f plain.table_area =
      subst (λ (cells : List SectorView). TableSays cells (AsRead plain.table_area) ⊎ TableSays cells (ByCode (Data plain.table_area)))
      (sym (same_cells without f 2 whole_mask same)) comes.mounts.reads in
      table_alone_comes_back (touched change segment sector still) f plain stood
      (record {
        info = loses.alone.info ∙ sym keeps.info;
        others = λ s i h apart.
            loses.alone.others s i h apart
            ∙ touched_alike change c still segment sector s i small h long
            (sym (keeps.others s i h apart ∙ known.alone.others s i h apart));
      })
      table

  touched_may : (one other : Plain) → ComesBackAsOneOf one other c → ComesBackAsOneOf one other (touched change segment sector c)
  touched_may one other comes f lost loses =
      elim (comes (worn 2 lost c) lost (loses_one c lost live loses.loses.within)) [
        | inl first ↦ inl (touched_as f lost one loses first)
        | inr next ↦ inr (touched_as f lost other loses next)
      ]

-- a worn sector behind the table's segment leaves that
pub worn_leaves : (c : Cartridge) (segment sector : ℕ) → 3 ≤ segment → sector < 32 → LeavesTable c (worn segment sector c)
worn_leaves c segment sector behind small i h =
    view_of_other c segment sector 2 i (worn_view (view_at c segment sector)) small h (λ is. let low : segment ≡ 2 = sym is in omega arith)

-- so does a further defect anywhere, for no sector that takes writes becomes one
live_stays : (view : SectorView) → IsLive view → spoiled_view view ≡ view
live_stays Blank live = absurd live
live_stays Defect live = absurd live
live_stays Lost live = refl
live_stays (Holds bytes) live = refl

pub spoiled_leaves : (c : Cartridge) (segment sector : ℕ) → IsTableLive c → LeavesTable c (changed (Spoil segment sector) c)
spoiled_leaves c segment sector live i h =
    elim (one_view c segment sector spoiled_view 2 i) [
      | inl stays ↦ stays
      | inr is ↦ is ∙ live_stays (view_at c 2 i) (live i h)
    ]

-- ---- the steps

on_info : (c d : Cartridge) (one other : Plain) → d.views ≡ c.views → d.info ≡ c.info → ComesBackAsOneOf one other c →
    ComesBackAsOneOf one other d
on_info c d one other views info comes f lost loses =
    let same : (s i : ℕ) → view_at d s i ≡ view_at c s i = λ s i. ap (λ (vs : List SectorView). view_at (record c { views = vs }) s i) views
    in
    comes f lost (record {
      loses = record {
        within = loses.loses.within;
        here = loses.loses.here;
        others = λ i h apart. loses.loses.others i h apart ∙ same 2 i;
      };
      alone = record { info = loses.alone.info ∙ info; others = λ s i h apart. loses.alone.others s i h apart ∙ same s i };
    })

pub steps_between_carry_on : StepsBetweenCarryOn
steps_between_carry_on (SetProtected on) c one other between may = record { comes = may.comes; live = may.live }
steps_between_carry_on Upgrade c one other between may = record {
  comes = on_info (without_mark c) (without_mark (changed Upgrade c)) one other refl refl may.comes;
  live = may.live;
}
steps_between_carry_on SetReferenced c one other between may = record {
  comes = on_info (without_mark c) (without_mark (changed SetReferenced c)) one other refl
      (ap (λ (b : Bool). record c.info { referenced = b; protected = false }) (sym between)) may.comes;
  live = may.live;
}
steps_between_carry_on (Wear segment sector) c one other (behind, small) may =
    let d : Cartridge = without_mark c in
    let stays = worn_leaves d segment sector behind small in
    record {
      comes = touched_may worn_view d segment sector small may.live refl stays
          (λ e plain stood. worn_stands e plain segment sector small stood (inl behind)) one other may.comes;
      live = λ i h. subst IsLive (sym (stays i h)) (may.live i h);
    }
steps_between_carry_on (Spoil segment sector) c one other small may =
    let d : Cartridge = without_mark c in
    let stays = spoiled_leaves d segment sector may.live in
    record {
      comes = touched_may spoiled_view d segment sector small may.live refl stays
          (λ e plain stood. spoiled_stands e plain segment sector stood) one other may.comes;
      live = λ i h. subst IsLive (sym (stays i h)) (may.live i h);
    }
steps_between_carry_on (WriteSectors segment new) c one other between may = absurd between
steps_between_carry_on (FormatSegment segment) c one other between may = absurd between
steps_between_carry_on (Renew n) c one other between may = absurd between

-- ---- the mark

pub freed : (c : Cartridge) → c.info.protected ≡ false → c.info ≡ (without_mark c).info
freed c free = ap (λ (b : Bool). record c.info { protected = b }) free

pub comes_back_once_free : ComesBackOnceFree
comes_back_once_free c one other free may = on_info (without_mark c) c one other refl (freed c free) may.comes

pub free_may_come_back : FreeMayComeBack
free_may_come_back c one other free live comes = record {
  comes = on_info c (without_mark c) one other refl (sym (freed c free)) comes;
  live = live;
}

pub marked : (f : Cartridge) (plain : Plain) → Mounts (without_mark f) (mounted_as plain) → Mounts f (mounted_as plain)
marked f plain mounts = protected_mounts (without_mark f) f.info.protected plain.header plain.words plain.table_area
    (entries_of plain) mounts

pub mounts_while_protected : MountsWhileProtected
mounts_while_protected c f one other lost may loses =
    elim (may.comes (without_mark f) lost (record {
      loses = record { within = loses.loses.within; here = loses.loses.here; others = loses.loses.others };
      alone = record { info = ap (λ (i : TapeInfo). record i { protected = false }) loses.alone.info; others = loses.alone.others };
    })) [
      | inl first ↦ inl (marked f one first.mounts)
      | inr next ↦ inr (marked f other next.mounts)
    ]
