-- What worn sectors and scrubs leave of a cartridge that stands for a plain one, and a stop between acts.
use Rattle.std.proofs.Common.{◌≡◌, List, ◌++◌, ap, ◌∙◌, ◌⊎◌, inl, inr, Option, Some, sym, subst, arith, ℕ, ◌<◌, ◌≤◌, ◌≢◌, length, true}
use Rattle.cartridge_laws.proofs.AppendVolume.{old_order}
use Rattle.cartridge_laws.proofs.ChangeStanding.{other_cells, worn_stands}
use Rattle.cartridge_laws.proofs.ChangeViews.{view_of_other}
use Rattle.cartridge_laws.proofs.FormatWriting.{changed_by-append, effects-some}
use Rattle.cartridge_laws.proofs.Segments.{view_of_cartridge}
use Rattle.cartridge_laws.proofs.Whole.{with_view_whole, worn_is_view}
use Rattle.cartridge_laws.specs.AppendLaws.{IsAppendable, MayAppend}
use Rattle.cartridge_laws.specs.Table.{IsSoundList}
use Rattle.cartridge_spec.specs.Appending.{Content, has_room}
use Rattle.cartridge_spec.specs.HeaderCopies.{last_segment}
use Rattle.cartridge_spec.specs.TableSegment.{IsTableLive}
use Rattle.cartridge_spec.specs.Says.{Data, AsRead, ByCode, TableSays}
use Rattle.cartridge_spec.specs.Settling.{changed_by}
use Rattle.cartridge_spec.specs.Shape.{IsLive}
use Rattle.cartridge_spec.specs.Volumes.{Plain, entries_of, worn, WearSpares}
use Rattle.command_laws.proofs.ScrubDone.{done_being_mended}
use Rattle.command_laws.proofs.ScrubMending.{done_scrub_is_cartridge}
use Rattle.command_laws.proofs.ScrubMounted.{done_scrub_stands, done_scrub_table}
use Rattle.command_laws.proofs.ScrubPlain.{as_plain}
use Rattle.command_laws.specs.MountedKept.{IsOpen, IsKept, WearsLeaveOpen, ScrubsLeaveOpen}
use Rattle.command_laws.specs.ScrubMended.{IsBeingMended}
use Rattle.command_spec.specs.Scrub.{looked_at, ScrubsAs}
use Rattle.command_spec.specs.declared.depth.Depth.TheVariants.{Shallow}
use Rattle.qic_base.proofs.Joins.{steps_of-append}
use Rattle.qic_base.proofs.Steps.{Torn-append}
use Rattle.qic_base.specs.Acts.{Act, steps_of}
use Rattle.qic_base.specs.Cartridge.{Cartridge, view_at}
use Rattle.qic_base.specs.Step.{Step, worn_view, Torn}
use Rattle.qic_base.specs.declared.tape.SectorView.{SectorView}
use Rattle.qic_base.specs.declared.tape.TapeInfo.{TapeInfo}

-- ---- acts one after the other

pub changed_by_acts : (xs ys : List Act) (c : Cartridge) → changed_by (steps_of (xs ++ ys)) c ≡ changed_by (steps_of ys)
    (changed_by (steps_of xs) c)
changed_by_acts xs ys c =
    ap (λ (steps : List Step). changed_by steps c) (steps_of-append xs ys) ∙ changed_by-append (steps_of xs) (steps_of ys) c

-- a stop among the steps of two lists of acts
pub acts_stopped : (first rest acts : List Act) (c : Cartridge) (left : Option Cartridge) → first ++ rest ≡ acts →
    Torn (steps_of acts) (Some c) left →
    Torn (steps_of first) (Some c) left ⊎ Torn (steps_of rest) (Some (changed_by (steps_of first) c)) left
acts_stopped first rest acts c left parts torn =
    elim (Torn-append (steps_of first) (steps_of rest) (Some c) left
    (subst (λ (steps : List Step). Torn steps (Some c) left) (sym (ap steps_of parts) ∙ steps_of-append first rest) torn)) [
      | inl front ↦ inl front
      | inr behind ↦ inr (subst (λ (held : Option Cartridge). Torn (steps_of rest) held left) (effects-some (steps_of first) c) behind)
    ]

-- ---- what is kept

pub kept_open : (c : Cartridge) (plain : Plain) → IsKept c plain → IsOpen c plain
kept_open c plain held = record {
  cartridge = held.cartridge;
  stands = held.stands;
  table = held.table;
  unprotected = held.unprotected;
}

pub live_kept : (c : Cartridge) (plain : Plain) → IsOpen c plain → IsTableLive c → IsKept c plain
live_kept c plain held live = record {
  cartridge = held.cartridge;
  stands = held.stands;
  table = held.table;
  live = live;
  unprotected = held.unprotected;
}

-- what has room may be appended
pub kept_may : {c : Cartridge} {plain : Plain} {content : Content} → IsKept c plain → has_room plain (length content.bytes) ≡ true →
    IsAppendable content → MayAppend c plain content
kept_may held room named = record {
  may = record { cartridge = held.cartridge; stands = held.stands; room = room; appendable = named };
  table = held.table;
  live = held.live;
  unprotected = held.unprotected;
}

-- a sector that is worn outside the table's segment, and spares the header
spared_open : (c : Cartridge) (plain : Plain) (segment sector : ℕ) → IsOpen c plain → WearSpares c plain segment sector → segment ≢ 2 →
    sector < 32 → IsOpen (worn segment sector c) plain
spared_open c plain segment sector held spares other small = record {
  cartridge = with_view_whole c segment sector (worn_view (view_at c segment sector)) held.cartridge
      (worn_is_view (view_at c segment sector) (view_of_cartridge c segment sector held.cartridge));
  stands = worn_stands c plain segment sector small held.stands spares;
  table = subst (λ (cells : List SectorView). TableSays cells (AsRead plain.table_area) ⊎ TableSays cells (ByCode (Data plain.table_area)))
      (sym (other_cells c segment sector 2 small (λ is. other (sym is)))) held.table;
  unprotected = held.unprotected;
}

-- behind it
pub lies_apart : (segment : ℕ) → 3 ≤ segment → segment ≢ 2
lies_apart segment behind is = omega arith

pub worn_open : WearsLeaveOpen
worn_open c plain segment sector held behind small = spared_open c plain segment sector held (inl behind) (lies_apart segment behind) small

pub spared_kept : (c : Cartridge) (plain : Plain) (segment sector : ℕ) → IsKept c plain → WearSpares c plain segment sector → segment ≢ 2 →
    sector < 32 → IsKept (worn segment sector c) plain
spared_kept c plain segment sector held spares other small =
    live_kept (worn segment sector c) plain (spared_open c plain segment sector (kept_open c plain held) spares other small)
    (λ i h. subst IsLive (sym (view_of_other c segment sector 2 i (worn_view (view_at c segment sector)) small h (λ is. other (sym is))))
    (held.live i h))

pub worn_kept : (c : Cartridge) (plain : Plain) (segment sector : ℕ) → IsKept c plain → 3 ≤ segment → sector < 32 →
    IsKept (worn segment sector c) plain
worn_kept c plain segment sector held behind small =
    spared_kept c plain segment sector held (inl behind) (lies_apart segment behind) small

-- a scrub leaves live sectors live
pub mended_live : (c d : Cartridge) (plain : Plain) → IsBeingMended (looked_at plain.words (entries_of plain)) c d → IsTableLive c →
    IsTableLive d
mended_live c d plain mended live i h = elim (mended.each 2 i h) [
  | inl same ↦ subst IsLive (sym same) (live i h)
  | inr (block, is, was, now) ↦ subst IsLive (sym now) tt
]

pub scrubbed_open : ScrubsLeaveOpen
scrubbed_open c plain acts held scrubs =
    let plainly = as_plain c plain.words (entries_of plain) acts scrubs in
    let order : IsSoundList (last_segment c) (entries_of plain) = old_order c plain held.stands in
    let mended = done_being_mended c plain.words (entries_of plain) (last_segment c) acts order plainly in
    record {
      cartridge = done_scrub_is_cartridge c plain.words (entries_of plain) acts held.cartridge plainly;
      stands = done_scrub_stands c plain acts held.stands plainly;
      table = done_scrub_table c plain.words (entries_of plain) (last_segment c) acts plain.table_area order plainly held.table;
      unprotected = ap (λ (i : TapeInfo). i.protected) mended.info ∙ held.unprotected;
    }

pub scrubbed_kept : (c : Cartridge) (plain : Plain) (acts : List Act) → IsKept c plain →
    ScrubsAs Shallow c plain.words (entries_of plain) acts → IsKept (changed_by (steps_of acts) c) plain
scrubbed_kept c plain acts held scrubs =
    let d : Cartridge = changed_by (steps_of acts) c in
    let order : IsSoundList (last_segment c) (entries_of plain) = old_order c plain held.stands in
    live_kept d plain (scrubbed_open c plain acts (kept_open c plain held) scrubs)
    (mended_live c d plain (done_being_mended c plain.words (entries_of plain) (last_segment c) acts order
    (as_plain c plain.words (entries_of plain) acts scrubs)) held.live)
