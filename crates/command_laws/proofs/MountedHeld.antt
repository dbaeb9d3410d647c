-- What settling, worn sectors and scrubs leave of a mounted cartridge that stands for a plain one.
use Rattle.std.proofs.Common.{◌≡◌, ℕ, false, List, subst, sym, ap, ◌∙◌, Bool, true, cond, refl, inl, inr}
use Rattle.std.proofs.Common.{◌<◌}
use Rattle.cartridge_laws.proofs.AppendVolume.{old_order}
use Rattle.cartridge_laws.proofs.ChangeStanding.{worn_stands}
use Rattle.cartridge_laws.proofs.ChangeViews.{one_view}
use Rattle.cartridge_laws.proofs.MountSettled.{settled_keeps_table, settled_stands, settled_is_whole}
use Rattle.cartridge_laws.proofs.MountSettles.{settling_settles}
use Rattle.cartridge_laws.proofs.MountStanding.{standing_data}
use Rattle.cartridge_laws.proofs.MountWhole.{settled_is_cartridge}
use Rattle.cartridge_laws.proofs.Segments.{view_of_cartridge}
use Rattle.cartridge_laws.proofs.Whole.{with_view_whole, worn_is_view}
use Rattle.cartridge_laws.specs.Table.{IsSoundList}
use Rattle.cartridge_spec.specs.TableSegment.{TableIs, IsTableLive}
use Rattle.cartridge_spec.specs.HeaderCopies.{last_segment}
use Rattle.cartridge_spec.specs.Mounting.{settled, Mounts, mounted_as}
use Rattle.cartridge_spec.specs.Says.{whole_mask, with_parity}
use Rattle.cartridge_spec.specs.Settling.{changed_by, settling_steps, writes_of}
use Rattle.cartridge_spec.specs.Shape.{IsLive, usable_places}
use Rattle.cartridge_spec.specs.Volumes.{Plain, Stands, entries_of, worn, WearSpares}
use Rattle.command_laws.proofs.MountedKeeping.{mended_live}
use Rattle.command_laws.proofs.ScrubDone.{done_being_mended}
use Rattle.command_laws.proofs.ScrubMending.{done_scrub_is_cartridge}
use Rattle.command_laws.proofs.ScrubMounted.{done_scrub_stands}
use Rattle.command_laws.proofs.ScrubPlain.{as_plain}
use Rattle.command_laws.specs.MountedHeld.{IsHeld}
use Rattle.command_laws.specs.MountedKept.{IsOpen}
use Rattle.command_spec.specs.Scrub.{ScrubsAs}
use Rattle.command_spec.specs.declared.depth.Depth.TheVariants.{Shallow}
use Rattle.qic_base.specs.Acts.{Act, steps_of}
use Rattle.qic_base.specs.Cartridge.{Cartridge, view_at}
use Rattle.qic_base.specs.CartridgeTerms.{IsCartridge}
use Rattle.qic_base.specs.Step.{worn_view}
use Rattle.qic_base.specs.declared.tape.TapeInfo.{TapeInfo}
use Rattle.cartridge_laws.proofs.ChangeLive.{worn_live}

-- ---- where the table reads

pub held_open : (c : Cartridge) (plain : Plain) (table : List (List ℕ)) → IsHeld c plain → TableIs c table → c.info.protected ≡ false →
    IsOpen c plain
held_open c plain table held reads free = record {
  cartridge = held.cartridge;
  stands = held.stands;
  table = subst (TableIs c) (standing_data c plain table held.stands reads) reads;
  unprotected = free;
}

pub open_held : (c : Cartridge) (plain : Plain) → IsOpen c plain → IsHeld c plain
open_held c plain held = record { cartridge = held.cartridge; stands = held.stands }

-- it is settled
pub settled_held : (c : Cartridge) (plain : Plain) → IsOpen c plain → IsHeld (changed_by (settling_steps plain.table_area c) c) plain
settled_held c plain held =
    subst (λ (d : Cartridge). IsHeld d plain) (sym (settling_settles c plain.table_area held.table)) (record {
      cartridge = settled_is_cartridge c plain.table_area held.cartridge held.table;
      stands = settled_stands c plain plain.table_area held.stands held.table;
    })

-- each sector of the table's segment takes a write still
pub settled_live : (c : Cartridge) (area : List (List ℕ)) → TableIs c area → IsTableLive c → IsTableLive (settled area c)
settled_live c area reads live = by_mark c.info.protected refl
  where
    by_mark : (b : Bool) → c.info.protected ≡ b → IsTableLive (settled area c)
    by_mark true locked =
        subst IsTableLive (sym (ap (λ (b : Bool). cond b c (changed_by (writes_of 2 (usable_places whole_mask) (with_parity area)) c))
        locked)) live
    by_mark false free = λ i h. subst IsLive (sym (settled_is_whole c area i reads free live h)) tt

pub settling_live : (c : Cartridge) (plain : Plain) → IsOpen c plain → IsTableLive c →
    IsTableLive (changed_by (settling_steps plain.table_area c) c)
settling_live c plain held live =
    subst IsTableLive (sym (settling_settles c plain.table_area held.table)) (settled_live c plain.table_area held.table live)

-- ---- where it was just mounted

pub mounted_held : (c : Cartridge) (plain : Plain) → IsCartridge c → Stands c plain → Mounts c (mounted_as plain) →
    IsHeld (settled plain.table_area c) plain
mounted_held c plain whole stood mounts = record {
  cartridge = settled_is_cartridge c plain.table_area whole mounts.reads;
  stands = settled_stands c plain plain.table_area stood mounts.reads;
}

-- and it is not protected
pub mounted_open : (c : Cartridge) (plain : Plain) → IsCartridge c → Stands c plain → Mounts c (mounted_as plain) →
    c.info.protected ≡ false →
    IsOpen (settled plain.table_area c) plain
mounted_open c plain whole stood mounts free =
    let keeps = settled_keeps_table c plain.table_area mounts.reads in
    held_open (settled plain.table_area c) plain plain.table_area (mounted_held c plain whole stood mounts) keeps.table
    (ap (λ (i : TapeInfo). i.protected) keeps.info ∙ free)

-- ---- a worn sector

live_still : (c : Cartridge) (segment sector s i : ℕ) → IsLive (view_at c s i) → IsLive (view_at (worn segment sector c) s i)
live_still c segment sector s i live =
    elim (one_view c segment sector worn_view s i) [
      | inl same ↦ subst IsLive (sym same) live
      | inr here ↦ subst IsLive (sym here) (worn_live (view_at c s i) live)
    ]

pub worn_held : (c : Cartridge) (plain : Plain) (segment sector : ℕ) → IsHeld c plain → sector < 32 → WearSpares c plain segment sector →
    IsHeld (worn segment sector c) plain
worn_held c plain segment sector held small spares = record {
  cartridge = with_view_whole c segment sector (worn_view (view_at c segment sector)) held.cartridge
      (worn_is_view (view_at c segment sector) (view_of_cartridge c segment sector held.cartridge));
  stands = worn_stands c plain segment sector small held.stands spares;
}

pub worn_is_live : (c : Cartridge) (segment sector : ℕ) → IsTableLive c → IsTableLive (worn segment sector c)
worn_is_live c segment sector live i h = live_still c segment sector 2 i (live i h)

-- ---- a scrub

pub scrubbed_held : (c : Cartridge) (plain : Plain) (acts : List Act) → IsHeld c plain →
    ScrubsAs Shallow c plain.words (entries_of plain) acts → IsHeld (changed_by (steps_of acts) c) plain
scrubbed_held c plain acts held scrubs =
    let plainly = as_plain c plain.words (entries_of plain) acts scrubs in
    let order : IsSoundList (last_segment c) (entries_of plain) = old_order c plain held.stands in
    let mended = done_being_mended c plain.words (entries_of plain) (last_segment c) acts order plainly in
    record {
      cartridge = done_scrub_is_cartridge c plain.words (entries_of plain) acts held.cartridge plainly;
      stands = done_scrub_stands c plain acts held.stands plainly;
    }

pub scrubbed_live : (c : Cartridge) (plain : Plain) (acts : List Act) → IsHeld c plain →
    ScrubsAs Shallow c plain.words (entries_of plain) acts → IsTableLive c → IsTableLive (changed_by (steps_of acts) c)
scrubbed_live c plain acts held scrubs =
    mended_live c (changed_by (steps_of acts) c) plain
    (done_being_mended c plain.words (entries_of plain) (last_segment c) acts (old_order c plain held.stands)
    (as_plain c plain.words (entries_of plain) acts scrubs))
