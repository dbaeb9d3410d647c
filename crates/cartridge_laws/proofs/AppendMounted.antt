-- What an append leaves, done or stopped, is mounted as what it stands for, and its header copies are as they were.
use Rattle.std.proofs.Common.{ℕ, ◌≤◌, ◌<◌, List, arith, ◌≡◌, ◌⊎◌, sym, subst, refl, inl, inr, Contains, length, Option, Some, IsSomeAnd}
use Rattle.std.proofs.Common.{◌∙◌}
use Rattle.std.proofs.lemmas.List.Elements.{All-weaker, All-contains_itself, Contains-get_or}
use Rattle.cartridge_laws.proofs.AppendDead.{settled_kept}
use Rattle.cartridge_laws.proofs.AppendDone.{IsReadAs, done_stands, done_is_settled_for, either_of, stopped_reads, stopped_append}
use Rattle.cartridge_laws.proofs.MountStops.{some_both}
use Rattle.cartridge_laws.proofs.AppendKeeping.{AreIn, in_append, parts_of_segments, IsKeptBut, steps_kept, steps_stopped, AllowsUsable}
use Rattle.cartridge_laws.proofs.AppendKeeping.{parts_in}
use Rattle.cartridge_laws.proofs.AppendTable.{ready_count}
use Rattle.cartridge_laws.proofs.AppendVolume.{last_end_least, ready_taken, taken_behind, free_writes_stand}
use Rattle.cartridge_laws.proofs.AppendWhole.{sector_writes_are_cartridge}
use Rattle.cartridge_laws.proofs.FormatStanding.{same_cells}
use Rattle.cartridge_laws.proofs.FormatWriting.{some_weaker}
use Rattle.cartridge_laws.proofs.MountStanding.{can_be_read, standing_mounts}
use Rattle.cartridge_laws.specs.AppendLaws.{StoppedAppendMounts, StoppedAppendIsClean, append_steps_of, AppendTouchesOnly, new_volume}
use Rattle.cartridge_laws.specs.AppendLaws.{FreeWritesAreClean, FreeWritesLeaveReady, with_content, volume_steps, list_steps, MayAppendTo}
use Rattle.cartridge_laws.specs.AppendSettled.{DoneMounts, DoneIsClean, DoneTouchesOnly, FreeWritesLeaveSettled}
use Rattle.cartridge_laws.specs.AppendSteps.{IsNamed}
use Rattle.cartridge_laws.specs.AppendWrites.{KeepsTo, AreWrites, IsFree, IsOfSector}
use Rattle.cartridge_laws.specs.VolumeParts.{new_segments}
use Rattle.cartridge_laws.specs.TableCells.{table_places}
use Rattle.cartridge_laws.specs.Table.{last_end}
use Rattle.cartridge_laws.specs.Slots.{slot_sector}
use Rattle.cartridge_laws.specs.HeaderTerms.{IsCleanCopy}
use Rattle.cartridge_spec.specs.Appending.{Content}
use Rattle.cartridge_spec.specs.Formatting.{StandsCleanly}
use Rattle.cartridge_spec.specs.HeaderCopies.{last_segment, copy_cells}
use Rattle.cartridge_spec.specs.Mounting.{Mounts, mounted_as}
use Rattle.cartridge_spec.specs.Says.{whole_mask, Written, Zero}
use Rattle.cartridge_spec.specs.Settling.{changed_by}
use Rattle.cartridge_spec.specs.Volumes.{Plain, entries_of, Stands}
use Rattle.qic_base.specs.Cartridge.{Cartridge}
use Rattle.qic_base.specs.CartridgeTerms.{IsCartridge}
use Rattle.qic_base.specs.Step.{Step, Torn}
use Rattle.qic_base.specs.declared.tape.SectorView.{SectorView}

-- ---- mounting

read_mounts : (d : Cartridge) (plain : Plain) → IsReadAs d plain → Mounts d (mounted_as plain)
read_mounts d plain reads = standing_mounts d plain reads.stands (can_be_read d plain.table_area reads.table)

pub done_mounts : DoneMounts
done_mounts c plain content may known =
    read_mounts (changed_by (append_steps_of plain content) c) (with_content plain content) (record {
      stands = done_stands c plain content may known;
      table = (done_is_settled_for c plain content may known).table;
    })

pub stopped_append_mounts : StoppedAppendMounts
stopped_append_mounts c plain content left ready torn =
    some_weaker left (λ d known. either_of (read_mounts d plain) (read_mounts d (with_content plain content)) known)
    (stopped_reads c plain content left ready torn)

-- ---- header copies

-- no step writes one
abbrev BehindCopies : (segment sector : ℕ) → Type 0
BehindCopies segment sector = 2 ≤ segment

append_in : (c : Cartridge) (plain : Plain) (content : Content) → MayAppendTo c plain content →
    AreIn BehindCopies (append_steps_of plain content)
append_in c plain content ready =
    let last : ℕ = last_segment c in
    let segments : List ℕ = new_segments plain content.bytes in
    let from : ℕ = last_end (entries_of plain) in
    let least : 2 ≤ from = last_end_least c plain ready.stands in
    let few = ready_count c plain content ready in
    in_append BehindCopies (volume_steps plain content) (list_steps plain content)
    (parts_of_segments (λ s. 2 ≤ s) plain.words segments (new_volume plain content).area
    (All-weaker (λ (s : ℕ). from < s) (λ (s : ℕ). 2 ≤ s) (λ s (past : from < s). omega arith) segments
    (taken_behind plain.words from last segments (ready_taken c plain content ready)))) (
      ((omega arith, omega arith), tt),
      (((omega arith, omega arith), tt), (((omega arith, omega arith), tt), (((omega arith, omega arith), tt), tt))),
    )

clean_copy : (c d : Cartridge) (copy : ℕ) (area : List (List ℕ)) → copy < 2 → IsKeptBut BehindCopies c d → IsCleanCopy c copy area →
    IsCleanCopy d copy area
clean_copy c d copy area front kept clean =
    let same : copy_cells d copy ≡ copy_cells c copy =
    same_cells c d copy whole_mask (λ i h. kept.others copy i h (λ (past : 2 ≤ copy). omega arith)) in
    subst (λ (cells : List SectorView). Written cells area ⊎ Zero cells) (sym same) clean

clean_kept : (c d : Cartridge) (plain new : Plain) → new.header_area ≡ plain.header_area → StandsCleanly c plain →
    IsKeptBut BehindCopies c d →
    Stands d new → StandsCleanly d new
clean_kept c d plain new same clean kept stands = record {
  stands = stands;
  copies = record {
    first = subst (IsCleanCopy d 0) (sym same) (clean_copy c d 0 plain.header_area (omega arith) kept clean.copies.first);
    second = subst (IsCleanCopy d 1) (sym same) (clean_copy c d 1 plain.header_area (omega arith) kept clean.copies.second);
  };
}

pub done_is_clean : DoneIsClean
done_is_clean c plain content may known clean =
    let steps : List Step = append_steps_of plain content in
    clean_kept c (changed_by steps c) plain (with_content plain content) refl clean
    (steps_kept BehindCopies steps c (append_in c plain content may)) (done_stands c plain content may known)

pub stopped_append_is_clean : StoppedAppendIsClean
stopped_append_is_clean c plain content left ready clean torn =
    let steps : List Step = append_steps_of plain content in
    some_weaker left (λ d known.
    either_of (clean_kept c d plain plain refl clean known.0) (clean_kept c d plain (with_content plain content) refl clean known.0)
    known.1)
    (some_both (IsKeptBut BehindCopies c) (λ d. Stands d plain ⊎ Stands d (with_content plain content)) left
    (steps_stopped BehindCopies steps c left (append_in c plain content ready.may) torn)
    (stopped_append c plain content left ready torn))

-- ---- which sectors are written

named_in : (c : Cartridge) (plain : Plain) (content : Content) → MayAppendTo c plain content →
    AreIn (IsNamed plain content.bytes) (append_steps_of plain content)
named_in c plain content ready =
    let last : ℕ = last_segment c in
    let segments : List ℕ = new_segments plain content.bytes in
    let places : List ℕ = table_places (slot_sector (length plain.volumes)) in
    let few = ready_count c plain content ready in
    in_append (IsNamed plain content.bytes) (volume_steps plain content) (list_steps plain content)
    (parts_in (IsNamed plain content.bytes) plain.words segments (new_volume plain content).area
    (All-weaker (Contains segments) (AllowsUsable (IsNamed plain content.bytes) plain.words)
    (λ s inside i usable. inr (inside, usable)) segments (All-contains_itself segments))) (
      ((inl (refl, Contains-get_or places 0 0 (omega arith)), omega arith), tt),
      (
        ((inl (refl, Contains-get_or places 1 0 (omega arith)), omega arith), tt),
        (
          ((inl (refl, Contains-get_or places 2 0 (omega arith)), omega arith), tt),
          (((inl (refl, Contains-get_or places 3 0 (omega arith)), omega arith), tt), tt),
        ),
      ),
    )

pub done_touches_only : DoneTouchesOnly
done_touches_only c plain content may =
    let steps : List Step = append_steps_of plain content in
    let kept = steps_kept (IsNamed plain content.bytes) steps c (named_in c plain content may) in
    (kept.info, kept.others)

pub append_touches_only : AppendTouchesOnly
append_touches_only c plain content left ready torn =
    some_weaker left (λ d kept. (kept.info, kept.others))
    (steps_stopped (IsNamed plain content.bytes) (append_steps_of plain content) c left (named_in c plain content ready.may) torn)

-- ---- whatever is written behind the last volume

free_clean : (c d : Cartridge) (plain : Plain) → StandsCleanly c plain → Stands d plain → KeepsTo (last_end (entries_of plain)) c d →
    StandsCleanly d plain
free_clean c d plain clean stands kept =
    let least : 2 ≤ last_end (entries_of plain) = last_end_least c plain clean.stands in
    let first : copy_cells d 0 ≡ copy_cells c 0 = same_cells c d 0 whole_mask (λ i h. kept.sectors 0 i (omega arith) h) in
    let second : copy_cells d 1 ≡ copy_cells c 1 = same_cells c d 1 whole_mask (λ i h. kept.sectors 1 i (omega arith) h) in
    record {
      stands = stands;
      copies = record {
        first = subst (λ (cells : List SectorView). Written cells plain.header_area ⊎ Zero cells) (sym first) clean.copies.first;
        second = subst (λ (cells : List SectorView). Written cells plain.header_area ⊎ Zero cells) (sym second) clean.copies.second;
      };
    }

pub free_writes_are_clean : FreeWritesAreClean
free_writes_are_clean c plain steps left clean free torn =
    some_weaker left (λ d known. free_clean c d plain clean known.0 known.1) (free_writes_stand c plain steps left clean.stands free torn)

free_left : (c : Cartridge) (plain : Plain) (steps : List Step) (left : Option Cartridge) → IsCartridge c → Stands c plain →
    AreWrites (IsFree (last_end (entries_of plain))) steps → AreWrites IsOfSector steps → Torn steps (Some c) left →
    IsSomeAnd left (λ d. IsCartridge d × (Stands d plain × KeepsTo (last_end (entries_of plain)) c d))
free_left c plain steps left whole stood free sectors torn =
    some_both IsCartridge (λ d. Stands d plain × KeepsTo (last_end (entries_of plain)) c d) left
    (sector_writes_are_cartridge c steps left whole sectors torn)
    (free_writes_stand c plain steps left stood free torn)

free_may : (c d : Cartridge) (plain : Plain) (content : Content) → MayAppendTo c plain content →
    IsCartridge d × (Stands d plain × KeepsTo (last_end (entries_of plain)) c d) → MayAppendTo d plain content
free_may c d plain content may left = record {
  cartridge = left.0;
  stands = left.1.0;
  room = may.room;
  appendable = may.appendable;
}

pub free_writes_leave_settled : FreeWritesLeaveSettled
free_writes_leave_settled c plain content steps left may known free sectors torn =
    let least : 2 ≤ last_end (entries_of plain) = last_end_least c plain may.stands in
    some_weaker left (λ d now. (
      free_may c d plain content may now,
      settled_kept c d plain.table_area (λ s i within h. now.1.1.sectors s i (omega arith) h) known,
    ))
    (free_left c plain steps left may.cartridge may.stands free sectors torn)

pub free_writes_leave_ready : FreeWritesLeaveReady
free_writes_leave_ready c plain content steps left ready free sectors torn =
    some_weaker left (λ d now. record {
      may = free_may c d plain content ready.may now;
      whole = λ i h. now.1.1.sectors 2 i (last_end_least c plain ready.may.stands) h ∙ ready.whole i h;
    })
    (free_left c plain steps left ready.may.cartridge ready.may.stands free sectors torn)
