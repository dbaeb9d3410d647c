-- A cartridge that differs in the table's segment alone from one that stands, and says that one's data of the table, comes back
-- as that one; so does one that an append left, done or stopped, where one sector more of the table's segment is lost.
use Rattle.std.proofs.Common.{◌∙◌, ℕ, List, ◌≡◌, ◌<◌, arith, ap, ◌-◌, ◌*◌, inl, false, ◌⊎◌, sym, subst, refl, length, Option, Some}
use Rattle.std.proofs.Common.{IsSomeAnd, inr}
use Rattle.cartridge_laws.proofs.AppendDead.{ready_settled}
use Rattle.cartridge_laws.proofs.AppendDone.{done_stands, appended_is_whole, OfTable, list_in}
use Rattle.cartridge_laws.proofs.MountStops.{some_both}
use Rattle.cartridge_laws.proofs.AppendKeeping.{IsKeptBut, AreIn, steps_kept, steps_stopped}
use Rattle.cartridge_laws.proofs.AppendTable.{ready_count}
use Rattle.cartridge_laws.proofs.AppendVolume.{stopped_volume}
use Rattle.cartridge_laws.proofs.FormatStanding.{same_cells, entry_starts, volumes_behind, volumes_kept}
use Rattle.cartridge_laws.proofs.FormatWriting.{effects-some, some_weaker, changed_by-append}
use Rattle.cartridge_laws.proofs.MountKeeping.{in_force, copies_are, stopped_mounts, clean_copy}
use Rattle.cartridge_laws.proofs.MountSettled.{settled_keeps_table, settled_is_written, settled_reads_plainly, settled_is_whole}
use Rattle.cartridge_laws.proofs.MountWhole.{table_is_area}
use Rattle.cartridge_laws.proofs.OneLossAppend.{stopped_append_reads_either, append_changes_one_sector}
use Rattle.cartridge_laws.proofs.OneLossRead.{before_reads_old_still}
use Rattle.cartridge_laws.specs.AppendBetween.{IsWhole}
use Rattle.cartridge_laws.specs.AppendLaws.{volume_steps, IsReadyFor, list_steps, new_table, with_content}
use Rattle.cartridge_laws.specs.OneLossLaws.{TableAloneComesBack, TableAloneIsClean, StoppedAppendComesBack, DoneAppendReadsNew}
use Rattle.cartridge_laws.specs.OneLossLaws.{DoneAppendComesBack, SettledComesBack}
use Rattle.cartridge_spec.specs.Appending.{Content}
use Rattle.cartridge_spec.specs.Header.{header_fault}
use Rattle.cartridge_spec.specs.TableSegment.{TableIs, table_cells, ChangesTableAlone, LosesOne, LosesOneAlone}
use Rattle.cartridge_spec.specs.HeaderCopies.{copy_cells, HasHeader, last_segment}
use Rattle.cartridge_spec.specs.Shape.{IsArea}
use Rattle.cartridge_spec.specs.Mounting.{settled, IsMounted, ComesBackAs}
use Rattle.cartridge_spec.specs.Says.{whole_mask, Written}
use Rattle.cartridge_spec.specs.Settling.{changed_by}
use Rattle.cartridge_spec.specs.Table.{HasNoFault, slot_fault}
use Rattle.cartridge_laws.specs.Slots.{slot_sector}
use Rattle.cartridge_spec.specs.Volumes.{Plain, Stands, entries_of}
use Rattle.qic_base.proofs.Steps.{Torn-all}
use Rattle.qic_base.specs.Cartridge.{Cartridge}
use Rattle.qic_base.specs.Step.{Step, effects}
use Rattle.qic_base.specs.declared.tape.TapeInfo.{TapeInfo}

-- ---- the table's segment alone

alone_then : (c d e : Cartridge) → ChangesTableAlone c d → ChangesTableAlone d e → ChangesTableAlone c e
alone_then c d e first second = record {
  info = second.info ∙ first.info;
  others = λ s i h apart. second.others s i h apart ∙ first.others s i h apart;
}

settled_alone : (c : Cartridge) (area : List (List ℕ)) → TableIs c area → ChangesTableAlone c (settled area c)
settled_alone c area reads =
    let kept = settled_keeps_table c area reads in
    record { info = kept.info; others = kept.others }

same_copy : {c d : Cartridge} (copy : ℕ) → ChangesTableAlone c d → copy < 2 → copy_cells d copy ≡ copy_cells c copy
same_copy {c = c} {d = d} copy alone below =
    same_cells c d copy whole_mask (λ i h. alone.others copy i h (λ same. absurd (omega arith)))

has_header : (c d : Cartridge) (plain : Plain) → ChangesTableAlone c d → Stands c plain → HasHeader d plain.header_area
has_header c d plain alone stood = record {
  referenced = ap (λ (i : TapeInfo). i.referenced) alone.info ∙ stood.header.referenced;
  in_force = in_force c d plain.header_area (same_copy 0 alone (omega arith)) (same_copy 1 alone (omega arith)) stood.header.in_force;
}

no_fault : (c d : Cartridge) (plain : Plain) → ChangesTableAlone c d → Stands c plain → HasNoFault plain.table_area (last_segment d)
no_fault c d plain alone stood i h =
    ap (λ (info : TapeInfo). slot_fault plain.table_area (28 * info.segments_per_track - 1) i) alone.info ∙ stood.sound_table i h

-- with the table's data written it stands
stands_alone : (c d : Cartridge) (plain : Plain) → ChangesTableAlone c d → Stands c plain → Written (table_cells d) plain.table_area →
    Stands d plain
stands_alone c d plain alone stood written = record {
  whole = stood.whole;
  header = has_header c d plain alone stood;
  sound_header = ap (λ (i : TapeInfo). header_fault plain.header_area i.segments_per_track) alone.info ∙ stood.sound_header;
  copies = copies_are c d plain.header_area (same_copy 0 alone (omega arith)) (same_copy 1 alone (omega arith)) stood.copies;
  sound_table = no_fault c d plain alone stood;
  shown = stood.shown;
  volumes = volumes_kept c d plain.words plain.volumes (λ s i from h. alone.others s i h (λ same. absurd (omega arith)))
      (volumes_behind plain.volumes (entry_starts plain.table_area (last_segment c) (entries_of plain) stood.sound_table stood.shown))
      stood.volumes;
  table = inl written;
}

settled_stands : (c d : Cartridge) (plain : Plain) → ChangesTableAlone c d → Stands c plain → TableIs d plain.table_area →
    d.info.protected ≡ false → Stands (settled plain.table_area d) plain
settled_stands c d plain alone stood reads is =
    let e : Cartridge = settled plain.table_area d in
    stands_alone c e plain (alone_then c d e alone (settled_alone d plain.table_area reads)) stood
    (settled_is_written d plain.table_area reads is)

mounts_alone : (c d : Cartridge) (plain : Plain) → ChangesTableAlone c d → Stands c plain → TableIs d plain.table_area →
    IsMounted d plain.header plain.words plain.table_area (entries_of plain)
mounts_alone c d plain alone stood reads = record {
  area = plain.header_area;
  formatted = record {
    has_header = has_header c d plain alone stood;
    sound = ap (λ (i : TapeInfo). header_fault plain.header_area i.segments_per_track) alone.info ∙ stood.sound_header;
    shown = stood.whole.shown;
  };
  reads = reads;
  sound = no_fault c d plain alone stood;
  shown = stood.shown;
}

pub table_alone_comes_back : TableAloneComesBack
table_alone_comes_back c d plain stood alone reads =
    let mounted = mounts_alone c d plain alone stood reads in
    record {
      mounts = mounted;
      stopped = λ left torn. stopped_mounts d plain.header plain.words plain.table_area (entries_of plain) left mounted torn;
      stands = λ is. settled_stands c d plain alone stood reads is;
      plainly = λ is. settled_reads_plainly d plain.table_area reads is;
    }

-- whatever stands with its whole table comes back where one sector of that is lost
pub whole_comes_back : (d : Cartridge) (plain : Plain) → Stands d plain → IsWhole d plain.table_area → IsArea plain.table_area →
    (f : Cartridge) (lost : ℕ) → LosesOneAlone d f lost → ComesBackAs f plain
whole_comes_back d plain stood whole area f lost loses =
    table_alone_comes_back d f plain stood loses.alone
    (before_reads_old_still d f plain.table_area 0 lost area (omega arith) (inl whole) loses.loses)

pub settled_comes_back : SettledComesBack
settled_comes_back c plain cartridge stood live unprotected table f lost loses =
    whole_comes_back (settled plain.table_area c) plain
    (settled_stands c c plain (record { info = refl; others = λ s i h apart. refl }) stood table unprotected)
    (λ i h. settled_is_whole c plain.table_area i table unprotected live h) (table_is_area c plain.table_area cartridge table) f lost loses

pub table_alone_is_clean : TableAloneIsClean
table_alone_is_clean c d plain clean alone reads is =
    let e : Cartridge = settled plain.table_area d in
    let all : ChangesTableAlone c e = alone_then c d e alone (settled_alone d plain.table_area reads) in
    record {
      stands = settled_stands c d plain alone clean.stands reads is;
      copies = record {
        first = clean_copy (copy_cells c 0) (copy_cells e 0) plain.header_area (same_copy 0 all (omega arith)) clean.copies.first;
        second = clean_copy (copy_cells c 1) (copy_cells e 1) plain.header_area (same_copy 1 all (omega arith)) clean.copies.second;
      };
    }

-- ---- an append

kept_alone : (c d : Cartridge) → IsKeptBut OfTable c d → ChangesTableAlone c d
kept_alone c d kept = record { info = kept.info; others = λ s i h apart. kept.others s i h apart }

alone_back : (c d : Cartridge) → ChangesTableAlone c d → ChangesTableAlone d c
alone_back c d alone = record { info = sym alone.info; others = λ s i h apart. sym (alone.others s i h apart) }

-- what the volume's writes left, and what the table's writes leave behind them
old_stands : (c : Cartridge) (plain : Plain) (content : Content) → IsReadyFor c plain content →
    Stands (changed_by (volume_steps plain content) c) plain
old_stands c plain content ready =
    let steps : List Step = volume_steps plain content in
    let all : IsSomeAnd (effects steps (Some c)) (λ d. Stands d plain) =
    some_weaker (effects steps (Some c)) (λ d known. known.0)
    (stopped_volume c plain content (effects steps (Some c)) ready (Torn-all steps (Some c))) in
    subst (λ (o : Option Cartridge). IsSomeAnd o (λ d. Stands d plain)) (effects-some steps c) all

new_stands : (c : Cartridge) (plain : Plain) (content : Content) → IsReadyFor c plain content →
    Stands (changed_by (list_steps plain content) (changed_by (volume_steps plain content) c)) (with_content plain content)
new_stands c plain content ready =
    subst (λ (e : Cartridge). Stands e (with_content plain content))
    (changed_by-append (volume_steps plain content) (list_steps plain content) c)
    (done_stands c plain content ready.may (ready_settled ready))

pub stopped_append_comes_back : StoppedAppendComesBack
stopped_append_comes_back c d plain content left ready is torn =
    some_weaker left (λ e known f lost loses. back e known.0 f lost loses (known.1 f lost loses.loses))
    (some_both (IsKeptBut OfTable d) (λ e. (f : Cartridge) (lost : ℕ) → LosesOne e f lost →
    TableIs f plain.table_area ⊎ TableIs f (new_table plain content)) left
    (steps_stopped OfTable steps d left small torn) (stopped_append_reads_either c d plain content left ready is torn))
  where
    steps : List Step
    steps = list_steps plain content

    small : AreIn OfTable steps
    small = list_in plain content (ready_count c plain content ready.may)

    back : (e : Cartridge) → IsKeptBut OfTable d e → (f : Cartridge) (lost : ℕ) → LosesOneAlone e f lost →
        TableIs f plain.table_area ⊎ TableIs f (new_table plain content) →
        ComesBackAs f plain ⊎ ComesBackAs f (with_content plain content)
    back e kept f lost loses (inl reads) =
        inl (table_alone_comes_back d f plain
        (subst (λ (g : Cartridge). Stands g plain) (sym is) (old_stands c plain content ready))
        (alone_then d e f (kept_alone d e kept) loses.alone) reads)
    back e kept f lost loses (inr reads) =
        let all : Cartridge = changed_by steps d in
        let alone : ChangesTableAlone all d = alone_back d all (kept_alone d all (steps_kept OfTable steps d small)) in
        inr (table_alone_comes_back all f (with_content plain content)
        (subst (λ (g : Cartridge). Stands (changed_by steps g) (with_content plain content)) (sym is)
        (new_stands c plain content ready))
        (alone_then all d f alone (alone_then d e f (kept_alone d e kept) loses.alone)) reads)

-- ---- a done append

new_whole : (c : Cartridge) (plain : Plain) (content : Content) → IsReadyFor c plain content →
    IsWhole (changed_by (list_steps plain content) (changed_by (volume_steps plain content) c)) (new_table plain content)
new_whole c plain content ready =
    subst (λ (e : Cartridge). IsWhole e (new_table plain content))
    (changed_by-append (volume_steps plain content) (list_steps plain content) c) (appended_is_whole c plain content ready)

pub done_append_reads_new : DoneAppendReadsNew
done_append_reads_new c e plain content ready is f lost loses =
    let new : List (List ℕ) = new_table plain content in
    let changes = append_changes_one_sector c plain content ready.may in
    let whole : IsWhole e new = subst (λ (g : Cartridge). IsWhole g new) (sym is) (new_whole c plain content ready) in
    before_reads_old_still e f new (slot_sector (length plain.volumes)) lost changes.0.new_area changes.0.data_sector (inl whole) loses

pub done_append_comes_back : DoneAppendComesBack
done_append_comes_back c e plain content ready is f lost loses =
    table_alone_comes_back e f (with_content plain content)
    (subst (λ (g : Cartridge). Stands g (with_content plain content)) (sym is) (new_stands c plain content ready))
    loses.alone (done_append_reads_new c e plain content ready is f lost loses.loses)
