-- What all steps of an append leave, and what a stop among them leaves.
use Rattle.std.proofs.Common.{◌≡◌, ℕ, ◌-◌, List, length, sym, ap, ◌∙◌, All, subst, ◌<◌, arith, ◌≤◌, ◌⊎◌, [], ◌∷◌, ◌++◌, refl, inl, Option}
use Rattle.std.proofs.Common.{Some, IsSomeAnd, inr}
use Rattle.std.specs.Prelude.{slice_index}
use Rattle.std.proofs.lemmas.List.Elements.{All-weaker, All-append, All-cons, All-nil}
use Rattle.cartridge_laws.proofs.AppendBetween.{begun_written, before_reads_old, turned_reads_new}
use Rattle.cartridge_laws.proofs.AppendDead.{settled_kept, table_settled, live_written}
use Rattle.cartridge_laws.proofs.AppendKeeping.{IsKeptBut, steps_kept, AreIn, steps_stopped}
use Rattle.cartridge_laws.proofs.AppendOrders.{LiesWithin}
use Rattle.cartridge_laws.proofs.AppendParts.{parts_written, length-in_sectors, are_sectors}
use Rattle.cartridge_laws.proofs.AppendSegments.{AreTaken, IsRising, carrying_carry, carrying_rise}
use Rattle.cartridge_laws.proofs.AppendStanding.{AreKeptTo, stands_with}
use Rattle.cartridge_laws.proofs.AppendTable.{done_table_shows, slot_differs, ready_count}
use Rattle.cartridge_laws.proofs.AppendTableWrites.{DifferIn, table_stopped, Each, table_written}
use Rattle.cartridge_laws.proofs.AppendVolume.{ready_taken, old_volumes, Behind, last_end_least, kept_to, old_stand, volume_writes_behind}
use Rattle.cartridge_laws.proofs.AppendVolume.{whole_kept, stopped_volume}
use Rattle.cartridge_laws.proofs.FormatStanding.{BeginsBehind, AreKept, volumes_kept}
use Rattle.cartridge_laws.proofs.FormatWriting.{changed_by-append, effects-some, some_weaker}
use Rattle.cartridge_laws.proofs.MountParts.{data_read}
use Rattle.cartridge_laws.proofs.TableOrders.{sound_is_faultless}
use Rattle.cartridge_laws.specs.AppendBetween.{IsWhole, IsBegun, Between}
use Rattle.cartridge_laws.specs.AppendLaws.{append_steps_of, list_steps, volume_steps, MayAppendTo}
use Rattle.cartridge_laws.specs.AppendLaws.{IsReadyFor, StoppedList, AppendedIsWhole, StoppedAppend, new_table, new_volume, with_content}
use Rattle.cartridge_laws.specs.AppendSettled.{IsSettledFor, DoneIsSettledFor, DoneStands}
use Rattle.cartridge_laws.specs.Shape.{Carries}
use Rattle.cartridge_laws.specs.VolumeParts.{new_segments, PartStands, sectors_in}
use Rattle.cartridge_laws.specs.Table.{last_end}
use Rattle.cartridge_laws.specs.Slots.{slot_sector}
use Rattle.cartridge_spec.specs.Appending.{Content}
use Rattle.cartridge_spec.specs.HeaderCopies.{last_segment}
use Rattle.cartridge_spec.specs.TableSegment.{table_cells, TableIs}
use Rattle.cartridge_spec.specs.Shape.{IsArea, mask_at}
use Rattle.cartridge_spec.specs.Says.{Written, ReadsAll}
use Rattle.cartridge_spec.specs.Settling.{changed_by}
use Rattle.cartridge_spec.specs.Table.{slot_bytes}
use Rattle.cartridge_spec.specs.Volumes.{carrying, Plain, Volume, VolumeStands, entries_of, parts_of, carrying_segments, Stands}
use Rattle.qic_base.proofs.Steps.{Torn-append}
use Rattle.qic_base.specs.Cartridge.{Cartridge, IsSector}
use Rattle.qic_base.specs.Step.{Step, Torn}
use Rattle.cartridge_laws.proofs.MountStops.{some_both}

-- ---- the new volume

pub segments_are : (words : List ℕ) (from last : ℕ) (segments : List ℕ) → AreTaken words from last segments →
    carrying words (slice_index segments 0) (slice_index segments (length segments - 1)) ≡ segments
segments_are words from last segments taken =
    ap (λ (start : ℕ). carrying words start (slice_index segments (length segments - 1))) taken.starts
    ∙ ap (λ (end : ℕ). carrying words taken.start end) taken.ends
    ∙ sym taken.are

new_stands : (c : Cartridge) (plain : Plain) (content : Content) → MayAppendTo c plain content →
    VolumeStands (changed_by (volume_steps plain content) c) plain.words (new_volume plain content)
new_stands c plain content ready =
    let words : List ℕ = plain.words in
    let last : ℕ = last_segment c in
    let segments : List ℕ = new_segments plain content.bytes in
    let volume : Volume = new_volume plain content in
    let d : Cartridge = changed_by (volume_steps plain content) c in
    let taken : AreTaken words (last_end (entries_of plain)) last segments = ready_taken c plain content ready in
    let are : carrying_segments words volume.entry ≡ segments = segments_are words (last_end (entries_of plain)) last segments taken in
    let long : length volume.area ≡ sectors_in words segments = length-in_sectors (sectors_in words segments) content.bytes in
    let rise : IsRising segments = subst IsRising (sym taken.are) (carrying_rise words taken.start taken.end) in
    let carry : All (λ s. Carries (mask_at words s)) segments =
    subst (λ (ss : List ℕ). All (λ s. Carries (mask_at words s)) ss) (sym taken.are) (carrying_carry words taken.start taken.end) in
    record {
      parts = subst (λ (ss : List ℕ). All (PartStands d words) (parts_of words ss volume.area)) (sym are)
          (parts_written c words segments volume.area rise carry long);
      size = long ∙ ap (sectors_in words) (sym are);
    }

-- ---- the table's segment written, or on the way

-- the volumes of a list, and one more, behind the table
begin_behind : (c : Cartridge) (plain : Plain) → Stands c plain → All BeginsBehind plain.volumes
begin_behind c plain stood =
    All-weaker (LiesWithin 2 (last_end (entries_of plain))) BeginsBehind
    (λ (volume : Volume) lies. let from : 2 < volume.entry.start = lies.behind in omega arith)
    plain.volumes (old_volumes c plain stood)

abbrev pub OfTable : (segment sector : ℕ) → Type 0
OfTable segment sector = segment ≡ 2

behind_table : (d e : Cartridge) → IsKeptBut OfTable d e → AreKept d e
behind_table d e kept s i from h = kept.others s i h (λ (is : s ≡ 2). omega arith)

-- header copies are as they were after both
copies_kept : (c d e : Cartridge) (plain : Plain) → Stands c plain → IsKeptBut (Behind plain) c d → IsKeptBut OfTable d e → AreKeptTo 1 c e
copies_kept c d e plain stood first next s i within h =
    let least : 2 ≤ last_end (entries_of plain) = last_end_least c plain stood in
    next.others s i h (λ (is : s ≡ 2). omega arith)
    ∙ first.others s i h (λ (past : last_end (entries_of plain) < s). omega arith)

-- a cartridge whose table is read as before stands for what stood
stands_old : (c d e : Cartridge) (plain : Plain) → Stands c plain → IsKeptBut (Behind plain) c d → IsKeptBut OfTable d e →
    Written (table_cells e) plain.table_area ⊎ ReadsAll (table_cells e) plain.table_area → Stands e plain
stands_old c d e plain stood first next reads =
    stands_with c e plain plain.table_area plain.volumes stood (next.info ∙ first.info) (copies_kept c d e plain stood first next) (record {
      area = stood.whole.table_area;
      areas = stood.whole.areas;
      sound = stood.sound_table;
      shown = stood.shown;
      stand = volumes_kept d e plain.words plain.volumes (behind_table d e next) (begin_behind c plain stood)
          (old_stand c d plain stood (kept_to c d plain (last_end (entries_of plain)) (omega arith) first));
      reads = reads;
    })

-- and one whose table is read as the new one stands for the plain one with the volume
stands_new : (c e : Cartridge) (plain : Plain) (content : Content) → MayAppendTo c plain content →
    IsKeptBut OfTable (changed_by (volume_steps plain content) c) e → Written (table_cells e) (new_table plain content)
    ⊎ ReadsAll (table_cells e) (new_table plain content) → Stands e (with_content plain content)
stands_new c e plain content ready next reads =
    let words : List ℕ = plain.words in
    let last : ℕ = last_segment c in
    let volume : Volume = new_volume plain content in
    let table : List (List ℕ) = new_table plain content in
    let volumes : List Volume = plain.volumes ++ volume ∷ [] in
    let d : Cartridge = changed_by (volume_steps plain content) c in
    let stood : Stands c plain = ready.stands in
    let first : IsKeptBut (Behind plain) c d =
    steps_kept (Behind plain) (volume_steps plain content) c (volume_writes_behind c plain content ready) in
    let shows = done_table_shows c plain content ready in
    let taken = ready_taken c plain content ready in
    let least : 2 ≤ last_end (entries_of plain) = last_end_least c plain stood in
    let behind : last_end (entries_of plain) < taken.start = taken.behind in
    let starts : volume.entry.start ≡ taken.start = taken.starts in
    let from : BeginsBehind volume = omega arith in
    stands_with c e plain table volumes stood (next.info ∙ first.info) (copies_kept c d e plain stood first next) (record {
      area = shows.0;
      areas = All-append (λ (v : Volume). All IsSector v.area) plain.volumes (volume ∷ []) stood.whole.areas
          (All-cons (λ (v : Volume). All IsSector v.area) volume []
          (are_sectors (sectors_in words (new_segments plain content.bytes)) content.bytes ready.appendable.bytes)
          (All-nil (λ (v : Volume). All IsSector v.area)));
      sound = sound_is_faultless table last (entries_of (with_content plain content)) shows.2 shows.1;
      shown = shows.1;
      stand = volumes_kept d e words volumes (behind_table d e next)
          (All-append BeginsBehind plain.volumes (volume ∷ []) (begin_behind c plain stood)
          (All-cons BeginsBehind volume [] from (All-nil BeginsBehind)))
          (All-append (VolumeStands d words) plain.volumes (volume ∷ [])
          (old_stand c d plain stood (kept_to c d plain (last_end (entries_of plain)) (omega arith) first))
          (All-cons (VolumeStands d words) volume [] (new_stands c plain content ready) (All-nil (VolumeStands d words))));
      reads = reads;
    })

-- ---- the four writes

pub list_in : (plain : Plain) (content : Content) → length plain.volumes < 232 → AreIn OfTable (list_steps plain content)
list_in plain content few = (
  ((refl, omega arith), tt),
  (((refl, omega arith), tt), (((refl, omega arith), tt), (((refl, omega arith), tt), tt))),
)

table_kept : (c : Cartridge) (plain : Plain) (content : Content) → MayAppendTo c plain content →
    AreKeptTo 2 c (changed_by (volume_steps plain content) c)
table_kept c plain content may =
    let writes : List Step = volume_steps plain content in
    kept_to c (changed_by writes c) plain 2 (last_end_least c plain may.stands)
    (steps_kept (Behind plain) writes c (volume_writes_behind c plain content may))

whole_then : (c : Cartridge) (plain : Plain) (content : Content) → IsReadyFor c plain content →
    IsWhole (changed_by (volume_steps plain content) c) plain.table_area
whole_then c plain content ready =
    whole_kept c (changed_by (volume_steps plain content) c) plain.table_area (table_kept c plain content ready.may) ready.whole

new_differs : (c : Cartridge) (plain : Plain) (content : Content) → MayAppendTo c plain content →
    DifferIn plain.table_area (new_table plain content) (slot_sector (length plain.volumes))
new_differs c plain content ready =
    slot_differs plain.table_area (length plain.volumes) (slot_bytes (new_volume plain content).entry)
    ready.stands.whole.table_area

changed_small : (c : Cartridge) (plain : Plain) (content : Content) → MayAppendTo c plain content →
    slot_sector (length plain.volumes) < 29
changed_small c plain content ready = let few = ready_count c plain content ready in omega arith

pub stopped_list : StoppedList
stopped_list c d plain content left ready is torn =
    let whole : IsWhole d plain.table_area = subst (λ (e : Cartridge). IsWhole e plain.table_area) (sym is)
    (whole_then c plain content ready) in
    table_stopped d plain.table_area (new_table plain content) (slot_sector (length plain.volumes)) left
    (changed_small c plain content ready.may) (new_differs c plain content ready.may) whole torn

-- ---- all steps

pub appended_is_whole : AppendedIsWhole
appended_is_whole c plain content ready =
    let first : List Step = volume_steps plain content in
    let next : List Step = list_steps plain content in
    subst (λ (e : Cartridge). IsWhole e (new_table plain content)) (sym (changed_by-append first next c))
    (λ i h. table_written Each (changed_by first c) plain.table_area (new_table plain content) (slot_sector (length plain.volumes))
    (changed_small c plain content ready.may) (new_differs c plain content ready.may)
    (λ j within is. whole_then c plain content ready j within) i h tt)

pub done_is_settled_for : DoneIsSettledFor
done_is_settled_for c plain content may known =
    let first : List Step = volume_steps plain content in
    let next : List Step = list_steps plain content in
    subst (λ (e : Cartridge). IsSettledFor e (new_table plain content)) (sym (changed_by-append first next c))
    (table_settled (changed_by first c) plain.table_area (new_table plain content) (slot_sector (length plain.volumes))
    (changed_small c plain content may) (new_differs c plain content may) (done_table_shows c plain content may).0
    (settled_kept c (changed_by first c) plain.table_area (table_kept c plain content may) known))

pub done_stands : DoneStands
done_stands c plain content may known =
    let first : List Step = volume_steps plain content in
    let next : List Step = list_steps plain content in
    let d : Cartridge = changed_by first c in
    let all : changed_by (append_steps_of plain content) c ≡ changed_by next d = changed_by-append first next c in
    let then : IsSettledFor (changed_by next d) (new_table plain content) =
    subst (λ (e : Cartridge). IsSettledFor e (new_table plain content)) all (done_is_settled_for c plain content may known) in
    subst (λ (e : Cartridge). Stands e (with_content plain content)) (sym all)
    (stands_new c (changed_by next d) plain content may
    (steps_kept OfTable next d (list_in plain content (ready_count c plain content may)))
    (inl (live_written (changed_by next d) (new_table plain content) (done_table_shows c plain content may).0 then.live)))

-- ---- a stop among them

-- it stands for a plain one, and its table says that one's data
pub record IsReadAs (d : Cartridge) (plain : Plain) : Type 0 where
  pub stands : Stands d plain
  pub table : TableIs d plain.table_area

-- what stands while the table is written
by_between : (c e : Cartridge) (plain : Plain) (content : Content) → IsReadyFor c plain content →
    IsKeptBut OfTable (changed_by (volume_steps plain content) c) e →
    Between e plain.table_area (new_table plain content) (slot_sector (length plain.volumes)) →
    IsReadAs e plain ⊎ IsReadAs e (with_content plain content)
by_between c e plain content ready next between = by_state between
  where
    first : IsKeptBut (Behind plain) c (changed_by (volume_steps plain content) c)
    first = steps_kept (Behind plain) (volume_steps plain content) c (volume_writes_behind c plain content ready.may)

    small : slot_sector (length plain.volumes) < 29
    small = changed_small c plain content ready.may

    area : IsArea plain.table_area
    area = ready.may.stands.whole.table_area

    old : Written (table_cells e) plain.table_area ⊎ ReadsAll (table_cells e) plain.table_area →
        IsWhole e plain.table_area ⊎ IsBegun e plain.table_area (slot_sector (length plain.volumes)) → IsReadAs e plain
    old reads state = record {
      stands = stands_old c (changed_by (volume_steps plain content) c) e plain ready.may.stands first next reads;
      table = before_reads_old e plain.table_area (slot_sector (length plain.volumes)) area small state;
    }

    by_state : Between e plain.table_area (new_table plain content) (slot_sector (length plain.volumes)) →
        IsReadAs e plain ⊎ IsReadAs e (with_content plain content)
    by_state (inl whole) = inl (old (inr (data_read e plain.table_area area (λ i h. whole i (omega arith)))) (inl whole))
    by_state (inr (inl begun)) =
        inl (old (inl (begun_written e plain.table_area (slot_sector (length plain.volumes)) area begun)) (inr begun))
    by_state (inr (inr turned)) =
        let from : 29 ≤ turned.turn = turned.from in
        let table : List (List ℕ) = new_table plain content in
        let new_area : IsArea table = (done_table_shows c plain content ready.may).0 in
        inr (record {
          stands = stands_new c e plain content ready.may next
              (inr (data_read e table new_area (λ i h. turned.before i (omega arith))));
          table = turned_reads_new e plain.table_area table new_area turned;
        })

pub stopped_reads : (c : Cartridge) (plain : Plain) (content : Content) (left : Option Cartridge) → IsReadyFor c plain content →
    Torn (append_steps_of plain content) (Some c) left →
    IsSomeAnd left (λ d. IsReadAs d plain ⊎ IsReadAs d (with_content plain content))
stopped_reads c plain content left ready torn =
    let first : List Step = volume_steps plain content in
    let next : List Step = list_steps plain content in
    let d : Cartridge = changed_by first c in
    elim (Torn-append first next (Some c) left torn) [
      | inl front ↦
          some_weaker left (λ e stood. inl (record {
            stands = stood.0;
            table = before_reads_old e plain.table_area (slot_sector (length plain.volumes)) ready.may.stands.whole.table_area
                (changed_small c plain content ready.may) (inl stood.1);
          }))
          (stopped_volume c plain content left ready front)
      | inr behind ↦
          let rear : Torn next (Some d) left = subst (λ (held : Option Cartridge). Torn next held left) (effects-some first c) behind in
          some_weaker left (λ e known. by_between c e plain content ready known.0 known.1)
          (some_both (IsKeptBut OfTable d)
          (λ e. Between e plain.table_area (new_table plain content) (slot_sector (length plain.volumes))) left
          (steps_stopped OfTable next d left (list_in plain content (ready_count c plain content ready.may)) rear)
          (stopped_list c d plain content left ready refl rear))
    ]

pub either_of : {A B C D : Type 0} → (A → C) → (B → D) → A ⊎ B → C ⊎ D
either_of f g (inl a) = inl (f a)
either_of f g (inr b) = inr (g b)

pub stopped_append : StoppedAppend
stopped_append c plain content left ready torn =
    some_weaker left (λ d known. either_of (λ reads. reads.stands) (λ reads. reads.stands) known)
    (stopped_reads c plain content left ready torn)
