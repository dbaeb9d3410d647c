-- A cartridge whose volume table holds a list, behind its mounting, an append, a worn sector or a scrub.
use Rattle.std.proofs.Common.{◌≡◌, ◌-◌, List, length, ◌∙◌, arith, sym, subst, inl, inr, refl, ℕ, ◌*◌, ap, ◌<◌, ◌+◌, ◌/◌, ◌^◌, ◌≤◌, false}
use Rattle.std.proofs.Common.{[], ◌∷◌, ◌++◌, nat_le, Option, append-nil}
use Rattle.std.proofs.lemmas.List.{length-take-le}
use Rattle.std.proofs.lemmas.List.Elements.{All-take}
use Rattle.std.proofs.lemmas.Bool.{cases_lt, le-leb}
use Rattle.std.specs.Prelude.{slice_index}
use Rattle.cartridge_laws.proofs.AppendDead.{live_written, settled_is_settled_for, table_settled}
use Rattle.cartridge_laws.proofs.AppendKeeping.{AreIn, steps_kept}
use Rattle.cartridge_laws.proofs.AppendOrders.{end_least}
use Rattle.cartridge_laws.proofs.AppendSegments.{AreTaken, HasRoom, room_is, room_most, segments_taken}
use Rattle.cartridge_laws.proofs.AppendTable.{slot_differs}
use Rattle.cartridge_laws.proofs.FormatWriting.{changed_by-append}
use Rattle.cartridge_laws.proofs.HeaderRefusals.{mounted_last}
use Rattle.cartridge_laws.proofs.MountParts.{code_block}
use Rattle.cartridge_laws.proofs.MountSettled.{settled_keeps_table}
use Rattle.cartridge_laws.proofs.MountSettles.{settling_settles}
use Rattle.cartridge_laws.proofs.MountStanding.{written_table, can_be_read}
use Rattle.cartridge_laws.proofs.Sayings.{block_from_data, data_of-parity}
use Rattle.cartridge_laws.proofs.Segments.{length-whole_cells}
use Rattle.cartridge_laws.proofs.SlotBytes.{length-slot_bytes, slot_are_bytes}
use Rattle.cartridge_laws.proofs.Slots.{slot_area}
use Rattle.cartridge_laws.proofs.TableOrders.{faultless_is_sound}
use Rattle.cartridge_laws.proofs.TablePutting.{put_entry_is_shown}
use Rattle.cartridge_laws.specs.AppendSettled.{IsSettledFor}
use Rattle.cartridge_laws.specs.Slots.{FitsSlot, slot_sector, with_slot}
use Rattle.cartridge_laws.specs.Table.{IsSoundList, last_end}
use Rattle.cartridge_spec.specs.Appending.{table_writes, free_segments, room, taken_by}
use Rattle.cartridge_laws.specs.TableCells.{HasList}
use Rattle.cartridge_laws.specs.Segment.{data_of, unreadable_data}
use Rattle.qic_base.specs.Cartridge.{IsSector, Cartridge, IsLength, view_at}
use Rattle.cartridge_spec.specs.Formatting.{IsLabel}
use Rattle.cartridge_spec.specs.Shape.{IsArea}
use Rattle.cartridge_spec.specs.TableSegment.{table_cells, TableIs}
use Rattle.cartridge_spec.specs.HeaderCopies.{last_segment}
use Rattle.cartridge_spec.specs.Mounting.{settled}
use Rattle.cartridge_spec.specs.Says.{Agrees, Written, unreadable_count, with_parity}
use Rattle.cartridge_spec.specs.Settling.{changed_by, settling_steps}
use Rattle.cartridge_spec.specs.Table.{Entry, Shows, slot_bytes}
use Rattle.cartridge_spec.specs.Volumes.{capacity_between}
use Rattle.command_laws.proofs.MountedKeeping.{changed_by_acts}
use Rattle.command_laws.proofs.ScrubApart.{looked_rise}
use Rattle.command_laws.proofs.ScrubDone.{done_being_mended}
use Rattle.command_laws.proofs.ScrubPlain.{as_plain}
use Rattle.command_laws.proofs.ScrubStanding.{looks_in_front, written_kept}
use Rattle.command_laws.proofs.StoreAgain.{list_shown}
use Rattle.command_laws.proofs.StoreBehind.{AreBehind, input_behind, settled_behind}
use Rattle.command_laws.proofs.StoreEnding.{list_more, took_fits}
use Rattle.command_laws.proofs.StoreSettled.{settled_list}
use Rattle.command_laws.proofs.StoreTaking.{both_true}
use Rattle.command_laws.proofs.StoreWorn.{worn_list}
use Rattle.command_laws.specs.MountedListed.{ListedReads, MountedListed, IsListed, listed_behind, AppendListed, WearListed, ScrubListed}
use Rattle.command_laws.specs.ScrubMended.{IsBeingMended}
use Rattle.command_spec.specs.Append.{Kept, Taking, Fits, TooLong, TooShort, append_acts, entry_acts, input_writes, room_in, taking}
use Rattle.command_spec.specs.Append.{kept_over}
use Rattle.command_laws.specs.AppendTerms.{entry_for}
use Rattle.command_spec.specs.Scrub.{looked_at, whole_segment}
use Rattle.qic_base.specs.Acts.{Act, steps_of}
use Rattle.qic_base.specs.Step.{Step}
use Rattle.qic_base.specs.declared.tape.TapeInfo.{TapeInfo}
use Rattle.cartridge_laws.proofs.MountOnce.{one_table}

-- ---- the block of a list

listed_area : (c : Cartridge) (entries : List Entry) (has : HasList c entries) → IsArea (data_of has.block)
listed_area c entries has =
    let long : length has.block ≡ 32 = has.agrees.size ∙ length-whole_cells c 2 in
    let size : length (data_of has.block) ≡ length has.block - 3 = length-take-le (length has.block - 3) has.block (omega arith) in
    record {
      size = omega arith;
      sectors = (All-take IsSector (length has.block - 3) has.block has.code.sectors);
    }

listed_written : (c : Cartridge) (entries : List Entry) (has : HasList c entries) → Written (table_cells c) (data_of has.block)
listed_written c entries has = subst (Agrees (table_cells c)) (sym (block_from_data has.block has.code)) has.agrees

pub listed_reads : ListedReads
listed_reads c words entries listed mark =
    let has : HasList c entries = listed.list mark in
    let area : IsArea (data_of has.block) = listed_area c entries has in
    let written : Written (table_cells c) (data_of has.block) = listed_written c entries has in
    elim (cases_lt 0 (unreadable_data (table_cells c))) [
      | inl some ↦ elim (cases_lt 3 (unreadable_count (table_cells c))) [
        | inl many ↦ inr (unreadable_count (table_cells c), (some, (refl, many)))
        | inr few ↦ inl (data_of has.block, written_table c (data_of has.block) area written (inr few), has.shown)
      ]
      | inr none ↦ inl (data_of has.block, written_table c (data_of has.block) area written (inl (omega arith)), has.shown)
    ]

-- a table of which each sector that takes a write holds its part shows its list
settled_shows : (c : Cartridge) (area : List (List ℕ)) (entries : List Entry) → IsArea area → IsSettledFor c area → Shows area entries →
    HasList c entries
settled_shows c area entries is known shown = record {
  block = with_parity area;
  code = code_block area is;
  agrees = live_written c area is known.live;
  shown = subst (λ (d : List (List ℕ)). Shows d entries) (sym (data_of-parity area)) shown;
}

-- ---- mounting

pub mounted_listed : MountedListed
mounted_listed c header words table entries whole mounts =
    let info : (settled table c).info ≡ c.info = (settled_keeps_table c table mounts.reads).info in
    let same : last_segment c ≡ last_segment (settled table c) = sym (ap (λ (i : TapeInfo). 28 * i.segments_per_track - 1) info) in
    record {
      long = subst (λ (i : TapeInfo). IsLength i.segments_per_track) (sym info) whole.long;
      last = mounted_last c mounts.area header words mounts.formatted ∙ same;
      order = subst (λ (last : ℕ). IsSoundList last entries) same
          (faultless_is_sound table (last_segment c) entries mounts.sound mounts.shown);
      list = λ mark. settled_list c table entries whole mounts.reads mounts.shown (sym (ap (λ (i : TapeInfo). i.protected) info) ∙ mark);
    }

-- ---- an append

-- what an append leaves of a table that shows a list: its data, with each sector that takes a write holding its part of them,
-- and header and marks as they were
pub record LeavesTable (c d : Cartridge) (last : ℕ) (entries : List Entry) : Type 0 where
  pub data_left : List (List ℕ)
  pub is_area : IsArea data_left
  pub settles : IsSettledFor d data_left
  pub shown : Shows data_left entries
  pub order : IsSoundList last entries
  pub info : d.info ≡ c.info
  pub front : (s i : ℕ) → s < 2 → i < 32 → view_at d s i ≡ view_at c s i

-- the writes of a table lie in its segment
writes_in_table : (n : ℕ) (area : List (List ℕ)) → n < 232 → AreIn (λ s i. s ≡ 2) (table_writes (slot_sector n) area)
writes_in_table n area few = (
  ((refl, omega arith), tt),
  (((refl, omega arith), tt), (((refl, omega arith), tt), (((refl, omega arith), tt), tt))),
)

module _ (c : Cartridge) (words : List ℕ) (entries : List Entry) (table : List (List ℕ)) (listed : IsListed c words entries)
    (mark : c.info.protected ≡ false) (reads : TableIs c table) where
  abbrev kept : Kept
  kept = kept_over c words entries table

  abbrev last : ℕ
  last = length words - 1

  -- the settled cartridge
  abbrev still : Cartridge
  still = changed_by (settling_steps table c) c

  order : IsSoundList last entries
  order = subst (λ (n : ℕ). IsSoundList n entries) (sym listed.last) listed.order

  area : IsArea table
  area =
      let has : HasList c entries = listed.list mark in
      subst IsArea (one_table c (data_of has.block) table
      (written_table c (data_of has.block) (listed_area c entries has) (listed_written c entries has) (can_be_read c table reads)) reads)
      (listed_area c entries has)

  shown : Shows table entries
  shown = list_shown c table entries (listed.list mark) reads

  -- steps behind the table's segment leave it settled
  behind_settled : (steps : List Step) → AreIn (λ s i. 2 < s) steps → IsSettledFor (changed_by steps still) table
  behind_settled steps behind =
      settled_behind still table steps behind
      (subst (λ (d : Cartridge). IsSettledFor d table) (sym (settling_settles c table reads)) (settled_is_settled_for c table reads mark))

  pub behind_leaves : (steps : List Step) → AreIn (λ s i. 2 < s) steps → LeavesTable c (changed_by steps still) last entries
  behind_leaves steps behind =
      let kept_so = steps_kept (λ s i. 2 < s) steps still behind in
      record {
        data_left = table;
        is_area = area;
        settles = behind_settled steps behind;
        shown = shown;
        order = order;
        info = kept_so.info ∙ ap (λ (d : Cartridge). d.info) (settling_settles c table reads) ∙ (settled_keeps_table c table reads).info;
        front = λ s i low h. kept_so.others s i h (λ (past : 2 < s). omega arith)
            ∙ ap (λ (d : Cartridge). view_at d s i) (settling_settles c table reads)
            ∙ (settled_keeps_table c table reads).others s i h (λ (same : s ≡ 2). omega arith);
      }

  -- such a cartridge has the list
  leaves_listed : (d : Cartridge) (es : List Entry) → LeavesTable c d last es → IsListed d words es
  leaves_listed d es leaves =
      let same : last ≡ last_segment d = listed.last ∙ sym (ap (λ (i : TapeInfo). 28 * i.segments_per_track - 1) leaves.info) in
      record {
        long = subst (λ (i : TapeInfo). IsLength i.segments_per_track) (sym leaves.info) listed.long;
        last = same;
        order = subst (λ (n : ℕ). IsSoundList n es) same leaves.order;
        list = λ free. settled_shows d leaves.data_left es leaves.is_area leaves.settles leaves.shown;
      }

  -- the writes of an input
  pub ins_behind : (promised : Option ℕ) (input : List ℕ) → AreBehind (input_writes kept.words kept.entries promised input)
  ins_behind promised input = input_behind kept.words kept.entries promised input (end_least 2 last entries order)

  module _ (name : List ℕ) (date : ℕ) (promised : Option ℕ) (reply : Entry → List ℕ) (input : List ℕ) (label : IsLabel name)
      (word : date < 2 ^ 32) where
    abbrev ins : List Act
    ins = input_writes kept.words kept.entries promised input

    -- the cartridge with the volume's segments written
    abbrev filled : Cartridge
    filled = changed_by (steps_of ins) still

    filled_leaves : LeavesTable c filled last entries
    filled_leaves = behind_leaves (steps_of ins) (ins_behind promised input)

    -- the entry of a volume that has room fits its slot
    entry_fits : (bytes : List ℕ) → HasRoom words entries (length bytes) → FitsSlot (entry_for kept name date bytes)
    entry_fits bytes has =
        let segments : List ℕ = taken_by words (length bytes) (free_segments words entries) in
        let taken : AreTaken words (last_end entries) last segments = segments_taken words entries (length bytes) has in
        let long : c.info.segments_per_track ≤ 246 = listed.long.longest in
        let ends_at : last ≡ 28 * c.info.segments_per_track - 1 = listed.last in
        let starts : slice_index segments 0 ≡ taken.start = taken.starts in
        let ends : slice_index segments (length segments - 1) ≡ taken.end = taken.ends in
        let forwards : taken.start ≤ taken.end = taken.forwards in
        let within : taken.end ≤ last = taken.within in
        let enough : length bytes ≤ capacity_between words (last_end entries + 1) last = has.enough in
        record {
          start = omega arith;
          end = omega arith;
          name = label.size;
          date = omega arith;
          directory = omega arith;
          size = omega (arith, room_most words entries last);
        }

    -- what was taken has room
    has_room : (bytes : List ℕ) → taking (room_in kept) promised input ≡ Fits bytes → HasRoom words entries (length bytes)
    has_room bytes took =
        let fit = took_fits (room_in kept) promised input bytes took in
        room_is words entries (length bytes) (both_true (nat_le 1 (room words entries)) (nat_le (length bytes) (room words entries))
        (le-leb 1 (room words entries) fit.0) (le-leb (length bytes) (room words entries) fit.1))

    -- the table with the entry of a volume that has room is one
    pub entry_area : (bytes : List ℕ) → taking (room_in kept) promised input ≡ Fits bytes →
        IsArea (with_slot table (length entries) (slot_bytes (entry_for kept name date bytes)))
    entry_area bytes took =
        let e : Entry = entry_for kept name date bytes in
        let n : ℕ = length entries in
        let has : HasRoom words entries (length bytes) = has_room bytes took in
        let within : n < 232 = has.free_slot in
        let small : n / 8 < 29 = omega arith in
        let slot : List ℕ = slot_bytes e in
        slot_area table n slot area within (length-slot_bytes e label.size) (slot_are_bytes e label.bytes (omega arith) (omega arith))

    pub slot_free : (bytes : List ℕ) → taking (room_in kept) promised input ≡ Fits bytes → length entries < 232
    slot_free bytes took = (has_room bytes took).free_slot

    with_entry : (bytes : List ℕ) → taking (room_in kept) promised input ≡ Fits bytes →
        LeavesTable c (changed_by (steps_of (entry_acts kept name date reply (Fits bytes))) filled) last
        (entries ++ entry_for kept name date bytes ∷ [])
    with_entry bytes took =
        let e : Entry = entry_for kept name date bytes in
        let n : ℕ = length entries in
        let fit = took_fits (room_in kept) promised input bytes took in
        let has : HasRoom words entries (length bytes) = has_room bytes took in
        let within : n < 232 = has.free_slot in
        let small : n / 8 < 29 = omega arith in
        let slot : List ℕ = slot_bytes e in
        let new : List (List ℕ) = with_slot table n slot in
        let new_area : IsArea new = entry_area bytes took in
        let writes : List Step = table_writes (slot_sector n) new in
        let kept_so = steps_kept (λ s i. s ≡ 2) writes filled (writes_in_table n new within) in
        let all : LeavesTable c (changed_by writes filled) last (entries ++ e ∷ []) = record {
          data_left = new;
          is_area = new_area;
          settles = table_settled filled table new (slot_sector n) small (slot_differs table n slot area) new_area
              (behind_settled (steps_of ins) (ins_behind promised input));
          shown = put_entry_is_shown table entries e area shown within (entry_fits bytes has);
          order = list_more words entries name date (length bytes) order fit.0 fit.1;
          info = kept_so.info ∙ filled_leaves.info;
          front = λ s i low h. kept_so.others s i h (λ (same : s ≡ 2). omega arith) ∙ filled_leaves.front s i low h;
        } in
        subst (λ (steps : List Step). LeavesTable c (changed_by steps filled) last (entries ++ e ∷ [])) (sym (append-nil writes)) all

    by_taking : (became : Taking) → taking (room_in kept) promised input ≡ became →
        LeavesTable c (changed_by (steps_of (entry_acts kept name date reply became)) filled) last (listed_behind kept name date became)
    by_taking (Fits bytes) took = with_entry bytes took
    by_taking (TooLong need have) took = filled_leaves
    by_taking (TooShort asked read) took = filled_leaves

    pub append_leaves : LeavesTable c (changed_by (steps_of (append_acts kept name date promised reply input)) c) last
        (listed_behind kept name date (taking (room_in kept) promised input))
    append_leaves =
        let became : Taking = taking (room_in kept) promised input in
        let first : Act = record { steps = settling_steps table c; text = [] } in
        let parts : changed_by (steps_of (append_acts kept name date promised reply input))
        c ≡ changed_by (steps_of (entry_acts kept name date reply became)) filled =
        changed_by_acts (first ∷ ins) (entry_acts kept name date reply became) c
        ∙ ap (changed_by (steps_of (entry_acts kept name date reply became))) (changed_by-append (settling_steps table c) (steps_of ins) c)
        in
        subst (λ (d : Cartridge). LeavesTable c d last (listed_behind kept name date became)) (sym parts) (by_taking became refl)

pub append_listed : AppendListed
append_listed c words entries table name date promised reply input listed mark reads label word =
    leaves_listed c words entries table listed mark reads
    (changed_by (steps_of (append_acts (kept_over c words entries table) name date promised reply input)) c)
    (listed_behind (kept_over c words entries table) name date (taking (room_in (kept_over c words entries table)) promised input))
    (append_leaves c words entries table listed mark reads name date promised reply input label word)

-- ---- a worn sector, and a scrub

pub wear_listed : WearListed
wear_listed c words entries segment sector listed = record {
  long = listed.long;
  last = listed.last;
  order = listed.order;
  list = λ mark. worn_list c segment sector entries (listed.list mark);
}

pub scrub_listed : ScrubListed
scrub_listed c words entries acts listed mark scrubs =
    let d : Cartridge = changed_by (steps_of acts) c in
    let mended : IsBeingMended (looked_at words entries) c d = done_being_mended c words entries (last_segment c) acts listed.order
    (as_plain c words entries acts scrubs) in
    let rise = looked_rise words (last_segment c) entries listed.order in
    let has : HasList c entries = listed.list mark in
    let written : Written (table_cells d) (data_of has.block) =
    written_kept (looked_at words entries) c d (whole_segment 2) (data_of has.block) rise (looks_in_front words entries rise).table
    (listed_area c entries has).sectors mended (listed_written c entries has) in
    let same : last_segment c ≡ last_segment d = sym (ap (λ (i : TapeInfo). 28 * i.segments_per_track - 1) mended.info) in
    record {
      long = subst (λ (i : TapeInfo). IsLength i.segments_per_track) (sym mended.info) listed.long;
      last = listed.last ∙ same;
      order = subst (λ (last : ℕ). IsSoundList last entries) same listed.order;
      list = λ free. record {
        block = has.block;
        code = has.code;
        agrees = subst (Agrees (table_cells d)) (block_from_data has.block has.code) written;
        shown = has.shown;
      };
    }
