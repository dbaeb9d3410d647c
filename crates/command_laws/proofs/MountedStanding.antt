-- An append of promised bytes to a cartridge that stands for a plain one, done or stopped.
use Rattle.std.proofs.Common.{◌≡◌, ℕ, ◌-◌, false, arith, nat_lt, ◌+◌, Bool, true, cond, List, [], ◌++◌, length, take, All, Some, ap, ◌∙◌}
use Rattle.std.proofs.Common.{append-nil, sym, subst, ◌⊎◌, Option, IsSomeAnd}
use Rattle.std.proofs.lemmas.Bool.{le-ltb}
use Rattle.std.proofs.lemmas.List.{length-map, take_all}
use Rattle.cartridge_laws.proofs.AppendDead.{settled_is_settled_for}
use Rattle.cartridge_laws.proofs.AppendDone.{done_is_settled_for, done_stands, appended_is_whole}
use Rattle.cartridge_laws.proofs.AppendMounted.{done_touches_only}
use Rattle.cartridge_laws.proofs.AppendReady.{settled_may_append_to, settled_is_ready, stopped_from_the_start}
use Rattle.cartridge_laws.proofs.AppendSegments.{carrying_carry}
use Rattle.cartridge_laws.proofs.AppendWhole.{done_is_cartridge}
use Rattle.cartridge_laws.proofs.FormatWriting.{changed_by-append}
use Rattle.cartridge_laws.proofs.MountSettled.{settled_keeps_table}
use Rattle.cartridge_laws.proofs.MountSettles.{settling_settles}
use Rattle.cartridge_laws.specs.AppendBetween.{IsWhole}
use Rattle.cartridge_laws.specs.AppendLaws.{new_table, MayAppend, with_content, IsAppendable, MayAppendTo}
use Rattle.cartridge_laws.specs.AppendSettled.{IsSettledFor}
use Rattle.cartridge_laws.specs.AppendSteps.{writes_into}
use Rattle.cartridge_laws.specs.Shape.{Carries}
use Rattle.cartridge_spec.specs.Appending.{table_writes, has_room, Content}
use Rattle.cartridge_laws.specs.Table.{last_end}
use Rattle.cartridge_laws.specs.Slots.{slot_sector, with_slot}
use Rattle.cartridge_spec.specs.TableSegment.{TableIs, IsTableLive}
use Rattle.cartridge_spec.specs.Mounting.{settled}
use Rattle.cartridge_spec.specs.Settling.{changed_by, settling_steps}
use Rattle.cartridge_spec.specs.Shape.{mask_at, IsLive}
use Rattle.cartridge_spec.specs.Table.{slot_bytes}
use Rattle.cartridge_spec.specs.Volumes.{Plain, Volume, entries_of, Stands}
use Rattle.command_laws.proofs.InputActLaws.{volume_is_writes}
use Rattle.command_laws.proofs.MountedKeeping.{kept_open, live_kept, kept_may}
use Rattle.command_laws.specs.MountedKept.{settle_and_append, IsOpen, AppendsLeaveOpen, IsKept}
use Rattle.command_spec.specs.Append.{volume_acts, filled_acts, input_acts, Kept, Fits, TooLong, TooShort, entry_acts, input_writes}
use Rattle.command_spec.specs.Append.{room_in, taking}
use Rattle.command_laws.specs.AppendTerms.{entry_for, free_in, silently}
use Rattle.qic_base.proofs.Joins.{steps_of-append}
use Rattle.qic_base.specs.Acts.{Act, steps_of}
use Rattle.qic_base.specs.Cartridge.{Cartridge}
use Rattle.qic_base.specs.Step.{Step, Torn}
use Rattle.qic_base.specs.declared.tape.TapeInfo.{TapeInfo}
use Rattle.cartridge_laws.specs.AppendLaws as appends

-- ---- an append of promised bytes

pub same_less : (n : ℕ) → nat_lt n n ≡ false
same_less n = le-ltb n n (omega arith)

-- its acts behind the settling, where they are just as many as promised
module _ (plain : Plain) (content : Content) (settling : List Step) where
  abbrev size : ℕ
  size = length content.bytes

  abbrev kept : Kept
  kept = record {
    words = plain.words;
    entries = entries_of plain;
    table = plain.table_area;
    settling = settling;
  }

  abbrev segments : List Act
  segments = input_writes kept.words kept.entries (Some size) content.bytes

  abbrev rear : List Act
  rear = entry_acts kept content.name content.date silently (taking (room_in kept) (Some size) content.bytes)

  abbrev fits : Bool
  fits = has_room plain size

  free_carry : All (λ s. Carries (mask_at plain.words s)) (free_in kept)
  free_carry = carrying_carry plain.words (last_end (entries_of plain) + 1) (length plain.words - 1)

  segments_write : fits ≡ true → steps_of segments ≡ writes_into plain.words (free_in kept) content.bytes
  segments_write enough =
      let free : List ℕ = free_in kept in
      ap (λ (b : Bool). steps_of (cond b (input_acts plain.words free size true content.bytes) [])) enough
      ∙ ap (λ (b : Bool). steps_of (cond b (filled_acts plain.words free content.bytes)
      (volume_acts plain.words free (take size content.bytes)))) (same_less size)
      ∙ ap (λ (xs : List ℕ). steps_of (volume_acts plain.words free xs)) (take_all size content.bytes (omega arith))
      ∙ volume_is_writes plain.words free content.bytes free_carry

  rear_is : fits ≡ true → rear ≡ entry_acts kept content.name content.date silently (Fits content.bytes)
  rear_is enough =
      ap (λ (b : Bool). entry_acts kept content.name content.date silently
      (cond b (cond (nat_lt size size) (TooShort size size) (Fits (take size content.bytes))) (TooLong size (room_in kept)))) enough
      ∙ ap (λ (b : Bool). entry_acts kept content.name content.date silently
      (cond b (TooShort size size) (Fits (take size content.bytes)))) (same_less size)
      ∙ ap (λ (xs : List ℕ). entry_acts kept content.name content.date silently (Fits xs)) (take_all size content.bytes (omega arith))

  rear_writes : fits ≡ true → steps_of rear ≡ appends.list_steps plain content
  rear_writes enough =
      let slot : List ℕ = slot_bytes (entry_for kept content.name content.date content.bytes) in
      ap steps_of (rear_is enough)
      ∙ append-nil (table_writes (slot_sector (length (entries_of plain))) (with_slot plain.table_area (length (entries_of plain)) slot))
      ∙ ap (λ (n : ℕ). table_writes (slot_sector n) (with_slot plain.table_area n slot))
      (length-map plain.volumes (λ (v : Volume). v.entry))

  pub all_writes : fits ≡ true → steps_of (segments ++ rear) ≡ appends.append_steps_of plain content
  all_writes enough =
      steps_of-append segments rear
      ∙ ap (λ (front : List Step). front ++ steps_of rear) (segments_write enough)
      ∙ ap (λ (next : List Step). appends.volume_steps plain content ++ next) (rear_writes enough)

  pub no_writes : fits ≡ false → steps_of (segments ++ rear) ≡ []
  no_writes small =
      let free : List ℕ = free_in kept in
      ap (λ (b : Bool). steps_of (cond b (input_acts plain.words free size true content.bytes) []
      ++ entry_acts kept content.name content.date silently
      (cond b (cond (nat_lt size size) (TooShort size size) (Fits (take size content.bytes))) (TooLong size (room_in kept))))) small

-- ---- from the settling of the table on

-- what all steps leave is what those of the append leave of the settled cartridge
appended_behind : (c : Cartridge) (plain : Plain) (content : Content) → TableIs c plain.table_area →
    changed_by (settle_and_append c plain content) c ≡ changed_by (appends.append_steps_of plain content) (settled plain.table_area c)
appended_behind c plain content reads =
    let next : List Step = appends.append_steps_of plain content in
    changed_by-append (settling_steps plain.table_area c) next c ∙ ap (changed_by next) (settling_settles c plain.table_area reads)

-- ---- where sectors of the table's segment may take no write

pub open_appended : AppendsLeaveOpen
open_appended c plain content held named room =
    let still : Cartridge = settled plain.table_area c in
    let may : MayAppendTo still plain content = settled_may_append_to c plain content
    (record { cartridge = held.cartridge; stands = held.stands; room = room; appendable = named }) held.table in
    let known : IsSettledFor still plain.table_area = settled_is_settled_for c plain.table_area held.table held.unprotected in
    let done : Cartridge = changed_by (appends.append_steps_of plain content) still in
    let info : done.info ≡ c.info = (done_touches_only still plain content may).0
    ∙ (settled_keeps_table c plain.table_area held.table).info in
    let all : IsOpen done (with_content plain content) = record {
      cartridge = done_is_cartridge still plain content may;
      stands = done_stands still plain content may known;
      table = (done_is_settled_for still plain content may known).table;
      unprotected = ap (λ (i : TapeInfo). i.protected) info ∙ held.unprotected;
    } in
    subst (λ (d : Cartridge). IsOpen d (with_content plain content)) (sym (appended_behind c plain content held.table)) all

-- ---- where each of them takes a write

-- a whole table's segment takes what is written to it
whole_lives : (c : Cartridge) (area : List (List ℕ)) → IsWhole c area → IsTableLive c
whole_lives c area whole i h = subst IsLive (sym (whole i h)) tt

module _ (content : Content) (named : IsAppendable content) (c : Cartridge) (plain : Plain) (held : IsKept c plain) where
  -- the settled cartridge
  abbrev still : Cartridge
  still = settled plain.table_area c

  -- the plain cartridge with the volume
  abbrev more : Plain
  more = with_content plain content

  may : has_room plain (length content.bytes) ≡ true → MayAppend c plain content
  may room = kept_may held room named

  -- the steps that settle it and those that append
  abbrev steps : List Step
  steps = settle_and_append c plain content

  -- all steps done, the new table is whole
  pub whole_appended : has_room plain (length content.bytes) ≡ true → IsWhole (changed_by steps c) (new_table plain content)
  whole_appended room =
      subst (λ (d : Cartridge). IsWhole d (new_table plain content)) (sym (appended_behind c plain content held.table))
      (appended_is_whole still plain content (settled_is_ready c plain content (may room)))

  pub kept_appended : has_room plain (length content.bytes) ≡ true → IsKept (changed_by steps c) more
  kept_appended room =
      live_kept (changed_by steps c) more (open_appended c plain content (kept_open c plain held) named room)
      (whole_lives (changed_by steps c) (new_table plain content) (whole_appended room))

  pub stopped_appended : (left : Option Cartridge) → has_room plain (length content.bytes) ≡ true →
      Torn steps (Some c) left → IsSomeAnd left (λ d. Stands d plain ⊎ Stands d more)
  stopped_appended left room torn =
      stopped_from_the_start c plain content left (may room) torn
