-- A copy comes to something, whatever the sectors of the cartridges hold.
use Rattle.std.proofs.Common.{◌≡◌, ℕ, nat_lt, arith, Bool, true, false, cond, List, [], ◌∷◌, ◌++◌, length, take, All, Option, Some, None}
use Rattle.std.proofs.Common.{IfSome, inl, inr, refl, ap, ◌∙◌, subst, sym}
use Rattle.std.proofs.lemmas.Bool.{cases_Bool, le-ltb}
use Rattle.std.proofs.lemmas.List.{take_all}
use Rattle.std.proofs.lemmas.List.Elements.{All-drop, All-head, All-tail}
use Rattle.cartridge_laws.proofs.MountOnce.{mounts_always}
use Rattle.cartridge_laws.proofs.MountSettled.{settled_keeps_table}
use Rattle.cartridge_laws.proofs.MountWhole.{table_is_area}
use Rattle.cartridge_spec.specs.Appending.{free_segments, new_entry, taken_by}
use Rattle.cartridge_spec.specs.TableSegment.{TableIs}
use Rattle.cartridge_spec.specs.Mounting.{Mounting, Mounts}
use Rattle.cartridge_spec.specs.Settling.{changed_by, settling_steps}
use Rattle.cartridge_spec.specs.Table.{Entry}
use Rattle.command_laws.proofs.CopyOnce.{done_or_not}
use Rattle.command_laws.proofs.CopyValues.{HasValues, shown_values}
use Rattle.command_laws.proofs.MountedListed.{append_leaves, append_listed, listed_reads, mounted_listed}
use Rattle.command_laws.proofs.MountedSaying.{restores_anyway}
use Rattle.command_laws.proofs.RestoreGiven.{given_always, given_is_long}
use Rattle.command_laws.specs.CopyLaws.{CopiesSomething}
use Rattle.command_laws.specs.MountedListed.{IsListed, listed_behind}
use Rattle.command_spec.specs.Append.{Fits, Kept, Taking, TooLong, TooShort, room_in, taking}
use Rattle.command_spec.specs.Copying.{Compares, Copies, CopiesVolume, CopyOutcome, FromMounted, Side, ToDoes, ToMounted, behind_copy}
use Rattle.command_spec.specs.Copying.{copied_behind, copied_entry, copy_acts, copy_refused, first_difference, foreign_fault, giving_status}
use Rattle.command_spec.specs.Copying.{has_room_for, kept_on, length_on, missing, side_of, DoneOf, GivenBytes}
use Rattle.command_spec.specs.Lines.{count_line}
use Rattle.command_spec.specs.Outcome.{settling_act}
use Rattle.command_spec.specs.Restore.{GivingEnd, LostIn, MismatchIn, Restored, Restores, pieces}
use Rattle.command_spec.specs.declared.copy_status.CopyStatus.{CopyStatus}
use Rattle.qic_base.specs.Acts.{Act, steps_of}
use Rattle.qic_base.specs.Cartridge.{Cartridge}
use Rattle.qic_base.specs.CartridgeTerms.{IsCartridge}
use Rattle.qic_base.specs.declared.tape.TapeInfo.{TapeInfo}
use Rattle.cartridge_spec.specs.Mounting as mounting
use Rattle.qic_base.specs.declared.store_fault.StoreFault.TheVariants as fault
use Rattle.command_spec.specs.declared.copy_status.CopyStatus.TheVariants as status

-- a target that takes volumes
pub record IsTarget (to : Side) : Type 0 where
  pub listed : IsListed to.cartridge to.words to.entries
  pub unprotected : to.cartridge.info.protected ≡ false

-- ---- one volume

-- it comes to something, and where it was copied the target takes more
record CopiesSome (from : Side) (e : Entry) (to : Side) : Type 0 where
  acts : List Act
  answer : CopyStatus
  copies : CopiesVolume from e to acts answer
  next : answer ≡ status.Done → IsTarget (behind_copy from e to acts)

module _ (from : Side) (e : Entry) (to : Side) (values : HasValues e) (target : IsTarget to) (table : List (List ℕ))
    (reads : TableIs to.cartridge table) where
  abbrev kept : Kept
  kept = kept_on to table

  abbrev size : ℕ
  size = length_on from e

  -- the list behind the append of just as many bytes
  more_behind : (bytes : List ℕ) → length bytes ≡ size → has_room_for from e to ≡ true →
      listed_behind kept e.name e.date (taking (room_in kept) (Some size) bytes) ≡ to.entries ++ copied_entry from e to ∷ []
  more_behind bytes long enough =
      let became : Taking → List Entry = λ took. listed_behind kept e.name e.date took in
      ap (λ (b : Bool). became (cond b (cond (nat_lt (length bytes) size) (TooShort size (length bytes)) (Fits (take size bytes)))
      (TooLong size (room_in kept)))) enough
      ∙ ap (λ (b : Bool). became (cond b (TooShort size (length bytes)) (Fits (take size bytes))))
      (le-ltb (length bytes) size (omega (arith, long)))
      ∙ ap (λ (xs : List ℕ). became (Fits xs)) (take_all size bytes (omega arith))
      ∙ ap (λ (n : ℕ). to.entries ++ new_entry (taken_by to.words n (free_segments to.words to.entries)) e.name e.date n ∷ []) long

  next_target : (bytes : List ℕ) → length bytes ≡ size → has_room_for from e to ≡ true →
      IsTarget (behind_copy from e to (copy_acts from e to table bytes))
  next_target bytes long enough =
      let leaves = append_leaves to.cartridge to.words to.entries table target.listed target.unprotected reads e.name e.date (Some size)
      (copied_behind (length to.entries)) bytes values.label values.word in
      record {
        listed = subst (λ (es : List Entry). IsListed (changed_by (steps_of (copy_acts from e to table bytes)) to.cartridge) to.words es)
            (more_behind bytes long enough)
            (append_listed to.cartridge to.words to.entries table e.name e.date (Some size)
            (copied_behind (length to.entries)) bytes target.listed target.unprotected reads
            values.label values.word);
        unprotected = ap (λ (i : TapeInfo). i.protected) leaves.info ∙ target.unprotected;
      }

  by_ending : has_room_for from e to ≡ true → (bytes : List ℕ) → GivenBytes from.cartridge from.words (pieces from.words e) bytes →
      (read : List Act) (ending : GivingEnd) →
      Restores from.cartridge from.words (pieces from.words e) read ending → CopiesSome from e to
  by_ending enough bytes given read Restored restores = record {
    acts = copy_acts from e to table bytes;
    answer = status.Done;
    copies = inr (
      table,
      reads,
      inr (record {
        room = enough;
        bytes = bytes;
        given = given;
        read = read;
        ending = Restored;
        restores = restores;
        does = refl;
        answered = refl;
      }),
    );
    next = λ done. next_target bytes (given_is_long from.cartridge from.words e bytes given) enough;
  }
  by_ending enough bytes given read (LostIn segment lost) restores = record {
    acts = [];
    answer = giving_status (LostIn segment lost);
    copies = inr (
      table,
      reads,
      inr (record {
        room = enough;
        bytes = bytes;
        given = given;
        read = read;
        ending = LostIn segment lost;
        restores = restores;
        does = record { rest = _; parts = refl };
        answered = refl;
      }),
    );
    next = λ done. absurd (cc);
  }
  by_ending enough bytes given read (MismatchIn segment) restores = record {
    acts = [];
    answer = giving_status (MismatchIn segment);
    copies = inr (
      table,
      reads,
      inr (record {
        room = enough;
        bytes = bytes;
        given = given;
        read = read;
        ending = MismatchIn segment;
        restores = restores;
        does = record { rest = _; parts = refl };
        answered = refl;
      }),
    );
    next = λ done. absurd (cc);
  }

  by_room : CopiesSome from e to
  by_room = elim (cases_Bool (has_room_for from e to)) [
    | inl enough ↦
        let given = given_always from.cartridge from.words (pieces from.words e) in
        let gives = restores_anyway from.cartridge from.words (pieces from.words e) in
        by_ending enough given.0 given.1 gives.0 gives.1 gives.2
    | inr none ↦ record {
      acts = copy_acts from e to table [];
      answer = status.To (fault.Full size (room_in kept));
      copies = inr (table, reads, inl (record { none = none; does = refl; answered = refl }));
      next = λ done. absurd (cc);
    }
  ]

-- what a volume that was copied leaves takes more
pub copied_target : (from : Side) (e : Entry) (to : Side) (acts : List Act) → HasValues e → IsTarget to →
    CopiesVolume from e to acts status.Done → IsTarget (behind_copy from e to acts)
copied_target from e to acts values target (inl lost) = absurd (let no : status.Done ≡ status.To (fault.Lost 2 lost.lost) = lost.answered in
    cc)
copied_target from e to acts values target (inr (table, reads, inl full)) =
    absurd (let no : status.Done ≡ status.To (fault.Full (length_on from e) (room_in (kept_on to table))) = full.answered in cc)
copied_target from e to acts values target (inr (table, reads, inr is)) = by_done is.ending is.does is.answered
  where
    by_done : (ending : GivingEnd) → DoneOf from e to table is.bytes ending acts → status.Done ≡ giving_status ending →
        IsTarget (behind_copy from e to acts)
    by_done Restored does answered =
        subst (λ (zs : List Act). IsTarget (behind_copy from e to zs)) (sym does)
        (next_target from e to values target table reads is.bytes (given_is_long from.cartridge from.words e is.bytes is.given) is.room)
    by_done (LostIn segment lost) does answered = absurd (cc)
    by_done (MismatchIn segment) does answered = absurd (cc)

copies_some : (from : Side) (e : Entry) (to : Side) → HasValues e → IsTarget to → CopiesSome from e to
copies_some from e to values target = elim (listed_reads to.cartridge to.words to.entries target.listed target.unprotected) [
  | inl (table, reads, shown) ↦ by_room from e to values target table reads
  | inr (lost, says) ↦ record {
    acts = [];
    answer = status.To (fault.Lost 2 lost);
    copies = inl (record { lost = lost; says = says; does = refl; answered = refl });
    next = λ done. absurd (cc);
  }
]

-- ---- volumes one after the other

pub copies_somehow : (from : Side) (es : List Entry) (to : Side) → All HasValues es → IsTarget to → (acts : List Act)
    × (answer : CopyStatus) × Copies from es to acts answer
copies_somehow from [] to values target = (record { steps = []; text = count_line (length to.entries) } ∷ [], status.Done, (refl, refl))
copies_somehow from (e ∷ es) to values target =
    let some : CopiesSome from e to = copies_some from e to (All-head HasValues e es values) target in
    elim (done_or_not some.answer) [
      | inl done ↦
          let rest = copies_somehow from es (behind_copy from e to some.acts) (All-tail HasValues e es values) (some.next done) in (
            some.acts ++ rest.0,
            rest.1,
            inr (some.acts, rest.0, refl, subst (CopiesVolume from e to some.acts) done some.copies, rest.2),
          )
      | inr other ↦ (some.acts, some.answer, inl (other, some.copies))
    ]

-- ---- the outcome

compares_somehow : (from to : Side) (difference : Option ℕ) → All HasValues from.entries → IsTarget to → (acts : List Act)
    × (answer : CopyStatus) × Compares from to difference acts answer
compares_somehow from to (Some number) values target = ([], status.Differs number, (refl, refl))
compares_somehow from to None values target = copies_somehow from (missing from to) to
    (All-drop HasValues (length to.entries) from.entries values) target

to_mounted_somehow : (from : Side) (c : Cartridge) (m : Mounting) → All HasValues from.entries → IsCartridge c → Mounts c m →
    (acts : List Act) × (answer : CopyStatus) × ToMounted from c m acts answer
to_mounted_somehow from c mounting.NotFormatted values whole mounts = ([], status.To fault.NotFormatted, (refl, refl))
to_mounted_somehow from c (mounting.Foreign found) values whole mounts = ([], status.To (foreign_fault found), (refl, refl))
to_mounted_somehow from c (mounting.TableLost lost) values whole mounts = ([], status.To (fault.Lost 2 lost), (refl, refl))
to_mounted_somehow from c mounting.TableMismatch values whole mounts = ([], status.To fault.TableMismatch, (refl, refl))
to_mounted_somehow from c (mounting.Mounted header words table entries) values whole mounts = elim (cases_Bool c.info.protected) [
  | inl locked ↦ ([], status.To fault.Protected, inl (locked, refl, refl))
  | inr free ↦
      let to : Side = side_of c words table entries in
      let target : IsTarget to = record {
        listed = mounted_listed c header words table entries whole mounts;
        unprotected = ap (λ (i : TapeInfo). i.protected) (settled_keeps_table c table mounts.reads).info ∙ free;
      } in
      let some = compares_somehow from to (first_difference from to) values target in
      (settling_act table c ∷ some.0, some.1, inr (free, (some.0, refl, some.2)))
]

to_somehow : (from : Side) (to : Option Cartridge) → All HasValues from.entries → IfSome to IsCartridge → (acts : List Act)
    × (answer : CopyStatus) × ToDoes from to acts answer
to_somehow from None values whole = ([], status.ToAbsent, (refl, refl))
to_somehow from (Some c) values whole =
    let found = mounts_always c whole in
    let some = to_mounted_somehow from c found.0 values whole found.1 in
    (some.0, some.1, (found.0, found.1, some.2))

from_somehow : (c : Cartridge) (m : Mounting) (to : Option Cartridge) → IsCartridge c → IfSome to IsCartridge → Mounts c m →
    (outcome : CopyOutcome) × FromMounted c m to outcome
from_somehow c mounting.NotFormatted to whole wholes mounts = (copy_refused (status.From fault.NotFormatted), refl)
from_somehow c (mounting.Foreign found) to whole wholes mounts = (copy_refused (status.From (foreign_fault found)), refl)
from_somehow c (mounting.TableLost lost) to whole wholes mounts = (copy_refused (status.From (fault.Lost 2 lost)), refl)
from_somehow c mounting.TableMismatch to whole wholes mounts = (copy_refused (status.From fault.TableMismatch), refl)
from_somehow c (mounting.Mounted header words table entries) to whole wholes mounts =
    let some = to_somehow (side_of c words table entries) to
    (shown_values table entries (table_is_area c table whole mounts.reads) mounts.shown) wholes in
    (record { settling = settling_steps table c; acts = some.0; status = some.1 }, (refl, some.2))

pub copies_something : CopiesSomething
copies_something None to whole wholes = (copy_refused status.FromAbsent, refl)
copies_something (Some c) to whole wholes =
    let found = mounts_always c whole in
    let some = from_somehow c found.0 to whole wholes found.1 in
    (some.0, (found.0, found.1, some.1))
