-- What a copy leaves of a target that stands for a plain cartridge, done or stopped.
use Rattle.std.proofs.Common.{◌⊎◌, ◌≡◌, ℕ, ◌+◌, ◌-◌, ◌<◌, ◌≤◌, nat_lt, arith, Bool, true, cond, List, [], ◌∷◌, ◌++◌, length, take}
use Rattle.std.proofs.Common.{All, Option, Some, IsSomeAnd, inl, inr, refl, sym, ap, ◌∙◌, subst, append-nil}
use Rattle.std.proofs.lemmas.List.{length-map, map-append, take_all}
use Rattle.std.proofs.lemmas.List.Elements.{All-head, All-tail, All-weaker}
use Rattle.cartridge_laws.proofs.AppendSegments.{carrying_from}
use Rattle.cartridge_laws.proofs.AppendVolume.{free_writes_stand}
use Rattle.cartridge_laws.proofs.FormatWriting.{some_weaker, some_and}
use Rattle.cartridge_laws.proofs.MountKeeping.{stopped_stands}
use Rattle.cartridge_laws.proofs.MountSettled.{settled_stands}
use Rattle.cartridge_laws.proofs.MountStanding.{standing_data}
use Rattle.cartridge_laws.proofs.MountWhole.{settling_effects}
use Rattle.cartridge_laws.specs.AppendLaws.{new_volume, IsAppendable}
use Rattle.cartridge_laws.specs.AppendWrites.{AreWrites, IsFree}
use Rattle.cartridge_spec.specs.Appending.{Content, free_segments, has_room, new_entry, taken_by, with_all}
use Rattle.cartridge_spec.specs.Volumes.{Plain, Stands, Volume, entries_of}
use Rattle.cartridge_laws.specs.Table.{last_end}
use Rattle.cartridge_spec.specs.Mounting.{settled}
use Rattle.cartridge_spec.specs.Settling.{changed_by, settling_steps}
use Rattle.cartridge_spec.specs.Table.{Entry}
use Rattle.command_laws.proofs.CopyGiven.{GivesAll, content_of, given_back, given_long, given_may, given_of, given_only, with_entry}
use Rattle.command_laws.proofs.CopyGoing.{next_like, next_missing}
use Rattle.command_laws.proofs.CopyValues.{HasValues}
use Rattle.command_laws.proofs.InputActLaws.{input_is_free}
use Rattle.command_laws.proofs.MountedKeeping.{acts_stopped, changed_by_acts, kept_open}
use Rattle.command_laws.proofs.MountedStanding.{all_writes, kept_appended, open_appended, stopped_appended, same_less}
use Rattle.command_laws.proofs.ScriptActs.{fits_acts, front_acts, full_acts, input_texts, last_act, replied_steps, replied_text}
use Rattle.command_laws.specs.MountedKept.{IsKept, IsOpen, settle_and_append}
use Rattle.command_spec.specs.Append.{Fits, Kept, TooLong, TooShort, append_acts, has_promised_room, input_acts, input_writes, kept_over}
use Rattle.command_spec.specs.Append.{room_in, taking}
use Rattle.command_laws.specs.AppendTerms.{free_in}
use Rattle.command_spec.specs.CopyGiven.{AreGivenBack, ListsLike, missing_on}
use Rattle.command_spec.specs.Copying.{Copies, CopiesVolume, DoneOf, IsBegun, IsFull, Side, behind_copy, copied_behind}
use Rattle.command_spec.specs.Copying.{copied_entry, copied_line, copy_acts, giving_status, has_room_for, length_on}
use Rattle.command_spec.specs.Restore.{GivingEnd, LostIn, MismatchIn, Restored, Restores, pieces}
use Rattle.command_spec.specs.declared.copy_status.CopyStatus.{CopyStatus}
use Rattle.qic_base.proofs.Joins.{steps_of-append}
use Rattle.qic_base.proofs.Steps.{Torn-append, Torn-front}
use Rattle.qic_base.specs.Acts.{Act, steps_of, text_of}
use Rattle.qic_base.specs.Cartridge.{Cartridge}
use Rattle.qic_base.specs.Step.{Step, Torn}
use Rattle.command_laws.proofs.MadeStops.{some_split}
use Rattle.cartridge_laws.proofs.MountOnce.{not_lost}
use Rattle.command_laws.proofs.CommandAppends.{free_if}
use Rattle.command_spec.specs.declared.copy_status.CopyStatus.TheVariants as status

-- a cartridge that stands for a plain one, as a side of a copy
abbrev pub side_for : Cartridge → Plain → Side
side_for c plain = record { cartridge = c; words = plain.words; entries = entries_of plain }

-- ---- segments written behind the volumes

pub behind_last : (kept : Kept) (n : ℕ) (bytes : List ℕ) → AreWrites (IsFree (last_end kept.entries))
    (steps_of (input_writes kept.words kept.entries (Some n) bytes))
behind_last kept n bytes =
    free_if (last_end kept.entries) (has_promised_room (room_in kept) (Some n)) (input_acts kept.words (free_in kept) n true bytes)
    (input_is_free (last_end kept.entries) kept.words (free_in kept) n true bytes
    (All-weaker (λ (s : ℕ). last_end kept.entries + 1 ≤ s) (λ (s : ℕ). last_end kept.entries < s)
    (λ s (h : last_end kept.entries + 1 ≤ s). omega arith) (free_in kept)
    (carrying_from kept.words (last_end kept.entries + 1) (length kept.words - 1))))

-- ---- one volume

module _ (from : Side) (e : Entry) (values : HasValues e) (d : Cartridge) (p : Plain) (held : IsOpen d p) where
  abbrev bytes : List ℕ
  bytes = given_of from e

  abbrev to : Side
  to = side_for d p

  -- the plain cartridge with the volume
  abbrev pub more : Plain
  more = with_entry from p e

  can : IsAppendable (content_of from e)
  can = given_may from e values

  abbrev kept : Kept
  kept = kept_over d p.words (entries_of p) p.table_area

  abbrev replies : Entry → List ℕ
  replies = copied_behind (length (entries_of p))

  long : length bytes ≡ length_on from e
  long = given_long from e

  pub room_is : has_room_for from e to ≡ has_room p (length bytes)
  room_is = ap (λ (n : ℕ). has_promised_room (room_in kept) (Some n)) (sym long)

  -- its acts, where so many bytes are promised
  acts_are : (table : List (List ℕ)) → table ≡ p.table_area → copy_acts from e to table bytes ≡ append_acts kept e.name e.date
      (Some (length bytes)) replies bytes
  acts_are table area =
      ap (λ (t : List (List ℕ)). copy_acts from e to t bytes) area
      ∙ ap (λ (n : ℕ). append_acts kept e.name e.date (Some n) replies bytes) (sym long)

  fits : has_room p (length bytes) ≡ true → taking (room_in kept) (Some (length bytes)) bytes ≡ Fits bytes
  fits enough =
      let n : ℕ = length bytes in
      ap (λ (b : Bool). cond b (cond (nat_lt n n) (TooShort n n) (Fits (take n bytes))) (TooLong n (room_in kept))) enough
      ∙ ap (λ (b : Bool). cond b (TooShort n n) (Fits (take n bytes))) (same_less n)
      ∙ ap (λ (xs : List ℕ). Fits xs) (take_all n bytes (omega arith))

  abbrev its_acts : List Act
  its_acts = append_acts kept e.name e.date (Some (length bytes)) replies bytes

  abbrev all_steps : List Step
  all_steps = settle_and_append d p (content_of from e)

  pub steps_are : has_room p (length bytes) ≡ true → steps_of its_acts ≡ all_steps
  steps_are enough =
      sym (replied_steps kept e.name e.date (length bytes) bytes bytes (fits enough) replies)
      ∙ ap (λ (rest : List Step). settling_steps p.table_area d ++ rest)
      (all_writes p (content_of from e) (settling_steps p.table_area d) enough)

  -- where it was carried out there was room, and all its acts were done
  pub done_given : (table : List (List ℕ)) (acts : List Act) (ending : GivingEnd) (given : List ℕ) → table ≡ p.table_area →
      has_room_for from e to ≡ true → status.Done ≡ giving_status ending → given ≡ bytes → DoneOf from e to table given ending acts →
      (has_room p (length bytes) ≡ true) × (acts ≡ its_acts)
  done_given table acts Restored given area room answered same does =
      (sym room_is ∙ room, does ∙ ap (copy_acts from e to table) same ∙ acts_are table area)
  done_given table acts (LostIn segment lost) given area room answered same does = absurd (cc)
  done_given table acts (MismatchIn segment) given area room answered same does = absurd (cc)

  -- .. and the source gave all of it
  done_gives : (read : List Act) (ending : GivingEnd) → Restores from.cartridge from.words (pieces from.words e) read ending →
      status.Done ≡ giving_status ending → GivesAll from e
  done_gives read Restored restores answered = (read, restores)
  done_gives read (LostIn segment lost) restores answered = absurd (cc)
  done_gives read (MismatchIn segment) restores answered = absurd (cc)

  pub done_reads : (acts : List Act) → CopiesVolume from e to acts status.Done → GivesAll from e
  done_reads acts (inl lost) = absurd (let is = lost.answered in cc)
  done_reads acts (inr (table, reads, inl full)) = absurd (let is = full.answered in cc)
  done_reads acts (inr (table, reads, inr is)) = done_gives is.read is.ending is.restores is.answered

  pub done_acts : (acts : List Act) → CopiesVolume from e to acts status.Done → (has_room p (length bytes) ≡ true) × (acts ≡ its_acts)
  done_acts acts (inl lost) = absurd (let is = lost.answered in cc)
  done_acts acts (inr (table, reads, inl full)) = absurd (let is = full.answered in cc)
  done_acts acts (inr (table, reads, inr is)) =
      done_given table acts is.ending is.bytes (standing_data d p table held.stands reads) is.room is.answered
      (given_only from e is.bytes is.given) is.does

  pub done_volume : (acts : List Act) → CopiesVolume from e to acts status.Done → (has_room p (length bytes) ≡ true)
      × (steps_of acts ≡ all_steps)
  done_volume acts does =
      let did = done_acts acts does in
      (did.0, ap steps_of did.1 ∙ steps_are did.0)

  -- all but the last of them print nothing, and that prints the line
  abbrev pub quiet_acts : List Act
  quiet_acts = front_acts kept (length bytes) bytes

  abbrev pub last_acts : List Act
  last_acts = last_act kept e.name e.date replies bytes

  pub done_parts : (acts : List Act) → CopiesVolume from e to acts status.Done → acts ≡ quiet_acts ++ last_acts
  done_parts acts does =
      let did = done_acts acts does in
      did.1 ∙ fits_acts kept e.name e.date (length bytes) bytes bytes (fits did.0) replies

  pub quiet_text : text_of quiet_acts ≡ []
  quiet_text = input_texts kept (Some (length bytes)) bytes

  pub done_text : (acts : List Act) → CopiesVolume from e to acts status.Done → text_of acts ≡ copied_line (length p.volumes + 1)
      (length_on from e)
  done_text acts does =
      let did = done_acts acts does in
      ap text_of did.1 ∙ replied_text kept e.name e.date (length bytes) bytes bytes (fits did.0) replies
      ∙ ap (λ (n : ℕ). copied_line (length (entries_of p) + 1) n) long
      ∙ ap (λ (n : ℕ). copied_line (n + 1) (length_on from e)) (length-map p.volumes (λ (v : Volume). v.entry))

  pub open_behind : (acts : List Act) → CopiesVolume from e to acts status.Done → IsOpen (changed_by (steps_of acts) d) more
  open_behind acts does =
      let did = done_volume acts does in
      subst (λ (steps : List Step). IsOpen (changed_by steps d) more) (sym did.1)
      (open_appended d p (content_of from e) held can did.0)

  -- the target as the next volume finds it
  pub side_behind : (acts : List Act) → behind_copy from e to acts ≡ side_for (changed_by (steps_of acts) d) more
  side_behind acts =
      let entry : copied_entry from e to ≡ (new_volume p (content_of from e)).entry =
      ap (λ (n : ℕ). new_entry (taken_by p.words n (free_segments p.words (entries_of p))) e.name e.date n) (sym long) in
      let list : entries_of p ++ copied_entry from e to ∷ [] ≡ entries_of more =
      ap (λ (x : Entry). entries_of p ++ x ∷ []) entry
      ∙ sym (map-append (λ (v : Volume). v.entry) p.volumes (new_volume p (content_of from e) ∷ [])) in
      ap (λ (es : List Entry). record { cartridge = changed_by (steps_of acts) d; words = p.words; entries = es }) list

  -- ---- stopped

  begun_stands : (table : List (List ℕ)) (given : List ℕ) (acts : List Act) (left : Option Cartridge) →
      (table ≡ p.table_area) → IsBegun from e to table given acts → Torn (steps_of acts) (Some d) left → IsSomeAnd left (λ f. Stands f p)
  begun_stands table given acts left area begun torn =
      let writes : List Act = input_writes p.words (entries_of p) (Some (length_on from e)) given in
      let all : Torn (settling_steps table d ++ steps_of writes) (Some d) left =
      subst (λ (steps : List Step). Torn steps (Some d) left) (sym (steps_of-append acts begun.rest) ∙ ap steps_of begun.parts)
      (Torn-front (steps_of acts) (steps_of begun.rest) (Some d) left torn) in
      let now : Torn (settling_steps p.table_area d ++ steps_of writes) (Some d) left =
      subst (λ (t : List (List ℕ)). Torn (settling_steps t d ++ steps_of writes) (Some d) left) area all in
      elim (Torn-append (settling_steps p.table_area d) (steps_of writes) (Some d) left now) [
        | inl front ↦ stopped_stands d p p.table_area left held.stands held.table front
        | inr behind ↦ some_weaker left (λ f known. known.0)
            (free_writes_stand (settled p.table_area d) p (steps_of writes) left (settled_stands d p p.table_area held.stands held.table)
            (behind_last (kept_over d p.words (entries_of p) table) (length_on from e) given)
            (subst (λ (o : Option Cartridge). Torn (steps_of writes) o left) (settling_effects d p.table_area held.table) behind))
      ]

  full_stands : (table : List (List ℕ)) (acts : List Act) (answer : CopyStatus) (left : Option Cartridge) →
      table ≡ p.table_area → IsFull from e to table acts answer → Torn (steps_of acts) (Some d) left → IsSomeAnd left (λ f. Stands f p)
  full_stands table acts answer left area full torn =
      let alone : copy_acts from e to table [] ≡ record { steps = settling_steps table d; text = [] } ∷ [] =
      full_acts (kept_over d p.words (entries_of p) table) e.name e.date (length_on from e) full.none replies [] in
      let steps : steps_of acts ≡ settling_steps p.table_area d =
      ap steps_of (full.does ∙ alone) ∙ append-nil (settling_steps table d) ∙ ap (λ (t : List (List ℕ)). settling_steps t d) area in
      stopped_stands d p p.table_area left held.stands held.table (subst (λ (ss : List Step). Torn ss (Some d) left) steps torn)

-- a stop in the append of a volume left what stood; or there was room, the source gave all of it, and what stood with the volume is left
pub data StoppedIn (from : Side) (e : Entry) (p : Plain) (left : Option Cartridge) : Type 0 where
  Before : IsSomeAnd left (λ f. Stands f p) → StoppedIn from e p left
  After : has_room p (length (given_of from e)) ≡ true → GivesAll from e → IsSomeAnd left (λ f. Stands f (with_entry from p e)) →
      StoppedIn from e p left

stopped_in : (from : Side) (e : Entry) (p : Plain) (left : Option Cartridge) → has_room p (length (given_of from e)) ≡ true →
    GivesAll from e → IsSomeAnd left (λ f. Stands f p ⊎ Stands f (with_entry from p e)) → StoppedIn from e p left
stopped_in from e p left room read stands =
    elim (some_split (λ f. Stands f p) (λ f. Stands f (with_entry from p e)) left stands) [
      | inl before ↦ Before before
      | inr after ↦ After room read after
    ]

-- where each sector of the table's segment takes a write
module _ (from : Side) (e : Entry) (values : HasValues e) (d : Cartridge) (p : Plain) (held : IsKept d p) where
  abbrev opened : IsOpen d p
  opened = kept_open d p held

  abbrev next : Plain
  next = with_entry from p e

  may : IsAppendable (content_of from e)
  may = given_may from e values

  pub kept_behind : (acts : List Act) → CopiesVolume from e (side_for d p) acts status.Done → IsKept (changed_by (steps_of acts) d) next
  kept_behind acts does =
      let did = done_volume from e values d p opened acts does in
      subst (λ (steps : List Step). IsKept (changed_by steps d) next) (sym did.1)
      (kept_appended (content_of from e) may d p held did.0)

  stopped_given : (table : List (List ℕ)) (acts : List Act) (given : List ℕ) (read : List Act) (ending : GivingEnd)
      (left : Option Cartridge) → table ≡ p.table_area → has_room_for from e (side_for d p) ≡ true → given ≡ given_of from e →
      Restores from.cartridge from.words (pieces from.words e) read ending → DoneOf from e (side_for d p) table given ending acts →
      Torn (steps_of acts) (Some d) left → StoppedIn from e p left
  stopped_given table acts given read Restored left area room same restores does torn =
      let did = done_given from e values d p opened table acts Restored given area room refl same does in
      stopped_in from e p left did.0 (read, restores)
      (stopped_appended (content_of from e) may d p held left did.0
      (subst (λ (steps : List Step). Torn steps (Some d) left) (ap steps_of did.1 ∙ steps_are from e values d p opened did.0) torn))
  stopped_given table acts given read (LostIn segment lost) left area room same restores does torn =
      Before (begun_stands from e values d p opened table given acts left area does torn)
  stopped_given table acts given read (MismatchIn segment) left area room same restores does torn =
      Before (begun_stands from e values d p opened table given acts left area does torn)

  pub stopped_volume : (acts : List Act) (answer : CopyStatus) (left : Option Cartridge) → CopiesVolume from e (side_for d p) acts answer →
      Torn (steps_of acts) (Some d) left → StoppedIn from e p left
  stopped_volume acts answer left (inl lost) torn = absurd (not_lost d p.table_area lost.lost held.table lost.says)
  stopped_volume acts answer left (inr (table, reads, inl full)) torn =
      Before (full_stands from e values d p opened table acts answer left (standing_data d p table held.stands reads) full torn)
  stopped_volume acts answer left (inr (table, reads, inr is)) torn =
      stopped_given table acts is.bytes is.read is.ending left (standing_data d p table held.stands reads) is.room
      (given_only from e is.bytes is.given) is.restores is.does torn

-- ---- volumes one after the other

-- the first ones of some volumes stand behind those of a plain cartridge, which are then listed by the source
pub record StandsWith (from : Side) (es : List Entry) (p : Plain) (left : Option Cartridge) : Type 0 where
  pub contents : List Content
  pub given : AreGivenBack from es contents
  pub stands : IsSomeAnd left (λ d. Stands d (with_all p contents))
  pub like : ListsLike from (with_all p contents)

pub stands_none : (from : Side) (es : List Entry) (p : Plain) (left : Option Cartridge) → ListsLike from p →
    IsSomeAnd left (λ d. Stands d p) → StandsWith from es p left
stands_none from es p left like stands = record { contents = []; given = tt; stands = stands; like = like }

abbrev pub stands_more : (from : Side) (e : Entry) (es : List Entry) (p : Plain) (left : Option Cartridge) → GivesAll from e →
    StandsWith from es (with_entry from p e) left → StandsWith from (e ∷ es) p left
stands_more from e es p left read behind = record {
  contents = content_of from e ∷ behind.contents;
  given = (given_back from e read, behind.given);
  stands = behind.stands;
  like = behind.like;
}

-- all of some volumes do, and more can be appended
pub record CopiedWith (from : Side) (es : List Entry) (p : Plain) (d : Cartridge) : Type 0 where
  pub contents : List Content
  pub given : AreGivenBack from es contents
  pub all : length contents ≡ length es
  pub held : IsOpen d (with_all p contents)
  pub like : ListsLike from (with_all p contents)

module _ (from : Side) where
  -- the next volume, where these are missing
  module _ (e : Entry) (es : List Entry) (values : All HasValues (e ∷ es)) (d : Cartridge) (p : Plain) (held : IsOpen d p)
      (like : ListsLike from p) (is : missing_on from p ≡ e ∷ es) where
    abbrev pub first_has : HasValues e
    first_has = All-head HasValues e es values

    pub like_next : has_room p (length (given_of from e)) ≡ true → ListsLike from (with_entry from p e)
    like_next room = next_like from e first_has p d es held.cartridge held.stands room like is

    pub is_next : missing_on from (with_entry from p e) ≡ es
    is_next = next_missing from e first_has p es is

    pub stands_either : (left : Option Cartridge) → StoppedIn from e p left → StandsWith from (e ∷ es) p left
    stands_either left (Before stands) = stands_none from (e ∷ es) p left like stands
    stands_either left (After room read stands) = stands_more from e es p left read
        (stands_none from es (with_entry from p e) left (like_next room) stands)

    -- what is copied behind it
    pub copies_next : (first rest : List Act) (answer : CopyStatus) → Copies from es (behind_copy from e (side_for d p) first) rest answer →
        Copies from es (side_for (changed_by (steps_of first) d) (with_entry from p e)) rest answer
    copies_next first rest answer behind =
        subst (λ (side : Side). Copies from es side rest answer) (side_behind from e first_has d p held first) behind

  pub copies_stopped : (es : List Entry) → All HasValues es → (d : Cartridge) (p : Plain) → IsKept d p → ListsLike from p →
      missing_on from p ≡ es → (acts : List Act) (answer : CopyStatus) (left : Option Cartridge) →
      Copies from es (side_for d p) acts answer → Torn (steps_of acts) (Some d) left → StandsWith from es p left
  copies_stopped [] values d p held like is acts answer left (does, done) torn =
      stands_none from [] p left like (some_and (λ f. Stands f p) d left held.stands
      (subst (λ (zs : List Act). Torn (steps_of zs) (Some d) left) does torn))
  copies_stopped (e ∷ es) values d p held like is acts answer left (inl (other, does)) torn =
      stands_either e es values d p (kept_open d p held) like is left
      (stopped_volume from e (All-head HasValues e es values) d p held acts answer left does torn)
  copies_stopped (e ∷ es) values d p held like is acts answer left (inr (first, rest, parts, does, behind)) torn =
      let has : HasValues e = All-head HasValues e es values in
      let opened : IsOpen d p = kept_open d p held in
      elim (acts_stopped first rest acts d left parts torn) [
        | inl here ↦ stands_either e es values d p opened like is left
            (stopped_volume from e has d p held first status.Done left does here)
        | inr later ↦ stands_more from e es p left (done_reads from e has d p opened first does)
            (copies_stopped es (All-tail HasValues e es values) (changed_by (steps_of first) d) (with_entry from p e)
            (kept_behind from e has d p held first does)
            (like_next e es values d p opened like is (done_volume from e has d p opened first does).0)
            (is_next e es values d p opened like is)
            rest answer left (copies_next e es values d p opened like is first rest answer behind) later)
      ]

  pub copies_done : (es : List Entry) → All HasValues es → (d : Cartridge) (p : Plain) → IsOpen d p → ListsLike from p →
      missing_on from p ≡ es → (acts : List Act) → Copies from es (side_for d p) acts status.Done →
      CopiedWith from es p (changed_by (steps_of acts) d)
  copies_done [] values d p held like is acts (does, done) = record {
    contents = [];
    given = tt;
    all = refl;
    held = subst (λ (zs : List Act). IsOpen (changed_by (steps_of zs) d) p) (sym does) held;
    like = like;
  }
  copies_done (e ∷ es) values d p held like is acts (inl (other, does)) = absurd (other refl)
  copies_done (e ∷ es) values d p held like is acts (inr (first, rest, parts, does, behind)) =
      let has : HasValues e = All-head HasValues e es values in
      let next : Plain = with_entry from p e in
      let f : Cartridge = changed_by (steps_of first) d in
      let now : CopiedWith from es next (changed_by (steps_of rest) f) =
      copies_done es (All-tail HasValues e es values) f next (open_behind from e has d p held first does)
      (like_next e es values d p held like is (done_volume from e has d p held first does).0) (is_next e es values d p held like is)
      rest (copies_next e es values d p held like is first rest status.Done behind) in
      let count : length now.contents ≡ length es = now.all in record {
        contents = content_of from e ∷ now.contents;
        given = (given_back from e (done_reads from e has d p held first does), now.given);
        all = omega arith;
        held = subst (λ (g : Cartridge). IsOpen g (with_all next now.contents))
            (sym (ap (λ (zs : List Act). changed_by (steps_of zs) d) (sym parts) ∙ changed_by_acts first rest d)) now.held;
        like = now.like;
      }
