-- Each command leaves a whole cartridge where it began with one, done or stopped.
use Rattle.std.proofs.Common.{◌≡◌, ℕ, ◌<◌, ◌≤◌, List, [], ◌∷◌, ◌++◌, All, false, Option, Some, None, IsSomeAnd, IfSome, inl, inr, refl}
use Rattle.std.proofs.Common.{sym, ap, ◌∙◌, subst, arith, append_assoc, append-nil, drop, length}
use Rattle.std.proofs.lemmas.List.Elements.{All-drop}
use Rattle.cartridge_laws.proofs.FormatWriting.{some_and}
use Rattle.cartridge_laws.proofs.MountSettled.{settled_keeps_table}
use Rattle.cartridge_spec.specs.Appending.{Content}
use Rattle.cartridge_spec.specs.Formatting.{clearing_steps, format_steps}
use Rattle.cartridge_spec.specs.Header.{Header}
use Rattle.cartridge_spec.specs.Mounting.{Mounts, settled}
use Rattle.cartridge_spec.specs.Settling.{changed_by}
use Rattle.cartridge_spec.specs.Table.{Entry}
use Rattle.cartridge_spec.specs.Volumes.{volume_length}
use Rattle.command_laws.proofs.CommandAppends.{can_append}
use Rattle.command_laws.proofs.CommandClean.{GoesLeaving, Leaves, acts_leave, leaves_by, leaves_done, none_leaves, refused_leaves}
use Rattle.command_laws.proofs.CommandClean.{wear_leaves}
use Rattle.command_laws.proofs.MadeOutcomes.{CanDo, CanRun, can_make, made_behind}
use Rattle.command_laws.proofs.MadeStops.{made_label, sum_in_no_step, made_one, made_named}
use Rattle.command_laws.proofs.MountedListed.{append_listed, mounted_listed, scrub_listed, wear_listed}
use Rattle.command_laws.proofs.RestoreCounts.{framed_in_no_step, restores_in_no_step}
use Rattle.command_laws.proofs.ScriptOutcomes.{given_listed, listed_by, replied, taken_listed}
use Rattle.command_laws.proofs.ScriptStanding.{items_have_bytes}
use Rattle.command_laws.proofs.ScriptValues.{append_values}
use Rattle.command_laws.proofs.WholeSteps.{append_leaves, behind_leave, clearing_leaves, format_steps_leave, new_whole, worn_whole}
use Rattle.command_laws.specs.MountedListed.{IsListed, listed_behind}
use Rattle.command_laws.specs.ScriptStanding.{HaveBytes, LineHasBytes}
use Rattle.command_spec.specs.Append.{AppendOutcome, Fits, Kept, Taking, TooLong, TooShort, append_acts, kept_over, room_in, taking}
use Rattle.command_spec.specs.Single.{FormatOutcome}
use Rattle.command_laws.specs.MadeTerms.{made_acts}
use Rattle.command_laws.specs.AppendTerms.{silently, content_with}
use Rattle.command_spec.specs.Make.{made_bytes, made_length, AppendMade, Making, MakeStep, Runs, ScrubAll, StepDoes, SumVolume, WearSector}
use Rattle.command_spec.specs.Make.{after_item, made_name, making}
use Rattle.command_spec.specs.Input.{AtEnd, AtFault, AtStop, Ending, Item}
use Rattle.command_spec.specs.Lines.{reply_behind}
use Rattle.command_laws.specs.Outcomes.{NewOutcome, Printing, Mends, Appends}
use Rattle.command_spec.specs.Outcome.{CommandOutcome, Opened, Shows, StepOutcome}
use Rattle.command_spec.specs.Restore.{GivingEnd, Gives, LostIn, MismatchIn, Restored, framed, pieces}
use Rattle.command_spec.specs.Script.{Did, EndDoes, Finds, ItemsDo, LineDoes, Meeting, Meets, Refuses, Scripting, acts_of, acts_on}
use Rattle.command_spec.specs.Script.{append_did, cartridge_behind, entries_behind, given_as, line_refused, place_behind, refusal_line}
use Rattle.command_spec.specs.Script.{reply, taken_as}
use Rattle.command_spec.specs.declared.line.Line.{Line}
use Rattle.gf256_qic.proofs.Parities.{all_right}
use Rattle.qic_base.specs.Acts.{Act, steps_of, text_of}
use Rattle.qic_base.specs.Cartridge.{Cartridge, IsLength, new_cartridge}
use Rattle.qic_base.specs.CartridgeTerms.{IsCartridge}
use Rattle.qic_base.specs.Step.{Renew, Step, Wear, changed, Halfway, Torn}
use Rattle.qic_base.specs.declared.tape.TapeInfo.{TapeInfo}
use Rattle.command_spec.specs.declared.status.Status.{Status}
use Rattle.command_laws.proofs.ScrubForms.{stopped_form_is_cartridge}
use Rattle.command_spec.specs.declared.depth.Depth.TheVariants.{Shallow}
use Rattle.cartridge_spec.specs.Mounting as mounting
use Rattle.command_spec.specs.declared.line.Line.TheVariants as line
use Rattle.command_spec.specs.declared.refusal.Refusal.TheVariants as why
use Rattle.command_spec.specs.declared.status.Status.TheVariants as status
use Rattle.cartridge_laws.specs.AppendLaws.{IsAppendable}

abbrev Whole : Cartridge → List Step → Type 0
Whole c steps = Leaves IsCartridge c steps

-- the outcome has these acts
whole_outcome : (c : Cartridge) (a b : CommandOutcome) → a ≡ b → Whole c (steps_of b.acts) → Whole c (steps_of a.acts)
whole_outcome c a b same leaves = leaves_by IsCartridge c (steps_of a.acts) (steps_of b.acts)
    (ap (λ (o : CommandOutcome). steps_of o.acts) same) leaves

-- no steps
still_whole : (c : Cartridge) (steps : List Step) → IsCartridge c → steps ≡ [] → Whole c steps
still_whole c steps whole none = none_leaves IsCartridge c steps whole none

-- ---- formatting

pub format_whole : (label : List ℕ) (date : ℕ) (c : Cartridge) (outcome : CommandOutcome) → FormatOutcome label date (Some c) outcome →
    IsCartridge c → Whole c (steps_of outcome.acts)
format_whole label date c outcome (inl is) whole = refused_leaves IsCartridge c outcome _ is.1 refl whole
format_whole label date c outcome (inr (inl (free, (segment, first, is)))) whole =
    whole_outcome c outcome _ is
    (leaves_by IsCartridge c (clearing_steps c.info.segments_per_track ++ []) (clearing_steps c.info.segments_per_track)
    (append-nil (clearing_steps c.info.segments_per_track))
    (clearing_leaves c.info.segments_per_track c whole))
format_whole label date c outcome (inr (inr (free, none, (words, (area, fresh, is))))) whole =
    whole_outcome c outcome _ is
    (leaves_by IsCartridge c (format_steps c.info.segments_per_track area ++ []) (format_steps c.info.segments_per_track area)
    (append-nil (format_steps c.info.segments_per_track area))
    (format_steps_leave c.info.segments_per_track area c whole fresh.size))

-- ---- over a mounted cartridge

pub shows_whole : (prints : Printing) → GoesLeaving IsCartridge (Shows prints)
shows_whole prints c header ws table entries outcome mounts is whole =
    whole_outcome c outcome _ is (behind_leave c table [] whole mounts.reads (λ still. still_whole (settled table c) [] still refl))

pub gives_whole : (number : ℕ) → GoesLeaving IsCartridge (Gives number)
gives_whole number c header ws table entries outcome mounts (inl is) whole =
    whole_outcome c outcome _ is.1 (behind_leave c table [] whole mounts.reads (λ still. still_whole (settled table c) [] still refl))
gives_whole number c header ws table entries outcome mounts (inr found) whole =
    whole_outcome c outcome _ found.is
    (behind_leave c table (steps_of found.acts) whole mounts.reads (λ still.
    still_whole (settled table c) (steps_of found.acts) still
    (restores_in_no_step (settled table c) ws (pieces ws found.entry) found.acts found.ending found.restores)))

pub mends_whole : GoesLeaving IsCartridge Mends
mends_whole c header ws table entries outcome mounts found whole =
    whole_outcome c outcome _ found.is
    (behind_leave c table (steps_of found.acts) whole mounts.reads (λ still left torn.
    stopped_form_is_cartridge Shallow (settled table c) ws entries found.acts left still found.scrubs torn))

listed_still : (c : Cartridge) (header : Header) (ws : List ℕ) (table : List (List ℕ)) (entries : List Entry) → IsCartridge c →
    Mounts c (mounting.Mounted header ws table entries) →
    IsListed (settled table c) ws entries
listed_still c header ws table entries whole mounts = mounted_listed c header ws table entries whole mounts

-- ---- the lines of a script

-- what is left of a line is whole, and behind it the list is known
record LineLeaves (c : Cartridge) (ws : List ℕ) (did : Did) : Type 0 where
  leaves : Whole c (steps_of did.acts)
  listed : IsListed (changed_by (steps_of did.acts) c) ws did.entries

line_by : (c : Cartridge) (ws : List ℕ) (a b : Did) → a ≡ b → LineLeaves c ws b → LineLeaves c ws a
line_by c ws a b same leaves = subst (LineLeaves c ws) (sym same) leaves

-- no step was done, and the list is as it was
line_still : (c : Cartridge) (ws : List ℕ) (entries : List Entry) (acts : List Act) → IsCartridge c → IsListed c ws entries →
    steps_of acts ≡ [] →
    LineLeaves c ws (record { acts = acts; entries = entries })
line_still c ws entries acts whole listed none = record {
  leaves = still_whole c (steps_of acts) whole none;
  listed = listed_by c ws entries (steps_of acts) [] none listed;
}

taken_whole : (c : Cartridge) (kept : Kept) (name : List ℕ) (date : ℕ) (acts : List Act) (taken : Taking) → Whole c (steps_of acts) →
    Whole c (steps_of (taken_as kept name date acts taken).acts)
taken_whole c kept name date acts (Fits bytes) leaves = leaves
taken_whole c kept name date acts (TooLong need have) leaves =
    leaves_by IsCartridge c (steps_of (line_refused acts kept.entries (why.Full need have)).acts) (steps_of acts) (replied acts _) leaves
taken_whole c kept name date acts (TooShort promised read) leaves = leaves

acts_on_whole : (c : Cartridge) (ws : List ℕ) (entries : List Entry) (content : Content) (promised : ℕ) (meeting : Meeting) →
    IsCartridge c → IsListed c ws entries → IsAppendable content → Meets c meeting →
    Whole c (steps_of (acts_on c ws entries content.name promised content.date content.bytes meeting))
acts_on_whole c ws entries content promised (Refuses refusal) whole listed may meets = still_whole c [] whole refl
acts_on_whole c ws entries content promised (Finds table) whole listed may meets =
    append_leaves c ws entries table listed meets.0 meets.1 whole content may (Some promised) (reply_behind (length entries))

append_line : (c : Cartridge) (ws : List ℕ) (entries : List Entry) (content : Content) (promised : ℕ) (meeting : Meeting) →
    IsCartridge c → IsListed c ws entries → IsAppendable content → Meets c meeting →
    LineLeaves c ws (append_did c ws entries content.name promised content.date content.bytes meeting)
append_line c ws entries content promised (Refuses refusal) whole listed may meets =
    line_still c ws entries ([] ++ reply (refusal_line refusal) ∷ []) whole listed refl
append_line c ws entries content promised (Finds table) whole listed may meets =
    let kept : Kept = kept_over c ws entries table in
    let acts : List Act = acts_on c ws entries content.name promised content.date content.bytes (Finds table) in
    let took : Taking = taking (room_in kept) (Some promised) content.bytes in
    record {
      leaves = taken_whole c kept content.name content.date acts took
          (acts_on_whole c ws entries content promised (Finds table) whole listed may meets);
      listed = taken_listed c ws kept content.name content.date acts took
          (append_listed c ws entries table content.name content.date (Some promised) (reply_behind (length entries)) content.bytes listed
          meets.0 meets.1 may.label may.word);
    }

given_steps : (ws : List ℕ) (entries : List Entry) (number : ℕ) (e : Entry) (parts : List Act) (ending : GivingEnd) → steps_of parts ≡ [] →
    steps_of (given_as ws entries number e parts ending).acts ≡ []
given_steps ws entries number e parts Restored none = replied parts _ ∙ none
given_steps ws entries number e parts (LostIn segment lost) none = replied parts _ ∙ none
given_steps ws entries number e parts (MismatchIn segment) none = replied parts _ ∙ none

line_leaves : (c : Cartridge) (ws : List ℕ) (entries : List Entry) (asked : Line) (bytes : List ℕ) (did : Did) → IsCartridge c →
    IsListed c ws entries → LineHasBytes asked bytes → LineDoes c ws entries asked bytes did → LineLeaves c ws did
line_leaves c ws entries (line.Append name promised date) bytes did whole listed has (meeting, meets, is) =
    line_by c ws did _ is (append_line c ws entries (content_with name date bytes) promised meeting whole listed has.0 meets)
line_leaves c ws entries line.List bytes did whole listed has is = line_by c ws did _ is (line_still c ws entries _ whole listed refl)
line_leaves c ws entries (line.Restore number) bytes did whole listed has (inl is) = line_by c ws did _ is.1
    (line_still c ws entries _ whole listed refl)
line_leaves c ws entries (line.Restore number) bytes did whole listed has (inr found) =
    let still = framed_in_no_step c ws (pieces ws found.entry) found.acts found.ending found.restores in
    let parts : List Act = framed (pieces ws found.entry) found.acts in
    line_by c ws did _ found.is (record {
      leaves = still_whole c (steps_of (given_as ws entries number found.entry parts found.ending).acts) whole
          (given_steps ws entries number found.entry parts found.ending still.0);
      listed = given_listed c ws entries number found.entry parts found.ending still.0 listed;
    })
line_leaves c ws entries line.Scrub bytes did whole listed has (inl is) = line_by c ws did _ is.1
    (line_still c ws entries _ whole listed refl)
line_leaves c ws entries line.Scrub bytes did whole listed has (inr (free, (acts, scrubs, is))) =
    line_by c ws did _ is (record {
      leaves = λ left torn. stopped_form_is_cartridge Shallow c ws entries acts left whole scrubs torn;
      listed = scrub_listed c ws entries acts listed free scrubs;
    })
line_leaves c ws entries (line.Lose segment sector) bytes did whole listed has (inl is) = line_by c ws did _ is.1
    (line_still c ws entries _ whole listed refl)
line_leaves c ws entries (line.Lose segment sector) bytes did whole listed has (inr is) =
    line_by c ws did _ is.1 (record {
      leaves = wear_leaves IsCartridge segment sector c whole (worn_whole c segment sector whole);
      listed = wear_listed c ws entries segment sector listed;
    })
line_leaves c ws entries line.End bytes did whole listed has none = absurd none

items_leave : (c : Cartridge) (ws : List ℕ) (entries : List Entry) (items : List Item) (dids : List Did) (rest : List ℕ) (ending : Ending)
    (last : List Act) → IsCartridge c →
    IsListed c ws entries → HaveBytes items → All (λ b. b < 256) rest → ItemsDo c ws entries items dids →
    EndDoes (cartridge_behind c dids) ws (entries_behind entries dids) rest ending last → Whole c (steps_of (acts_of dids ++ last))
items_leave c ws entries [] [] rest AtEnd last whole listed has content done is = still_whole c (steps_of last) whole (ap steps_of is)
items_leave c ws entries [] [] rest AtStop last whole listed has content done is = still_whole c (steps_of last) whole (ap steps_of is)
items_leave c ws entries [] [] rest (AtFault number place) last whole listed has content done
    (inl (within, (early, (meeting, meets, is)))) =
    let values = append_values early.text early.name early.promised early.date early.lined in
    leaves_by IsCartridge c (steps_of last) (steps_of (acts_on c ws entries early.name early.promised early.date early.bytes meeting))
    (ap steps_of is)
    (acts_on_whole c ws entries (content_with early.name early.date early.bytes) early.promised meeting whole listed
    (can_append values (all_right (λ b. b < 256) early.text early.bytes (subst (All (λ b. b < 256)) early.parts content))) meets)
items_leave c ws entries [] [] rest (AtFault number place) last whole listed has content done (inr (never, is)) =
    still_whole c (steps_of last) whole (ap steps_of is)
items_leave c ws entries [] (did ∷ dids) rest ending last whole listed has content done ends = absurd done
items_leave c ws entries (item ∷ items) [] rest ending last whole listed has content done ends = absurd done
items_leave c ws entries (item ∷ items) (did ∷ dids) rest ending last whole listed has content done ends =
    let first : LineLeaves c ws did = line_leaves c ws entries item.line item.bytes did whole listed has.0 done.0 in
    let d : Cartridge = changed_by (steps_of did.acts) c in
    leaves_by IsCartridge c (steps_of (did.acts ++ acts_of dids ++ last)) (steps_of (did.acts ++ (acts_of dids ++ last)))
    (ap steps_of (append_assoc did.acts (acts_of dids) last))
    (acts_leave IsCartridge c did.acts (acts_of dids ++ last) first.leaves
    (items_leave d ws did.entries items dids rest ending last (leaves_done IsCartridge c (steps_of did.acts) first.leaves) first.listed
    has.1 content done.1 ends))

pub scripting_whole : (input : List ℕ) → All (λ b. b < 256) input → GoesLeaving IsCartridge (Scripting input)
scripting_whole input content c header ws table entries outcome mounts found whole =
    let does = found.does in
    whole_outcome c outcome _ found.is
    (behind_leave c table (steps_of found.came.acts) whole mounts.reads (λ still.
    leaves_by IsCartridge (settled table c) (steps_of found.came.acts) (steps_of (acts_of does.dids ++ does.last))
    (ap (λ (r : CommandOutcome). steps_of r.acts) does.is)
    (items_leave (settled table c) ws entries does.items does.dids (drop (place_behind 1 0 input does.items does.ending does.read) input)
    does.ending does.last still
    (listed_still c header ws table entries whole mounts) (items_have_bytes input does.items does.ending does.read content)
    (All-drop (λ b. b < 256) (place_behind 1 0 input does.items does.ending does.read) input content) does.did does.ends)))

-- ---- an append

appends_whole : (content : Content) → IsAppendable content → (c : Cartridge) (m : mounting.Mounting) (outcome : CommandOutcome) →
    c.info.protected ≡ false → Mounts c m → Opened (Appends content.name content.date content.bytes) c m outcome → IsCartridge c →
    Whole c (steps_of outcome.acts)
appends_whole content may c mounting.NotFormatted outcome free mounts is whole = refused_leaves IsCartridge c outcome _ is refl whole
appends_whole content may c (mounting.Foreign fault) outcome free mounts is whole = refused_leaves IsCartridge c outcome _ is refl whole
appends_whole content may c (mounting.TableLost lost) outcome free mounts is whole = refused_leaves IsCartridge c outcome _ is refl whole
appends_whole content may c mounting.TableMismatch outcome free mounts is whole = refused_leaves IsCartridge c outcome _ is refl whole
appends_whole content may c (mounting.Mounted header ws table entries) outcome free mounts is whole =
    let s : Cartridge = settled table c in
    let known = settled_keeps_table c table mounts.reads in
    let kept : Kept = kept_over s ws entries table in
    let acts : List Act = append_acts kept content.name content.date None (reply_behind (length entries)) content.bytes in
    whole_outcome c outcome _ is
    (behind_leave c table (steps_of acts) whole mounts.reads (λ still.
    append_leaves s ws entries table (listed_still c header ws table entries whole mounts)
    (ap (λ (i : TapeInfo). i.protected) known.info ∙ free) known.table still content may None (reply_behind (length entries))))

pub append_whole : (content : Content) → IsAppendable content → (c : Cartridge) (outcome : CommandOutcome) →
    AppendOutcome content.name content.date (Some c) content.bytes outcome → IsCartridge c → Whole c (steps_of outcome.acts)
append_whole content may c outcome (inl is) whole = refused_leaves IsCartridge c outcome _ is.1 refl whole
append_whole content may c outcome (inr (free, (m, mounts, opened))) whole =
    appends_whole content may c m outcome free mounts opened whole

-- ---- a generated run

step_leaves : (seed : ℕ) (c : Cartridge) (ws : List ℕ) (entries : List Entry) (item : MakeStep) (acts : List Act) (answer : Status) →
    IsCartridge c → IsListed c ws entries → CanDo entries item → StepDoes seed c ws entries item acts answer → Whole c (steps_of acts)
step_leaves seed c ws entries (AppendMade volume) acts answer whole listed can (inl refused) = still_whole c (steps_of acts) whole
    (ap steps_of refused.1)
step_leaves seed c ws entries (AppendMade volume) acts answer whole listed can (inr (free, inl appended)) =
    leaves_by IsCartridge c (steps_of acts) (steps_of (made_acts seed c ws entries appended.table volume)) (ap steps_of appended.does)
    (append_leaves c ws entries appended.table listed free appended.reads whole (made_one seed volume) (made_named seed volume can)
    (Some (made_length seed volume)) silently)
step_leaves seed c ws entries (AppendMade volume) acts answer whole listed can (inr (free, inr lost)) = still_whole c (steps_of acts) whole
    (ap steps_of lost.2)
step_leaves seed c ws entries (WearSector segment sector) acts answer whole listed can worn =
    leaves_by IsCartridge c (steps_of acts) (Wear segment sector ∷ []) (ap steps_of worn.0)
    (wear_leaves IsCartridge segment sector c whole (worn_whole c segment sector whole))
step_leaves seed c ws entries ScrubAll acts answer whole listed can (inl refused) = still_whole c (steps_of acts) whole
    (ap steps_of refused.1)
step_leaves seed c ws entries ScrubAll acts answer whole listed can (inr (free, scrubbed)) =
    λ left torn. stopped_form_is_cartridge Shallow c ws entries acts left whole scrubbed.0 torn
step_leaves seed c ws entries (SumVolume number) acts answer whole listed can summed =
    still_whole c (steps_of acts) whole (ap steps_of summed.is.0 ∙ sum_in_no_step number (volume_length ws summed.entry)
    (text_of summed.acts) summed.ending)

step_listed : (seed : ℕ) (c : Cartridge) (ws : List ℕ) (entries : List Entry) (item : MakeStep) (acts : List Act) → IsListed c ws entries →
    CanDo entries item →
    StepDoes seed c ws entries item acts status.Done → IsListed (changed_by (steps_of acts) c) ws (after_item seed ws entries item)
step_listed seed c ws entries (AppendMade volume) acts listed can (inl refused) = absurd (let same = refused.2 in cc)
step_listed seed c ws entries (AppendMade volume) acts listed can (inr (free, inl appended)) =
    let table : List (List ℕ) = appended.table in
    subst (λ (es : List Entry). IsListed (changed_by (steps_of acts) c) ws es)
    (made_behind seed c ws entries listed table volume (sym appended.answered))
    (listed_by c ws (listed_behind (kept_over c ws entries table) (made_name volume) 0
    (taking (room_in (kept_over c ws entries table)) (Some (made_length seed volume)) (made_bytes seed volume)))
    (steps_of acts) (steps_of (made_acts seed c ws entries table volume)) (ap steps_of appended.does)
    (append_listed c ws entries table (made_name volume) 0 (Some (made_length seed volume)) silently
    (made_bytes seed volume) listed free appended.reads (made_label volume can) (omega arith)))
step_listed seed c ws entries (AppendMade volume) acts listed can (inr (free, inr lost)) = absurd (let same = lost.3 in cc)
step_listed seed c ws entries (WearSector segment sector) acts listed can worn =
    listed_by c ws entries (steps_of acts) (Wear segment sector ∷ []) (ap steps_of worn.0) (wear_listed c ws entries segment sector listed)
step_listed seed c ws entries ScrubAll acts listed can (inl refused) = absurd (let same = refused.2 in cc)
step_listed seed c ws entries ScrubAll acts listed can (inr (free, scrubbed)) = scrub_listed c ws entries acts listed free scrubbed.0
step_listed seed c ws entries (SumVolume number) acts listed can summed =
    listed_by c ws entries (steps_of acts) []
    (ap steps_of summed.is.0 ∙ sum_in_no_step number (volume_length ws summed.entry) (text_of summed.acts) summed.ending) listed

runs_leave : (seed : ℕ) (c : Cartridge) (ws : List ℕ) (entries : List Entry) (items : List MakeStep) (acts : List Act) (answer : Status) →
    IsCartridge c → IsListed c ws entries →
    CanRun seed ws entries items → Runs seed c ws entries items acts answer → Whole c (steps_of acts)
runs_leave seed c ws entries [] acts answer whole listed can is = still_whole c (steps_of acts) whole (ap steps_of is.0)
runs_leave seed c ws entries (item ∷ items) acts answer whole listed can (inl (other, does)) =
    step_leaves seed c ws entries item acts answer whole listed can.0 does
runs_leave seed c ws entries (item ∷ items) acts answer whole listed can (inr (first, rest, parts, does, runs)) =
    let now : Whole c (steps_of first) = step_leaves seed c ws entries item first status.Done whole listed can.0 does in
    leaves_by IsCartridge c (steps_of acts) (steps_of (first ++ rest)) (ap steps_of (sym parts))
    (acts_leave IsCartridge c first rest now
    (runs_leave seed (changed_by (steps_of first) c) ws (after_item seed ws entries item) items rest answer
    (leaves_done IsCartridge c (steps_of first) now)
    (step_listed seed c ws entries item first listed can.0 does) can.1 runs))

pub making_whole : (seed count : ℕ) → count ≤ 200 → GoesLeaving IsCartridge (Making seed count)
making_whole seed count few c header ws table entries outcome mounts found whole =
    whole_outcome c outcome _ found.is
    (behind_leave c table (steps_of found.acts) whole mounts.reads (λ still.
    runs_leave seed (settled table c) ws entries (making seed count ws entries) found.acts found.answer still
    (listed_still c header ws table entries whole mounts)
    (can_make seed count ws entries few) found.makes))

-- ---- one step

-- a mark, or the version
pub step_whole : (step : Step) (text : Cartridge → List ℕ) (c : Cartridge) (outcome : CommandOutcome) →
    StepOutcome step text (Some c) outcome → IsCartridge c → IsCartridge (changed step c) →
    ((left : Option Cartridge) → Halfway step (Some c) left → ⊥) → Whole c (steps_of outcome.acts)
step_whole step text c outcome is whole behind never = whole_outcome c outcome _ is by_stop
  where
    by_stop : Whole c (step ∷ [])
    by_stop left (inl same) = some_and IsCartridge c left whole same
    by_stop left (inr (inl half)) = absurd (never left half)
    by_stop left (inr (inr done)) = some_and IsCartridge (changed step c) left behind done

-- a new cartridge
pub renewed_whole : (n : ℕ) (held left : Option Cartridge) (outcome : CommandOutcome) → IsLength n → IfSome held IsCartridge →
    NewOutcome n outcome → Torn (steps_of outcome.acts) held left →
    IfSome left IsCartridge
renewed_whole n held left outcome long whole is torn =
    by_held held whole (subst (λ (o : CommandOutcome). Torn (steps_of o.acts) held left) is torn)
  where
    by_none : left ≡ None → IfSome left IsCartridge
    by_none same = subst (λ (o : Option Cartridge). IfSome o IsCartridge) (sym same) tt

    by_new : left ≡ Some (new_cartridge n) → IfSome left IsCartridge
    by_new same = subst (λ (o : Option Cartridge). IfSome o IsCartridge) (sym same) (new_whole n long)

    by_held : (held : Option Cartridge) → IfSome held IsCartridge → Torn (Renew n ∷ []) held left → IfSome left IsCartridge
    by_held None whole (inl same) = by_none same
    by_held None whole (inr (inl half)) = by_none half
    by_held None whole (inr (inr done)) = by_new done
    by_held (Some c) whole (inl same) = subst (λ (o : Option Cartridge). IfSome o IsCartridge) (sym same) whole
    by_held (Some c) whole (inr (inl half)) = by_none half
    by_held (Some c) whole (inr (inr done)) = by_new done

-- what is there is whole
pub some_whole : (left : Option Cartridge) → IsSomeAnd left IsCartridge → IfSome left IsCartridge
some_whole None whole = tt
some_whole (Some c) whole = whole
