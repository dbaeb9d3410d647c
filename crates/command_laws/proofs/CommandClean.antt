-- Header copies that are clean or bare stay so, whatever a command does but to put in a new cartridge or to format one.
use Rattle.std.proofs.Common.{[], ◌≡◌, ◌⊎◌, ◌∙◌, ◌+◌, ◌-◌, ◌<◌, ◌≤◌, ℕ, All, Bool, true, false, cond, drop, append_assoc, List, ◌∷◌, ◌++◌}
use Rattle.std.proofs.Common.{Option, Some, None, IsSomeAnd, arith, ap, inl, inr, length, nat_le, refl, subst, sym}
use Rattle.std.proofs.lemmas.Bool.{and_parts, leb-true, le-leb}
use Rattle.std.proofs.lemmas.List.Elements.{All-weaker}
use Rattle.std.specs.Prelude.{is_some}
use Rattle.cartridge_laws.proofs.AppendKeeping.{AreIn, IsKeptBut, in_append, steps_stopped}
use Rattle.cartridge_laws.proofs.AppendOrders.{end_least}
use Rattle.cartridge_laws.proofs.AppendSegments.{carrying_from, room_is}
use Rattle.cartridge_laws.proofs.ChangeClean.{clean_less}
use Rattle.cartridge_laws.proofs.ChangeViews.{ReadsNoMore, worn_reads_no_more}
use Rattle.cartridge_laws.proofs.FormatCopies.{unformatted_from_bare}
use Rattle.cartridge_laws.proofs.FormatStanding.{same_cells}
use Rattle.cartridge_laws.proofs.FormatWriting.{effects-some, some_and, some_weaker}
use Rattle.cartridge_laws.proofs.HeaderRefusals.{mounted_last}
use Rattle.cartridge_laws.proofs.MountOnce.{mounts_is_function}
use Rattle.cartridge_laws.proofs.MountPlaces.{AreSmall, rest_small}
use Rattle.cartridge_laws.proofs.MountSettles.{settling_settles}
use Rattle.cartridge_laws.proofs.MountSettling.{settling_small}
use Rattle.cartridge_laws.specs.Table.{IsSoundList, last_end}
use Rattle.cartridge_laws.specs.Slots.{slot_sector}
use Rattle.cartridge_laws.specs.HeaderTerms.{IsCleanCopy}
use Rattle.cartridge_spec.specs.Appending.{room, table_writes}
use Rattle.cartridge_spec.specs.Formatting.{HasCleanCopies, HasNoHeader}
use Rattle.cartridge_spec.specs.Header.{Header}
use Rattle.cartridge_spec.specs.Shape.{IsArea}
use Rattle.cartridge_spec.specs.HeaderCopies.{last_segment}
use Rattle.cartridge_spec.specs.Mounting.{Mounts, settled}
use Rattle.cartridge_spec.specs.Says.{Written, Zero, with_parity, whole_mask}
use Rattle.cartridge_spec.specs.Settling.{block_writes, changed_by, settling_places, settling_steps}
use Rattle.cartridge_spec.specs.Table.{Entry, table_with}
use Rattle.cartridge_spec.specs.Volumes.{volume_length}
use Rattle.command_laws.proofs.CommandPlainLaws.{SectorLeaves, defect_leaves, lose_leaves, sent_leaves}
use Rattle.command_laws.proofs.InputActLaws.{input_is_free}
use Rattle.command_laws.proofs.MadeMadeBytes.{length-made_bytes}
use Rattle.command_laws.proofs.MadeStops.{sum_in_no_step}
use Rattle.command_laws.proofs.RestoreCounts.{restores_in_no_step, framed_in_no_step}
use Rattle.command_laws.proofs.ScriptOutcomes.{replied}
use Rattle.command_laws.proofs.ScriptStanding.{given_entries, given_steps}
use Rattle.command_laws.proofs.ScrubApart.{looked_rise}
use Rattle.command_laws.proofs.ScrubMending.{stopped_scrub}
use Rattle.command_laws.proofs.ScrubMounted.{clean_copy, mounted_order}
use Rattle.command_laws.proofs.ScrubStanding.{looks_in_front}
use Rattle.command_laws.proofs.StoreEnding.{list_more, took_fits}
use Rattle.command_laws.proofs.StoreTaking.{both_true}
use Rattle.command_laws.specs.MountedListed.{listed_behind}
use Rattle.command_laws.specs.MadeTerms.{made_acts}
use Rattle.command_laws.specs.AppendTerms.{free_in, most_written, silently, entry_for}
use Rattle.command_spec.specs.Append.{Kept, Taking, Fits, TooLong, TooShort, append_acts, entry_acts, has_promised_room, input_acts}
use Rattle.command_spec.specs.Append.{input_writes, kept_over, room_in, taking}
use Rattle.command_spec.specs.Single.{DefectOutcome, FormatOutcome, LoseOutcome}
use Rattle.command_spec.specs.Make.{made_bytes, made_length, Making, MakeStep, AppendMade, WearSector, ScrubAll, SumVolume, StepDoes, Runs}
use Rattle.command_spec.specs.Make.{after_item, made_answer, made_name, making}
use Rattle.command_spec.specs.Input.{Item, Ending, AtEnd, AtStop, AtFault}
use Rattle.command_spec.specs.Lines.{reply_behind}
use Rattle.command_spec.specs.Outcome.{CommandOutcome, Going, OpenOutcome, WritableOutcome, Shows, settling_act}
use Rattle.command_laws.specs.Outcomes.{Printing, Mends, Appends}
use Rattle.command_spec.specs.Pulses.{SentOutcome}
use Rattle.command_spec.specs.Restore.{Gives, pieces, framed}
use Rattle.command_spec.specs.Script.{reply, refusal_line, Scripting, Did, Meeting, Refuses, Finds, acts_on, append_did, taken_as, LineDoes}
use Rattle.command_spec.specs.Script.{acts_of, ItemsDo, EndDoes, cartridge_behind, entries_behind, place_behind}
use Rattle.command_spec.specs.Scrub.{Looked, looked_at, ScrubsAs}
use Rattle.command_spec.specs.declared.line.Line.{Line}
use Rattle.qic_base.proofs.Joins.{steps_of-append}
use Rattle.qic_base.proofs.Steps.{Torn-all, Torn-append}
use Rattle.qic_base.specs.Acts.{Act, steps_of, text_of}
use Rattle.qic_base.specs.Cartridge.{Cartridge}
use Rattle.qic_base.specs.Step.{Step, SetReferenced, Spoil, Wear, changed, effects, Torn}
use Rattle.qic_base.specs.declared.tape.SectorView.{SectorView}
use Rattle.command_spec.specs.declared.status.Status.{Status}
use Rattle.command_laws.proofs.ScrubPlain.{as_plain}
use Rattle.command_spec.specs.declared.depth.Depth.TheVariants.{Shallow}
use Rattle.cartridge_spec.specs.Mounting as mounting
use Rattle.command_spec.specs.declared.refusal.Refusal.TheVariants as why
use Rattle.command_spec.specs.declared.line.Line.TheVariants as line
use Rattle.command_spec.specs.declared.status.Status.TheVariants as status

-- ---- what a stop leaves

module _ (P : Cartridge → Type 0) where
  -- each cartridge that a stop in these steps leaves is so
  abbrev pub Leaves : Cartridge → List Step → Type 0
  Leaves c steps = (left : Option Cartridge) → Torn steps (Some c) left → IsSomeAnd left P

  pub none_leaves : (c : Cartridge) (steps : List Step) → P c → steps ≡ [] → Leaves c steps
  none_leaves c steps holds none left torn = some_and P c left holds (subst (λ (ss : List Step). Torn ss (Some c) left) none torn)

  pub both_leave : (c : Cartridge) (xs ys : List Step) → Leaves c xs → Leaves (changed_by xs c) ys → Leaves c (xs ++ ys)
  both_leave c xs ys first next left torn =
      elim (Torn-append xs ys (Some c) left torn) [
        | inl front ↦ first left front
        | inr behind ↦ next left (subst (λ (held : Option Cartridge). Torn ys held left) (effects-some xs c) behind)
      ]

  pub leaves_done : (c : Cartridge) (steps : List Step) → Leaves c steps → P (changed_by steps c)
  leaves_done c steps leaves =
      subst (λ (o : Option Cartridge). IsSomeAnd o P) (effects-some steps c) (leaves (effects steps (Some c)) (Torn-all steps (Some c)))

  pub leaves_by : (c : Cartridge) (xs ys : List Step) → xs ≡ ys → Leaves c ys → Leaves c xs
  leaves_by c xs ys same leaves left torn = leaves left (subst (λ (ss : List Step). Torn ss (Some c) left) same torn)

  -- the steps of acts, one after the other
  pub acts_leave : (c : Cartridge) (xs ys : List Act) → Leaves c (steps_of xs) → Leaves (changed_by (steps_of xs) c) (steps_of ys) →
      Leaves c (steps_of (xs ++ ys))
  acts_leave c xs ys first next = leaves_by c (steps_of (xs ++ ys)) (steps_of xs ++ steps_of ys) (steps_of-append xs ys)
      (both_leave c (steps_of xs) (steps_of ys) first next)

  -- ---- commands

  abbrev pub GoesLeaving : Going → Type 0
  GoesLeaving goes =
      (c : Cartridge) (header : Header) (ws : List ℕ) (table : List (List ℕ)) (entries : List Entry) (outcome : CommandOutcome) →
      Mounts c (mounting.Mounted header ws table entries) → goes c header ws table entries outcome → P c → Leaves c (steps_of outcome.acts)

  pub refused_leaves : (c : Cartridge) (a b : CommandOutcome) → a ≡ b → steps_of b.acts ≡ [] → P c → Leaves c (steps_of a.acts)
  refused_leaves c a b same none holds = none_leaves c (steps_of a.acts) holds (ap (λ (o : CommandOutcome). steps_of o.acts) same ∙ none)

  pub open_leaves : (goes : Going) → GoesLeaving goes → (c : Cartridge) (outcome : CommandOutcome) → OpenOutcome goes (Some c) outcome →
      P c → Leaves c (steps_of outcome.acts)
  open_leaves goes each c outcome (mounting.NotFormatted, mounts, is) holds = refused_leaves c outcome _ is refl holds
  open_leaves goes each c outcome (mounting.Foreign fault, mounts, is) holds = refused_leaves c outcome _ is refl holds
  open_leaves goes each c outcome (mounting.TableLost lost, mounts, is) holds = refused_leaves c outcome _ is refl holds
  open_leaves goes each c outcome (mounting.TableMismatch, mounts, is) holds = refused_leaves c outcome _ is refl holds
  open_leaves goes each c outcome (mounting.Mounted header ws table entries, mounts, is) holds =
      each c header ws table entries outcome mounts is holds

  pub writable_leaves : (goes : Going) → GoesLeaving goes → (c : Cartridge) (outcome : CommandOutcome) →
      WritableOutcome goes (Some c) outcome → P c → Leaves c (steps_of outcome.acts)
  writable_leaves goes each c outcome (inl is) holds = refused_leaves c outcome _ is.1 refl holds
  writable_leaves goes each c outcome (inr is) holds = open_leaves goes each c outcome is.1 holds

  pub format_leaves : (label : List ℕ) (date : ℕ) (c : Cartridge) (outcome : CommandOutcome) → FormatOutcome label date (Some c) outcome →
      c.info.protected ≡ true → P c →
      Leaves c (steps_of outcome.acts)
  format_leaves label date c outcome (inl is) locked holds = refused_leaves c outcome _ is.1 refl holds
  format_leaves label date c outcome (inr (inl is)) locked holds = let free = is.0 in absurd (cc)
  format_leaves label date c outcome (inr (inr is)) locked holds = let free = is.0 in absurd (cc)

  sector_leaves : (step : Step) (segment sector : ℕ) (c : Cartridge) (left : Option Cartridge) → P c → P (changed step c) →
      SectorLeaves step segment sector (Some c) left → IsSomeAnd left P
  sector_leaves step segment sector c left before behind (inl same) = some_and P c left before same
  sector_leaves step segment sector c left before behind (inr is) = some_and P (changed step c) left behind is.1

  pub wear_leaves : (segment sector : ℕ) (c : Cartridge) → P c → P (changed (Wear segment sector) c) → Leaves c (Wear segment sector ∷ [])
  wear_leaves segment sector c before behind left (inl is) = some_and P c left before is
  wear_leaves segment sector c before behind left (inr (inl inside)) = absurd inside
  wear_leaves segment sector c before behind left (inr (inr is)) = some_and P (changed (Wear segment sector) c) left behind is

  trains_leave : (c : Cartridge) (left : Option Cartridge) → P c → P (changed SetReferenced c) → (left ≡ Some c)
      ⊎ (left ≡ Some (changed SetReferenced c)) → IsSomeAnd left P
  trains_leave c left before behind (inl is) = some_and P c left before is
  trains_leave c left before behind (inr is) = some_and P (changed SetReferenced c) left behind is

  -- one that changes a sector or a mark alone
  pub defect_leaving : (segment sector : ℕ) (c : Cartridge) (outcome : CommandOutcome) → DefectOutcome segment sector (Some c) outcome →
      P c → P (changed (Spoil segment sector) c) →
      Leaves c (steps_of outcome.acts)
  defect_leaving segment sector c outcome plain before behind left torn =
      sector_leaves (Spoil segment sector) segment sector c left before behind
      (defect_leaves segment sector (Some c) left outcome plain torn)

  pub lose_leaving : (segment sector : ℕ) (c : Cartridge) (outcome : CommandOutcome) → LoseOutcome segment sector (Some c) outcome → P c →
      P (changed (Wear segment sector) c) →
      Leaves c (steps_of outcome.acts)
  lose_leaving segment sector c outcome plain before behind left torn =
      sector_leaves (Wear segment sector) segment sector c left before behind (lose_leaves segment sector (Some c) left outcome plain torn)

  pub sent_leaving : (c : Cartridge) (input : List ℕ) (outcome : CommandOutcome) → SentOutcome (Some c) input outcome → P c →
      P (changed SetReferenced c) → Leaves c (steps_of outcome.acts)
  sent_leaving c input outcome plain before behind left torn = trains_leave c left before behind
      (sent_leaves (Some c) left input outcome plain torn)

-- ---- bare copies

-- a cartridge with no header is not mounted
bare_goes : (goes : Going) → GoesLeaving HasNoHeader goes
bare_goes goes c header ws table entries outcome mounts is bare =
    let same : mounting.Mounted header ws table entries ≡ mounting.NotFormatted =
    mounts_is_function c (mounting.Mounted header ws table entries) mounting.NotFormatted mounts (unformatted_from_bare c bare) in
    absurd (cc)

pub bare_open : (goes : Going) (c : Cartridge) (outcome : CommandOutcome) → OpenOutcome goes (Some c) outcome → HasNoHeader c →
    Leaves HasNoHeader c (steps_of outcome.acts)
bare_open goes c outcome is bare = open_leaves HasNoHeader goes (bare_goes goes) c outcome is bare

pub bare_writable : (goes : Going) (c : Cartridge) (outcome : CommandOutcome) → WritableOutcome goes (Some c) outcome → HasNoHeader c →
    Leaves HasNoHeader c (steps_of outcome.acts)
bare_writable goes c outcome is bare = writable_leaves HasNoHeader goes (bare_goes goes) c outcome is bare

-- ---- writes behind the header copies

abbrev AreBehind : List Step → Type 0
AreBehind steps = AreIn (λ s i. 1 < s) steps

block_behind : (block : List (List ℕ)) (places : List ℕ) → AreSmall places → AreBehind (block_writes block places)
block_behind block [] small = tt
block_behind block (p ∷ ps) small = (((omega arith, small p (inl refl)), tt), block_behind block ps (rest_small p ps small))

steps_where : (b : Bool) (xs ys : List Step) → AreBehind xs → AreBehind ys → AreBehind (cond b xs ys)
steps_where true xs ys one other = one
steps_where false xs ys one other = other

acts_where : (b : Bool) (xs ys : List Act) → AreBehind (steps_of xs) → AreBehind (steps_of ys) → AreBehind (steps_of (cond b xs ys))
acts_where true xs ys one other = one
acts_where false xs ys one other = other

settling_behind : (table : List (List ℕ)) (c : Cartridge) → AreBehind (settling_steps table c)
settling_behind table c =
    steps_where c.info.protected [] (block_writes (with_parity table) (settling_places c table)) tt
    (block_behind (with_parity table) (settling_places c table) (settling_small c table))

-- the list that an append goes by is in order
abbrev IsInOrder : Kept → Type 0
IsInOrder kept = IsSoundList (length kept.words - 1) kept.entries

input_behind : (kept : Kept) (promised : Option ℕ) (input : List ℕ) → IsInOrder kept →
    AreBehind (steps_of (input_writes kept.words kept.entries promised input))
input_behind kept promised input order =
    let from : ℕ = last_end kept.entries + 1 in
    let least : 2 ≤ last_end kept.entries = end_least 2 (length kept.words - 1) kept.entries order in
    let past : All (λ s. 1 < s) (free_in kept) =
    All-weaker (λ (s : ℕ). from ≤ s) (λ (s : ℕ). 1 < s) (λ s h. omega arith) (free_in kept)
    (carrying_from kept.words from (length kept.words - 1)) in
    acts_where (has_promised_room (room_in kept) promised)
    (input_acts kept.words (free_in kept) (most_written (room_in kept) promised) (is_some promised) input) []
    (input_is_free 1 kept.words (free_in kept) (most_written (room_in kept) promised) (is_some promised) input past) tt

-- a volume that fits has a slot
has_slot : (kept : Kept) (promised : Option ℕ) (input bytes : List ℕ) → taking (room_in kept) promised input ≡ Fits bytes →
    length kept.entries < 232
has_slot kept promised input bytes took =
    let fit = took_fits (room_in kept) promised input bytes took in
    (room_is kept.words kept.entries (length bytes) (both_true (nat_le 1 (room_in kept)) (nat_le (length bytes) (room_in kept))
    (le-leb 1 (room_in kept) fit.0) (le-leb (length bytes) (room_in kept) fit.1))).free_slot

table_behind : (n : ℕ) (table : List (List ℕ)) → n < 232 → AreBehind (table_writes (slot_sector n) table)
table_behind n table few = (
  (omega arith, omega arith),
  ((omega arith, omega arith), ((omega arith, omega arith), ((omega arith, omega arith), tt))),
)

entry_behind : (kept : Kept) (name : List ℕ) (date : ℕ) (reply : Entry → List ℕ) (taken : Taking) →
    ((bytes : List ℕ) → taken ≡ Fits bytes → length kept.entries < 232) →
    AreBehind (steps_of (entry_acts kept name date reply taken))
entry_behind kept name date reply (Fits bytes) slot =
    let table : List (List ℕ) = table_with kept.table (length kept.entries) (entry_for kept name date bytes) in
    in_append (λ s i. 1 < s) (table_writes (slot_sector (length kept.entries)) table) []
    (table_behind (length kept.entries) table (slot bytes refl)) tt
entry_behind kept name date reply (TooLong need have) slot = tt
entry_behind kept name date reply (TooShort promised read) slot = tt

append_behind : (kept : Kept) (name : List ℕ) (date : ℕ) (promised : Option ℕ) (reply : Entry → List ℕ) (input : List ℕ) → IsInOrder kept →
    AreBehind kept.settling →
    AreBehind (steps_of (append_acts kept name date promised reply input))
append_behind kept name date promised reply input order settling =
    let became : Taking = taking (room_in kept) promised input in
    let ins : List Act = input_writes kept.words kept.entries promised input in
    let entry : List Act = entry_acts kept name date reply became in
    in_append (λ s i. 1 < s) kept.settling (steps_of (ins ++ entry)) settling
    (subst AreBehind (sym (steps_of-append ins entry))
    (in_append (λ s i. 1 < s) (steps_of ins) (steps_of entry) (input_behind kept promised input order)
    (entry_behind kept name date reply became (λ bytes took. has_slot kept promised input bytes took))))

-- .. and so it is behind it
order_behind : (kept : Kept) (name : List ℕ) (date : ℕ) (promised : Option ℕ) (input : List ℕ) (became : Taking) →
    taking (room_in kept) promised input ≡ became → IsInOrder kept →
    IsSoundList (length kept.words - 1) (listed_behind kept name date became)
order_behind kept name date promised input (Fits bytes) took order =
    let fit = took_fits (room_in kept) promised input bytes took in
    list_more kept.words kept.entries name date (length bytes) order fit.0 fit.1
order_behind kept name date promised input (TooLong need have) took order = order
order_behind kept name date promised input (TooShort asked read) took order = order

-- that of a mounted cartridge is, by its map
map_order : (c : Cartridge) (header : Header) (ws : List ℕ) (table : List (List ℕ)) (entries : List Entry) →
    Mounts c (mounting.Mounted header ws table entries) →
    IsSoundList (length ws - 1) entries
map_order c header ws table entries mounts =
    subst (λ (last : ℕ). IsSoundList last entries) (sym (mounted_last c mounts.area header ws mounts.formatted))
    (mounted_order c header ws table entries mounts)

-- .. and behind a line
taken_entries : (kept : Kept) (name : List ℕ) (date : ℕ) (acts : List Act) (taken : Taking) →
    (taken_as kept name date acts taken).entries ≡ listed_behind kept name date taken
taken_entries kept name date acts (Fits bytes) = refl
taken_entries kept name date acts (TooLong need have) = refl
taken_entries kept name date acts (TooShort promised read) = refl

append_order : (c : Cartridge) (ws : List ℕ) (entries : List Entry) (name : List ℕ) (promised date : ℕ) (bytes : List ℕ)
    (meeting : Meeting) → IsSoundList (length ws - 1) entries →
    IsSoundList (length ws - 1) (append_did c ws entries name promised date bytes meeting).entries
append_order c ws entries name promised date bytes (Refuses refusal) order = order
append_order c ws entries name promised date bytes (Finds table) order =
    let kept : Kept = kept_over c ws entries table in
    let became : Taking = taking (room_in kept) (Some promised) bytes in
    subst (λ (es : List Entry). IsSoundList (length ws - 1) es)
    (sym (taken_entries kept name date (acts_on c ws entries name promised date bytes (Finds table)) became))
    (order_behind kept name date (Some promised) bytes became refl order)

did_order : (ws : List ℕ) {did is : Did} → did ≡ is → IsSoundList (length ws - 1) is.entries → IsSoundList (length ws - 1) did.entries
did_order ws same order = subst (λ (d : Did). IsSoundList (length ws - 1) d.entries) (sym same) order

line_order : (c : Cartridge) (ws : List ℕ) (entries : List Entry) (asked : Line) (bytes : List ℕ) (did : Did) →
    IsSoundList (length ws - 1) entries →
    LineDoes c ws entries asked bytes did → IsSoundList (length ws - 1) did.entries
line_order c ws entries (line.Append name promised date) bytes did order (meeting, meets, is) =
    did_order ws is (append_order c ws entries name promised date bytes meeting order)
line_order c ws entries line.List bytes did order is = did_order ws is order
line_order c ws entries (line.Restore number) bytes did order (inl is) = did_order ws is.1 order
line_order c ws entries (line.Restore number) bytes did order (inr found) =
    let same = given_entries ws entries number found.entry (framed (pieces ws found.entry) found.acts) found.ending in
    did_order ws found.is (subst (IsSoundList (length ws - 1)) (sym same) order)
line_order c ws entries line.Scrub bytes did order (inl is) = did_order ws is.1 order
line_order c ws entries line.Scrub bytes did order (inr (free, (acts, scrubs, is))) = did_order ws is order
line_order c ws entries (line.Lose segment sector) bytes did order (inl is) = did_order ws is.1 order
line_order c ws entries (line.Lose segment sector) bytes did order (inr is) = did_order ws is.1 order
line_order c ws entries line.End bytes did order none = absurd none

-- a made volume that is appended has room
made_room : (seed : ℕ) (ws : List ℕ) (entries : List Entry) (volume : ℕ) → made_answer seed ws entries volume ≡ status.Done →
    (1 ≤ room ws entries) × (made_length seed volume ≤ room ws entries)
made_room seed ws entries volume done = by_room (has_promised_room have (Some n)) refl done
  where
    have : ℕ
    have = room ws entries

    n : ℕ
    n = made_length seed volume

    by_room : (b : Bool) → has_promised_room have (Some n) ≡ b → cond b status.Done (status.Full n have) ≡ status.Done → (1 ≤ have)
        × (n ≤ have)
    by_room true enough is =
        let parts = and_parts (nat_le 1 have) (nat_le n have) enough in
        (leb-true 1 have parts.0, leb-true n have parts.1)
    by_room false short is = absurd (cc)

-- the list with a made volume that has room is in order, ..
pub made_order : (seed : ℕ) (ws : List ℕ) (entries : List Entry) (volume : ℕ) → IsSoundList (length ws - 1) entries →
    made_answer seed ws entries volume ≡ status.Done →
    IsSoundList (length ws - 1) (after_item seed ws entries (AppendMade volume))
made_order seed ws entries volume order done =
    let fit = made_room seed ws entries volume done in
    let long : length (made_bytes seed volume) ≡ made_length seed volume = length-made_bytes seed volume in
    let enough : made_length seed volume ≤ room ws entries = fit.1 in
    list_more ws entries (made_name volume) 0 (length (made_bytes seed volume)) order fit.0 (omega arith)

-- .. and so is that behind any step that was carried out
step_order : (seed : ℕ) (c : Cartridge) (ws : List ℕ) (entries : List Entry) (item : MakeStep) (acts : List Act) →
    IsSoundList (length ws - 1) entries →
    StepDoes seed c ws entries item acts status.Done → IsSoundList (length ws - 1) (after_item seed ws entries item)
step_order seed c ws entries (AppendMade volume) acts order (inl refused) = let same = refused.2 in absurd (cc)
step_order seed c ws entries (AppendMade volume) acts order (inr (free, inl appended)) = made_order seed ws entries volume order
    (sym appended.answered)
step_order seed c ws entries (AppendMade volume) acts order (inr (free, inr lost)) = let same = lost.3 in absurd (cc)
step_order seed c ws entries (WearSector segment sector) acts order does = order
step_order seed c ws entries ScrubAll acts order does = order
step_order seed c ws entries (SumVolume number) acts order does = order

-- ---- clean copies

module _ (area : List (List ℕ)) (is_area : IsArea area) where
  abbrev pub Clean : Cartridge → Type 0
  Clean d = HasCleanCopies d area

  pub clean_from_less : (c d : Cartridge) → ReadsNoMore c d → Clean c → Clean d
  clean_from_less c d less clean = record {
    first = clean_less c d 0 area less clean.first;
    second = clean_less c d 1 area less clean.second;
  }

  -- steps behind the header copies leave them
  kept_copy : (c d : Cartridge) (copy : ℕ) → copy < 2 → IsKeptBut (λ s i. 1 < s) c d → IsCleanCopy c copy area → IsCleanCopy d copy area
  kept_copy c d copy small kept clean =
      subst (λ (cells : List SectorView). Written cells area ⊎ Zero cells)
      (sym (same_cells c d copy whole_mask (λ i h. kept.others copy i h (λ (past : 1 < copy). omega arith)))) clean

  kept_clean : (c d : Cartridge) → IsKeptBut (λ s i. 1 < s) c d → Clean c → Clean d
  kept_clean c d kept clean = record {
    first = kept_copy c d 0 (omega arith) kept clean.first;
    second = kept_copy c d 1 (omega arith) kept clean.second;
  }

  behind_leaves : (c : Cartridge) (steps : List Step) → AreBehind steps → Clean c → Leaves Clean c steps
  behind_leaves c steps behind clean left torn = some_weaker left (λ d kept. kept_clean c d kept clean)
      (steps_stopped (λ s i. 1 < s) steps c left behind torn)

  worn_leaves : (segment sector : ℕ) (c : Cartridge) → Clean c → Leaves Clean c (Wear segment sector ∷ [])
  worn_leaves segment sector c clean =
      wear_leaves Clean segment sector c clean
      (clean_from_less c (changed (Wear segment sector) c) (worn_reads_no_more c segment sector) clean)

  scrub_leaves : (c : Cartridge) (ws : List ℕ) (entries : List Entry) (last : ℕ) (acts : List Act) → IsSoundList last entries →
      ScrubsAs Shallow c ws entries acts → Clean c →
      Leaves Clean c (steps_of acts)
  scrub_leaves c ws entries last acts order scrubs clean left torn =
      let looked : List Looked = looked_at ws entries in
      let rise = looked_rise ws last entries order in
      let front = looks_in_front ws entries rise in
      some_weaker left
      (λ d way. record {
        first = clean_copy looked c d 0 area (omega arith) rise front.first way is_area clean.first;
        second = clean_copy looked c d 1 area (omega arith) rise front.second way is_area clean.second;
      })
      (stopped_scrub c ws entries last acts left order (as_plain c ws entries acts scrubs) torn)

  -- ---- over a mounted cartridge

  pub settling_leaves : (table : List (List ℕ)) (c : Cartridge) → Clean c → Leaves Clean c (settling_steps table c)
  settling_leaves table c clean = behind_leaves c (settling_steps table c) (settling_behind table c) clean

  -- the settling, and acts behind it
  settled_leaves : (c : Cartridge) (header : Header) (ws : List ℕ) (table : List (List ℕ)) (entries : List Entry) (acts : List Act) →
      Mounts c (mounting.Mounted header ws table entries) → Clean c →
      (Clean (settled table c) → Leaves Clean (settled table c) (steps_of acts)) →
      Leaves Clean c (steps_of (settling_act table c ∷ acts))
  settled_leaves c header ws table entries acts mounts clean next =
      let first : Leaves Clean c (settling_steps table c) = settling_leaves table c clean in
      both_leave Clean c (settling_steps table c) (steps_of acts) first
      (subst (λ (d : Cartridge). Clean d → Leaves Clean d (steps_of acts)) (sym (settling_settles c table mounts.reads)) next
      (leaves_done Clean c (settling_steps table c) first))

  -- the settling alone
  opening_leaves : (table : List (List ℕ)) (c : Cartridge) → Clean c → Leaves Clean c (settling_steps table c ++ [])
  opening_leaves table c clean =
      behind_leaves c (settling_steps table c ++ []) (in_append (λ s i. 1 < s) (settling_steps table c) [] (settling_behind table c) tt)
      clean

  by_outcome : (c : Cartridge) (a b : CommandOutcome) → a ≡ b → Leaves Clean c (steps_of b.acts) → Leaves Clean c (steps_of a.acts)
  by_outcome c a b same leaves = leaves_by Clean c (steps_of a.acts) (steps_of b.acts)
      (ap (λ (o : CommandOutcome). steps_of o.acts) same) leaves

  pub shows_leave : (prints : Printing) → GoesLeaving Clean (Shows prints)
  shows_leave prints c header ws table entries outcome mounts is clean = by_outcome c outcome _ is (opening_leaves table c clean)

  pub gives_leave : (number : ℕ) → GoesLeaving Clean (Gives number)
  gives_leave number c header ws table entries outcome mounts (inl is) clean = by_outcome c outcome _ is.1 (opening_leaves table c clean)
  gives_leave number c header ws table entries outcome mounts (inr found) clean =
      by_outcome c outcome _ found.is (settled_leaves c header ws table entries found.acts mounts clean (λ still.
      none_leaves Clean (settled table c) (steps_of found.acts) still
      (restores_in_no_step (settled table c) ws (pieces ws found.entry) found.acts found.ending found.restores)))

  pub mends_leave : GoesLeaving Clean Mends
  mends_leave c header ws table entries outcome mounts found clean =
      by_outcome c outcome _ found.is (settled_leaves c header ws table entries found.acts mounts clean (λ still.
      scrub_leaves (settled table c) ws entries (last_segment c) found.acts (mounted_order c header ws table entries mounts) found.scrubs
      still))

  pub appends_leave : (name : List ℕ) (date : ℕ) (input : List ℕ) → GoesLeaving Clean (Appends name date input)
  appends_leave name date input c header ws table entries outcome mounts is clean =
      let kept : Kept = kept_over (settled table c) ws entries table in
      let reply : Entry → List ℕ = reply_behind (length entries) in
      let acts : List Act = append_acts kept name date None reply input in
      by_outcome c outcome _ is (settled_leaves c header ws table entries acts mounts clean (λ still.
      behind_leaves (settled table c) (steps_of acts)
      (append_behind kept name date None reply input (map_order c header ws table entries mounts) (settling_behind table (settled table c)))
      still))

  -- ---- the lines of a script

  acts_on_leave : (c : Cartridge) (ws : List ℕ) (entries : List Entry) (name : List ℕ) (promised date : ℕ) (bytes : List ℕ)
      (meeting : Meeting) →
      IsSoundList (length ws - 1) entries → Clean c → Leaves Clean c (steps_of (acts_on c ws entries name promised date bytes meeting))
  acts_on_leave c ws entries name promised date bytes (Refuses refusal) order clean = none_leaves Clean c [] clean refl
  acts_on_leave c ws entries name promised date bytes (Finds table) order clean =
      behind_leaves c (steps_of (acts_on c ws entries name promised date bytes (Finds table)))
      (append_behind (kept_over c ws entries table) name date (Some promised) (reply_behind (length entries)) bytes order
      (settling_behind table c)) clean

  replied_leaves : (c : Cartridge) (acts : List Act) (text : List ℕ) → Leaves Clean c (steps_of acts) →
      Leaves Clean c (steps_of (acts ++ reply text ∷ []))
  replied_leaves c acts text leaves = leaves_by Clean c (steps_of (acts ++ reply text ∷ [])) (steps_of acts) (replied acts text) leaves

  taken_leaves : (c : Cartridge) (kept : Kept) (name : List ℕ) (date : ℕ) (acts : List Act) (taken : Taking) →
      Leaves Clean c (steps_of acts) →
      Leaves Clean c (steps_of (taken_as kept name date acts taken).acts)
  taken_leaves c kept name date acts (Fits bytes) leaves = leaves
  taken_leaves c kept name date acts (TooLong need have) leaves = replied_leaves c acts (refusal_line (why.Full need have)) leaves
  taken_leaves c kept name date acts (TooShort promised read) leaves = leaves

  append_did_leaves : (c : Cartridge) (ws : List ℕ) (entries : List Entry) (name : List ℕ) (promised date : ℕ) (bytes : List ℕ)
      (meeting : Meeting) →
      IsSoundList (length ws - 1) entries → Clean c →
      Leaves Clean c (steps_of (append_did c ws entries name promised date bytes meeting).acts)
  append_did_leaves c ws entries name promised date bytes (Refuses refusal) order clean = none_leaves Clean c [] clean refl
  append_did_leaves c ws entries name promised date bytes (Finds table) order clean =
      let kept : Kept = kept_over c ws entries table in
      taken_leaves c kept name date (acts_on c ws entries name promised date bytes (Finds table))
      (taking (room_in kept) (Some promised) bytes)
      (acts_on_leave c ws entries name promised date bytes (Finds table) order clean)

  by_did : (c : Cartridge) (a b : Did) → a ≡ b → Leaves Clean c (steps_of b.acts) → Leaves Clean c (steps_of a.acts)
  by_did c a b same leaves = leaves_by Clean c (steps_of a.acts) (steps_of b.acts) (ap (λ (d : Did). steps_of d.acts) same) leaves

  line_leaves : (c : Cartridge) (ws : List ℕ) (entries : List Entry) (asked : Line) (bytes : List ℕ) (did : Did) →
      IsSoundList (length ws - 1) entries →
      LineDoes c ws entries asked bytes did → Clean c → Leaves Clean c (steps_of did.acts)
  line_leaves c ws entries (line.Append name promised date) bytes did order (meeting, meets, is) clean =
      by_did c did _ is (append_did_leaves c ws entries name promised date bytes meeting order clean)
  line_leaves c ws entries line.List bytes did order is clean = by_did c did _ is (none_leaves Clean c [] clean refl)
  line_leaves c ws entries (line.Restore number) bytes did order (inl is) clean = by_did c did _ is.1 (none_leaves Clean c [] clean refl)
  line_leaves c ws entries (line.Restore number) bytes did order (inr found) clean =
      let parts : List Act = framed (pieces ws found.entry) found.acts in
      none_leaves Clean c (steps_of did.acts) clean
      (ap (λ (d : Did). steps_of d.acts) found.is
      ∙ given_steps ws entries number found.entry parts found.ending
      (framed_in_no_step c ws (pieces ws found.entry) found.acts found.ending found.restores).0)
  line_leaves c ws entries line.Scrub bytes did order (inl is) clean = by_did c did _ is.1 (none_leaves Clean c [] clean refl)
  line_leaves c ws entries line.Scrub bytes did order (inr (free, (acts, scrubs, is))) clean =
      by_did c did _ is (scrub_leaves c ws entries (length ws - 1) acts order scrubs clean)
  line_leaves c ws entries (line.Lose segment sector) bytes did order (inl is) clean =
      by_did c did _ is.1 (none_leaves Clean c [] clean refl)
  line_leaves c ws entries (line.Lose segment sector) bytes did order (inr is) clean =
      by_did c did _ is.1 (worn_leaves segment sector c clean)
  line_leaves c ws entries line.End bytes did order none clean = absurd none

  items_leave : (c : Cartridge) (ws : List ℕ) (entries : List Entry) (items : List Item) (dids : List Did) (rest : List ℕ) (ending : Ending)
      (last : List Act) →
      IsSoundList (length ws - 1) entries → ItemsDo c ws entries items dids → EndDoes (cartridge_behind c dids) ws
      (entries_behind entries dids) rest ending last → Clean c →
      Leaves Clean c (steps_of (acts_of dids ++ last))
  items_leave c ws entries [] [] rest AtEnd last order done is clean = none_leaves Clean c (steps_of last) clean (ap steps_of is)
  items_leave c ws entries [] [] rest AtStop last order done is clean = none_leaves Clean c (steps_of last) clean (ap steps_of is)
  items_leave c ws entries [] [] rest (AtFault number place) last order done (inl (within, (early, (meeting, meets, is)))) clean =
      leaves_by Clean c (steps_of last) (steps_of (acts_on c ws entries early.name early.promised early.date early.bytes meeting))
      (ap steps_of is)
      (acts_on_leave c ws entries early.name early.promised early.date early.bytes meeting order clean)
  items_leave c ws entries [] [] rest (AtFault number place) last order done (inr (never, is)) clean =
      none_leaves Clean c (steps_of last) clean (ap steps_of is)
  items_leave c ws entries [] (did ∷ dids) rest ending last order done ends clean = absurd done
  items_leave c ws entries (item ∷ items) [] rest ending last order done ends clean = absurd done
  items_leave c ws entries (item ∷ items) (did ∷ dids) rest ending last order done ends clean =
      let first : Leaves Clean c (steps_of did.acts) = line_leaves c ws entries item.line item.bytes did order done.0 clean in
      let d : Cartridge = changed_by (steps_of did.acts) c in
      leaves_by Clean c (steps_of (did.acts ++ acts_of dids ++ last)) (steps_of (did.acts ++ (acts_of dids ++ last)))
      (ap steps_of (append_assoc did.acts (acts_of dids) last))
      (acts_leave Clean c did.acts (acts_of dids ++ last) first
      (items_leave d ws did.entries items dids rest ending last (line_order c ws entries item.line item.bytes did order done.0) done.1 ends
      (leaves_done Clean c (steps_of did.acts) first)))

  pub scripting_leaves : (input : List ℕ) → GoesLeaving Clean (Scripting input)
  scripting_leaves input c header ws table entries outcome mounts found clean =
      let does = found.does in
      by_outcome c outcome _ found.is (settled_leaves c header ws table entries found.came.acts mounts clean (λ still.
      leaves_by Clean (settled table c) (steps_of found.came.acts) (steps_of (acts_of does.dids ++ does.last))
      (ap (λ (r : CommandOutcome). steps_of r.acts) does.is)
      (items_leave (settled table c) ws entries does.items does.dids (drop (place_behind 1 0 input does.items does.ending does.read) input)
      does.ending does.last
      (map_order c header ws table entries mounts) does.did does.ends still)))

  -- ---- a generated run

  step_leaves : (seed : ℕ) (c : Cartridge) (ws : List ℕ) (entries : List Entry) (item : MakeStep) (acts : List Act) (answer : Status) →
      IsSoundList (length ws - 1) entries →
      StepDoes seed c ws entries item acts answer → Clean c → Leaves Clean c (steps_of acts)
  step_leaves seed c ws entries (AppendMade volume) acts answer order (inl refused) clean = none_leaves Clean c (steps_of acts) clean
      (ap steps_of refused.1)
  step_leaves seed c ws entries (AppendMade volume) acts answer order (inr (free, inl appended)) clean =
      leaves_by Clean c (steps_of acts) (steps_of (made_acts seed c ws entries appended.table volume)) (ap steps_of appended.does)
      (behind_leaves c (steps_of (made_acts seed c ws entries appended.table volume))
      (append_behind (kept_over c ws entries appended.table) (made_name volume) 0 (Some (made_length seed volume)) silently
      (made_bytes seed volume) order
      (settling_behind appended.table c)) clean)
  step_leaves seed c ws entries (AppendMade volume) acts answer order (inr (free, inr lost)) clean =
      none_leaves Clean c (steps_of acts) clean (ap steps_of lost.2)
  step_leaves seed c ws entries (WearSector segment sector) acts answer order worn clean =
      leaves_by Clean c (steps_of acts) (Wear segment sector ∷ []) (ap steps_of worn.0) (worn_leaves segment sector c clean)
  step_leaves seed c ws entries ScrubAll acts answer order (inl refused) clean = none_leaves Clean c (steps_of acts) clean
      (ap steps_of refused.1)
  step_leaves seed c ws entries ScrubAll acts answer order (inr (free, scrubbed)) clean = scrub_leaves c ws entries
      (length ws - 1) acts order scrubbed.0 clean
  step_leaves seed c ws entries (SumVolume number) acts answer order summed clean =
      none_leaves Clean c (steps_of acts) clean
      (ap steps_of summed.is.0 ∙ sum_in_no_step number (volume_length ws summed.entry) (text_of summed.acts) summed.ending)

  runs_leave : (seed : ℕ) (c : Cartridge) (ws : List ℕ) (entries : List Entry) (items : List MakeStep) (acts : List Act) (answer : Status) →
      IsSoundList (length ws - 1) entries →
      Runs seed c ws entries items acts answer → Clean c → Leaves Clean c (steps_of acts)
  runs_leave seed c ws entries [] acts answer order is clean = none_leaves Clean c (steps_of acts) clean (ap steps_of is.0)
  runs_leave seed c ws entries (item ∷ items) acts answer order (inl (other, does)) clean =
      step_leaves seed c ws entries item acts answer order does clean
  runs_leave seed c ws entries (item ∷ items) acts answer order (inr (first, rest, parts, does, runs)) clean =
      let now : Leaves Clean c (steps_of first) = step_leaves seed c ws entries item first status.Done order does clean in
      leaves_by Clean c (steps_of acts) (steps_of (first ++ rest)) (ap steps_of (sym parts))
      (acts_leave Clean c first rest now
      (runs_leave seed (changed_by (steps_of first) c) ws (after_item seed ws entries item) items rest answer
      (step_order seed c ws entries item first order does) runs
      (leaves_done Clean c (steps_of first) now)))

  pub making_leaves : (seed count : ℕ) → GoesLeaving Clean (Making seed count)
  making_leaves seed count c header ws table entries outcome mounts found clean =
      by_outcome c outcome _ found.is (settled_leaves c header ws table entries found.acts mounts clean (λ still.
      runs_leave seed (settled table c) ws entries (making seed count ws entries) found.acts found.answer
      (map_order c header ws table entries mounts) found.makes still))
