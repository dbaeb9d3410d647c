-- No command but `new` puts in a new cartridge.
use Rattle.std.proofs.Common.{[], ◌≡◌, ◌&&◌, ◌*◌, ℕ, Bool, true, false, cond, List, ◌∷◌, ◌++◌, length, drop, take, nat_le, nat_lt, map, sym}
use Rattle.std.proofs.Common.{ap, ◌∙◌, subst, Option, Some, None, inl, inr, is_some}
use Rattle.std.specs.List.{range_with_len}
use Rattle.cartridge_laws.specs.ChangeSteps.{HasNoRenew}
use Rattle.cartridge_laws.specs.TableCells.{table_places}
use Rattle.cartridge_laws.specs.Slots.{slot_sector}
use Rattle.cartridge_spec.specs.Appending.{table_writes}
use Rattle.cartridge_spec.specs.Formatting.{clearing_steps, copy_writes, format_steps}
use Rattle.cartridge_spec.specs.Header.{Header}
use Rattle.cartridge_spec.specs.Mounting.{Mounting, settled}
use Rattle.cartridge_spec.specs.Says.{Saying, Data, LostSectors, Mismatch, with_parity}
use Rattle.cartridge_spec.specs.Settling.{writes_of, block_writes, settling_places, settling_steps, changed_by}
use Rattle.cartridge_spec.specs.Shape.{mask_at, capacity, usable_places, is_unreadable, sector_at}
use Rattle.cartridge_spec.specs.Table.{Entry, table_with}
use Rattle.cartridge_spec.specs.Volumes.{volume_length}
use Rattle.command_laws.proofs.MadeStops.{sum_in_no_step}
use Rattle.command_laws.proofs.RestoreCounts.{restores_in_no_step, framed_in_no_step}
use Rattle.command_laws.proofs.ScriptOutcomes.{replied}
use Rattle.command_laws.proofs.ScrubAtOnce.{scrub_steps}
use Rattle.command_laws.specs.ScriptTerms.{restored_line}
use Rattle.command_laws.specs.MadeTerms.{made_acts}
use Rattle.command_laws.specs.AppendTerms.{free_in, most_written, silently, entry_for}
use Rattle.command_spec.specs.Append.{segment_act, volume_acts, filled_acts, input_acts, Taking, Fits, TooLong, TooShort, Kept}
use Rattle.command_spec.specs.Append.{input_writes, entry_acts, append_acts, room_in, has_promised_room, taking, kept_over}
use Rattle.command_spec.specs.Single.{DefectOutcome, FormatOutcome, LoseOutcome}
use Rattle.command_spec.specs.Make.{made_bytes, made_length, Making, MakeStep, AppendMade, WearSector, ScrubAll, SumVolume, StepDoes, Runs}
use Rattle.command_spec.specs.Make.{after_item, made_name, making}
use Rattle.command_spec.specs.Input.{Item, Ending, AtEnd, AtStop, AtFault}
use Rattle.command_spec.specs.Lines.{reply_behind}
use Rattle.command_spec.specs.Outcome.{CommandOutcome, Going, Opened, OpenOutcome, WritableOutcome, Shows, settling_act}
use Rattle.command_laws.specs.Outcomes.{Printing, Mends, Appends}
use Rattle.command_spec.specs.Pulses.{SentOutcome, train_acts}
use Rattle.command_spec.specs.Restore.{Gives, pieces, framed, GivingEnd, Restored, LostIn, MismatchIn}
use Rattle.command_spec.specs.Script.{reply, refusal_line, Scripting, Did, Meeting, Refuses, Finds, acts_on, append_did, taken_as, given_as}
use Rattle.command_spec.specs.Script.{LineDoes, acts_of, ItemsDo, EndDoes, cartridge_behind, entries_behind, place_behind}
use Rattle.command_spec.specs.Scrub.{Looked, looked_at, reads, steps_in, mending_writes, ScrubsAs}
use Rattle.command_spec.specs.declared.line.Line.{Line}
use Rattle.drive_spec.specs.Effects.{ticked}
use Rattle.drive_spec.specs.Record.{Record, power_on}
use Rattle.drive_spec.specs.Steps.{reference_steps, command_steps, is_idle, train_changes}
use Rattle.drive_spec.specs.declared.deck.Deck.{Deck}
use Rattle.qic117_commands.specs.Commands.{command_at}
use Rattle.qic117_commands.specs.declared.command.Command.TheVariants.{WriteReference}
use Rattle.qic117_commands.specs.declared.command.Command.{Command}
use Rattle.qic_base.proofs.Joins.{steps_of-append}
use Rattle.qic_base.specs.Acts.{Act, steps_of, text_of}
use Rattle.qic_base.specs.Cartridge.{Cartridge, view_at, info_of}
use Rattle.qic_base.specs.Step.{Step, write_sector, FormatSegment, Wear}
use Rattle.command_spec.specs.declared.status.Status.{Status}
use Rattle.command_laws.proofs.ScrubPlain.{as_plain}
use Rattle.command_laws.specs.ScrubPlain.{looking_acts}
use Rattle.command_spec.specs.declared.depth.Depth.TheVariants.{Shallow}
use Rattle.drive_spec.specs.Row.{pulsed_row}
use Rattle.cartridge_spec.specs.Mounting as mounting
use Rattle.command_spec.specs.declared.refusal.Refusal.TheVariants as why
use Rattle.command_spec.specs.declared.line.Line.TheVariants as line
use Rattle.command_spec.specs.declared.status.Status.TheVariants as status

-- ---- lists of steps

pub none_both : (xs ys : List Step) → HasNoRenew xs → HasNoRenew ys → HasNoRenew (xs ++ ys)
none_both [] ys first next = next
none_both (x ∷ xs) ys first next = (first.0, none_both xs ys first.1 next)

none_where : (b : Bool) (xs ys : List Step) → HasNoRenew xs → HasNoRenew ys → HasNoRenew (cond b xs ys)
none_where true xs ys first other = first
none_where false xs ys first other = other

none_in_writes : (segment : ℕ) (places : List ℕ) (sectors : List (List ℕ)) → HasNoRenew (writes_of segment places sectors)
none_in_writes segment [] sectors = tt
none_in_writes segment (place ∷ places) [] = tt
none_in_writes segment (place ∷ places) (bytes ∷ sectors) = (tt, none_in_writes segment places sectors)

none_in_block : (block : List (List ℕ)) (places : List ℕ) → HasNoRenew (block_writes block places)
none_in_block block places = none_in_writes 2 places (map (sector_at block) places)

pub none_in_settling : (table : List (List ℕ)) (c : Cartridge) → HasNoRenew (settling_steps table c)
none_in_settling table c =
    none_where c.info.protected [] (block_writes (with_parity table) (settling_places c table)) tt
    (none_in_block (with_parity table) (settling_places c table))

-- ---- lists of acts

-- the steps of acts
abbrev pub AreNoRenew : List Act → Type 0
AreNoRenew acts = HasNoRenew (steps_of acts)

acts_both : (xs ys : List Act) → AreNoRenew xs → AreNoRenew ys → AreNoRenew (xs ++ ys)
acts_both xs ys first next = subst HasNoRenew (sym (steps_of-append xs ys)) (none_both (steps_of xs) (steps_of ys) first next)

acts_where : (b : Bool) (xs ys : List Act) → AreNoRenew xs → AreNoRenew ys → AreNoRenew (cond b xs ys)
acts_where true xs ys first other = first
acts_where false xs ys first other = other

acts_by : (xs ys : List Act) → steps_of xs ≡ steps_of ys → AreNoRenew ys → AreNoRenew xs
acts_by xs ys same none = subst HasNoRenew (sym same) none

acts_of_none : (xs : List Act) → steps_of xs ≡ [] → AreNoRenew xs
acts_of_none xs none = subst HasNoRenew (sym none) tt

-- an outcome with such acts
pub by_outcome : (a b : CommandOutcome) → a ≡ b → AreNoRenew b.acts → AreNoRenew a.acts
by_outcome a b same none = subst (λ (o : CommandOutcome). AreNoRenew o.acts) (sym same) none

-- ---- changes of one sector or mark, and formatting

pub defect_none : (segment sector : ℕ) (held : Option Cartridge) (outcome : CommandOutcome) → DefectOutcome segment sector held outcome →
    AreNoRenew outcome.acts
defect_none segment sector None outcome is = by_outcome outcome _ is tt
defect_none segment sector (Some c) outcome (inl is) = by_outcome outcome _ is.1 tt
defect_none segment sector (Some c) outcome (inr (inl is)) = by_outcome outcome _ is.2 (tt, tt)
defect_none segment sector (Some c) outcome (inr (inr is)) = by_outcome outcome _ is.2 (tt, tt)

pub lose_none : (segment sector : ℕ) (held : Option Cartridge) (outcome : CommandOutcome) → LoseOutcome segment sector held outcome →
    AreNoRenew outcome.acts
lose_none segment sector None outcome is = by_outcome outcome _ is tt
lose_none segment sector (Some c) outcome (inl is) = by_outcome outcome _ is.1 tt
lose_none segment sector (Some c) outcome (inr is) = by_outcome outcome _ is.1 (tt, tt)

none_in_formats : (segments : List ℕ) → HasNoRenew (map (λ s. FormatSegment s) segments)
none_in_formats [] = tt
none_in_formats (s ∷ ss) = (tt, none_in_formats ss)

none_in_clearing : (n : ℕ) → HasNoRenew (clearing_steps n)
none_in_clearing n = (tt, none_in_formats (range_with_len 0 (28 * n)))

none_in_copy : (copy : ℕ) (block : List (List ℕ)) → HasNoRenew (copy_writes copy block)
none_in_copy copy block =
    none_both (writes_of copy (range_with_len 1 31) (drop 1 block)) (writes_of copy (0 ∷ []) (take 1 block))
    (none_in_writes copy (range_with_len 1 31) (drop 1 block)) (none_in_writes copy (0 ∷ []) (take 1 block))

none_in_format : (n : ℕ) (area : List (List ℕ)) → HasNoRenew (format_steps n area)
none_in_format n area =
    let block : List (List ℕ) = with_parity area in
    none_both (clearing_steps n ++ copy_writes 0 block) (copy_writes 1 block)
    (none_both (clearing_steps n) (copy_writes 0 block) (none_in_clearing n) (none_in_copy 0 block)) (none_in_copy 1 block)

-- an act of its own
none_alone : (steps : List Step) → HasNoRenew steps → HasNoRenew (steps ++ [])
none_alone steps none = none_both steps [] none tt

pub format_none : (label : List ℕ) (date : ℕ) (held : Option Cartridge) (outcome : CommandOutcome) → FormatOutcome label date held outcome →
    AreNoRenew outcome.acts
format_none label date None outcome is = by_outcome outcome _ is tt
format_none label date (Some c) outcome (inl is) = by_outcome outcome _ is.1 tt
format_none label date (Some c) outcome (inr (inl (free, (segment, first, is)))) =
    by_outcome outcome _ is (none_alone (clearing_steps c.info.segments_per_track) (none_in_clearing c.info.segments_per_track))
format_none label date (Some c) outcome (inr (inr (free, none, (words, (area, fresh, is))))) =
    by_outcome outcome _ is (none_alone (format_steps c.info.segments_per_track area) (none_in_format c.info.segments_per_track area))

-- ---- over a cartridge that is opened

abbrev pub GoesWithNone : Going → Type 0
GoesWithNone goes =
    (c : Cartridge) (header : Header) (ws : List ℕ) (table : List (List ℕ)) (entries : List Entry) (outcome : CommandOutcome) →
    goes c header ws table entries outcome → AreNoRenew outcome.acts

opened_none : (goes : Going) → GoesWithNone goes → (c : Cartridge) (m : Mounting) (outcome : CommandOutcome) → Opened goes c m outcome →
    AreNoRenew outcome.acts
opened_none goes each c mounting.NotFormatted outcome is = by_outcome outcome _ is tt
opened_none goes each c (mounting.Foreign fault) outcome is = by_outcome outcome _ is tt
opened_none goes each c (mounting.TableLost lost) outcome is = by_outcome outcome _ is tt
opened_none goes each c mounting.TableMismatch outcome is = by_outcome outcome _ is tt
opened_none goes each c (mounting.Mounted header ws table entries) outcome is = each c header ws table entries outcome is

pub open_none : (goes : Going) → GoesWithNone goes → (held : Option Cartridge) (outcome : CommandOutcome) → OpenOutcome goes held outcome →
    AreNoRenew outcome.acts
open_none goes each None outcome is = by_outcome outcome _ is tt
open_none goes each (Some c) outcome (m, mounts, is) = opened_none goes each c m outcome is

pub writable_none : (goes : Going) → GoesWithNone goes → (held : Option Cartridge) (outcome : CommandOutcome) →
    WritableOutcome goes held outcome → AreNoRenew outcome.acts
writable_none goes each None outcome is = by_outcome outcome _ is tt
writable_none goes each (Some c) outcome (inl is) = by_outcome outcome _ is.1 tt
writable_none goes each (Some c) outcome (inr is) = open_none goes each (Some c) outcome is.1

pub shows_none : (prints : Printing) → GoesWithNone (Shows prints)
shows_none prints c header ws table entries outcome is = by_outcome outcome _ is
    (none_alone (settling_steps table c) (none_in_settling table c))

-- the settling, and such acts behind it
pub settled_none : (table : List (List ℕ)) (c : Cartridge) (acts : List Act) → AreNoRenew acts → AreNoRenew (settling_act table c ∷ acts)
settled_none table c acts none = none_both (settling_steps table c) (steps_of acts) (none_in_settling table c) none

-- ---- restoring and scrubbing

pub gives_none : (number : ℕ) → GoesWithNone (Gives number)
gives_none number c header ws table entries outcome (inl is) = by_outcome outcome _ is.1
    (none_alone (settling_steps table c) (none_in_settling table c))
gives_none number c header ws table entries outcome (inr found) =
    by_outcome outcome _ found.is (settled_none table c found.acts (acts_of_none found.acts
    (restores_in_no_step (settled table c) ws (pieces ws found.entry) found.acts found.ending found.restores)))

none_in_mending : (c : Cartridge) (segment : ℕ) (places : List ℕ) (sectors : List (List ℕ)) →
    HasNoRenew (mending_writes c segment places sectors)
none_in_mending c segment [] sectors = tt
none_in_mending c segment (place ∷ places) [] = tt
none_in_mending c segment (place ∷ places) (bytes ∷ sectors) =
    let rest : List Step = mending_writes c segment places sectors in
    let none : HasNoRenew rest = none_in_mending c segment places sectors in
    none_where (is_unreadable (view_at c segment place)) (write_sector segment place bytes ∷ rest) rest (tt, none) none

pub none_in_look : (c : Cartridge) (l : Looked) (s : Saying) → HasNoRenew (steps_in c l s)
none_in_look c l (Data sectors) =
    none_where (reads l (Data sectors)) (mending_writes c l.segment (usable_places l.mask) (with_parity sectors)) []
    (none_in_mending c l.segment (usable_places l.mask) (with_parity sectors)) tt
none_in_look c l (LostSectors n) = tt
none_in_look c l Mismatch = tt

looks_none : (c : Cartridge) (ls : List Looked) (ss : List Saying) → AreNoRenew (looking_acts c ls ss)
looks_none c [] ss = tt
looks_none c (l ∷ ls) [] = tt
looks_none c (l ∷ ls) (s ∷ ss) =
    none_both (steps_in c l s) (steps_of (looking_acts (changed_by (steps_in c l s) c) ls ss)) (none_in_look c l s)
    (looks_none (changed_by (steps_in c l s) c) ls ss)

scrub_none : (c : Cartridge) (ws : List ℕ) (entries : List Entry) (acts : List Act) → ScrubsAs Shallow c ws entries acts → AreNoRenew acts
scrub_none c ws entries acts scrubs =
    let looked : List Looked = looked_at ws entries in
    let plain = as_plain c ws entries acts scrubs in
    acts_by acts (looking_acts c looked plain.sayings)
    (ap (λ (all : List Act). steps_of all) plain.are ∙ scrub_steps c looked plain.sayings)
    (looks_none c looked plain.sayings)

pub mends_none : GoesWithNone Mends
mends_none c header ws table entries outcome found =
    by_outcome outcome _ found.is (settled_none table c found.acts (scrub_none (settled table c) ws entries found.acts found.scrubs))

-- ---- trains of pulses

none_in_command : (command : Command) → HasNoRenew (reference_steps command)
none_in_command WriteReference = (tt, tt)
none_in_command command = tt

none_in_number : (d : Deck) (o : Option Command) → HasNoRenew (command_steps d o)
none_in_number d None = tt
none_in_number d (Some command) = none_where _ (reference_steps command) [] (none_in_command command) tt

none_in_train : (r : Record) (train : ℕ) → HasNoRenew (train_changes r train)
unfolding train_changes
none_in_train r train = none_where (is_idle r.under_way) (command_steps (ticked r.deck) (command_at train)) []
    (none_in_number (ticked r.deck) (command_at train)) tt

trains_none : (r : Record) (trains : List ℕ) → AreNoRenew (train_acts r trains)
trains_none r [] = tt
trains_none r (train ∷ trains) =
    none_both (train_changes r train) (steps_of (train_acts (pulsed_row r train) trains)) (none_in_train r train)
    (trains_none (pulsed_row r train) trains)

pub sent_none : (held : Option Cartridge) (input : List ℕ) (outcome : CommandOutcome) → SentOutcome held input outcome →
    AreNoRenew outcome.acts
sent_none held input outcome plain =
    by_outcome outcome _ plain.is (trains_none (power_on (info_of held)) plain.trains)

-- ---- appending

segment_none : (ws : List ℕ) (s : ℕ) (bytes : List ℕ) → HasNoRenew (segment_act ws s bytes).steps
segment_none ws s bytes = (tt, tt)

volume_none : (ws segments bytes : List ℕ) → AreNoRenew (volume_acts ws segments bytes)
volume_none ws [] bytes = tt
volume_none ws (s ∷ ss) bytes =
    let cap : ℕ = capacity (mask_at ws s) in
    let ends : Bool = nat_le (length bytes) cap in
    none_both (segment_act ws s bytes).steps (steps_of (cond ends [] (volume_acts ws ss (drop cap bytes)))) (segment_none ws s bytes)
    (acts_where ends [] (volume_acts ws ss (drop cap bytes)) tt (volume_none ws ss (drop cap bytes)))

filled_none : (ws segments bytes : List ℕ) → AreNoRenew (filled_acts ws segments bytes)
filled_none ws [] bytes = tt
filled_none ws (s ∷ ss) bytes =
    let cap : ℕ = capacity (mask_at ws s) in
    acts_where (nat_le cap (length bytes)) (segment_act ws s bytes ∷ filled_acts ws ss (drop cap bytes)) []
    (none_both (segment_act ws s bytes).steps (steps_of (filled_acts ws ss (drop cap bytes))) (segment_none ws s bytes)
    (filled_none ws ss (drop cap bytes))) tt

input_none : (ws segments : List ℕ) (most : ℕ) (exact : Bool) (input : List ℕ) → AreNoRenew (input_acts ws segments most exact input)
input_none ws segments most exact input =
    acts_where (exact && nat_lt (length input) most) (filled_acts ws segments input) (volume_acts ws segments (take most input))
    (filled_none ws segments input) (volume_none ws segments (take most input))

entry_none : (kept : Kept) (name : List ℕ) (date : ℕ) (reply : Entry → List ℕ) (taken : Taking) →
    AreNoRenew (entry_acts kept name date reply taken)
entry_none kept name date reply (Fits bytes) =
    let table : List (List ℕ) = table_with kept.table (length kept.entries) (entry_for kept name date bytes) in
    none_alone (table_writes (slot_sector (length kept.entries)) table)
    (none_in_block (with_parity table) (table_places (slot_sector (length kept.entries))))
entry_none kept name date reply (TooLong need have) = tt
entry_none kept name date reply (TooShort promised read) = tt

pub append_none : (kept : Kept) (name : List ℕ) (date : ℕ) (promised : Option ℕ) (reply : Entry → List ℕ) (input : List ℕ) →
    HasNoRenew kept.settling →
    AreNoRenew (append_acts kept name date promised reply input)
append_none kept name date promised reply input none =
    let entry : List Act = entry_acts kept name date reply (taking (room_in kept) promised input) in
    none_both kept.settling (steps_of (input_writes kept.words kept.entries promised input ++ entry)) none
    (acts_both (input_writes kept.words kept.entries promised input) entry
    (acts_where (has_promised_room (room_in kept) promised)
    (input_acts kept.words (free_in kept) (most_written (room_in kept) promised) (is_some promised) input) []
    (input_none kept.words (free_in kept) (most_written (room_in kept) promised) (is_some promised) input) tt)
    (entry_none kept name date reply (taking (room_in kept) promised input)))

pub appends_none : (name : List ℕ) (date : ℕ) (input : List ℕ) → GoesWithNone (Appends name date input)
appends_none name date input c header ws table entries outcome is =
    let kept : Kept = kept_over (settled table c) ws entries table in
    let reply : Entry → List ℕ = reply_behind (length entries) in
    by_outcome outcome _ is
    (settled_none table c (append_acts kept name date None reply input)
    (append_none kept name date None reply input (none_in_settling table (settled table c))))

-- ---- the lines of a script

acts_on_none : (c : Cartridge) (ws : List ℕ) (entries : List Entry) (name : List ℕ) (promised date : ℕ) (bytes : List ℕ)
    (meeting : Meeting) →
    AreNoRenew (acts_on c ws entries name promised date bytes meeting)
acts_on_none c ws entries name promised date bytes (Refuses refusal) = tt
acts_on_none c ws entries name promised date bytes (Finds table) =
    append_none (kept_over c ws entries table) name date (Some promised) (reply_behind (length entries)) bytes (none_in_settling table c)

-- a reply behind acts
replied_none : (acts : List Act) (text : List ℕ) → AreNoRenew acts → AreNoRenew (acts ++ reply text ∷ [])
replied_none acts text none = acts_by (acts ++ reply text ∷ []) acts (replied acts text) none

taken_none : (kept : Kept) (name : List ℕ) (date : ℕ) (acts : List Act) (taken : Taking) → AreNoRenew acts →
    AreNoRenew (taken_as kept name date acts taken).acts
taken_none kept name date acts (Fits bytes) none = none
taken_none kept name date acts (TooLong need have) none = replied_none acts (refusal_line (why.Full need have)) none
taken_none kept name date acts (TooShort promised read) none = none

append_did_none : (c : Cartridge) (ws : List ℕ) (entries : List Entry) (name : List ℕ) (promised date : ℕ) (bytes : List ℕ)
    (meeting : Meeting) →
    AreNoRenew (append_did c ws entries name promised date bytes meeting).acts
append_did_none c ws entries name promised date bytes (Refuses refusal) = tt
append_did_none c ws entries name promised date bytes (Finds table) =
    let kept : Kept = kept_over c ws entries table in
    taken_none kept name date (acts_on c ws entries name promised date bytes (Finds table)) (taking (room_in kept) (Some promised) bytes)
    (acts_on_none c ws entries name promised date bytes (Finds table))

by_did : (a b : Did) → a ≡ b → AreNoRenew b.acts → AreNoRenew a.acts
by_did a b same none = subst (λ (d : Did). AreNoRenew d.acts) (sym same) none

given_none : (ws : List ℕ) (entries : List Entry) (number : ℕ) (e : Entry) (parts : List Act) (ending : GivingEnd) → AreNoRenew parts →
    AreNoRenew (given_as ws entries number e parts ending).acts
given_none ws entries number e parts Restored none = replied_none parts (restored_line number (volume_length ws e)) none
given_none ws entries number e parts (LostIn segment lost) none = replied_none parts (refusal_line (why.Lost segment lost)) none
given_none ws entries number e parts (MismatchIn segment) none = replied_none parts (refusal_line (why.Mismatch segment)) none

line_none : (c : Cartridge) (ws : List ℕ) (entries : List Entry) (asked : Line) (bytes : List ℕ) (did : Did) →
    LineDoes c ws entries asked bytes did → AreNoRenew did.acts
line_none c ws entries (line.Append name promised date) bytes did (meeting, meets, is) =
    by_did did _ is (append_did_none c ws entries name promised date bytes meeting)
line_none c ws entries line.List bytes did is = by_did did _ is tt
line_none c ws entries (line.Restore number) bytes did (inl is) = by_did did _ is.1 tt
line_none c ws entries (line.Restore number) bytes did (inr found) =
    by_did did _ found.is (given_none ws entries number found.entry (framed (pieces ws found.entry) found.acts) found.ending
    (acts_of_none (framed (pieces ws found.entry) found.acts)
    (framed_in_no_step c ws (pieces ws found.entry) found.acts found.ending found.restores).0))
line_none c ws entries line.Scrub bytes did (inl is) = by_did did _ is.1 tt
line_none c ws entries line.Scrub bytes did (inr (free, (acts, scrubs, is))) = by_did did _ is (scrub_none c ws entries acts scrubs)
line_none c ws entries (line.Lose segment sector) bytes did (inl is) = by_did did _ is.1 tt
line_none c ws entries (line.Lose segment sector) bytes did (inr is) = by_did did _ is.1 (tt, tt)
line_none c ws entries line.End bytes did none = absurd none

items_none : (c : Cartridge) (ws : List ℕ) (entries : List Entry) (items : List Item) (dids : List Did) → ItemsDo c ws entries items dids →
    AreNoRenew (acts_of dids)
items_none c ws entries [] [] done = tt
items_none c ws entries [] (did ∷ dids) done = absurd done
items_none c ws entries (item ∷ items) [] done = absurd done
items_none c ws entries (item ∷ items) (did ∷ dids) done =
    acts_both did.acts (acts_of dids) (line_none c ws entries item.line item.bytes did done.0)
    (items_none (changed_by (steps_of did.acts) c) ws did.entries items dids done.1)

end_none : (c : Cartridge) (ws : List ℕ) (entries : List Entry) (rest : List ℕ) (ending : Ending) (acts : List Act) →
    EndDoes c ws entries rest ending acts → AreNoRenew acts
end_none c ws entries rest AtEnd acts is = acts_of_none acts (ap steps_of is)
end_none c ws entries rest AtStop acts is = acts_of_none acts (ap steps_of is)
end_none c ws entries rest (AtFault number place) acts (inl (within, (early, (meeting, meets, is)))) =
    acts_by acts (acts_on c ws entries early.name early.promised early.date early.bytes meeting) (ap steps_of is)
    (acts_on_none c ws entries early.name early.promised early.date early.bytes meeting)
end_none c ws entries rest (AtFault number place) acts (inr (never, is)) = acts_of_none acts (ap steps_of is)

pub scripting_none : (input : List ℕ) → GoesWithNone (Scripting input)
scripting_none input c header ws table entries outcome found =
    let does = found.does in
    by_outcome outcome _ found.is (settled_none table c found.came.acts
    (acts_by found.came.acts (acts_of does.dids ++ does.last) (ap (λ (r : CommandOutcome). steps_of r.acts) does.is)
    (acts_both (acts_of does.dids) does.last (items_none (settled table c) ws entries does.items does.dids does.did)
    (end_none (cartridge_behind (settled table c) does.dids) ws (entries_behind entries does.dids)
    (drop (place_behind 1 0 input does.items does.ending does.read) input) does.ending does.last does.ends))))

-- ---- a generated run

step_none : (seed : ℕ) (c : Cartridge) (ws : List ℕ) (entries : List Entry) (item : MakeStep) (acts : List Act) (answer : Status) →
    StepDoes seed c ws entries item acts answer → AreNoRenew acts
step_none seed c ws entries (AppendMade volume) acts answer (inl refused) = acts_of_none acts (ap steps_of refused.1)
step_none seed c ws entries (AppendMade volume) acts answer (inr (free, inl appended)) =
    acts_by acts (made_acts seed c ws entries appended.table volume) (ap steps_of appended.does)
    (append_none (kept_over c ws entries appended.table) (made_name volume) 0 (Some (made_length seed volume)) silently
    (made_bytes seed volume)
    (none_in_settling appended.table c))
step_none seed c ws entries (AppendMade volume) acts answer (inr (free, inr lost)) = acts_of_none acts (ap steps_of lost.2)
step_none seed c ws entries (WearSector segment sector) acts answer worn =
    acts_by acts (record { steps = Wear segment sector ∷ []; text = [] } ∷ []) (ap steps_of worn.0) (tt, tt)
step_none seed c ws entries ScrubAll acts answer (inl refused) = acts_of_none acts (ap steps_of refused.1)
step_none seed c ws entries ScrubAll acts answer (inr (free, scrubbed)) = scrub_none c ws entries acts scrubbed.0
step_none seed c ws entries (SumVolume number) acts answer summed =
    acts_of_none acts (ap steps_of summed.is.0 ∙ sum_in_no_step number (volume_length ws summed.entry) (text_of summed.acts) summed.ending)

runs_none : (seed : ℕ) (c : Cartridge) (ws : List ℕ) (entries : List Entry) (items : List MakeStep) (acts : List Act) (answer : Status) →
    Runs seed c ws entries items acts answer → AreNoRenew acts
runs_none seed c ws entries [] acts answer is = acts_of_none acts (ap steps_of is.0)
runs_none seed c ws entries (item ∷ items) acts answer (inl (other, does)) = step_none seed c ws entries item acts answer does
runs_none seed c ws entries (item ∷ items) acts answer (inr (first, rest, parts, does, runs)) =
    acts_by acts (first ++ rest) (ap steps_of (sym parts))
    (acts_both first rest (step_none seed c ws entries item first status.Done does)
    (runs_none seed (changed_by (steps_of first) c) ws (after_item seed ws entries item) items rest answer runs))

pub making_none : (seed count : ℕ) → GoesWithNone (Making seed count)
making_none seed count c header ws table entries outcome found =
    by_outcome outcome _ found.is (settled_none table c found.acts
    (runs_none seed (settled table c) ws entries (making seed count ws entries) found.acts found.answer found.makes))
