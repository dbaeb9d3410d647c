-- A command is carried out where all is there that it needs.
use Rattle.cartridge_spec.specs.Appending.{room}
use Rattle.std.proofs.Common.{IsSomeAnd, ◌≡◌, Some, subst, inl, inr, ℕ, true, ap, List, ◌+◌, Bool, cond, length, min, ◌∙◌, ◌≤◌, ◌⊎◌, Option}
use Rattle.std.proofs.Common.{None}
use Rattle.cartridge_laws.proofs.FreshFront.{first_defect_is_none}
use Rattle.cartridge_laws.proofs.MountOnce.{mounts_is_function}
use Rattle.cartridge_laws.proofs.MountStanding.{standing_mounts}
use Rattle.cartridge_spec.specs.Formatting.{HasNoDefectInFront}
use Rattle.cartridge_spec.specs.Mounting.{Mounts, mounted_as, Mounting, settled}
use Rattle.cartridge_spec.specs.Volumes.{Plain, entries_of}
use Rattle.command_laws.proofs.MadeComplete.{made_where_there_is_room}
use Rattle.command_laws.proofs.MountedHeld.{mounted_open}
use Rattle.command_laws.proofs.RestoreGivenBack.{given, given_whole}
use Rattle.command_spec.specs.Append.{AppendOutcome}
use Rattle.command_laws.specs.Needs.{CanTake, CanGive}
use Rattle.command_laws.specs.Inputs.{IsOfTrains, IsOfLines}
use Rattle.command_laws.specs.Outcomes.{Printing, Mends, ScrubOutcome, Appends, ScriptOutcome, RestoreOutcome, MakeOutcome}
use Rattle.command_spec.specs.Command.{ReadsAs, IsUnprotected}
use Rattle.command_spec.specs.Single.{DefectOutcome, FormatOutcome, LoseOutcome}
use Rattle.command_spec.specs.Input.{Ending, AtEnd, AtStop, IsPulse, IsPulses, Item, IsItem, IsScript, input_status}
use Rattle.command_spec.specs.Make.{Making, CanMake}
use Rattle.command_spec.specs.Outcome.{Going, CommandOutcome, Opened, OpenOutcome, WritableOutcome, HasPlace, Shows}
use Rattle.command_spec.specs.Pulses.{SentOutcome}
use Rattle.command_spec.specs.Script.{Scripting}
use Rattle.command_spec.specs.declared.status.Status.{Status}
use Rattle.qic_base.specs.Cartridge.{Cartridge, view_at}
use Rattle.qic_base.specs.CartridgeTerms.{IsCartridge}
use Rattle.qic_base.specs.Tape.{spoil_answer}
use Rattle.command_spec.specs.declared.status.Status.TheVariants as status
use Rattle.command_laws.proofs.TextInputs as inputs

-- ---- a cartridge that is mounted

-- it is mounted as the plain one, and the command goes on
pub record GoesOn (goes : Going) (c : Cartridge) (plain : Plain) (outcome : CommandOutcome) : Type 0 where
  pub mounts : Mounts c (mounted_as plain)
  pub did : goes c plain.header plain.words plain.table_area (entries_of plain) outcome

pub goes_on : (goes : Going) (c : Cartridge) (plain : Plain) (outcome : CommandOutcome) → ReadsAs c plain →
    OpenOutcome goes (Some c) outcome → GoesOn goes c plain outcome
goes_on goes c plain outcome there (m, mounts, opened) =
    let mounted : Mounts c (mounted_as plain) = standing_mounts c plain there.stands there.reads in
    let same : m ≡ mounted_as plain = mounts_is_function c m (mounted_as plain) mounts mounted in
    record { mounts = mounted; did = subst (λ (a : Mounting). Opened goes c a outcome) same opened }

-- one that takes writes is opened
pub is_opened : (goes : Going) (c : Cartridge) (outcome : CommandOutcome) → IsUnprotected c → WritableOutcome goes (Some c) outcome →
    OpenOutcome goes (Some c) outcome
is_opened goes c outcome free (inl (locked, is)) = absurd (cc)
is_opened goes c outcome free (inr (unlocked, opened)) = opened

abbrev pub status_of : CommandOutcome → Status
status_of outcome = outcome.status

-- over a drive that holds a cartridge that is so
pub where_some : (P : Cartridge → Type 0) (held : Option Cartridge) (R : Option Cartridge → Type 0) → ((c : Cartridge) → P c → R (Some c)) →
    IsSomeAnd held P → R held
where_some P None R each none = absurd none
where_some P (Some c) R each holds = each c holds

-- ---- commands that change one thing

pub defect_done : (segment sector : ℕ) (c : Cartridge) (outcome : CommandOutcome) → HasPlace c segment sector →
    spoil_answer (view_at c segment sector) ≡ true →
    DefectOutcome segment sector (Some c) outcome → outcome.status ≡ status.Done
defect_done segment sector c outcome place blank (inl no_place) = absurd (no_place.0 place)
defect_done segment sector c outcome place blank (inr (inl filled)) = let p = filled.1 in absurd (cc)
defect_done segment sector c outcome place blank (inr (inr done)) = ap status_of done.2

pub lose_done : (segment sector : ℕ) (c : Cartridge) (outcome : CommandOutcome) → HasPlace c segment sector →
    LoseOutcome segment sector (Some c) outcome → outcome.status ≡ status.Done
lose_done segment sector c outcome place (inl no_place) = absurd (no_place.0 place)
lose_done segment sector c outcome place (inr done) = ap status_of done.1

pub format_done : (label : List ℕ) (date : ℕ) (c : Cartridge) (outcome : CommandOutcome) → IsUnprotected c → HasNoDefectInFront c →
    FormatOutcome label date (Some c) outcome → outcome.status ≡ status.Done
format_done label date c outcome free none (inl (locked, is)) = absurd (cc)
format_done label date c outcome free none (inr (inl (unlocked, (segment, first, is)))) =
    absurd (first_defect_is_none c (record { segment = segment; is_first = first }) none)
format_done label date c outcome free none (inr (inr (unlocked, clear, (map, (area, fresh, is))))) = ap status_of is

-- ---- commands that mount

pub shows_done : (prints : Printing) (c : Cartridge) (plain : Plain) (outcome : CommandOutcome) → ReadsAs c plain →
    OpenOutcome (Shows prints) (Some c) outcome → outcome.status ≡ status.Done
shows_done prints c plain outcome there opened = ap status_of (goes_on (Shows prints) c plain outcome there opened).did

pub append_goes : (name : List ℕ) (date : ℕ) (input : List ℕ) (c : Cartridge) (outcome : CommandOutcome) → IsUnprotected c →
    CanTake c input → AppendOutcome name date (Some c) input outcome → outcome.status ≡ status.Done
append_goes name date input c outcome free can does =
    let goes : Going = Appends name date input in
    let plain : Plain = can.0 in
    let on = goes_on goes c plain outcome can.1 (is_opened goes c outcome free does) in
    let have : ℕ = room plain.words (entries_of plain) in
    ap status_of on.did ∙ ap (λ (b : Bool). cond b status.Done (status.Full (min (length input) (have + 1)) have)) can.2

pub restore_goes : (number : ℕ) (c : Cartridge) (outcome : CommandOutcome) → CanGive c number → RestoreOutcome number (Some c) outcome →
    outcome.status ≡ status.Done
restore_goes number c outcome can does =
    let has = can.1.1 in
    (given_whole number c can.0 can.1.0 outcome has (given number c can.0 can.1.0 outcome has does) can.1.2).0

pub scrub_goes : (c : Cartridge) (plain : Plain) (outcome : CommandOutcome) → IsUnprotected c → ReadsAs c plain →
    ScrubOutcome (Some c) outcome → outcome.status ≡ status.Done
scrub_goes c plain outcome free there does =
    let on = goes_on Mends c plain outcome there (is_opened Mends c outcome free does) in
    let did = on.did in ap status_of did.is

pub make_goes : (seed count : ℕ) (c : Cartridge) (outcome : CommandOutcome) → count ≤ 200 → IsCartridge c → IsUnprotected c →
    CanMake c seed count → MakeOutcome seed count (Some c) outcome → outcome.status ≡ status.Done
make_goes seed count c outcome small whole free can does =
    let plain : Plain = can.plain in
    let on = goes_on (Making seed count) c plain outcome can.mounts (is_opened (Making seed count) c outcome free does) in
    let did = on.did in
    let there : ReadsAs c plain = can.mounts in
    ap status_of did.is ∙ made_where_there_is_room seed count (settled plain.table_area c) plain did.acts did.answer small
    (mounted_open c plain whole there.stands on.mounts free) can.room can.few did.makes

-- ---- commands that read lines

pub pulses_go : (held : Option Cartridge) (input : List ℕ) (outcome : CommandOutcome) → IsOfTrains input → SentOutcome held input outcome →
    outcome.status ≡ status.Done
pulses_go held input outcome (trains, reads) plain =
    ap status_of plain.is ∙ by_ending reads
  where
    by_ending : IsPulses input trains AtEnd ⊎ IsPulses input trains AtStop → input_status plain.ending ≡ status.Done
    by_ending (inl read) =
        ap input_status (inputs.one_reading IsPulse inputs.pulses 1 0 input plain.trains trains plain.ending AtEnd plain.read read).1
    by_ending (inr read) =
        ap input_status (inputs.one_reading IsPulse inputs.pulses 1 0 input plain.trains trains plain.ending AtStop plain.read read).1

pub script_goes : (input : List ℕ) (c : Cartridge) (plain : Plain) (outcome : CommandOutcome) → ReadsAs c plain → IsOfLines input →
    ScriptOutcome (Some c) input outcome → outcome.status ≡ status.Done
script_goes input c plain outcome there (items, reads) does =
    let on = goes_on (Scripting input) c plain outcome there does in
    let did = on.did in
    let lines = did.does in
    ap status_of did.is ∙ ap status_of lines.is ∙ by_ending lines.items lines.ending lines.read reads
  where
    by_ending : (found : List Item) (ending : Ending) → IsScript input found ending → IsScript input items AtEnd
        ⊎ IsScript input items AtStop →
        input_status ending ≡ status.Done
    by_ending found ending known (inl read) =
        ap input_status (inputs.one_reading IsItem inputs.items 1 0 input found items ending AtEnd known read).1
    by_ending found ending known (inr read) =
        ap input_status (inputs.one_reading IsItem inputs.items 1 0 input found items ending AtStop known read).1
