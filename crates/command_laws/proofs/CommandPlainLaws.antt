-- What the outcomes of commands have in common: each is one, and what a stop in it leaves.
use Rattle.std.proofs.Common.{[], ◌≡◌, ℕ, Option, Some, None, sym, ◌∙◌, inl, inr, List, subst, ◌∷◌, ap, ◌⊎◌, true, false, ◌++◌, append-nil}
use Rattle.std.proofs.Common.{refl}
use Rattle.cartridge_laws.proofs.FreshFront.{first_defect_is_none, first_defect_is_one}
use Rattle.cartridge_laws.proofs.FreshMarks.{fresh_area_is_one}
use Rattle.cartridge_laws.proofs.MountOnce.{mounts_is_function}
use Rattle.cartridge_laws.proofs.MountWhole.{settling_effects}
use Rattle.cartridge_spec.specs.Formatting.{IsFirstDefectInFront, clearing_steps, format_steps, HasNoDefectInFront, IsFreshWith}
use Rattle.cartridge_spec.specs.Header.{Header}
use Rattle.cartridge_spec.specs.Mounting.{Mounting, settled, Mounts}
use Rattle.cartridge_spec.specs.Settling.{settling_steps}
use Rattle.cartridge_spec.specs.Table.{Entry}
use Rattle.command_laws.proofs.MadeStops.{makes_one_thing}
use Rattle.command_laws.proofs.PulseMachineLaws.{one_outcome, run_of}
use Rattle.command_laws.proofs.PulseStopping.{stops_leave as trains_leave}
use Rattle.command_laws.proofs.RestoreCounts.{restores_in_no_step}
use Rattle.command_laws.proofs.RestoreEndings.{restores_is_function}
use Rattle.command_laws.proofs.ScriptMachineLaws.{one_outcome as one_script}
use Rattle.command_spec.specs.Single.{DefectOutcome, FormatOutcome, LoseOutcome}
use Rattle.command_laws.specs.Outcomes.{cleared, formatted, Printing, Mends, ScrubOutcome, Appends, RestoreOutcome}
use Rattle.command_spec.specs.Make.{Making}
use Rattle.command_spec.specs.Outcome.{refused, CommandOutcome, Going, Opened, OpenOutcome, WritableOutcome, Shows, settling_act, HasPlace}
use Rattle.command_laws.specs.PulseRuns.{sent}
use Rattle.command_spec.specs.Pulses.{SentOutcome, train_acts}
use Rattle.command_spec.specs.Restore.{GivingEnd, Restores, pieces, Gives, ending_status}
use Rattle.command_spec.specs.Script.{Scripting}
use Rattle.command_spec.specs.Scrub.{ScrubsAs}
use Rattle.command_spec.specs.declared.status.Status.{Status}
use Rattle.drive_spec.specs.Record.{power_on}
use Rattle.qic_base.proofs.Steps.{Torn-append}
use Rattle.qic_base.specs.Acts.{Act, steps_of}
use Rattle.qic_base.specs.Cartridge.{Cartridge, info_of}
use Rattle.qic_base.specs.Step.{Step as TapeStep, changed, SetReferenced, Wear, Spoil, effect, effects, Torn, Halfway}
use Rattle.command_laws.proofs.ScrubOneWrong.{form_is_function}
use Rattle.command_spec.specs.declared.depth.Depth.TheVariants.{Shallow}
use Rattle.cartridge_spec.specs.Mounting as mounting
use Rattle.command_spec.specs.declared.status.Status.TheVariants as status

-- ---- what a stop leaves

-- what a stop leaves of a change of one sector: it was done or not, and only a sector that the cartridge has is changed
abbrev pub SectorLeaves : TapeStep → (segment sector : ℕ) → (held left : Option Cartridge) → Type 0
SectorLeaves step segment sector None left = left ≡ None
SectorLeaves step segment sector (Some c) left =
    (left ≡ Some c) ⊎ (HasPlace c segment sector × (left ≡ Some (changed step c)))

-- what a stop in a mounting leaves: the cartridge as it was; or, where it mounts, one whose table's settling was stopped
abbrev pub OpeningLeaves : (held left : Option Cartridge) → Type 0
OpeningLeaves None left = left ≡ None
OpeningLeaves (Some c) left =
    (left ≡ Some c)
    ⊎ ((header : Header) × ((words : List ℕ) × ((table : List (List ℕ)) × ((entries : List Entry) ×
    Mounts c (mounting.Mounted header words table entries) × Torn (settling_steps table c) (Some c) left))))

-- what a stop in formatting leaves: a protected cartridge as it was; else one after a front of the steps that set the reference
-- bursts and format the segments, the next of them stopped inside; or, where no defect lies in front, after a front of all
-- steps
abbrev pub FormatLeaves : (label : List ℕ) → (date : ℕ) → (held left : Option Cartridge) → Type 0
FormatLeaves label date None left = left ≡ None
FormatLeaves label date (Some c) left =
    ((c.info.protected ≡ true) × (left ≡ Some c))
    ⊎ ((c.info.protected ≡ false) × Torn (clearing_steps c.info.segments_per_track) (Some c) left)
    ⊎ ((c.info.protected ≡ false) × HasNoDefectInFront c
    × ((words : List ℕ) × ((area : List (List ℕ)) × IsFreshWith c label date words area
    × Torn (format_steps c.info.segments_per_track area) (Some c) left)))

-- a protected cartridge is left as it was by a command that writes on it
abbrev pub AppendingLeaves : (held left : Option Cartridge) → Type 0
AppendingLeaves None left = left ≡ None
AppendingLeaves (Some c) left = c.info.protected ≡ true → left ≡ Some c

-- what a stop in scrubbing leaves: the cartridge as it was; or, where it mounts, one whose settling, or whose scrubbing behind
-- that, was stopped
abbrev pub ScrubbingLeaves : (held left : Option Cartridge) → Type 0
ScrubbingLeaves None left = left ≡ None
ScrubbingLeaves (Some c) left =
    (left ≡ Some c)
    ⊎ ((header : Header) × ((words : List ℕ) × ((table : List (List ℕ)) × ((entries : List Entry) × ((acts : List Act) ×
    Mounts c (mounting.Mounted header words table entries) × ScrubsAs Shallow (settled table c) words entries acts
    × (Torn (settling_steps table c) (Some c) left ⊎ Torn (steps_of acts) (Some (settled table c)) left))))))

-- ---- the machine is a function

-- what a person's change of one sector does is determined
pub lose_is_function : (segment sector : ℕ) (held : Option Cartridge) (a b : CommandOutcome) → LoseOutcome segment sector held a →
    LoseOutcome segment sector held b → a ≡ b
lose_is_function segment sector None a b one other = one ∙ sym other
lose_is_function segment sector (Some c) a b (inl one) (inl other) = one.1 ∙ sym other.1
lose_is_function segment sector (Some c) a b (inl one) (inr other) = absurd (one.0 other.0)
lose_is_function segment sector (Some c) a b (inr one) (inl other) = absurd (other.0 one.0)
lose_is_function segment sector (Some c) a b (inr one) (inr other) = one.1 ∙ sym other.1

pub defect_is_function : (segment sector : ℕ) (held : Option Cartridge) (a b : CommandOutcome) → DefectOutcome segment sector held a →
    DefectOutcome segment sector held b → a ≡ b
defect_is_function segment sector None a b one other = one ∙ sym other
defect_is_function segment sector (Some c) a b (inl one) (inl other) = one.1 ∙ sym other.1
defect_is_function segment sector (Some c) a b (inl one) (inr (inl other)) = absurd (one.0 other.0)
defect_is_function segment sector (Some c) a b (inl one) (inr (inr other)) = absurd (one.0 other.0)
defect_is_function segment sector (Some c) a b (inr (inl one)) (inl other) = absurd (other.0 one.0)
defect_is_function segment sector (Some c) a b (inr (inr one)) (inl other) = absurd (other.0 one.0)
defect_is_function segment sector (Some c) a b (inr (inl one)) (inr (inl other)) = one.2 ∙ sym other.2
defect_is_function segment sector (Some c) a b (inr (inl one)) (inr (inr other)) = let p = one.1 in let q = other.1 in absurd (cc)
defect_is_function segment sector (Some c) a b (inr (inr one)) (inr (inl other)) = let p = one.1 in let q = other.1 in absurd (cc)
defect_is_function segment sector (Some c) a b (inr (inr one)) (inr (inr other)) = one.2 ∙ sym other.2

-- what a stop in the steps of an outcome leaves, a stop in the one step leaves
pub only_step : (step : TapeStep) (held left : Option Cartridge) (a b : CommandOutcome) → a ≡ b → steps_of b.acts ≡ step ∷ [] →
    Torn (steps_of a.acts) held left → Torn (step ∷ []) held left
only_step step held left a b same one torn = subst (λ (steps : List TapeStep). Torn steps held left)
    (ap (λ (o : CommandOutcome). steps_of o.acts) same ∙ one) torn

one_act : (steps : List TapeStep) (held left : Option Cartridge) (a b : CommandOutcome) → a ≡ b → steps_of b.acts ≡ steps ++ [] →
    Torn (steps_of a.acts) held left → Torn steps held left
one_act steps held left a b same one torn =
    subst (λ (ss : List TapeStep). Torn ss held left) (ap (λ (o : CommandOutcome). steps_of o.acts) same ∙ one ∙ append-nil steps) torn

pub stays : (held left : Option Cartridge) (a b : CommandOutcome) → a ≡ b → steps_of b.acts ≡ [] → Torn (steps_of a.acts) held left →
    left ≡ held
stays held left a b same none torn = subst (λ (steps : List TapeStep). Torn steps held left)
    (ap (λ (o : CommandOutcome). steps_of o.acts) same ∙ none) torn

pub opening_leaves : (prints : Printing) (held left : Option Cartridge) (outcome : CommandOutcome) →
    OpenOutcome (Shows prints) held outcome → Torn (steps_of outcome.acts) held left → OpeningLeaves held left
opening_leaves prints None left outcome plain torn = stays None left outcome _ plain refl torn
opening_leaves prints (Some c) left outcome (mounting.NotFormatted, mounts, is) torn = inl (stays (Some c) left outcome _ is refl torn)
opening_leaves prints (Some c) left outcome (mounting.Foreign fault, mounts, is) torn = inl (stays (Some c) left outcome _ is refl torn)
opening_leaves prints (Some c) left outcome (mounting.TableLost lost, mounts, is) torn = inl (stays (Some c) left outcome _ is refl torn)
opening_leaves prints (Some c) left outcome (mounting.TableMismatch, mounts, is) torn = inl (stays (Some c) left outcome _ is refl torn)
opening_leaves prints (Some c) left outcome (mounting.Mounted header words table entries, mounts, is) torn =
    inr (header, (words, (table, (entries, mounts, one_act (settling_steps table c) (Some c) left outcome _ is refl torn))))

-- the steps of an act, and those of others behind it
pub behind_leaves : (steps : List TapeStep) (acts : List Act) (held left : Option Cartridge) (a b : CommandOutcome) → a ≡ b →
    steps_of b.acts ≡ steps ++ steps_of acts →
    Torn (steps_of a.acts) held left → Torn steps held left ⊎ Torn (steps_of acts) (effects steps held) left
behind_leaves steps acts held left a b same one torn =
    Torn-append steps (steps_of acts) held left
    (subst (λ (ss : List TapeStep). Torn ss held left) (ap (λ (o : CommandOutcome). steps_of o.acts) same ∙ one) torn)

pub restoring_leaves : (number : ℕ) (held left : Option Cartridge) (outcome : CommandOutcome) → RestoreOutcome number held outcome →
    Torn (steps_of outcome.acts) held left → OpeningLeaves held left
restoring_leaves number None left outcome plain torn = stays None left outcome _ plain refl torn
restoring_leaves number (Some c) left outcome (mounting.NotFormatted, mounts, is) torn = inl (stays (Some c) left outcome _ is refl torn)
restoring_leaves number (Some c) left outcome (mounting.Foreign fault, mounts, is) torn = inl (stays (Some c) left outcome _ is refl torn)
restoring_leaves number (Some c) left outcome (mounting.TableLost lost, mounts, is) torn = inl (stays (Some c) left outcome _ is refl torn)
restoring_leaves number (Some c) left outcome (mounting.TableMismatch, mounts, is) torn = inl (stays (Some c) left outcome _ is refl torn)
restoring_leaves number (Some c) left outcome (mounting.Mounted header words table entries, mounts, inl none) torn =
    inr (header, (words, (table, (entries, mounts, one_act (settling_steps table c) (Some c) left outcome _ none.1 refl torn))))
restoring_leaves number (Some c) left outcome (mounting.Mounted header words table entries, mounts, inr found) torn =
    let none : steps_of found.acts ≡ [] = restores_in_no_step (settled table c) words
    (pieces words found.entry) found.acts found.ending found.restores in
    inr (
      header,
      (
        words,
        (
          table,
          (
            entries,
            mounts,
            one_act (settling_steps table c) (Some c) left outcome _ found.is
                (ap (λ (steps : List TapeStep). settling_steps table c ++ steps) none) torn,
          ),
        ),
      ),
    )

pub scrubbing_leaves : (held left : Option Cartridge) (outcome : CommandOutcome) → ScrubOutcome held outcome →
    Torn (steps_of outcome.acts) held left → ScrubbingLeaves held left
scrubbing_leaves None left outcome plain torn = stays None left outcome _ plain refl torn
scrubbing_leaves (Some c) left outcome (inl (locked, is)) torn = inl (stays (Some c) left outcome _ is refl torn)
scrubbing_leaves (Some c) left outcome (inr (free, (mounting.NotFormatted, mounts, is))) torn =
    inl (stays (Some c) left outcome _ is refl torn)
scrubbing_leaves (Some c) left outcome (inr (free, (mounting.Foreign fault, mounts, is))) torn =
    inl (stays (Some c) left outcome _ is refl torn)
scrubbing_leaves (Some c) left outcome (inr (free, (mounting.TableLost lost, mounts, is))) torn =
    inl (stays (Some c) left outcome _ is refl torn)
scrubbing_leaves (Some c) left outcome (inr (free, (mounting.TableMismatch, mounts, is))) torn =
    inl (stays (Some c) left outcome _ is refl torn)
scrubbing_leaves (Some c) left outcome (inr (free, (mounting.Mounted header words table entries, mounts, found))) torn =
    inr (
      header,
      (
        words,
        (
          table,
          (
            entries,
            (
              found.acts,
              mounts,
              found.scrubs,
              elim (behind_leaves (settling_steps table c) found.acts (Some c) left outcome _ found.is refl torn) [
                | inl first ↦ inl first
                | inr next ↦ inr (subst (λ (held : Option Cartridge). Torn (steps_of found.acts) held left)
                    (settling_effects c table mounts.reads) next)
              ],
            ),
          ),
        ),
      ),
    )

pub appending_leaves : (goes : Going) (held left : Option Cartridge) (outcome : CommandOutcome) → WritableOutcome goes held outcome →
    Torn (steps_of outcome.acts) held left → AppendingLeaves held left
appending_leaves goes None left outcome plain torn = stays None left outcome _ plain refl torn
appending_leaves goes (Some c) left outcome (inl (locked, is)) torn = λ mark. stays (Some c) left outcome _ is refl torn
appending_leaves goes (Some c) left outcome (inr (free, opened)) torn = λ mark. absurd (cc)

pub sent_leaves : (held left : Option Cartridge) (input : List ℕ) (outcome : CommandOutcome) → SentOutcome held input outcome →
    Torn (steps_of outcome.acts) held left → (left ≡ held) ⊎ (left ≡ effect SetReferenced held)
sent_leaves held left input outcome plain torn =
    let same : steps_of outcome.acts ≡ steps_of (train_acts (power_on (info_of held)) plain.trains) =
    ap (λ (o : CommandOutcome). steps_of o.acts) plain.is in
    trains_leave (power_on (info_of held)) plain.trains held left (subst (λ (steps : List TapeStep). Torn steps held left) same torn)

pub format_leaves : (label : List ℕ) (date : ℕ) (held left : Option Cartridge) (outcome : CommandOutcome) →
    FormatOutcome label date held outcome → Torn (steps_of outcome.acts) held left → FormatLeaves label date held left
format_leaves label date None left outcome plain torn = stays None left outcome _ plain refl torn
format_leaves label date (Some c) left outcome (inl plain) torn = inl (plain.0, stays (Some c) left outcome _ plain.1 refl torn)
format_leaves label date (Some c) left outcome (inr (inl (unlocked, (segment, first, is)))) torn =
    inr (inl (unlocked, one_act (clearing_steps c.info.segments_per_track) (Some c) left outcome _ is refl torn))
format_leaves label date (Some c) left outcome (inr (inr (unlocked, none, (words, (area, fresh, is))))) torn =
    inr (inr (
      unlocked,
      none,
      (
        words,
        (
          area,
          fresh,
          one_act (format_steps c.info.segments_per_track area)
              (Some c) left outcome _ is refl torn,
        ),
      ),
    ))

-- what a stop in a change of one sector leaves
sector_leaves : (step : TapeStep) (segment sector : ℕ) (c : Cartridge) (left : Option Cartridge) (a b : CommandOutcome) →
    HasPlace c segment sector → (Halfway step (Some c) left → ⊥) →
    a ≡ b → steps_of b.acts ≡ step ∷ [] → Torn (steps_of a.acts) (Some c) left → SectorLeaves step segment sector (Some c) left
sector_leaves step segment sector c left a b place whole same one torn =
    elim (only_step step (Some c) left a b same one torn) [
      | inl before ↦ inl before
      | inr (inl inside) ↦ absurd (whole inside)
      | inr (inr behind) ↦ inr (place, behind)
    ]

pub defect_leaves : (segment sector : ℕ) (held left : Option Cartridge) (outcome : CommandOutcome) →
    DefectOutcome segment sector held outcome → Torn (steps_of outcome.acts) held left →
    SectorLeaves (Spoil segment sector) segment sector held left
defect_leaves segment sector None left outcome plain torn = stays None left outcome _ plain refl torn
defect_leaves segment sector (Some c) left outcome (inl plain) torn = inl (stays (Some c) left outcome _ plain.1 refl torn)
defect_leaves segment sector (Some c) left outcome (inr (inl plain)) torn =
    sector_leaves (Spoil segment sector) segment sector c left outcome _ plain.0 (λ half. half) plain.2 refl torn
defect_leaves segment sector (Some c) left outcome (inr (inr plain)) torn =
    sector_leaves (Spoil segment sector) segment sector c left outcome _ plain.0 (λ half. half) plain.2 refl torn

pub lose_leaves : (segment sector : ℕ) (held left : Option Cartridge) (outcome : CommandOutcome) → LoseOutcome segment sector held outcome →
    Torn (steps_of outcome.acts) held left →
    SectorLeaves (Wear segment sector) segment sector held left
lose_leaves segment sector None left outcome plain torn = stays None left outcome _ plain refl torn
lose_leaves segment sector (Some c) left outcome (inl plain) torn = inl (stays (Some c) left outcome _ plain.1 refl torn)
lose_leaves segment sector (Some c) left outcome (inr plain) torn =
    sector_leaves (Wear segment sector) segment sector c left outcome _ plain.0 (λ half. half) plain.1 refl torn

-- ---- mounting is a function

-- what is done on a mounted cartridge is one outcome
abbrev pub IsOne : Going → Type 0
IsOne goes =
    (c : Cartridge) (header : Header) (ws : List ℕ) (table : List (List ℕ)) (entries : List Entry) (a b : CommandOutcome) →
    goes c header ws table entries a → goes c header ws table entries b → a ≡ b

opened_is_function : (goes : Going) → IsOne goes → (c : Cartridge) (m : Mounting) (a b : CommandOutcome) → Opened goes c m a →
    Opened goes c m b → a ≡ b
opened_is_function goes one c mounting.NotFormatted a b is was = is ∙ sym was
opened_is_function goes one c (mounting.Foreign fault) a b is was = is ∙ sym was
opened_is_function goes one c (mounting.TableLost lost) a b is was = is ∙ sym was
opened_is_function goes one c mounting.TableMismatch a b is was = is ∙ sym was
opened_is_function goes one c (mounting.Mounted header ws table entries) a b is was = one c header ws table entries a b is was

pub open_is_function : (goes : Going) → IsOne goes → (held : Option Cartridge) (a b : CommandOutcome) → OpenOutcome goes held a →
    OpenOutcome goes held b → a ≡ b
open_is_function goes one None a b is was = is ∙ sym was
open_is_function goes one (Some c) a b (m, mounts, is) (n, gives, was) =
    opened_is_function goes one c m a b is
    (subst (λ (k : Mounting). Opened goes c k b) (sym (mounts_is_function c m n mounts gives)) was)

pub writable_is_function : (goes : Going) → IsOne goes → (held : Option Cartridge) (a b : CommandOutcome) → WritableOutcome goes held a →
    WritableOutcome goes held b → a ≡ b
writable_is_function goes one None a b is was = is ∙ sym was
writable_is_function goes one (Some c) a b (inl is) (inl was) = is.1 ∙ sym was.1
writable_is_function goes one (Some c) a b (inl is) (inr was) = let p = is.0 in let q = was.0 in absurd (cc)
writable_is_function goes one (Some c) a b (inr is) (inl was) = let p = is.0 in let q = was.0 in absurd (cc)
writable_is_function goes one (Some c) a b (inr is) (inr was) = open_is_function goes one (Some c) a b is.1 was.1

pub shows_one : (prints : Printing) → IsOne (Shows prints)
shows_one prints c header ws table entries a b is was = is ∙ sym was

pub appends_one : (name : List ℕ) (date : ℕ) (input : List ℕ) → IsOne (Appends name date input)
appends_one name date input c header ws table entries a b is was = is ∙ sym was

abbrev given : (table : List (List ℕ)) (c : Cartridge) → List Act → Status → CommandOutcome
given table c acts answer = record { acts = settling_act table c ∷ acts; taken = 0; status = answer }

pub gives_one : (number : ℕ) → IsOne (Gives number)
gives_one number c header ws table entries a b (inl is) (inl was) = is.1 ∙ sym was.1
gives_one number c header ws table entries a b (inl is) (inr was) = let p = is.0 in let q = was.numbered in absurd (cc)
gives_one number c header ws table entries a b (inr is) (inl was) = let p = is.numbered in let q = was.0 in absurd (cc)
gives_one number c header ws table entries a b (inr is) (inr was) =
    let p = is.numbered in let q = was.numbered in
    let same : is.entry ≡ was.entry = cc in
    let both = restores_is_function (settled table c) ws (pieces ws was.entry) is.acts was.acts is.ending was.ending
    (subst (λ (e : Entry). Restores (settled table c) ws (pieces ws e) is.acts is.ending) same is.restores) was.restores in
    is.is ∙ ap (λ (xs : List Act). given table c xs (ending_status is.ending)) both.0
    ∙ ap (λ (e : GivingEnd). given table c was.acts (ending_status e)) both.1 ∙ sym was.is

pub mends_one : IsOne Mends
mends_one c header ws table entries a b is was =
    is.is ∙ ap (λ (xs : List Act). given table c xs status.Done)
    (form_is_function Shallow (settled table c) ws entries is.acts was.acts is.scrubs was.scrubs) ∙ sym was.is

abbrev scripted_on : (table : List (List ℕ)) (c : Cartridge) → CommandOutcome → CommandOutcome
scripted_on table c came = record came { acts = settling_act table c ∷ came.acts }

pub scripting_one : (input : List ℕ) → IsOne (Scripting input)
scripting_one input c header ws table entries a b is was =
    is.is ∙ ap (scripted_on table c) (one_script (settled table c) ws entries input is.came was.came is.does was.does) ∙ sym was.is

pub making_one : (seed count : ℕ) → IsOne (Making seed count)
making_one seed count c header ws table entries a b is was =
    let both = makes_one_thing seed count (settled table c) ws entries is.acts was.acts is.answer was.answer is.makes was.makes in
    is.is ∙ ap (λ (xs : List Act). given table c xs is.answer) both.0
    ∙ ap (λ (answer : Status). given table c was.acts answer) both.1 ∙ sym was.is

-- ---- formatting is a function

pub format_is_function : (label : List ℕ) (date : ℕ) (held : Option Cartridge) (a b : CommandOutcome) → FormatOutcome label date held a →
    FormatOutcome label date held b → a ≡ b
format_is_function label date None a b one other = one ∙ sym other
format_is_function label date (Some c) a b (inl one) (inl other) = one.1 ∙ sym other.1
format_is_function label date (Some c) a b (inl one) (inr (inl other)) = let p = one.0 in let q = other.0 in absurd (cc)
format_is_function label date (Some c) a b (inl one) (inr (inr other)) = let p = one.0 in let q = other.0 in absurd (cc)
format_is_function label date (Some c) a b (inr (inl one)) (inl other) = let p = one.0 in let q = other.0 in absurd (cc)
format_is_function label date (Some c) a b (inr (inr one)) (inl other) = let p = one.0 in let q = other.0 in absurd (cc)
format_is_function label date (Some c) a b (inr (inl (unlocked, (segment, first, is)))) (inr (inl (free, (other, second, was)))) =
    is ∙ ap (cleared c.info.segments_per_track) (first_defect_is_one c segment other first second) ∙ sym was
format_is_function label date (Some c) a b (inr (inl (unlocked, (segment, first, is)))) (inr (inr (free, none, rest))) =
    absurd (first_defect_is_none c (record { segment = segment; is_first = first }) none)
format_is_function label date (Some c) a b (inr (inr (free, none, rest))) (inr (inl (unlocked, (segment, first, is)))) =
    absurd (first_defect_is_none c (record { segment = segment; is_first = first }) none)
format_is_function label date (Some c) a b (inr (inr (unlocked, none, (words, (area, fresh, is)))))
    (inr (inr (free, clear, (others, (other, news, was))))) =
    let same = fresh_area_is_one c label date words others area other fresh news in
    is ∙ ap (λ (w : List ℕ). formatted c.info.segments_per_track w area) same.0 ∙ ap (formatted c.info.segments_per_track others) same.1
    ∙ sym was

-- ---- trains of pulses are one

pub sent_is_function : (held : Option Cartridge) (input : List ℕ) (a b : CommandOutcome) → SentOutcome held input a →
    SentOutcome held input b → a ≡ b
sent_is_function held input a b one other =
    let is = run_of held input a one in
    let was = run_of held input b other in
    is.2 ∙ ap sent (one_outcome (info_of held) input is.0 was.0 is.1 was.1) ∙ sym was.2

-- ---- a protected cartridge

pub writable_locked : (goes : Going) (c : Cartridge) (outcome : CommandOutcome) → c.info.protected ≡ true →
    WritableOutcome goes (Some c) outcome → outcome ≡ refused status.Protected
writable_locked goes c outcome locked (inl is) = is.1
writable_locked goes c outcome locked (inr is) = let free = is.0 in absurd (cc)

pub format_locked : (label : List ℕ) (date : ℕ) (c : Cartridge) (outcome : CommandOutcome) → c.info.protected ≡ true →
    FormatOutcome label date (Some c) outcome → outcome ≡ refused status.Protected
format_locked label date c outcome locked (inl is) = is.1
format_locked label date c outcome locked (inr (inl is)) = let free = is.0 in absurd (cc)
format_locked label date c outcome locked (inr (inr is)) = let free = is.0 in absurd (cc)

-- ---- one with a defect in front

pub format_in_front : (label : List ℕ) (date : ℕ) (c : Cartridge) (segment : ℕ) (outcome : CommandOutcome) → c.info.protected ≡ false →
    IsFirstDefectInFront c segment →
    FormatOutcome label date (Some c) outcome → outcome.status ≡ status.DefectInFront segment
format_in_front label date c segment outcome free first (inl is) = let locked = is.0 in absurd (cc)
format_in_front label date c segment outcome free first (inr (inl (unlocked, (other, second, is)))) =
    ap (λ (o : CommandOutcome). o.status) is ∙ ap status.DefectInFront (first_defect_is_one c other segment second first)
format_in_front label date c segment outcome free first (inr (inr is)) =
    absurd (first_defect_is_none c (record { segment = segment; is_first = first }) is.1)
