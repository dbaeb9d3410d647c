-- Each command has an outcome over what a drive can hold.
use Rattle.std.proofs.Common.{◌⊎◌, ℕ, Option, Some, None, refl, inl, inr, ◌≡◌, Bool, true, false, List, IfSome, ◌≤◌, ◌<◌, ◌^◌}
use Rattle.cartridge_laws.proofs.FreshArea.{fresh_area_exists}
use Rattle.cartridge_laws.proofs.FreshFront.{first_defect_or_none}
use Rattle.cartridge_laws.proofs.MountOnce.{mounts_always}
use Rattle.cartridge_laws.proofs.MountWhole.{settled_is_cartridge}
use Rattle.cartridge_laws.specs.FreshLaws.{HasDefectInFront}
use Rattle.cartridge_spec.specs.Formatting.{HasNoDefectInFront, IsLabel}
use Rattle.cartridge_spec.specs.Header.{Header}
use Rattle.cartridge_spec.specs.Mounting.{Mounts, Mounting, settled}
use Rattle.cartridge_spec.specs.Table.{Entry}
use Rattle.command_laws.proofs.MadeOutcomes.{makes_something}
use Rattle.command_laws.proofs.MountedListed.{mounted_listed}
use Rattle.command_laws.proofs.PulseMachineLaws.{each_outcome, sends_of}
use Rattle.command_laws.proofs.RestoreEndings.{restores_always}
use Rattle.command_laws.proofs.ScriptOutcomes.{each_outcome as each_script}
use Rattle.command_laws.proofs.ScriptPlaces.{place_or_not}
use Rattle.command_laws.proofs.ScrubOneWrong.{form_always}
use Rattle.command_spec.specs.Single.{DefectOutcome, FormatOutcome, LoseOutcome}
use Rattle.command_spec.specs.Make.{Making}
use Rattle.command_spec.specs.Outcome.{CommandOutcome, HasPlace, Going, Opened, OpenOutcome, WritableOutcome, Shows}
use Rattle.command_laws.specs.Outcomes.{Printing, Mends, Appends}
use Rattle.command_laws.specs.PulseRuns.{sent}
use Rattle.command_spec.specs.Pulses.{SentOutcome}
use Rattle.command_spec.specs.Restore.{Gives, volume_at, pieces}
use Rattle.command_spec.specs.Script.{Scripting}
use Rattle.command_spec.specs.declared.depth.Depth.TheVariants.{Shallow}
use Rattle.qic_base.specs.Cartridge.{Cartridge, view_at, info_of}
use Rattle.qic_base.specs.CartridgeTerms.{IsCartridge}
use Rattle.qic_base.specs.Tape.{spoil_answer}
use Rattle.cartridge_spec.specs.Mounting as mounting

pub lose_answers : (segment sector : ℕ) (held : Option Cartridge) → (outcome : CommandOutcome) × LoseOutcome segment sector held outcome
lose_answers segment sector None = (_, refl)
lose_answers segment sector (Some c) = by_place (place_or_not c.info.segments_per_track segment sector)
  where
    by_place : HasPlace c segment sector ⊎ ¬ (HasPlace c segment sector) → (outcome : CommandOutcome)
        × LoseOutcome segment sector (Some c) outcome
    by_place (inl place) = (_, inr (place, refl))
    by_place (inr none) = (_, inl (none, refl))

pub defect_answers : (segment sector : ℕ) (held : Option Cartridge) → (outcome : CommandOutcome) × DefectOutcome segment sector held outcome
defect_answers segment sector None = (_, refl)
defect_answers segment sector (Some c) = by_place (place_or_not c.info.segments_per_track segment sector)
  where
    by_view : HasPlace c segment sector → (b : Bool) → spoil_answer (view_at c segment sector) ≡ b → (outcome : CommandOutcome)
        × DefectOutcome segment sector (Some c) outcome
    by_view place true is = (_, inr (inr (place, is, refl)))
    by_view place false is = (_, inr (inl (place, is, refl)))

    by_place : HasPlace c segment sector ⊎ ¬ (HasPlace c segment sector) → (outcome : CommandOutcome)
        × DefectOutcome segment sector (Some c) outcome
    by_place (inl place) = by_view place (spoil_answer (view_at c segment sector)) refl
    by_place (inr none) = (_, inl (none, refl))

-- each cartridge that is mounted has one
abbrev pub Answers : Going → Type 0
Answers goes =
    (c : Cartridge) (header : Header) (ws : List ℕ) (table : List (List ℕ)) (entries : List Entry) → IsCartridge c →
    Mounts c (mounting.Mounted header ws table entries) →
    (outcome : CommandOutcome) × goes c header ws table entries outcome

opened_answers : (goes : Going) → Answers goes → (c : Cartridge) (m : Mounting) → IsCartridge c → Mounts c m → (outcome : CommandOutcome)
    × Opened goes c m outcome
opened_answers goes each c mounting.NotFormatted whole mounts = (_, refl)
opened_answers goes each c (mounting.Foreign fault) whole mounts = (_, refl)
opened_answers goes each c (mounting.TableLost lost) whole mounts = (_, refl)
opened_answers goes each c mounting.TableMismatch whole mounts = (_, refl)
opened_answers goes each c (mounting.Mounted header ws table entries) whole mounts = each c header ws table entries whole mounts

pub open_answers : (goes : Going) → Answers goes → (held : Option Cartridge) → IfSome held IsCartridge → (outcome : CommandOutcome)
    × OpenOutcome goes held outcome
open_answers goes each None whole = (_, refl)
open_answers goes each (Some c) whole =
    let some = mounts_always c whole in
    let outcome = opened_answers goes each c some.0 whole some.1 in
    (outcome.0, (some.0, some.1, outcome.1))

pub writable_answers : (goes : Going) → Answers goes → (held : Option Cartridge) → IfSome held IsCartridge → (outcome : CommandOutcome)
    × WritableOutcome goes held outcome
writable_answers goes each None whole = (_, refl)
writable_answers goes each (Some c) whole = by_mark c.info.protected refl
  where
    by_mark : (mark : Bool) → c.info.protected ≡ mark → (outcome : CommandOutcome) × WritableOutcome goes (Some c) outcome
    by_mark true is = (_, inl (is, refl))
    by_mark false is = let some = open_answers goes each (Some c) whole in (some.0, inr (is, some.1))

pub shows_answers : (prints : Printing) → Answers (Shows prints)
shows_answers prints c header ws table entries whole reads = (_, refl)

pub appends_answers : (name : List ℕ) (date : ℕ) (input : List ℕ) → Answers (Appends name date input)
appends_answers name date input c header ws table entries whole reads = (_, refl)

pub gives_answers : (number : ℕ) → Answers (Gives number)
gives_answers number c header ws table entries whole mounts = by_volume (volume_at entries number) refl
  where
    by_volume : (found : Option Entry) → volume_at entries number ≡ found → (outcome : CommandOutcome)
        × Gives number c header ws table entries outcome
    by_volume None is = (_, inl (is, refl))
    by_volume (Some e) is =
        let some = restores_always (settled table c) ws (pieces ws e) (settled_is_cartridge c table whole mounts.reads) in
        (_, inr (record { entry = e; numbered = is; acts = some.0; ending = some.1; restores = some.2; is = refl }))

pub mends_answers : Answers Mends
mends_answers c header ws table entries whole mounts =
    let some = form_always Shallow (settled table c) ws entries (settled_is_cartridge c table whole mounts.reads) in
    (_, record { acts = some.0; scrubs = some.1; is = refl })

pub scripting_answers : (input : List ℕ) → Answers (Scripting input)
scripting_answers input c header ws table entries whole mounts =
    let some = each_script (settled table c) ws entries input (mounted_listed c header ws table entries whole mounts) in
    (_, record { came = some.0; does = some.1; is = refl })

pub making_answers : (seed count : ℕ) → count ≤ 200 → Answers (Making seed count)
making_answers seed count few c header ws table entries whole mounts =
    let some = makes_something seed count (settled table c) ws entries (mounted_listed c header ws table entries whole mounts) few in
    (_, record { acts = some.0; answer = some.1; makes = some.2; is = refl })

pub format_answers : (label : List ℕ) (date : ℕ) (held : Option Cartridge) → IsLabel label → date < 2 ^ 32 → IfSome held IsCartridge →
    (outcome : CommandOutcome) × FormatOutcome label date held outcome
format_answers label date None is few whole = (_, refl)
format_answers label date (Some c) is few whole = by_mark c.info.protected refl
  where
    by_front : c.info.protected ≡ false → HasDefectInFront c ⊎ HasNoDefectInFront c → (outcome : CommandOutcome)
        × FormatOutcome label date (Some c) outcome
    by_front unlocked (inl found) = (_, inr (inl (unlocked, (found.segment, found.is_first, refl))))
    by_front unlocked (inr none) =
        let some = fresh_area_exists c label date whole is few in
        (_, inr (inr (unlocked, none, (some.words, (some.area, some.is_fresh, refl)))))

    by_mark : (mark : Bool) → c.info.protected ≡ mark → (outcome : CommandOutcome) × FormatOutcome label date (Some c) outcome
    by_mark true is = (_, inl (is, refl))
    by_mark false is = by_front is (first_defect_or_none c)

pub sent_answers : (held : Option Cartridge) (input : List ℕ) → (outcome : CommandOutcome) × SentOutcome held input outcome
sent_answers held input = let came = each_outcome (info_of held) input in (sent came.0, sends_of held input came.0 came.1)
