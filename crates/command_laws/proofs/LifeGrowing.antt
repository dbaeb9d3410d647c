-- Which runs are runs of a life, how a life begins, and that it keeps its volumes and gives them back.
use Rattle.std.proofs.Common.{IsSomeAnd, ◌<◌, arith, min, slice_get, ◌≡◌, ◌++◌, ◌+◌, ◌∙◌, ℕ, suc, append-nil, append_assoc, ap, sym, subst}
use Rattle.std.proofs.Common.{refl, inl, inr, Bool, true, false, List, [], ◌∷◌, Option, Some, None, IfSome, length, take}
use Rattle.std.proofs.lemmas.List.{get_or_append_left, length-append}
use Rattle.std.proofs.lemmas.Option.{slice_get-get_or, slice_get_within}
use Rattle.std.proofs.Math.Seq.{get_or-append_seam}
use Rattle.cartridge_laws.proofs.AppendBytes.{done_bytes}
use Rattle.cartridge_laws.specs.AppendLaws.{new_volume, with_content, MayAppendTo}
use Rattle.cartridge_spec.specs.Appending.{Content, with_all}
use Rattle.cartridge_spec.specs.Volumes.{volume_bytes, Plain, Stands, Volume, entries_of}
use Rattle.cartridge_spec.specs.Formatting.{fresh_plain, StandsCleanly}
use Rattle.command_laws.proofs.CommandLeft.{leaves_whole}
use Rattle.command_laws.proofs.CommandAppends.{course, done_fits, fits, kept_of}
use Rattle.command_laws.proofs.RestoreGivenBack.{given, given_whole}
use Rattle.command_laws.proofs.CommandTable.{has_values}
use Rattle.command_laws.proofs.CommandVolumes.{formatted_fresh, renewed_effect}
use Rattle.command_laws.proofs.LifeFormats.{torn_by}
use Rattle.command_laws.proofs.LifeLaws.{event_makes}
use Rattle.command_laws.proofs.WholeSteps.{new_whole}
use Rattle.command_laws.specs.AppendTerms.{content_with}
use Rattle.command_laws.specs.Life.{Answered, Becomes, Ended, Event, Happens, IsEmptied, IsSound, Lives, Loses, Runs, Stopped, begun_behind}
use Rattle.command_laws.specs.LifeLaws.{AnsweredRuns, AreKeeping, BackupsAreGivenBack, FormatBegins, GivesBytes, HasGrown, IsKeeping}
use Rattle.command_laws.specs.LifeLaws.{NewAndFormatBegin, StoppedRuns, VolumesAreGivenBack, VolumesAreKept, run_of}
use Rattle.command_spec.specs.Append.{room_in}
use Rattle.command_laws.specs.CommandFields.{Yields}
use Rattle.command_spec.specs.Make.{made_contents}
use Rattle.command_spec.specs.Outcome.{CommandOutcome}
use Rattle.command_spec.specs.ScriptLists.{all_added}
use Rattle.command_spec.specs.Restore.{HasNumber}
use Rattle.command_spec.specs.Volumes.{StandsEmpty}
use Rattle.command_spec.specs.declared.words.Words.{Words}
use Rattle.qic_base.specs.Acts.{steps_of}
use Rattle.qic_base.specs.Cartridge.{Cartridge, new_cartridge}
use Rattle.qic_base.specs.CartridgeTerms.{IsCartridge}
use Rattle.qic_base.specs.Step.{effects}
use Rattle.command_spec.specs.declared.status.Status.TheVariants as status
use Rattle.command_spec.specs.declared.words.Words.TheVariants as words

-- ---- runs of words

pub answered_runs : AnsweredRuns
answered_runs ws input output taken answer held left (inl none) = inl (none.0, none.1)
answered_runs ws input output taken answer held left (inr (command, spelled, (outcome, plain, is_left, is_output, is_taken, is_answer))) =
    inr (
      command,
      spelled,
      record {
        values = has_values ws command spelled;
        outcome = outcome;
        plain = plain;
        leaves = (sym is_answer, sym is_output, is_left);
      },
    )

pub stopped_runs : StoppedRuns
stopped_runs ws told held left (inl same) = inl same
stopped_runs ws told held left (inr (command, spelled, l)) =
    inr (
      l.input,
      l.is_told,
      (
        command,
        spelled,
        record { values = has_values ws command spelled; outcome = l.outcome; plain = l.plain; leaves = l.torn },
      ),
    )

-- ---- the beginning of a life

-- what stands fresh is sound
fresh_begins : (label : List ℕ) (date : ℕ) (c : Cartridge) (left : Option Cartridge) → IfSome left IsCartridge →
    IsSomeAnd left (StandsEmpty StandsCleanly c label date) →
    (after : Option Plain) × IsEmptied c label date after × IsSound false left after
fresh_begins label date c None whole fresh = absurd fresh
fresh_begins label date c (Some d) whole fresh = (
  Some (fresh_plain c label date fresh.words fresh.area),
  record { words = fresh.words; area = fresh.area; fresh = fresh.fresh; is = refl },
  record { whole = whole; stands = fresh.stands.stands; live = fresh.live; clean = λ is. fresh.stands.copies },
)

pub format_begins : FormatBegins
format_begins label date input text begun c left whole life =
    let did = life.1.0 in
    fresh_begins label date c left (subst (λ (o : Option Cartridge). IfSome o IsCartridge) (sym life.2)
    (leaves_whole (words.Format label date) (Some c) life.0 input did.outcome did.values life.1.1.bytes whole did.plain
    (torn_by (Answered status.Done text) did.outcome (Some c) life.0 did.leaves)))
    (subst (λ (o : Option Cartridge). IsSomeAnd o (StandsEmpty StandsCleanly c label date)) (sym did.leaves.2 ∙ sym life.2)
    (formatted_fresh label date c did.outcome whole did.plain did.leaves.0))

pub new_and_format_begin : NewAndFormatBegin
new_and_format_begin segments label date answer input other printed text begun held left life =
    let first = life.1.0 in
    let is_new : life.0 ≡ Some (new_cartridge segments) =
    first.leaves.2 ∙ ap (λ (o : CommandOutcome). effects (steps_of o.acts) held) first.plain ∙ renewed_effect segments held in
    format_begins label date other text false (new_cartridge segments) left (new_whole segments first.values)
    (subst (λ (o : Option Cartridge). Lives (Runs (run_of (words.Format label date) other (Answered status.Done text)) ∷ []) false o left)
    is_new life.2)

-- ---- volumes in a life

pub grown_none : (plain : Plain) → HasGrown plain plain
grown_none plain = record { header_area = refl; words = refl; more = []; volumes = sym (append-nil plain.volumes) }

grown_one : (plain : Plain) (content : Content) → HasGrown plain (with_content plain content)
grown_one plain content = record {
  header_area = refl;
  words = refl;
  more = new_volume plain content ∷ [];
  volumes = refl;
}

pub grown_both : (a b c : Plain) → HasGrown a b → HasGrown b c → HasGrown a c
grown_both a b c one other = record {
  header_area = other.header_area ∙ one.header_area;
  words = other.words ∙ one.words;
  more = one.more ++ other.more;
  volumes = other.volumes ∙ ap (λ (vs : List Volume). vs ++ other.more) one.volumes ∙ append_assoc a.volumes one.more other.more;
}

all_grow : (plain : Plain) (contents : List Content) → HasGrown plain (with_all plain contents)
all_grow plain [] = grown_none plain
all_grow plain (content ∷ more) =
    let next : Plain = with_content plain content in
    grown_both plain next (with_all next more) (grown_one plain content) (all_grow next more)

pub record GrownTo (plain : Plain) (after : Option Plain) : Type 0 where
  pub later : Plain
  pub is : after ≡ Some later
  pub grown : HasGrown plain later

pub same_list : (plain : Plain) (after : Option Plain) → after ≡ Some plain → GrownTo plain after
same_list plain after is = record { later = plain; is = is; grown = grown_none plain }

append_grows : (name : List ℕ) (date : ℕ) (c : Cartridge) (input : List ℕ) (ended : Ended) (plain : Plain) (after : Option Plain) →
    Becomes (words.Append name date) (Some c) input ended (Some plain) after → GrownTo plain after
append_grows name date c input (Answered answer printed) plain after (inl (done, is)) =
    record { later = _; is = is; grown = grown_one plain (content_with name date input) }
append_grows name date c input (Answered answer printed) plain after (inr (other, is)) = same_list plain after is
append_grows name date c input (Stopped printed) plain after (inl is) = same_list plain after is
append_grows name date c input (Stopped printed) plain after (inr is) =
    record { later = _; is = is; grown = grown_one plain (content_with name date input) }

pub command_grows : (command : Words) (c : Cartridge) (input : List ℕ) (ended : Ended) (plain : Plain) (after : Option Plain) →
    IsKeeping command →
    Becomes command (Some c) input ended (Some plain) after → GrownTo plain after
command_grows (words.New segments) c input ended plain after keeping is = absurd keeping
command_grows (words.Format label date) c input ended plain after keeping is = absurd keeping
command_grows (words.Append name date) c input ended plain after keeping is = append_grows name date c input ended plain after is
command_grows (words.Make seed count) c input ended plain after keeping some =
    record { later = _; is = some.is; grown = all_grow plain (made_contents seed 1 some.made) }
command_grows words.Script c input ended plain after keeping (inl some) =
    record {
      later = _;
      is = some.is;
      grown =
          all_grow plain (all_added (entries_of plain) (take some.count some.does.items) (take some.count some.does.dids));
    }
command_grows words.Script c input ended plain after keeping (inr turned) = same_list plain after turned.2
command_grows command c input ended plain after keeping is = same_list plain after is

-- what stands behind an event
record Next (event : Event) (begun : Bool) (plain : Plain) (left : Option Cartridge) : Type 0 where
  later : Plain
  grown : HasGrown plain later
  sound : IsSound (begun_behind event begun) left (Some later)

event_grows : (event : Event) (events : List Event) (begun : Bool) (held left : Option Cartridge) (plain : Plain) →
    AreKeeping (event ∷ events) → IsSound begun held (Some plain) →
    Happens event begun held left → Next event begun plain left
event_grows event events begun None left plain keeping sound happens = absurd sound
event_grows (Runs run) events begun (Some c) left plain keeping sound happens =
    let made = event_makes (Runs run) begun (Some c) left (Some plain) sound happens in
    let to : GrownTo plain made.0 = command_grows run.command c run.input run.ended plain made.0 keeping.0 made.1 in
    record {
      later = to.later;
      grown = to.grown;
      sound = subst (λ (o : Option Plain). IsSound (begun_behind (Runs run) begun) left o) to.is made.2;
    }
event_grows (Loses segment sector) events begun (Some c) left plain keeping sound happens =
    let made = event_makes (Loses segment sector) begun (Some c) left (Some plain) sound happens in
    record { later = plain; grown = grown_none plain; sound = subst (λ (o : Option Plain). IsSound begun left o) made.1 made.2 }

rest_keeping : (event : Event) (events : List Event) → AreKeeping (event ∷ events) → AreKeeping events
rest_keeping (Runs run) events keeping = keeping.1
rest_keeping (Loses segment sector) events keeping = keeping

pub volumes_are_kept : VolumesAreKept
volumes_are_kept [] begun held left plain keeping sound life =
    (plain, grown_none plain, subst (λ (o : Option Cartridge). IsSound begun o (Some plain)) (sym life) sound)
volumes_are_kept (event ∷ events) begun held left plain keeping sound life =
    let next = event_grows event events begun held life.0 plain keeping sound life.1 in
    let rest = volumes_are_kept events (begun_behind event begun) life.0 left next.later
    (rest_keeping event events keeping) next.sound life.2 in
    (rest.0, grown_both plain next.later rest.0 next.grown rest.1, rest.2)

-- ---- volumes, given back

-- the volume behind some is the one of their number
behind_get : (front rest : List Volume) (volume : Volume) → slice_get (front ++ volume ∷ rest) (length front) ≡ Some volume
behind_get front rest volume =
    let long : length (front ++ volume ∷ rest) ≡ length front + length (volume ∷ rest) = length-append front (volume ∷ rest) in
    slice_get-get_or (front ++ volume ∷ rest) (length front) volume (omega arith) ∙ ap Some (get_or-append_seam front volume rest volume)

-- a volume has the same number, also with more of them behind
pub front_get : (front rest : List Volume) (place : ℕ) (volume : Volume) → slice_get front place ≡ Some volume →
    slice_get (front ++ rest) place ≡ Some volume
front_get front rest place volume at =
    let within : place < length front = slice_get_within front place volume at in
    let long : length (front ++ rest) ≡ length front + length rest = length-append front rest in
    slice_get-get_or (front ++ rest) place volume (omega arith)
    ∙ ap Some (get_or_append_left front rest volume place within)
    ∙ sym (slice_get-get_or front place volume within)
    ∙ at

pub gives_bytes : (c : Cartridge) (plain later : Plain) (place : ℕ) (volume : Volume) → Stands c later → HasGrown plain later →
    slice_get plain.volumes place ≡ Some volume →
    GivesBytes c later (suc place) volume (volume_bytes plain.words volume)
gives_bytes c plain later place volume stood grown at input outcome reads few yields =
    let there : slice_get later.volumes place ≡ Some volume =
    ap (λ (vs : List Volume). slice_get vs place) grown.volumes ∙ front_get plain.volumes grown.more place volume at in
    let has : HasNumber c later (suc place) volume = record { stands = stood; reads = reads; is = there } in
    let whole = given_whole (suc place) c later volume outcome has (given (suc place) c later volume outcome has yields) few in
    (whole.0, whole.1 ∙ ap (λ (ws : List ℕ). volume_bytes ws volume) grown.words)

pub volumes_are_given_back : VolumesAreGivenBack
volumes_are_given_back events begun held c plain place volume keeping sound at life =
    let kept = volumes_are_kept events begun held (Some c) plain keeping sound life in
    (kept.0, kept.1, kept.2, gives_bytes c plain kept.0 place volume kept.2.stands kept.1 at)

-- ---- a backup, given back

-- an append that was carried out had room
had_room : (content : Content) (b : Cartridge) (plain : Plain) (outcome : CommandOutcome) → Stands b plain →
    Yields (words.Append content.name content.date) (Some b) content.bytes outcome → outcome.status ≡ status.Done →
    fits plain content.bytes ≡ true
had_room content b plain outcome stood yields done =
    elim (course content b plain outcome stood yields) [
      | inl none ↦ absurd (none.not_done (sym (ap (λ (o : CommandOutcome). o.status) none.is) ∙ done))
      | inr run ↦
          done_fits (fits plain content.bytes) (min (length content.bytes) (room_in (kept_of b plain) + 1)) (room_in (kept_of b plain))
          (sym (ap (λ (o : CommandOutcome). o.status) run.is) ∙ done)
    ]

-- the bytes of its volume are those that were appended
its_bytes : (content : Content) (b : Cartridge) (plain : Plain) → MayAppendTo b plain content →
    volume_bytes plain.words (new_volume plain content) ≡ content.bytes
its_bytes content b plain may = (done_bytes b plain content may).1

done_sound : (content : Content) (printed : List ℕ) (begun : Bool) (b : Cartridge) (plain : Plain) (next : Option Cartridge) →
    IsSound begun (Some b) (Some plain) →
    Happens (Runs (run_of (words.Append content.name content.date) content.bytes (Answered status.Done printed))) begun (Some b) next →
    IsSound begun next (Some (with_content plain content))
done_sound content printed begun b plain next sound happens =
    let made = event_makes (Runs (run_of (words.Append content.name content.date) content.bytes (Answered status.Done printed))) begun
    (Some b) next (Some plain) sound happens in
    elim made.1 [
      | inl done ↦ subst (λ (o : Option Plain). IsSound begun next o) done.1 made.2
      | inr other ↦ absurd (other.0 refl)
    ]

pub backups_are_given_back : BackupsAreGivenBack
backups_are_given_back content printed events begun None c plain keeping sound life = absurd sound
backups_are_given_back content printed events begun (Some b) c plain keeping sound life =
    let did = life.1.0 in
    let within = life.1.1 in
    let may : MayAppendTo b plain content = record {
      cartridge = sound.whole;
      stands = sound.stands;
      room = had_room content b plain did.outcome sound.stands did.plain did.leaves.0;
      appendable = record { label = did.values.0; word = did.values.1; bytes = within.bytes };
    } in
    let volume : Volume = new_volume plain content in
    let kept =
    volumes_are_given_back events begun life.0 c (with_content plain content) (length plain.volumes) volume keeping
    (done_sound content printed begun b plain life.0 sound life.1) (behind_get plain.volumes [] volume) life.2 in (
      kept.0,
      kept.1,
      kept.2,
      λ input outcome reads few yields.
          let gives = kept.3 input outcome reads few yields in
          (gives.0, gives.1 ∙ its_bytes content b plain may),
    )
