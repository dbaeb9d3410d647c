-- A volume is given back byte for byte by words of restoring.
use Rattle.std.proofs.Common.{◌≡◌, ◌≢◌, ℕ, List, Some, subst, ap, ◌∙◌, sym, inl, inr, ◌++◌, ◌⊎◌, Option, IfSome, append_assoc, false, All}
use Rattle.cartridge_spec.specs.Volumes.{volume_bytes, Plain, Volume}
use Rattle.command_laws.proofs.RestoreGivenBack.{IsFront, WasLost, WasWhole, given, given_whole, given_lost, given_front}
use Rattle.command_laws.proofs.TextWords.{one_command}
use Rattle.command_laws.specs.RunTerms.{Answers}
use Rattle.command_spec.specs.Headline.{Stepped, IsCut}
use Rattle.command_spec.specs.Machine.{Spells, Step, IsCutOff, is_fault, fault_of}
use Rattle.command_laws.specs.Outcomes.{RestoreOutcome}
use Rattle.command_laws.specs.CommandFields.{Yields}
use Rattle.command_spec.specs.Outcome.{CommandOutcome, output_of}
use Rattle.command_spec.specs.Restore.{FirstLost, HasNumber, LosesFew, pieces_in}
use Rattle.command_spec.specs.Volumes.{GivesBack}
use Rattle.command_spec.specs.declared.status.Status.{Status}
use Rattle.command_spec.specs.declared.words.Words.{Words}
use Rattle.qic_base.proofs.Outcomes.{cut_took_front}
use Rattle.qic_base.specs.Acts.{Outside, Failing, TookFront}
use Rattle.qic_base.specs.Cartridge.{Cartridge}
use Rattle.qic_base.specs.Source.{IsInput}
use Rattle.command_spec.specs.declared.status.Status.TheVariants as status
use Rattle.qic_base.specs.Sink as sinks
use Rattle.qic_base.specs.Source as sources
use Rattle.qic_base.specs.Tape as tapes
use Rattle.command_spec.specs.declared.words.Words.TheVariants as commands

-- ---- what is given

-- what an outcome of a restore prints of a volume, and answers
pub record IsGivenSo (c : Cartridge) (plain : Plain) (volume : Volume) (outcome : CommandOutcome) : Type 0 where
  pub whole : All (LosesFew c plain.words) (pieces_in plain volume) → WasWhole plain volume outcome
  pub lost : (first : FirstLost c plain.words (pieces_in plain volume)) → WasLost c plain volume first outcome
  pub front : IsFront (output_of outcome) (volume_bytes plain.words volume)

abbrev pub GivesSo : (number : ℕ) → Cartridge → Plain → Volume → Type 0
GivesSo number c plain volume = (outcome : CommandOutcome) → RestoreOutcome number (Some c) outcome → IsGivenSo c plain volume outcome

pub stands_gives : (number : ℕ) (c : Cartridge) (plain : Plain) (volume : Volume) → HasNumber c plain number volume →
    GivesSo number c plain volume
stands_gives number c plain volume has outcome plainly =
    let g = given number c plain volume outcome has plainly in record {
      whole = λ few. given_whole number c plain volume outcome has g few;
      lost = λ first. given_lost number c plain volume first outcome has g;
      front = given_front number c plain volume outcome has g;
    }

-- ---- the run

module _ {T S K : Type 0} (t : tapes.Meaning T) (s : sources.Meaning S) (k : sinks.Meaning K) (words : List (List ℕ))
    (old new : Outside T S K) (answer : Status) (number : ℕ) (c : Cartridge) where
  -- the outcome over the cartridge that was told
  record WasStepped : Type 0 where
    outcome : CommandOutcome
    plain : RestoreOutcome number (Some c) outcome
    answered : answer ≡ outcome.status
    took : k.took old.sink (output_of outcome) new.sink

  was_stepped : answer ≢ status.NoMemory → Spells words (commands.Restore number) → t.told old.tape ≡ Some (Some c) →
      Answers t s k words old new answer → WasStepped
  was_stepped came spells told answers =
      let over = subst (λ (o : Option (Option Cartridge)). IfSome o (λ held. (input : List ℕ) × IsInput (s.left old.source) input
      × ((answer ≡ status.NoMemory) ⊎ Stepped t s k words held input old new answer))) told answers in
      elim over.2 [
        | inl none ↦ absurd (came none)
        | inr stepped ↦ by_step over.0 stepped stepped.step
      ]
    where
      by_step : (input : List ℕ) → (stepped : Stepped t s k words (Some c) input old new answer) →
          Step words (Some c) input stepped.held' stepped.output stepped.taken answer → WasStepped
      by_step input stepped (inl none) = absurd (none.0 (commands.Restore number) spells)
      by_step input stepped (inr (command, spelled, (outcome, yields, left, output, taken, answered))) =
          let same : command ≡ commands.Restore number = one_command words command (commands.Restore number) spelled spells in
          record {
            outcome = outcome;
            plain = subst (λ (w : Words). Yields w (Some c) input outcome) same yields;
            answered = answered;
            took = subst (λ (text : List ℕ). k.took old.sink text new.sink) output stepped.took;
          }

  was_cut : (failing : Failing) (plain : Plain) (volume : Volume) → GivesSo number c plain volume →
      Spells words (commands.Restore number) → t.told old.tape ≡ Some (Some c) → IsCut t s k words old new failing →
      TookFront k old.sink new.sink (volume_bytes plain.words volume)
  was_cut failing plain volume gives spells told (command, spelled, over) =
      let same : command ≡ commands.Restore number = one_command words command (commands.Restore number) spelled spells in
      let here = subst (λ (o : Option (Option Cartridge)). IfSome o (λ held. (input : List ℕ) × IsInput (s.left old.source) input
      × ((outcome : CommandOutcome) × Yields command held input outcome
      × IsCutOff t s k command held input old new failing outcome))) told over in
      let cut = here.2 in
      let plainly : RestoreOutcome number (Some c) cut.0 = subst (λ (w : Words). Yields w (Some c) here.0 cut.0) same cut.1 in
      let off : IsCutOff t s k command (Some c) here.0 old new failing cut.0 = cut.2 in
      let front = (gives cut.0 plainly).front in
      let took = cut_took_front t s k old new cut.0.acts failing off.cut in
      record {
        front = took.front;
        rest = took.rest ++ front.rest;
        parts = sym (append_assoc took.front took.rest front.rest) ∙ ap (λ (xs : List ℕ). xs ++ front.rest) took.parts ∙ front.parts;
        took = took.took;
      }

-- over one of which each outcome gives it so
pub gives_back_so : {T S K : Type 0} (t : tapes.Meaning T) (s : sources.Meaning S) (k : sinks.Meaning K) (words : List (List ℕ))
    (old new : Outside T S K) (answer : Status) →
    (is_fault answer ≡ false → Answers t s k words old new answer) →
    ((failing : Failing) → answer ≡ fault_of failing → IsCut t s k words old new failing) →
    (number : ℕ) (c : Cartridge) (plain : Plain) (volume : Volume) → Spells words (commands.Restore number) →
    t.told old.tape ≡ Some (Some c) →
    GivesSo number c plain volume → GivesBack k c plain volume old.sink new.sink answer
gives_back_so t s k words old new answer carried cut number c plain volume spells told gives = record {
  whole = λ sound memory few.
      let was = was_stepped t s k words old new answer number c memory spells told (carried sound) in
      let is = (gives was.outcome was.plain).whole few in
      (was.answered ∙ is.0, subst (λ (text : List ℕ). k.took old.sink text new.sink) is.1 was.took);
  lost = λ first sound memory.
      let was = was_stepped t s k words old new answer number c memory spells told (carried sound) in
      let is = (gives was.outcome was.plain).lost first in
      (was.answered ∙ is.0, subst (λ (text : List ℕ). k.took old.sink text new.sink) is.1 was.took);
  broken = λ failing is. was_cut t s k words old new answer number c failing plain volume gives spells told (cut failing is);
}

pub gives_back : {T S K : Type 0} (t : tapes.Meaning T) (s : sources.Meaning S) (k : sinks.Meaning K) (words : List (List ℕ))
    (old new : Outside T S K) (answer : Status) →
    (is_fault answer ≡ false → Answers t s k words old new answer) →
    ((failing : Failing) → answer ≡ fault_of failing → IsCut t s k words old new failing) →
    (number : ℕ) (c : Cartridge) (plain : Plain) (volume : Volume) → Spells words (commands.Restore number) →
    t.told old.tape ≡ Some (Some c) →
    HasNumber c plain number volume → GivesBack k c plain volume old.sink new.sink answer
gives_back t s k words old new answer carried cut number c plain volume spells told has =
    gives_back_so t s k words old new answer carried cut number c plain volume spells told (stands_gives number c plain volume has)
