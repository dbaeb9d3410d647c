-- The plain machine is a function, and it answers.
use Rattle.std.proofs.Common.{◌≡◌, ℕ, List, Option, sym, ap, ◌∙◌, subst, inl, inr, [], refl, IfSome, ◌⊎◌}
use Rattle.command_laws.proofs.CommandTable.{plain_is_function, plain_answers, has_values}
use Rattle.command_laws.specs.CommandLaws.{IsSameOutcome, MachineIsFunction, MachineAnswers}
use Rattle.command_laws.specs.TextWords.{OneCommand, IsNoCommand, EachWords}
use Rattle.command_laws.specs.CommandFields.{Yields}
use Rattle.command_spec.specs.Machine.{Step, SpellsNone, Spells}
use Rattle.command_spec.specs.Outcome.{CommandOutcome, output_of}
use Rattle.command_spec.specs.declared.status.Status.{Status}
use Rattle.command_spec.specs.declared.words.Words.{Words}
use Rattle.qic_base.specs.Acts.{steps_of}
use Rattle.qic_base.specs.Cartridge.{Cartridge}
use Rattle.qic_base.specs.CartridgeTerms.{IsCartridge}
use Rattle.qic_base.specs.Step.{effects}
use Rattle.command_spec.specs.declared.status.Status.TheVariants as status

-- what a command does, as a step does it
pub record Does (command : Words) (held : Option Cartridge) (input : List ℕ) (held' : Option Cartridge) (output : List ℕ) (taken : ℕ)
    (answer : Status) : Type 0 where
  pub outcome : CommandOutcome
  pub plain : Yields command held input outcome
  pub after : held' ≡ effects (steps_of outcome.acts) held
  pub printed : output ≡ output_of outcome
  pub took : taken ≡ outcome.taken
  pub answered : answer ≡ outcome.status

same_outcome : (command : Words) (held : Option Cartridge) (input : List ℕ) (held' other : Option Cartridge) (output printed : List ℕ)
    (taken read : ℕ) (one two : Status) →
    Does command held input held' output taken one → Does command held input other printed read two →
    IsSameOutcome held' other output printed taken read one two
same_outcome command held input held' other output printed taken read one two a b =
    let same = plain_is_function command held input a.outcome b.outcome a.plain b.plain in
    record {
      same_held = a.after ∙ ap (λ (o : CommandOutcome). effects (steps_of o.acts) held) same ∙ sym b.after;
      same_output = a.printed ∙ ap (λ (o : CommandOutcome). output_of o) same ∙ sym b.printed;
      same_taken = a.took ∙ ap (λ (o : CommandOutcome). o.taken) same ∙ sym b.took;
      same_status = a.answered ∙ ap (λ (o : CommandOutcome). o.status) same ∙ sym b.answered;
    }

pub machine_is_function_where : OneCommand → MachineIsFunction
machine_is_function_where unique words held input held' other output printed taken read one two (inl a) (inl b) = record {
  same_held = a.1 ∙ sym b.1;
  same_output = a.2 ∙ sym b.2;
  same_taken = a.3 ∙ sym b.3;
  same_status = a.4 ∙ sym b.4;
}
machine_is_function_where unique words held input held' other output printed taken read one two (inl a) (inr (command, spelled, step)) =
    absurd (a.0 command spelled)
machine_is_function_where unique words held input held' other output printed taken read one two (inr (command, spelled, step)) (inl b) =
    absurd (b.0 command spelled)
machine_is_function_where unique words held input held' other output printed taken read one two
    (inr (command, spelled, (outcome, plain, after, shown, took, answered)))
    (inr (again, spells, (result, rule, then, text, bytes, ended))) =
    let same = unique words again command spells spelled in
    same_outcome command held input held' other output printed taken read one two
    (record { outcome = outcome; plain = plain; after = after; printed = shown; took = took; answered = answered })
    (record {
      outcome = result;
      plain = subst (λ (w : Words). Yields w held input result) same rule;
      after = then;
      printed = text;
      took = bytes;
      answered = ended;
    })

-- ---- it answers

-- a step over words, what is held and an input
AnyStep : List (List ℕ) → Option Cartridge → List ℕ → Type 0
AnyStep words held input =
    (held' : Option Cartridge) × ((output : List ℕ) × ((taken : ℕ) × ((answer : Status) × Step words held input held' output taken answer)))

no_step : (words : List (List ℕ)) (held : Option Cartridge) (input : List ℕ) → SpellsNone words → AnyStep words held input
unfolding AnyStep
no_step words held input none = (held, ([], (0, (status.Usage, inl (none, refl, refl, refl, refl)))))

command_step : (words : List (List ℕ)) (held : Option Cartridge) (input : List ℕ) (command : Words) → Spells words command →
    IfSome held IsCartridge → AnyStep words held input
unfolding AnyStep
command_step words held input command spelled whole =
    let some = plain_answers command held input (has_values words command spelled) whole in (
      effects (steps_of some.0.acts) held,
      (output_of some.0, (some.0.taken, (some.0.status, inr (command, spelled, (some.0, some.1, refl, refl, refl, refl))))),
    )

pub machine_answers_where : OneCommand → EachWords → MachineAnswers
unfolding AnyStep
machine_answers_where unique each words held input whole = by_words (each words)
  where
    by_words : ((command : Words) × Spells words command) ⊎ IsNoCommand words → AnyStep words held input
    by_words (inl (command, spelled)) = command_step words held input command spelled whole
    by_words (inr none) = no_step words held input none
