-- What a stop in trains leaves.
use Rattle.std.proofs.Common.{◌≡◌, List, [], ◌∷◌, Bool, true, false, if◌then◌else◌, refl, is_none, Option, Some, None, ℕ, ◌++◌, ◌⊎◌, inl}
use Rattle.std.proofs.Common.{inr, subst, ◌∙◌}
use Rattle.command_laws.specs.PulseLaws.{StopsLeave}
use Rattle.command_spec.specs.Pulses.{train_acts}
use Rattle.drive_spec.specs.Terms.{refusal_of}
use Rattle.drive_spec.specs.Effects.{ticked}
use Rattle.drive_spec.specs.Record.{Record}
use Rattle.drive_spec.specs.Steps.{reference_steps, command_steps, is_idle, train_changes}
use Rattle.drive_spec.specs.declared.deck.Deck.{Deck}
use Rattle.qic117_commands.specs.Commands.{command_at}
use Rattle.qic117_commands.specs.declared.command.Command.{Command}
use Rattle.qic117_commands.specs.declared.command.Command.TheVariants.{WriteReference}
use Rattle.qic_base.specs.Cartridge.{Cartridge}
use Rattle.qic_base.specs.Step.{Step, SetReferenced, effect, Torn}
use Rattle.drive_spec.specs.Row.{pulsed_row}
use Rattle.qic_base.specs.Acts as acts

-- all of the steps write the reference bursts
abbrev AreReferences : List Step → Type 0
AreReferences [] = Unit {0}
AreReferences (s ∷ ss) = (s ≡ SetReferenced) × AreReferences ss

chosen : (b : Bool) (steps : List Step) → AreReferences steps → AreReferences (if b then steps else [])
chosen true steps are = are
chosen false steps are = tt

of_command : (c : Command) → AreReferences (reference_steps c)
of_command WriteReference = (refl, tt)
of_command c = tt

of_number : (d : Deck) (o : Option Command) → AreReferences (command_steps d o)
of_number d None = tt
of_number d (Some c) = chosen (is_none (refusal_of d c)) (reference_steps c) (of_command c)

of_train : (r : Record) (train : ℕ) → AreReferences (train_changes r train)
unfolding train_changes
of_train r train = chosen (is_idle r.under_way) (command_steps (ticked r.deck) (command_at train))
    (of_number (ticked r.deck) (command_at train))

of_both : (xs ys : List Step) → AreReferences xs → AreReferences ys → AreReferences (xs ++ ys)
of_both [] ys first next = next
of_both (x ∷ xs) ys first next = (first.0, of_both xs ys first.1 next)

of_trains : (r : Record) (trains : List ℕ) → AreReferences (acts.steps_of (train_acts r trains))
of_trains r [] = tt
of_trains r (train ∷ trains) = of_both (train_changes r train) (acts.steps_of (train_acts (pulsed_row r train) trains)) (of_train r train)
    (of_trains (pulsed_row r train) trains)

-- they are written once for all
once : (held : Option Cartridge) → effect SetReferenced (effect SetReferenced held) ≡ effect SetReferenced held
once None = refl
once (Some c) = refl

-- a stop before one more of them, or in those behind it
before_or_behind : (step : Step) (steps : List Step) (held left : Option Cartridge) → step ≡ SetReferenced → Torn (step ∷ steps) held left →
    (left ≡ held) ⊎ Torn steps (effect SetReferenced held) left
before_or_behind step steps held left is there = let P : Step → Type 0 = λ s. Torn (s ∷ steps) held left in by_cases (subst P is there)
  where
    by_cases : Torn (SetReferenced ∷ steps) held left → (left ≡ held) ⊎ Torn steps (effect SetReferenced held) left
    by_cases (inl before) = inl before
    by_cases (inr (inl inside)) = absurd inside
    by_cases (inr (inr behind)) = inr behind

torn : (steps : List Step) (held left : Option Cartridge) → AreReferences steps → Torn steps held left → (left ≡ held)
    ⊎ (left ≡ effect SetReferenced held)
torn [] held left are same = inl same
torn (s ∷ ss) held left are there = elim (before_or_behind s ss held left are.0 there) [
  | inl before ↦ inl before
  | inr behind ↦ elim (torn ss (effect SetReferenced held) left are.1 behind) [
    | inl here ↦ inr here
    | inr again ↦ inr (again ∙ once held)
  ]
]

pub stops_leave : StopsLeave
stops_leave r trains held left is = torn (acts.steps_of (train_acts r trains)) held left (of_trains r trains) is
