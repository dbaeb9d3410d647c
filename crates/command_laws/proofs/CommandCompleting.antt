-- A command that has all that it needs is carried out where no count of faults rose.
use Rattle.std.proofs.Common.{◌≡◌, inl, inr, ℕ, List, Option, IfSome, ◌∙◌, subst, ◌⊎◌}
use Rattle.command_laws.proofs.CommandEnds.{over_map, told_whole}
use Rattle.command_laws.proofs.CommandTable.{done_where_all_is_there}
use Rattle.command_laws.proofs.TextWords.{one_command}
use Rattle.command_laws.specs.RunTerms.{Answers}
use Rattle.command_spec.specs.Machine.{HasValues, Spells, Step, OverTold}
use Rattle.command_laws.specs.CommandFields.{Yields, CanBeDone}
use Rattle.command_spec.specs.declared.status.Status.{Status}
use Rattle.command_spec.specs.declared.words.Words.{Words}
use Rattle.qic_base.specs.Acts.{Outside}
use Rattle.qic_base.specs.Cartridge.{Cartridge}
use Rattle.qic_base.specs.CartridgeTerms.{IsCartridge}
use Rattle.command_spec.specs.declared.status.Status.TheVariants as status
use Rattle.qic_base.specs.Sink as sinks
use Rattle.qic_base.specs.Source as sources
use Rattle.qic_base.specs.Tape as tapes
use Rattle.qic_base.specs.TapeCalls as tape_calls

step_done : (words : List (List ℕ)) (command : Words) (held held' : Option Cartridge) (input output : List ℕ) (taken : ℕ)
    (answer : Status) → IfSome held IsCartridge → Spells words command → HasValues command →
    CanBeDone command held input → Step words held input held' output taken answer → answer ≡ status.Done
step_done words command held held' input output taken answer whole spells values can (inl none) = absurd (none.0 command spells)
step_done words command held held' input output taken answer whole spells values can
    (inr (other, spelled, (outcome, plain, after, shown, took, answered))) =
    answered ∙ done_where_all_is_there command held input outcome whole values can
    (subst (λ (w : Words). Yields w held input outcome) (one_command words other command spelled spells) plain)

pub completes : {T S K : Type 0} (t : tapes.Meaning T) (s : sources.Meaning S) (k : sinks.Meaning K) (words : List (List ℕ))
    (old new : Outside T S K) (answer : Status) → tape_calls.IsToldRight (t.told old.tape) (t.size old.tape) →
    ((command : Words) → Spells words command → HasValues command) → Answers t s k words old new answer → (command : Words) →
    Spells words command →
    OverTold t s old (λ held input. CanBeDone command held input → (answer ≡ status.NoMemory) ⊎ (answer ≡ status.Done))
completes t s k words old new answer right values answers command spells =
    over_map (t.told old.tape) (s.left old.source) _ _ answers (λ held input told either can. elim either [
      | inl memory ↦ inl memory
      | inr stepped ↦ inr (step_done words command held stepped.held' input stepped.output stepped.taken answer
          (told_whole held (t.told old.tape) (t.size old.tape) right told) spells (values command spells) can stepped.step)
    ])
