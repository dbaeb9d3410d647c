-- Where no count of faults rose, no fault of the outside was answered; and what a script leaves over a source that tells nothing.
use Rattle.std.proofs.Common.{◌≡◌, true, refl, inl, inr, ℕ, List, [], Option, Some, None, IfSome, subst, ◌<◌, All, ◌-◌, ◌^◌, ◌⊎◌, ◌∙◌, ap}
use Rattle.std.proofs.Common.{arith}
use Rattle.std.proofs.lemmas.Bool.{cases_Bool}
use Rattle.command_laws.proofs.Checked.{check_takes_no_step}
use Rattle.command_laws.proofs.CommandEnds.{told_weaker}
use Rattle.command_laws.proofs.CommandScripted.{some_scripted}
use Rattle.command_laws.proofs.CommandSurvives.{stopped_comes_back}
use Rattle.command_laws.proofs.CommandTable.{has_values}
use Rattle.command_laws.proofs.CommandTable.RoomCommand.{room_takes_no_step}
use Rattle.command_laws.specs.PromiseLaws.{AnswersWhereNoneRose, LeavesAll, ScriptsUntold, FaultsWhereCountsRose, count_of}
use Rattle.command_spec.specs.Headline.{EachLeft, WordsLeave, StopLeaves}
use Rattle.command_spec.specs.Several.{LinesLeave}
use Rattle.command_laws.specs.ScriptTerms.{SomeScripted}
use Rattle.command_spec.specs.Machine.{is_fault, fault_of, Spells}
use Rattle.command_spec.specs.declared.status.Status.{Status}
use Rattle.qic_base.specs.Cartridge.{Cartridge}
use Rattle.qic_base.specs.CartridgeTerms.{IsCartridge}
use Rattle.command_spec.specs.Commands.{command_of}
use Rattle.command_spec.specs.Outcome.{CommandOutcome}
use Rattle.qic_base.specs.Acts.{steps_of, Failing, TapeFails, SourceFails, SinkFails, Outside, OthersStood, NoneFailed, FailingRose}
use Rattle.std.proofs.lemmas.List.Elements.{All-nil}
use Rattle.qic_base.specs.Step.{Step as TapeStep, Torn}
use Rattle.command_laws.proofs.TextWords.{one_command}
use Rattle.command_spec.specs.declared.words.Words.{Words}
use Rattle.command_spec.specs.OneLoss.{StoppedComesBack}
use Rattle.command_spec.specs.declared.status.Status.TheVariants as status
use Rattle.command_spec.specs.declared.words.Words.TheVariants as commands
use Rattle.qic_base.specs.Tape.{Rose}
use Rattle.qic_base.specs.Sink as sinks
use Rattle.qic_base.specs.Source as sources
use Rattle.qic_base.specs.Tape as tapes

-- no outcome of it has a step
abbrev TakesNone : Words → Type 0
TakesNone command =
    (held : Option Cartridge) (input : List ℕ) (outcome : CommandOutcome) → (command_of command).yields held input outcome →
    steps_of outcome.acts ≡ []

which_failed : (answer : Status) → is_fault answer ≡ true → (failing : Failing) × (answer ≡ fault_of failing)
which_failed status.TapeFault is = (TapeFails, refl)
which_failed status.SourceFault is = (SourceFails, refl)
which_failed status.SinkFault is = (SinkFails, refl)
which_failed answer is = absurd (cc)

module _ {T S K : Type 0} (t : tapes.Meaning T) (s : sources.Meaning S) (k : sinks.Meaning K) where
  pub answers_where_none_rose : AnswersWhereNoneRose t s k
  answers_where_none_rose words old new answer promises none =
      elim (cases_Bool (is_fault answer)) [
        | inl fault ↦ absurd (let which = which_failed answer fault in none which.0 (promises.cause which.0 which.1))
        | inr sound ↦ promises.carried sound
      ]

  -- one that rose is more, below the greatest count
  more : (before now : ℕ) → Rose before now → before < 2 ^ 64 - 1 → before < now
  more before now rose below = omega (arith, rose)

  -- where another one's fault is answered, its count is as it was
  stood_beside : (old new : Outside T S K) (answered failing : Failing) → OthersStood t s k old new answered →
      (answered ≡ failing) ⊎ (count_of t s k new failing ≡ count_of t s k old failing)
  stood_beside old new TapeFails TapeFails others = inl refl
  stood_beside old new TapeFails SourceFails others = inr others.0
  stood_beside old new TapeFails SinkFails others = inr others.1
  stood_beside old new SourceFails TapeFails others = inr others.0
  stood_beside old new SourceFails SourceFails others = inl refl
  stood_beside old new SourceFails SinkFails others = inr others.1
  stood_beside old new SinkFails TapeFails others = inr others.0
  stood_beside old new SinkFails SourceFails others = inr others.1
  stood_beside old new SinkFails SinkFails others = inl refl

  none_failed : (old new : Outside T S K) (failing : Failing) → NoneFailed t s k old new →
      count_of t s k new failing ≡ count_of t s k old failing
  none_failed old new TapeFails stood = stood.tape
  none_failed old new SourceFails stood = stood.source
  none_failed old new SinkFails stood = stood.sink

  rose_more : (old new : Outside T S K) (failing : Failing) → FailingRose t s k old new failing → count_of t s k old failing < 2 ^ 64 - 1 →
      count_of t s k old failing < count_of t s k new failing
  rose_more old new TapeFails rose below = more (t.faults old.tape) (t.faults new.tape) rose below
  rose_more old new SourceFails rose below = more (s.faults old.source) (s.faults new.source) rose below
  rose_more old new SinkFails rose below = more (k.faults old.sink) (k.faults new.sink) rose below

  pub faults_where_counts_rose : FaultsWhereCountsRose t s k
  faults_where_counts_rose words old new answer promises failing below =
      (λ is. rose_more old new failing (promises.cause failing is) below, λ rose. answered rose)
    where
      answered : count_of t s k old failing < count_of t s k new failing → answer ≡ fault_of failing
      answered rose =
          elim (cases_Bool (is_fault answer)) [
            | inl fault ↦
                let which = which_failed answer fault in
                elim (stood_beside old new which.0 failing (promises.others which.0 which.1)) [
                  | inl same ↦ which.1 ∙ ap fault_of same
                  | inr stood ↦ absurd (omega (arith, stood, rose))
                ]
            | inr sound ↦ absurd (let stood = none_failed old new failing (promises.stood sound) in omega (arith, stood, rose))
          ]

  -- a command without a step leaves what was held, at any moment of it
  looking_left : (command : Words) → TakesNone command → (told : Option (List ℕ)) (words : List (List ℕ)) (held left : Option Cartridge) →
      Spells words command → WordsLeave told words held left → left ≡ held
  looking_left command none told words held left spells (inl same) = same
  looking_left command none told words held left spells (inr (other, spelled, leaves)) =
      let l : StopLeaves told command held left =
      subst (λ (w : Words). StopLeaves told w held left) (one_command words other command spelled spells) leaves in
      subst (λ (steps : List TapeStep). Torn steps held left) (none held l.input l.outcome l.plain) l.torn

  looking_leaves_all : (command : Words) → TakesNone command → LeavesAll t s k command
  looking_leaves_all command none words old new answer promises spells = record {
    told = λ held told. told_weaker (t.told new.tape) (λ left. looking_left command none (s.left old.source) words held left spells)
        (promises.stops.told held told);
    since = λ held left telling told is. looking_left command none (s.left old.source) words held left spells
        (promises.stops.since held left telling told is);
  }

  pub room_leaves_all : LeavesAll t s k commands.Room
  room_leaves_all = looking_leaves_all commands.Room (λ held input outcome does. room_takes_no_step held outcome does)

  pub check_leaves_all : LeavesAll t s k commands.Check
  check_leaves_all = looking_leaves_all commands.Check (λ held input outcome does. check_takes_no_step held outcome does)

  -- what a stop in a script leaves over a source that tells nothing, it leaves over some input of bytes
  untold : (words : List (List ℕ)) (held left : Option Cartridge) → WordsLeave None words held left → Spells words commands.Script →
      (input : List ℕ) × All (λ b. b < 256) input × WordsLeave (Some input) words held left
  untold words held left (inl same) spells = ([], All-nil (λ b. b < 256), inl same)
  untold words held left (inr (command, spelled, leaves)) spells =
      let l : StopLeaves None commands.Script held left =
      subst (λ (w : Words). StopLeaves None w held left) (one_command words command commands.Script spelled spells) leaves in (
        l.input,
        l.bytes refl,
        inr (
          commands.Script,
          spells,
          record {
            input = l.input;
            is_told = refl;
            bytes = λ appends. tt;
            outcome = l.outcome;
            plain = l.plain;
            torn = l.torn;
          },
        ),
      )

  lines_of : (input : List ℕ) (words : List (List ℕ)) (held left : Option Cartridge) → SomeScripted (Some input) words held left →
      LinesLeave input words held left
  lines_of input words held left over = subst (λ (i : List ℕ). LinesLeave i words held left) over.1 over.3

  pub scripts_untold : ScriptsUntold t s k
  scripts_untold words old new answer promises none =
      let each : EachLeft t old.tape new.tape (WordsLeave None words) =
      subst (λ (told : Option (List ℕ)). EachLeft t old.tape new.tape (WordsLeave told words)) none promises.stops in
      let so : (held left : Option Cartridge) → WordsLeave None words held left → IfSome held IsCartridge → Spells words commands.Script →
      (input : List ℕ) × All (λ b. b < 256) input × LinesLeave input words held left × StoppedComesBack (Some input) words held left =
      λ held left leaves whole spells.
      let some = untold words held left leaves spells in (
        some.0,
        some.1,
        lines_of some.0 words held left (some_scripted (Some some.0) words held left whole some.2),
        stopped_comes_back (Some some.0) words held left (λ command spells. has_values words command spells) whole some.2,
      ) in
      record {
        told = λ held told. told_weaker (t.told new.tape) (λ left. so held left) (each.told held told);
        since = λ held left telling told is. so held left (each.since held left telling told is);
      }
