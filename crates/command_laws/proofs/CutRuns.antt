-- What a fault of the outside cuts off is a run that was stopped, with the text that it had printed; and a run leaves what mounts.
use Rattle.std.proofs.Common.{◌≡◌, ◌∙◌, ◌++◌, ℕ, List, ◌∷◌, append_assoc, ap, is_some, subst, sym, Option, Some, None, IsSomeAnd}
use Rattle.cartridge_laws.proofs.FormatWriting.{some_weaker}
use Rattle.cartridge_laws.proofs.MountStanding.{standing_mounts}
use Rattle.cartridge_spec.specs.Mounting.{Mounts, mounted_as}
use Rattle.cartridge_spec.specs.TableSegment.{CanBeRead, IsTableLive}
use Rattle.cartridge_spec.specs.Volumes.{Plain, Stands}
use Rattle.command_laws.proofs.CommandEnds.{after_steps, over_at, told_weaker}
use Rattle.command_laws.proofs.CommandSeveral.{cut_left, still_told}
use Rattle.command_laws.proofs.CommandTable.{has_values}
use Rattle.command_laws.proofs.MadeAnswered.{next_torn}
use Rattle.command_laws.proofs.ReadableRuns.{runs_keep_readable}
use Rattle.command_laws.specs.CutLaws.{CutRunsAreStopped, RunsReopen}
use Rattle.command_laws.specs.Life.{Leaves, Stopped}
use Rattle.command_laws.specs.ReadableLaws.{WordsKeepReadable}
use Rattle.command_spec.specs.Command.{ReadsAs}
use Rattle.command_spec.specs.Headline.{ToldNow}
use Rattle.command_spec.specs.Outcome.{CommandOutcome}
use Rattle.qic_base.proofs.Joins.{steps_of-append}
use Rattle.qic_base.proofs.Steps.{Torn-all, Torn-behind, Torn-front}
use Rattle.qic_base.specs.Acts.{Act, Cut, Failing, Outside, SinkFails, SourceFails, TapeFails, next_steps, steps_of, text_of}
use Rattle.qic_base.specs.Cartridge.{Cartridge}
use Rattle.qic_base.specs.Step.{Step, Torn, effects}
use Rattle.qic_base.specs.Sink as sinks
use Rattle.qic_base.specs.Source as sources
use Rattle.qic_base.specs.Tape as tapes

-- ---- what is left where no cartridge is held

-- a front of the acts was done, and a stop came among the next steps, or behind it
front_torn : (front rest acts : List Act) (left : Option Cartridge) → front ++ rest ≡ acts →
    Torn (next_steps rest) (effects (steps_of front) None) left →
    Torn (steps_of acts) None left
front_torn front rest acts left parts torn =
    subst (λ (ss : List Step). Torn ss None left) (sym (steps_of-append front rest) ∙ ap steps_of parts)
    (Torn-behind (steps_of front) (steps_of rest) None left (next_torn rest (effects (steps_of front) None) left torn))

-- the steps of a front were all done
done_torn : (steps rest all : List Step) → steps ++ rest ≡ all → Torn all None (effects steps None)
done_torn steps rest all parts =
    subst (λ (ss : List Step). Torn ss None (effects steps None)) parts
    (Torn-front steps rest None (effects steps None) (Torn-all steps None))

module _ {T S K : Type 0} (t : tapes.Meaning T) (s : sources.Meaning S) (k : sinks.Meaning K) (old new : Outside T S K) where
  -- the text that the sink took, and what is left
  record CutSo (held : Option Cartridge) (outcome : CommandOutcome) : Type 0 where
    text : List ℕ
    took : k.took old.sink text new.sink
    each : ToldNow t new.tape (λ left. Leaves (Stopped (Some text)) outcome held left)

  told_done : (steps rest all : List Step) → tapes.Done t old.tape new.tape steps → t.told old.tape ≡ Some None → steps ++ rest ≡ all →
      ToldNow t new.tape (λ left. Torn all None left)
  told_done steps rest all did told parts =
      subst (λ (o : Option (Option Cartridge)). IsSomeAnd o (λ left. Torn all None left))
      (sym (after_steps t old.tape new.tape steps None did told))
      (done_torn steps rest all parts)

  cut_none : (outcome : CommandOutcome) (failing : Failing) → t.told old.tape ≡ Some None → Cut t s k old new outcome.acts failing →
      CutSo None outcome
  cut_none outcome TapeFails told cut = record {
    text = text_of cut.front;
    took = cut.wrote.took;
    each = still_told (t.told new.tape) (λ left. Torn (steps_of outcome.acts) None left) (cut.broke.tells ∙ ap is_some told)
        (λ left is. front_torn cut.front cut.rest outcome.acts left cut.parts (cut.here None left told is));
  }
  cut_none outcome SourceFails told cut = record {
    text = text_of cut.front;
    took = cut.wrote.took;
    each = told_done (steps_of cut.front) (steps_of cut.rest) (steps_of outcome.acts) cut.did told
        (sym (steps_of-append cut.front cut.rest) ∙ ap steps_of cut.parts);
  }
  cut_none outcome SinkFails told cut =
      let at = cut.at in record {
        text = text_of at.front ++ cut.broke.part;
        took = cut.broke.took;
        each = told_done (steps_of at.front ++ at.act.steps) (steps_of at.rest) (steps_of outcome.acts) cut.did told
            (append_assoc (steps_of at.front) at.act.steps (steps_of at.rest) ∙ sym (steps_of-append at.front (at.act ∷ at.rest))
            ∙ ap steps_of at.parts);
      }

  cut_so : (held : Option Cartridge) (outcome : CommandOutcome) (failing : Failing) → t.told old.tape ≡ Some held →
      Cut t s k old new outcome.acts failing →
      CutSo held outcome
  cut_so None outcome failing told cut = cut_none outcome failing told cut
  cut_so (Some c) outcome failing told cut =
      let was = cut_left t s k old new c told outcome.acts failing cut in
      record { text = was.text; took = was.took; each = was.each }

-- ---- a run

module _ {T S K : Type 0} (t : tapes.Meaning T) (s : sources.Meaning S) (k : sinks.Meaning K) where
  pub cut_runs_are_stopped : CutRunsAreStopped t s k
  cut_runs_are_stopped words old new answer failing held promises is told =
      let off = promises.cut failing is in
      let over = over_at (t.told old.tape) _ held off.2 told in
      let outcome : CommandOutcome = over.2.0 in
      let so : CutSo t s k old new held outcome = cut_so t s k old new held outcome failing told over.2.2.cut in (
        so.text,
        so.took,
        (
          over.0,
          over.1,
          told_weaker (t.told new.tape)
              (λ left leaves. (
                off.0,
                off.1,
                record { values = has_values words off.0 off.1; outcome = outcome; plain = over.2.1; leaves = leaves },
              )) so.each,
        ),
      )

  -- what can be read mounts
  reads_again : (words : List (List ℕ)) (told : Option (List ℕ)) (held left : Option Cartridge) →
      ((c : Cartridge) (plain : Plain) → held ≡ Some c → ReadsAs c plain → IsTableLive c → WordsKeepReadable told words c plain →
      IsSomeAnd left CanBeRead) →
      (c : Cartridge) (plain : Plain) → held ≡ Some c → ReadsAs c plain → IsTableLive c → WordsKeepReadable told words c plain →
      IsSomeAnd left (λ d. (later : Plain) → Stands d later → Mounts d (mounted_as later))
  reads_again words told held left reads c plain is there live keeps =
      some_weaker left (λ d can later stood. standing_mounts d later stood can) (reads c plain is there live keeps)

  pub runs_reopen : RunsReopen t s k
  runs_reopen words old new answer promises =
      let each = runs_keep_readable t s k words old new answer promises in record {
        told = λ held told. told_weaker (t.told new.tape) (λ left. reads_again words (s.left old.source) held left) (each.told held told);
        since = λ held left telling told is. reads_again words (s.left old.source) held left (each.since held left telling told is);
      }
