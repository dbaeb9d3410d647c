-- How a run over an opened dump ends.
use Rattle.std.proofs.Common.{Option, false, List, ℕ, [], refl, sym, subst}
use Rattle.std.specs.Prelude.{Result, Ok, Err}
use Rattle.qic_base.specs.Sink as sinks
use Rattle.dump_opening.specs.Counts.{AllCountBy}
use Rattle.dump_opening.specs.Opened.{IsOpened, Opens, Shows}
use Rattle.dump_opening.specs.declared.opened.OpenDump.{OpenDump}
use Rattle.dump_opening.specs.declared.opened.OpenError.{OpenError}
use Rattle.dump_opening.specs.declared.opened.OpenError.TheVariants as error
use Rattle.dump_opening.specs.declared.opened.Opened.{Opened}
use Rattle.dump_spec.specs.Answers.{Answer, Answers, AnswersBehind, AnswersTo, AnswersUnless, Inputs, IsKnown, Known, refused}
use Rattle.dump_spec.specs.declared.asked.Asked.{Asked}
use Rattle.dump_spec.specs.declared.status.Status.{Status}
use Rattle.dump_answers.specs.Ends.{CountsByFault, Ends, Sinks, fault_of}
use Rattle.dump_answers.specs.Commands.{refusal_of}
use Rattle.dump_answers.specs.declared.ending.Cut.{Cut}
use Rattle.dump_answers.specs.declared.ending.Ending.{Ending}
use Rattle.dump_answers.proofs.Endings.{front_none, wrote_none}

pub opened_answer : (inputs : Inputs) (asked : Asked) (told : Option (List ℕ)) (rescued missing masks : List ℕ) (opened : Opened)
    (known : Known) (answer : Answer) → IsOpened inputs asked told rescued missing masks opened → IsKnown inputs asked known →
    AnswersTo known asked.command answer → Answers inputs asked answer
opened_answer inputs asked told rescued missing masks opened known answer is known_is answers =
    subst (λ (why : Option Status). AnswersUnless inputs asked why answer) (sym is.passed) (
      known,
      known_is,
      subst (λ (why : Option Status). AnswersBehind known asked.command why answer) (sym (is.taken known known_is)) answers,
    )

pub run_ends : {K M : Type 0} (k : sinks.Meaning K) (m : sinks.Meaning M) (inputs : Inputs) (asked : Asked) (told : Option (List ℕ))
    (rescued missing masks : List ℕ) (opened : Opened) (view : OpenDump) (old new : Sinks K M) (result : Result Ending Cut) →
    IsOpened inputs asked told rescued missing masks opened →
    ((known : Known) → IsKnown inputs asked known → Shows view told known) →
    ((known : Known) → Shows view told known → Ends k m (AnswersTo known asked.command) old new result) →
    Ends k m (Answers inputs asked) old new result
run_ends k m inputs asked told rescued missing masks opened view old new (Ok ending) is shows ends =
    let here = ends is.some.0 (shows is.some.0 is.some.1) in
    record {
      answer = here.answer;
      answers = opened_answer inputs asked told rescued missing masks opened is.some.0 here.answer is is.some.1 here.answers;
      status = here.status;
      warned = here.warned;
      wrote = here.wrote;
    }
run_ends k m inputs asked told rescued missing masks opened view old new (Err cut) is shows ends = λ answer answers.
    let read = subst (λ (why : Option Status). AnswersUnless inputs asked why answer) is.passed answers in
    let to : AnswersTo read.0 asked.command answer =
    subst (λ (why : Option Status). AnswersBehind read.0 asked.command why answer) (is.taken read.0 read.1) read.2 in
    ends read.0 (shows read.0 read.1) answer to

pub refused_ends : {K M : Type 0} (k : sinks.Meaning K) (m : sinks.Meaning M) (inputs : Inputs) (asked : Asked)
    (told : Option (List ℕ)) (rescued missing masks : List ℕ) (e : OpenError) (both : Sinks K M) → k.took both.output [] both.output →
    m.took both.sure [] both.sure → Opens inputs asked told rescued missing masks (Err e) →
    Ends k m (Answers inputs asked) both both (refusal_of e)
refused_ends k m inputs asked told rescued missing masks (error.Refused status) both nothing none opens = record {
  answer = refused false status;
  answers = opens;
  status = refl;
  warned = refl;
  wrote = record { printed = wrote_none k both.output nothing; mapped = wrote_none m both.sure none };
}
refused_ends k m inputs asked told rescued missing masks error.Input both nothing none opens = λ answer answers. record {
  took = record { printed = front_none k both.output answer.printed nothing; mapped = front_none m both.sure answer.sure none };
  warned = λ given. absurd (cc (given));
}

pub refused_counts : (T : Type 0) (before now written : List ℕ) (e : OpenError) → AllCountBy {T = T} before now (Err e) →
    CountsByFault before now written written (fault_of (refusal_of e))
refused_counts T before now written (error.Refused status) counts = (counts, refl)
refused_counts T before now written error.Input counts = (counts, refl)
