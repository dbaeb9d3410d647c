-- Refusals, in their order.
use Rattle.std.proofs.Common.{◌≡◌, ◌<◌, ◌≤◌, true, false, length, Option, Some, None, nat_lt, refl, sym, subst, arith}
use Rattle.std.proofs.lemmas.Bool.Decides.{nat_tests}
use Rattle.std.specs.Option.{option_or}
use Rattle.dump_spec.specs.Answers.{Inputs, Known, IsKnown, Answers, AnswersUnless, AnswersBehind, refused, early_refusal, foreign_in}
use Rattle.dump_spec.specs.Answers.{sure_refusal, map_refusal, missing_refusal, bad_refusal, length_refusal, missing_spans}
use Rattle.dump_spec.specs.declared.asked.Asked.{Asked}
use Rattle.dump_spec.specs.declared.status.Status.{Status}
use Rattle.dump_spec.specs.declared.status.Status.TheVariants as ends
use Rattle.dump_opening.specs.Sizes.{most_of}

-- ---- the first of some

text_first : {A : Type 0} (a b c d : Option A) (x : A) → option_or a (option_or b c) ≡ Some x →
    option_or a (option_or b (option_or c d)) ≡ Some x
text_first (Some y) b c d x e = e
text_first None (Some y) c d x e = e
text_first None None (Some y) d x e = e
text_first None None None d x e = cc

pub text_refused : (inputs : Inputs) (asked : Asked) (status : Status) → sure_refusal inputs.sure ≡ None →
    option_or (map_refusal inputs.map) (option_or (missing_refusal inputs.missing) (bad_refusal inputs.bad)) ≡ Some status →
    early_refusal inputs asked ≡ Some status
text_refused inputs asked status sure text =
    rw sure (text_first (map_refusal inputs.map) (missing_refusal inputs.missing) (bad_refusal inputs.bad)
    (length_refusal inputs asked) status text)

-- no text is refused
pub length_alone : (inputs : Inputs) (asked : Asked) → sure_refusal inputs.sure ≡ None → map_refusal inputs.map ≡ None →
    missing_refusal inputs.missing ≡ None → bad_refusal inputs.bad ≡ None → early_refusal inputs asked ≡ length_refusal inputs asked
length_alone inputs asked sure map missing bad = rw (sure, map, missing, bad) refl

pub length_refused : (inputs : Inputs) (asked : Asked) → most_of asked inputs.dump (missing_spans inputs.missing) < length inputs.dump →
    length_refusal inputs asked ≡ Some (ends.TooLong (length inputs.dump))
length_refused inputs asked many =
    let is : nat_lt (most_of asked inputs.dump (missing_spans inputs.missing)) (length inputs.dump) ≡ true = grind (arith, nat_tests) in
    rw is refl

pub length_taken : (inputs : Inputs) (asked : Asked) → length inputs.dump ≤ most_of asked inputs.dump (missing_spans inputs.missing) →
    length_refusal inputs asked ≡ None
length_taken inputs asked few =
    let is : nat_lt (most_of asked inputs.dump (missing_spans inputs.missing)) (length inputs.dump) ≡ false = grind (arith, nat_tests) in
    rw is refl

-- ---- what a run answers

pub early_answer : (inputs : Inputs) (asked : Asked) (status : Status) → early_refusal inputs asked ≡ Some status →
    Answers inputs asked (refused false status)
early_answer inputs asked status early =
    subst (λ (why : Option Status). AnswersUnless inputs asked why (refused false status)) (sym early) refl

pub foreign_answer : (inputs : Inputs) (asked : Asked) (known : Known) (status : Status) → early_refusal inputs asked ≡ None →
    IsKnown inputs asked known → foreign_in known ≡ Some status → Answers inputs asked (refused false status)
foreign_answer inputs asked known status passed is foreign =
    subst (λ (why : Option Status). AnswersUnless inputs asked why (refused false status)) (sym passed) (
      known,
      is,
      subst (λ (why : Option Status). AnswersBehind known asked.command why (refused false status)) (sym foreign) refl,
    )
