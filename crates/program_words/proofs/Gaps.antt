-- What the matches of the command say of the words.
use Rattle.std.proofs.Common.{◌≡◌, ◌≤◌, ◌∙◌, ap, ap₂, ℕ, true, List, [], Option, Some, Result, Ok, refl, sym, subst, codes, arith, inl, inr}
use Rattle.std.proofs.Common.{slice_index}
use Rattle.std.specs.Prelude.{pos}
use Rattle.std.specs.Str.Parse.{ParsesUnsigned, digits_value, without_leading_plus}
use Rattle.clap.specs.Lexer.{without_minus}
use Rattle.clap.specs.Facts.{least_values, unwrap_or_range}
use Rattle.clap.specs.Built.{IsParsedFrom}
use Rattle.clap.specs.Matches.{ReadsOne, found_of, one_text}
use Rattle.clap.specs.Values.{IsSignedIn, kind_of}
use Rattle.clap.specs.Walk.{Rule, Text, one_of, rows_of}
use Rattle.clap.specs.Simple.{HasMatchesOf, app_of, is_simple, matches_of, with_rule}
use Rattle.clap.specs.Takes.{takes}
use Rattle.clap.specs.Faults.{fault_of, is_simple_and_free}
use Rattle.clap.specs.Kinds.{HasKind, IsAmong}
use Rattle.clap.specs.declared.error.Error.{Error}
use Rattle.clap.specs.declared.error.kind.ErrorKind.TheVariants.{OutOfMemory}
use Rattle.clap.specs.declared.builder.arg.Arg.{Arg}
use Rattle.clap.specs.declared.builder.command.Command.{Command}
use Rattle.clap.specs.declared.builder.value_parser.ValueParser.TheVariants.{Signed}
use Rattle.clap.specs.declared.parser.matches.ArgMatches.{ArgMatches}
use Rattle.clap.proofs.CallerReads.{signed_reads}
use Rattle.clap.proofs.OnLiterals.{clap_on_literals}
use Rattle.clap.proofs.WalkLemmas.{one_text-rows}
use Rattle.program_words.specs.TraceWords.{trace_command, HasGap, IsRefused}
use Rattle.program_words.specs.GapOption.{IsTraceCommand}
use Rattle.program_words.proofs.Defaults.{one_default_read}
use Rattle.program_words.proofs.Asking.{none_among}

app_is : (c : Command) → IsTraceCommand c → app_of c ≡ trace_command
app_is c is = is.adds.shape is.gap.local ∙ ap₂ with_rule is.empty.app is.gap.rule

free : is_simple_and_free trace_command ≡ true
unfolding clap_on_literals
free = refl

simple : is_simple trace_command ≡ true
unfolding clap_on_literals
simple = refl

-- the gap's text passed its parser
passed : (c : Command) (m : ArgMatches) → IsTraceCommand c → IsParsedFrom c m →
    (t : List ℕ) × (one_text (found_of m) (codes "gap") ≡ Some (without_minus t)) × IsSignedIn (pos 1) (pos 1000000) t
passed c m is p =
    let a : Arg = is.option in
    let id : a.id.now ≡ codes "gap" = ap (λ (r : Rule). r.id) is.gap.rule in
    let least : least_values a ≡ 1 = ap (λ (r : Rule). (unwrap_or_range r.range).start_inclusive) is.gap.rule in
    let first : (t : List ℕ) → a.id.now ≡ t → slice_index t 0 ≡ 103 = λ t e. rw (← e, id) refl in
    let got = one_default_read is.start c a m is.adds is.empty.args is.empty.groups is.empty.local is.gap.plain is.gap.local is.gap.always
    is.gap.some_default
    (ap (λ (r : Rule). r.action) is.gap.rule) is.gap.whole (omega arith)
    (λ e. let bad : 0 ≡ 103 = first [] e in omega arith)
    (λ auto. elim auto [
      | inl h ↦ let bad : 104 ≡ 103 = first _ h in omega arith
      | inr h ↦ let bad : 118 ≡ 103 = first _ h in omega arith
    ])
    (Signed (pos 1) (pos 1000000)) (ap (λ (r : Rule). r.parser) is.gap.rule) p in
    (got.0, subst (λ (w : List ℕ). one_text (found_of m) w ≡ Some (without_minus got.0)) id got.1, got.2)

-- the number that is read of it
pub record Number (m : ArgMatches) (r : Option ℕ) : Type 0 where
  pub text : List ℕ
  pub given : one_text (found_of m) (codes "gap") ≡ Some text
  pub gap : ℕ
  pub is : r ≡ Some gap
  pub number : gap ≡ digits_value 10 (without_leading_plus text)
  pub least : 1 ≤ gap
  pub most : gap ≤ 1000000

pub number_read : (E : Type 0) (G : List ℕ → Result ℕ E → Type 0) → ((u : List ℕ) (x : Result ℕ E) → G u x → ParsesUnsigned 32 10 u x) →
    (c : Command) (m : ArgMatches) → IsTraceCommand c → IsParsedFrom c m → (r : Option ℕ) →
    ((t : List ℕ) → one_text (found_of m) (codes "gap") ≡ Some t → ReadsOne G t r) → Number m r
number_read E G only c m is p r reads =
    let text = passed c m is p in
    let read : ReadsOne G (without_minus text.0) r = reads (without_minus text.0) text.1 in
    let got = signed_reads E G 32 1 1000000 text.0 r read only (omega arith) text.2 in
    let parsed : G (without_minus text.0) (Ok got.0) = subst (λ (o : Option ℕ). ReadsOne G (without_minus text.0) o) got.1 read in
    record {
      text = without_minus text.0;
      given = text.1;
      gap = got.0;
      is = got.1;
      number = (only (without_minus text.0) (Ok got.0) parsed).1;
      least = got.2;
      most = got.3;
    }

-- words that are taken
pub has_gap : (c : Command) (m : ArgMatches) (given words : List Text) (gap : ℕ) (r : Option ℕ) → IsTraceCommand c → given ≡ words →
    Number m r → r ≡ Some gap →
    HasMatchesOf (app_of c) given m → (is_simple_and_free (app_of c) ≡ true → fault_of (app_of c) given ≡ []) → HasGap words gap
has_gap c m given words gap r is same number some matches kinds =
    let app = app_is c is in
    let one : number.gap ≡ gap = cc (number.is, some) in
    let faults : fault_of (app_of c) given ≡ fault_of trace_command words = ap₂ fault_of app same in
    let rows : rows_of (found_of m) ≡ matches_of trace_command words = (matches (ap is_simple app ∙ simple)).0 ∙ ap₂ matches_of app same in
    record {
      taken = sym faults ∙ kinds (ap is_simple_and_free app ∙ free);
      text = number.text;
      given = ap (one_of (codes "gap")) (sym rows) ∙ sym (one_text-rows (found_of m) (codes "gap")) ∙ number.given;
      number = sym one ∙ number.number;
      least = subst (λ (n : ℕ). 1 ≤ n) one number.least;
      most = subst (λ (n : ℕ). n ≤ 1000000) one number.most;
    }

pub is_refused : (c : Command) (e : Error) (given words : List Text) → IsTraceCommand c → given ≡ words → (kind_of e ≡ OutOfMemory → ⊥) →
    (is_simple_and_free (app_of c) ≡ true → HasKind (fault_of (app_of c) given) e) →
    (takes (app_of c) given ≡ true → kind_of e ≡ OutOfMemory) → IsRefused words
is_refused c e given words is same other kinds passes =
    let app = app_is c is in
    let kind = kinds (ap is_simple_and_free app ∙ free) in
    let among : IsAmong (kind_of e) (fault_of (app_of c) given) = elim kind [ inl memory ↦ absurd (other memory) | inr among ↦ among ] in
    record {
      fault = λ none. none_among (kind_of e) (fault_of (app_of c) given) among (ap₂ fault_of app same ∙ none);
      not_taken = λ taken. other (passes (ap₂ takes app same ∙ taken));
    }
