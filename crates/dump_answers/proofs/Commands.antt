-- How the commands end, by how their parts do.
use Rattle.std.proofs.Common.{◌≡◌, inl, ℕ, Bool, true, false, not, List, [], ◌∷◌, refl, sym, ap, subst, ◌∙◌}
use Rattle.std.specs.Prelude.{Result, Ok, Err, Option, Some, None, IfOk}
use Rattle.std.proofs.lemmas.Bool.{false≢true}
use Rattle.qic_base.specs.Acts.{TookFront}
use Rattle.qic_base.specs.Cause.{HasCause}
use Rattle.qic_base.specs.Sink as sinks
use Rattle.qic_base.specs.Sink.{Wrote}
use Rattle.qic_base.specs.SinkCalls.{Writes}
use Rattle.dump_output.specs.declared.fault.PutFault.{PutFault}
use Rattle.dump_spec.specs.Answers.{Answer, Known, AnswersTo, TableIs, warns, volumes_in, numbered, header_area}
use Rattle.dump_spec.specs.Answers.{info_answer, list_answer, AnswersVolume, GivesVolume, PutsOut, refused}
use Rattle.dump_spec.specs.Table.{FoundTable}
use Rattle.dump_spec.specs.Volumes.{Volume, has_bad_range}
use Rattle.dump_spec.specs.declared.asked.Command.TheVariants as commands
use Rattle.dump_spec.specs.declared.status.Status.{Status}
use Rattle.dump_spec.specs.declared.status.Status.TheVariants as status_ends
use Rattle.dump_tables.proofs.Tables.{one_is_table}
use Rattle.dump_answers.specs.Checking.{Checks}
use Rattle.dump_answers.specs.Commands.{ended_by, by_output, Prints}
use Rattle.dump_answers.specs.Ends.{CountsByFault, StatusEnds, Ends, Sinks, fault_of}
use Rattle.dump_answers.specs.declared.ending.Cut.{Cut}
use Rattle.dump_answers.specs.declared.ending.Ending.{Ending}
use Rattle.dump_answers.proofs.Endings.{front_broke, front_none, wrote_none}

-- ---- texts

-- of one answer
pub text_prints : {K E : Type 0} (k : sinks.Meaning K) (Answers : Answer → Type 0) (one : Answer) (warned : Bool) (old new : K)
    (told : Result Status E) → Answers one → ((answer : Answer) → Answers answer → answer ≡ one) →
    one.sure ≡ [] → one.warned ≡ warned → IfOk told (λ status. status ≡ one.status) → Writes k old new one.printed told →
    Prints k Answers old new (ended_by warned (by_output told))
text_prints k Answers one warned old new (Ok status) answers only no_map warns status_is wrote = record {
  answer = one;
  answers = answers;
  status = status_is;
  warned = sym warns;
  wrote = wrote;
  no_map = no_map;
}
text_prints k Answers one warned old new (Err e) answers only no_map warns status_is broke = λ answer is.
    let same : one ≡ answer = sym (only answer is) in
    record {
      took = subst (λ (a : Answer). TookFront k old new a.printed) same (front_broke broke);
      warned = λ given. sym (ap (λ (a : Answer). a.warned) same) ∙ warns ∙ given;
    }

-- a table that can't be read
pub prints_unread : {K : Type 0} (k : sinks.Meaning K) (Answers : Answer → Type 0) (sink : K) (cut : Cut) → cut.warned ≡ false →
    k.took sink [] sink → Prints k Answers sink sink (Err cut)
prints_unread k Answers sink cut unwarned nothing = λ answer answers. record {
  took = front_none k sink answer.printed nothing;
  warned = λ given. absurd (false≢true (sym unwarned ∙ given));
}

-- ---- counts

pub print_counts : {E : Type 0} (disk disk_now : List ℕ) (before now : ℕ) (warned : Bool) (told : Result Status E) → disk_now ≡ disk →
    HasCause before now told →
    CountsByFault disk disk_now (before ∷ []) (now ∷ []) (fault_of (ended_by warned (by_output told)))
print_counts disk disk_now before now warned (Ok status) same cause = (same, ap (λ (n : ℕ). n ∷ []) cause.stood)
print_counts disk disk_now before now warned (Err e) same cause = (same, inl (cause.failed, refl))

-- ---- of the table that a dump has

pub info_only : (known : Known) (table : Option FoundTable) → TableIs known table → (answer : Answer) →
    AnswersTo known commands.Info answer → answer ≡ info_answer known table
info_only known table is answer answers =
    answers.2
    ∙ ap (info_answer known)
    (one_is_table (header_area known) known.dump known.layout known.zero_lost answers.0 table answers.1 is)

pub list_only : (known : Known) (table : Option FoundTable) → TableIs known table → (answer : Answer) →
    AnswersTo known commands.List answer → answer ≡ list_answer known table
list_only known table is answer answers =
    answers.2
    ∙ ap (list_answer known)
    (one_is_table (header_area known) known.dump known.layout known.zero_lost answers.0 table answers.1 is)

pub list_warned : (known : Known) (table : Option FoundTable) → (list_answer known table).warned ≡ warns table
list_warned known None = refl
list_warned known (Some table) = refl

pub list_no_map : (known : Known) (table : Option FoundTable) → (list_answer known table).sure ≡ []
list_no_map known None = refl
list_no_map known (Some table) = refl

-- ---- volumes

range_warned : (known : Known) (table : FoundTable) (number : ℕ) (whole bad : Bool) (volume : Volume) (answer : Answer) →
    has_bad_range table.segment volume ≡ bad → GivesVolume known table number whole (Some volume) answer → answer.warned ≡ not table.sure
range_warned known table number whole true volume answer is gives =
    let here : answer ≡ refused (not table.sure) (status_ends.BadRange number) = rw is at gives in ap (λ (a : Answer). a.warned) here
range_warned known table number whole false volume answer is gives =
    let here = rw is at gives in ap (λ (a : Answer). a.warned) here.2

given_warned : (known : Known) (table : FoundTable) (number : ℕ) (whole : Bool) (volume : Option Volume) (answer : Answer) →
    GivesVolume known table number whole volume answer → answer.warned ≡ not table.sure
given_warned known table number whole None answer gives = ap (λ (a : Answer). a.warned) gives
given_warned known table number whole (Some volume) answer gives =
    range_warned known table number whole (has_bad_range table.segment volume) volume answer refl gives

pub volume_warned : (known : Known) (number : ℕ) (whole : Bool) (table : Option FoundTable) (answer : Answer) →
    AnswersVolume known number whole table answer → answer.warned ≡ warns table
volume_warned known number whole None answer answers = ap (λ (a : Answer). a.warned) answers
volume_warned known number whole (Some table) answer answers =
    given_warned known table number whole (numbered (volumes_in known table) number) answer answers

pub volume_ends : {K M : Type 0} (k : sinks.Meaning K) (m : sinks.Meaning M) (known : Known) (number : ℕ) (whole : Bool)
    (table : Option FoundTable) (old new : Sinks K M) (result : Result Status PutFault) → TableIs known table →
    StatusEnds k m (AnswersVolume known number whole table) old new result →
    Ends k m (AnswersTo known (commands.Volume number whole)) old new (ended_by (warns table) result)
volume_ends k m known number whole table old new (Ok status) is ends = record {
  answer = ends.0;
  answers = (table, is, ends.1);
  status = ends.2;
  warned = sym (volume_warned known number whole table ends.0 ends.1);
  wrote = ends.3;
}
volume_ends k m known number whole table old new (Err fault) is ends = λ answer answers.
    let same : answers.0 ≡ table =
    one_is_table (header_area known) known.dump known.layout known.zero_lost answers.0 table answers.1 is in
    let here : AnswersVolume known number whole table answer =
    subst (λ (t : Option FoundTable). AnswersVolume known number whole t answer) same answers.2 in
    record {
      took = ends answer here;
      warned = λ given. volume_warned known number whole table answer here ∙ given;
    }

-- ---- segments

segments_warned : (known : Known) (first last size : ℕ) (answer : Answer) → PutsOut known false first last size answer →
    answer.warned ≡ false
segments_warned known first last size answer answers = ap (λ (a : Answer). a.warned) answers.2

pub segments_end : {K M : Type 0} (k : sinks.Meaning K) (m : sinks.Meaning M) (known : Known) (first last size : ℕ)
    (old new : Sinks K M) (result : Result Status PutFault) → StatusEnds k m (PutsOut known false first last size) old new result →
    Ends k m (PutsOut known false first last size) old new (ended_by false result)
segments_end k m known first last size old new (Ok status) ends = record {
  answer = ends.0;
  answers = ends.1;
  status = ends.2;
  warned = sym (segments_warned known first last size ends.0 ends.1);
  wrote = ends.3;
}
segments_end k m known first last size old new (Err fault) ends = λ answer answers. record {
  took = ends answer answers;
  warned = λ given. absurd (cc (given));
}

-- ---- without a map

pub prints_end : {K M : Type 0} (k : sinks.Meaning K) (m : sinks.Meaning M) (Answers : Answer → Type 0) (old new : K) (sure : M)
    (result : Result Ending Cut) → m.took sure [] sure → Prints k Answers old new result →
    Ends k m Answers (record { output = old; sure = sure }) (record { output = new; sure = sure }) result
prints_end k m Answers old new sure (Ok ending) nothing prints = record {
  answer = prints.answer;
  answers = prints.answers;
  status = prints.status;
  warned = prints.warned;
  wrote = record {
    printed = prints.wrote;
    mapped = subst (λ (text : List ℕ). Wrote m sure sure text) (sym prints.no_map) (wrote_none m sure nothing);
  };
}
prints_end k m Answers old new sure (Err cut) nothing prints = λ answer answers.
    let printed = prints answer answers in
    record {
      took = record { printed = printed.took; mapped = front_none m sure answer.sure nothing };
      warned = printed.warned;
    }

pub checks_print : {K : Type 0} (k : sinks.Meaning K) (known : Known) (old new : K) (result : Result Status PutFault) →
    Checks k known old new result → Prints k (AnswersTo known commands.Check) old new (ended_by false result)
checks_print k known old new (Ok status) checks = record {
  answer = checks.0;
  answers = checks.1;
  status = checks.2;
  warned = sym (ap (λ (a : Answer). a.warned) checks.1.2);
  wrote = checks.3;
  no_map = ap (λ (a : Answer). a.sure) checks.1.2;
}
checks_print k known old new (Err fault) checks = λ answer answers. record {
  took = checks answer answers;
  warned = λ given. absurd (cc (given));
}
