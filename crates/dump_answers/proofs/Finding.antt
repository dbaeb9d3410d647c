-- What a check found of the first segments that are looked at, and its lines.
use Rattle.std.proofs.Common.{◌≡◌, ◌≤◌, ◌⊎◌, inl, inr, nat_le, ℕ, suc, ◌+◌, ◌-◌, Bool, List, [], ◌∷◌, ◌++◌, length, refl, sym, ap, subst}
use Rattle.std.proofs.Common.{◌∙◌}
use Rattle.std.proofs.Common.{◌<◌, append_assoc, append-nil, arith, length-append}
use Rattle.std.specs.Prelude.{count_by, filter, Ok, Err}
use Rattle.std.specs.List.{range_with_len}
use Rattle.qic_base.specs.Acts.{TookFront}
use Rattle.qic_base.specs.Sink as sinks
use Rattle.qic_base.specs.Sink.{Wrote}
use Rattle.qic_base.specs.SinkCalls.{BrokeOff}
use Rattle.qic_base.proofs.Writing.{TakesBoth, Wrote-Wrote, Wrote-BrokeOff}
use Rattle.cartridge_spec.specs.Shape.{usable_count}
use Rattle.dump_laws.proofs.Determined.{one_finding}
use Rattle.dump_output.specs.declared.fault.PutFault.{PutFault}
use Rattle.dump_output.specs.declared.fault.PutFault.TheVariants as faults
use Rattle.dump_spec.specs.Answers.{Answer, Known, check_answer, check_status}
use Rattle.dump_spec.specs.Cells.{cells_in}
use Rattle.dump_spec.specs.Check.{Finding, Finds, FindInTurn, finding_line, finding_lines, check_line, check_text, looked_at, is_weak}
use Rattle.dump_spec.specs.Check.{is_unread}
use Rattle.dump_spec.specs.Dump.{Dump}
use Rattle.dump_spec.specs.Pieces.{Layout, has_piece}
use Rattle.dump_spec.specs.declared.status.Status.{Status}
use Rattle.dump_volumes.specs.Counts.{HasCounted}
use Rattle.dump_volumes.specs.declared.checking.CheckCounts.{CheckCounts}
use Rattle.dump_answers.specs.Checking.{is_looked_at, Stepped, Passed, LineBroke, HasFew, Checks, Steps}
use Rattle.dump_answers.proofs.Endings.{front_broke, wrote_none}
use Rattle.dump_answers.specs.Pieces.{below}
use Rattle.dump_answers.proofs.Ranging.{below_none, below_yes, below_no, below_all, below_front, both_filters}

-- ---- lists of findings

pub found_more : (dump : Dump) (layout : Layout) (zero_lost : Bool) (segments : List ℕ) (findings : List Finding) (segment : ℕ)
    (finding : Finding) → FindInTurn dump layout zero_lost segments findings →
    Finds layout.form zero_lost (layout.masks segment) (cells_in dump layout segment) finding →
    FindInTurn dump layout zero_lost (segments ++ segment ∷ []) (findings ++ finding ∷ [])
found_more dump layout zero_lost [] [] segment finding so is = (is, tt)
found_more dump layout zero_lost [] (g ∷ gs) segment finding so is = absurd so
found_more dump layout zero_lost (s ∷ ss) [] segment finding so is = absurd so
found_more dump layout zero_lost (s ∷ ss) (g ∷ gs) segment finding so is =
    (so.0, found_more dump layout zero_lost ss gs segment finding so.1 is)

pub lines_more : (dump : Dump) (layout : Layout) (zero_lost : Bool) (segments : List ℕ) (findings : List Finding) (segment : ℕ)
    (finding : Finding) → FindInTurn dump layout zero_lost segments findings →
    finding_lines (segments ++ segment ∷ []) (findings ++ finding ∷ []) ≡ finding_lines segments findings ++ finding_line segment finding
lines_more dump layout zero_lost [] [] segment finding so = append-nil (finding_line segment finding)
lines_more dump layout zero_lost [] (g ∷ gs) segment finding so = absurd so
lines_more dump layout zero_lost (s ∷ ss) [] segment finding so = absurd so
lines_more dump layout zero_lost (s ∷ ss) (g ∷ gs) segment finding so =
    ap (λ (text : List ℕ). finding_line s g ++ text) (lines_more dump layout zero_lost ss gs segment finding so.1)
    ∙ sym (append_assoc (finding_line s g) (finding_lines ss gs) (finding_line segment finding))

pub as_many : (dump : Dump) (layout : Layout) (zero_lost : Bool) (segments : List ℕ) (findings : List Finding) →
    FindInTurn dump layout zero_lost segments findings → length segments ≡ length findings
as_many dump layout zero_lost [] [] so = refl
as_many dump layout zero_lost [] (g ∷ gs) so = absurd so
as_many dump layout zero_lost (s ∷ ss) [] so = absurd so
as_many dump layout zero_lost (s ∷ ss) (g ∷ gs) so = ap suc (as_many dump layout zero_lost ss gs so.1)

-- the lines of the first segments begin those of all
pub lines_begin : (dump : Dump) (layout : Layout) (zero_lost : Bool) (front rest : List ℕ) (findings whole : List Finding) →
    FindInTurn dump layout zero_lost front findings → FindInTurn dump layout zero_lost (front ++ rest) whole →
    (behind : List ℕ) × (finding_lines (front ++ rest) whole ≡ finding_lines front findings ++ behind)
lines_begin dump layout zero_lost [] rest [] whole so all = (finding_lines rest whole, refl)
lines_begin dump layout zero_lost [] rest (g ∷ gs) whole so all = absurd so
lines_begin dump layout zero_lost (s ∷ ss) rest [] whole so all = absurd so
lines_begin dump layout zero_lost (s ∷ ss) rest (g ∷ gs) [] so all = absurd all
lines_begin dump layout zero_lost (s ∷ ss) rest (g ∷ gs) (h ∷ hs) so all =
    let more = lines_begin dump layout zero_lost ss rest gs hs so.1 all.1 in
    let same : h ≡ g = one_finding layout.form zero_lost (layout.masks s) (cells_in dump layout s) h g all.0 so.0 in (
      more.0,
      ap (λ (x : Finding). finding_line s x ++ finding_lines (ss ++ rest) hs) same
          ∙ ap (λ (text : List ℕ). finding_line s g ++ text) more.1
          ∙ sym (append_assoc (finding_line s g) (finding_lines ss gs) more.0),
    )

-- all of them are found one
pub one_in_turn : (dump : Dump) (layout : Layout) (zero_lost : Bool) (segments : List ℕ) (one other : List Finding) →
    FindInTurn dump layout zero_lost segments one → FindInTurn dump layout zero_lost segments other → one ≡ other
one_in_turn dump layout zero_lost [] [] [] p q = refl
one_in_turn dump layout zero_lost [] [] (h ∷ hs) p q = absurd q
one_in_turn dump layout zero_lost [] (g ∷ gs) other p q = absurd p
one_in_turn dump layout zero_lost (s ∷ ss) [] other p q = absurd p
one_in_turn dump layout zero_lost (s ∷ ss) (g ∷ gs) [] p q = absurd q
one_in_turn dump layout zero_lost (s ∷ ss) (g ∷ gs) (h ∷ hs) p q =
    let here : g ≡ h = one_finding layout.form zero_lost (layout.masks s) (cells_in dump layout s) g h p.0 q.0 in
    let rest : gs ≡ hs = one_in_turn dump layout zero_lost ss gs hs p.1 q.1 in cc

-- ---- the segments that are looked at

abbrev pub looked_below : Known → (segment : ℕ) → List ℕ
looked_below known segment = below (is_looked_at known) segment

looked_is : (known : Known) → looked_at known.dump known.layout ≡ filter (is_looked_at known) (range_with_len 0 65536)
looked_is known =
    both_filters (has_piece known.dump known.layout) (λ segment. nat_le 4 (usable_count (known.layout.masks segment)))
    (range_with_len 0 65536)

pub looked_all : (known : Known) (segment : ℕ) → segment ≡ 65536 → looked_below known segment ≡ looked_at known.dump known.layout
looked_all known segment all = below_all (is_looked_at known) segment all ∙ sym (looked_is known)

pub looked_front : (known : Known) (segment : ℕ) → segment ≤ 65536 →
    (rest : List ℕ) × (looked_at known.dump known.layout ≡ looked_below known segment ++ rest)
looked_front known segment within =
    let e : segment + (65536 - segment) ≡ 65536 = omega arith in
    let parts = below_front (is_looked_at known) segment (65536 - segment) e in
    (parts.0, looked_is known ∙ parts.1)

-- ---- the last line

pub last_line : (counts : CheckCounts) (segments : List ℕ) (findings : List Finding) → length segments ≡ length findings →
    HasCounted counts findings → check_line counts.segments counts.weak counts.bad
    ≡ check_line (length segments) (count_by is_weak findings) (count_by is_unread findings)
last_line counts segments findings long has =
    let same : counts.segments ≡ length segments = has.segments ∙ sym long in
    rw (same, has.weak, has.bad) refl

-- ---- the check of all segments, one after the other

-- the segments below one were checked, and their lines were written
pub record ChecksTo {K : Type 0} (k : sinks.Meaning K) (known : Known) (old new : K) (counts : CheckCounts) (segment : ℕ) : Type 0 where
  pub findings : List Finding
  pub found : FindInTurn known.dump known.layout known.zero_lost (looked_below known segment) findings
  pub counted : HasCounted counts findings
  pub wrote : Wrote k old new (finding_lines (looked_below known segment) findings)

pub checks_none : {K : Type 0} (k : sinks.Meaning K) (known : Known) (sink : K) (counts : CheckCounts) → k.took sink [] sink →
    HasCounted counts [] → ChecksTo k known sink sink counts 0
checks_none k known sink counts nothing has =
    let none : looked_below known 0 ≡ [] = below_none (is_looked_at known) in
    record {
      findings = [];
      found = subst (λ (segments : List ℕ). FindInTurn known.dump known.layout known.zero_lost segments []) (sym none) tt;
      counted = has;
      wrote = subst (λ (segments : List ℕ). Wrote k sink sink (finding_lines segments [])) (sym none) (wrote_none k sink nothing);
    }

checks_more : {K : Type 0} (k : sinks.Meaning K) (known : Known) (first old new : K) (before after : CheckCounts) (segment : ℕ) →
    TakesBoth k → ChecksTo k known first old before segment → Stepped k known segment before after old new →
    ChecksTo k known first new after (segment + 1)
checks_more k known first old new before after segment both so step =
    let next : looked_below known (segment + 1) ≡ looked_below known segment ++ segment ∷ [] =
    below_yes (is_looked_at known) segment step.is.looked_at in
    let found = found_more known.dump known.layout known.zero_lost (looked_below known segment) so.findings segment step.finding so.found
    step.is.finds in
    let lines = lines_more known.dump known.layout known.zero_lost (looked_below known segment) so.findings segment step.finding so.found in
    record {
      findings = so.findings ++ step.finding ∷ [];
      found = subst (λ (segments : List ℕ). FindInTurn known.dump known.layout known.zero_lost segments (so.findings ++ step.finding ∷ []))
          (sym next) found;
      counted = step.counted so.findings so.counted;
      wrote = subst (λ (segments : List ℕ). Wrote k first new (finding_lines segments (so.findings ++ step.finding ∷ []))) (sym next)
          (subst (λ (text : List ℕ). Wrote k first new text) (sym lines) (Wrote-Wrote both so.wrote step.wrote));
    }

checks_passed : {K : Type 0} (k : sinks.Meaning K) (known : Known) (first old new : K) (before after : CheckCounts) (segment : ℕ) →
    ChecksTo k known first old before segment → Passed known segment before after old new →
    ChecksTo k known first new after (segment + 1)
checks_passed {K = K} k known first old new before after segment so pass =
    let same : looked_below known (segment + 1) ≡ looked_below known segment = below_no (is_looked_at known) segment pass.passed in
    record {
      findings = so.findings;
      found = subst (λ (segments : List ℕ). FindInTurn known.dump known.layout known.zero_lost segments so.findings) (sym same) so.found;
      counted = subst (λ (counts : CheckCounts). HasCounted counts so.findings) (sym pass.counts) so.counted;
      wrote = subst (λ (segments : List ℕ). Wrote k first new (finding_lines segments so.findings)) (sym same)
          (subst (λ (sink : K). Wrote k first sink (finding_lines (looked_below known segment) so.findings)) (sym pass.output) so.wrote);
    }

pub checks_next : {K : Type 0} (k : sinks.Meaning K) (known : Known) (first old new : K) (before after : CheckCounts) (segment : ℕ) →
    TakesBoth k → ChecksTo k known first old before segment →
    Stepped k known segment before after old new ⊎ Passed known segment before after old new →
    ChecksTo k known first new after (segment + 1)
checks_next k known first old new before after segment both so (inl step) =
    checks_more k known first old new before after segment both so step
checks_next k known first old new before after segment both so (inr pass) =
    checks_passed k known first old new before after segment so pass

-- ---- how it ends

-- what is written behind the lines of the first segments is a front of each answer's text
front_of : {K : Type 0} (k : sinks.Meaning K) (known : Known) (old new : K) (segments rest : List ℕ) (findings whole : List Finding) →
    looked_at known.dump known.layout ≡ segments ++ rest → FindInTurn known.dump known.layout known.zero_lost segments findings →
    FindInTurn known.dump known.layout known.zero_lost (looked_at known.dump known.layout) whole →
    k.took old (finding_lines segments findings) new →
    TookFront k old new (check_text (looked_at known.dump known.layout) whole)
front_of k known old new segments rest findings whole parts found all took =
    let begin = lines_begin known.dump known.layout known.zero_lost segments rest findings whole found
    (subst (λ (ss : List ℕ). FindInTurn known.dump known.layout known.zero_lost ss whole) parts all) in
    let last : List ℕ = check_line (length (looked_at known.dump known.layout)) (count_by is_weak whole) (count_by is_unread whole) in
    let lines : finding_lines (looked_at known.dump known.layout) whole ≡ finding_lines segments findings ++ begin.0 =
    ap (λ (ss : List ℕ). finding_lines ss whole) parts ∙ begin.1 in
    record {
      front = finding_lines segments findings;
      rest = begin.0 ++ last;
      parts = sym (append_assoc (finding_lines segments findings) begin.0 last) ∙ ap (λ (text : List ℕ). text ++ last) (sym lines);
      took = took;
    }

-- a read failed in a segment
pub check_unread : {K : Type 0} (k : sinks.Meaning K) (known : Known) (first old new : K) (counts : CheckCounts) (segment : ℕ) →
    segment ≤ 65536 → ChecksTo k known first old counts segment → new ≡ old → Checks k known first new (Err faults.Input)
check_unread {K = K} k known first old new counts segment within so same = λ answer answers.
    let rest = looked_front known segment within in
    subst (λ (a : Answer). TookFront k first new a.printed) (sym answers.2)
    (subst (λ (sink : K). TookFront k first sink (check_text (looked_at known.dump known.layout) answers.0)) (sym same)
    (front_of k known first old (looked_below known segment) rest.0 so.findings answers.0 rest.1 so.found answers.1 so.wrote.took))

-- a front of a text, where it is a front of a longer one
pub front_longer : {K : Type 0} (k : sinks.Meaning K) (old new : K) (text more whole : List ℕ) → text ++ more ≡ whole →
    TookFront k old new text → TookFront k old new whole
front_longer k old new text more whole parts took = record {
  front = took.front;
  rest = took.rest ++ more;
  parts = sym (append_assoc took.front took.rest more) ∙ ap (λ (t : List ℕ). t ++ more) took.parts ∙ parts;
  took = took.took;
}

-- a write failed in a segment's line
pub check_unwritten : {K : Type 0} (k : sinks.Meaning K) (known : Known) (first old new : K) (counts : CheckCounts) (segment : ℕ) →
    segment + 1 ≤ 65536 → TakesBoth k → ChecksTo k known first old counts segment → LineBroke k known segment old new →
    Checks k known first new (Err faults.Output)
check_unwritten k known first old new counts segment within both so line = λ answer answers.
    let rest = looked_front known (segment + 1) within in
    let next : looked_below known (segment + 1) ≡ looked_below known segment ++ segment ∷ [] =
    below_yes (is_looked_at known) segment line.is.looked_at in
    let parts : looked_at known.dump known.layout ≡ (looked_below known segment ++ segment ∷ []) ++ rest.0 =
    rest.1 ∙ ap (λ (ss : List ℕ). ss ++ rest.0) next in
    let found = found_more known.dump known.layout known.zero_lost (looked_below known segment) so.findings segment line.finding so.found
    line.is.finds in
    let begin = lines_begin known.dump known.layout known.zero_lost (looked_below known segment ++ segment ∷ []) rest.0
    (so.findings ++ line.finding ∷ []) answers.0 found
    (subst (λ (ss : List ℕ). FindInTurn known.dump known.layout known.zero_lost ss answers.0) parts answers.1) in
    let lines = lines_more known.dump known.layout known.zero_lost (looked_below known segment) so.findings segment line.finding so.found in
    let last : List ℕ =
    check_line (length (looked_at known.dump known.layout)) (count_by is_weak answers.0) (count_by is_unread answers.0) in
    let text : List ℕ = finding_lines (looked_below known segment) so.findings ++ finding_line segment line.finding in
    let whole : text ++ (begin.0 ++ last) ≡ check_text (looked_at known.dump known.layout) answers.0 =
    sym (append_assoc text begin.0 last)
    ∙ ap (λ (t : List ℕ). t ++ last)
    (ap (λ (t : List ℕ). t ++ begin.0) (sym lines) ∙ sym begin.1 ∙ ap (λ (ss : List ℕ). finding_lines ss answers.0) (sym parts)) in
    subst (λ (a : Answer). TookFront k first new a.printed) (sym answers.2)
    (front_longer k first new text (begin.0 ++ last) (check_text (looked_at known.dump known.layout) answers.0) whole
    (front_broke (Wrote-BrokeOff both so.wrote line.broke)))

-- a fault in a segment
pub check_cut : {K : Type 0} (k : sinks.Meaning K) (known : Known) (first old new : K) (before after : CheckCounts) (segment : ℕ)
    (fault : PutFault) → segment < 65536 → TakesBoth k → ChecksTo k known first old before segment →
    Steps k known segment before after old new (Err fault) → Checks k known first new (Err fault)
check_cut k known first old new before after segment faults.Input within both so steps =
    check_unread k known first old new before segment (omega arith) so steps
check_cut k known first old new before after segment faults.Output within both so steps =
    check_unwritten k known first old new before segment (omega arith) both so steps

-- all were checked, and the last line was written
pub check_done : {K : Type 0} (k : sinks.Meaning K) (known : Known) (first old new : K) (counts : CheckCounts) (segment : ℕ)
    (status : Status) → segment ≡ 65536 → TakesBoth k → ChecksTo k known first old counts segment →
    ((findings : List Finding) → HasCounted counts findings → status ≡ check_status findings) →
    Wrote k old new (check_line counts.segments counts.weak counts.bad) → Checks k known first new (Ok status)
check_done k known first old new counts segment status all both so status_is wrote =
    let looked = looked_all known segment all in
    let found = subst (λ (ss : List ℕ). FindInTurn known.dump known.layout known.zero_lost ss so.findings) looked so.found in
    let long = as_many known.dump known.layout known.zero_lost (looked_at known.dump known.layout) so.findings found in
    let line = last_line counts (looked_at known.dump known.layout) so.findings long so.counted in (
      check_answer (looked_at known.dump known.layout) so.findings,
      (so.findings, found, refl),
      status_is so.findings so.counted,
      subst (λ (text : List ℕ). Wrote k first new text)
          (ap (λ (ss : List ℕ). finding_lines ss so.findings ++ check_line counts.segments counts.weak counts.bad) looked
          ∙ ap (λ (text : List ℕ). finding_lines (looked_at known.dump known.layout) so.findings ++ text) line)
          (Wrote-Wrote both so.wrote wrote),
    )

-- a write failed in the last line
pub check_broke : {K : Type 0} (k : sinks.Meaning K) (known : Known) (first old new : K) (counts : CheckCounts) (segment : ℕ) →
    segment ≡ 65536 → TakesBoth k → ChecksTo k known first old counts segment →
    BrokeOff k old new (check_line counts.segments counts.weak counts.bad) → Checks k known first new (Err faults.Output)
check_broke k known first old new counts segment all both so broke = λ answer answers.
    let looked = looked_all known segment all in
    let found = subst (λ (ss : List ℕ). FindInTurn known.dump known.layout known.zero_lost ss so.findings) looked so.found in
    let same : so.findings ≡ answers.0 =
    one_in_turn known.dump known.layout known.zero_lost (looked_at known.dump known.layout) so.findings answers.0 found answers.1 in
    let long = as_many known.dump known.layout known.zero_lost (looked_at known.dump known.layout) so.findings found in
    let line = last_line counts (looked_at known.dump known.layout) so.findings long so.counted in
    let whole : finding_lines (looked_below known segment) so.findings ++ check_line counts.segments counts.weak counts.bad
    ≡ check_text (looked_at known.dump known.layout) answers.0 =
    ap (λ (ss : List ℕ). finding_lines ss so.findings ++ check_line counts.segments counts.weak counts.bad) looked
    ∙ ap (λ (text : List ℕ). finding_lines (looked_at known.dump known.layout) so.findings ++ text) line
    ∙ ap (check_text (looked_at known.dump known.layout)) same in
    subst (λ (a : Answer). TookFront k first new a.printed) (sym answers.2)
    (subst (λ (text : List ℕ). TookFront k first new text) whole (front_broke (Wrote-BrokeOff both so.wrote broke)))

-- ---- few are counted

pub few_more : (before after : CheckCounts) (segment : ℕ) (finding : Finding) →
    ((findings : List Finding) → HasCounted before findings → HasCounted after (findings ++ finding ∷ [])) → HasFew before segment →
    HasFew after (segment + 1)
few_more before after segment finding counted few = (
  few.0 ++ finding ∷ [],
  counted few.0 few.1,
  omega (arith, length-append few.0 (finding ∷ []), few.2),
)
