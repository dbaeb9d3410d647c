-- One segment looked at: it was read, and then mended, or its line was printed.
use Rattle.std.proofs.Common.{◌≡◌, ℕ, ◌+◌, ◌≤◌, Bool, true, false, cond, List, [], ◌∷◌, ◌++◌, length, refl, sym, ap, ◌∙◌, subst, arith}
use Rattle.std.proofs.Common.{Option, None, Some, Result, Ok, Err, OnOk, append-nil, nat_lt}
use Rattle.qic_base.specs.Cartridge.{Cartridge}
use Rattle.qic_base.specs.Step.{Step}
use Rattle.qic_base.proofs.Steps.{Tells-map}
use Rattle.qic_base.proofs.Writing.{TakesBoth}
use Rattle.qic_base.specs.Acts.{Act, Outside, Failing, TapeFails, SinkFails, Went, Cut}
use Rattle.qic_base.specs.Alone.{no_source, around}
use Rattle.qic_base.proofs.Joins.{went_both, went_then_cut, cut_is_longer, sink_cut_one}
use Rattle.cartridge_spec.specs.Says.{Saying, Data, LostSectors, Mismatch}
use Rattle.cartridge_spec.specs.Shape.{usable_count}
use Rattle.cartridge_laws.specs.Segment.{sectors_of}
use Rattle.cartridge_laws.specs.Writes.{named_writes}
use Rattle.cartridge_laws.proofs.Places.{count_below}
use Rattle.command_spec.specs.Scrub.{Looked, Counts, reads, steps_in, fault_line, line_in, Finding, FindInTurn, finding_acts, line_for}
use Rattle.command_spec.specs.Scrub.{steps_for, without, wrong_line, IsSearched, MayFind}
use Rattle.command_spec.specs.declared.depth.Depth.{Depth}
use Rattle.command_laws.proofs.ScrubNamed.{steps_by_places, count_of_named}
use Rattle.command_laws.proofs.ScrubOneWrong.{finds_one}
use Rattle.segment_mending.specs.Lines.{header_line}
use Rattle.segment_io.proofs.Going.{tells_always}
use Rattle.qic_base.specs.declared.store_fault.StoreFault.{StoreFault}
use Rattle.segment_mending.specs.declared.locating.Found.TheVariants.{Reads, Fails}
use Rattle.segment_mending.specs.declared.locating.Unread.{Unread}
use Rattle.segment_mending.specs.Locating.{data_in, unread_saying, finding_of, IsFoundBy, MayBeWrong, MayMend, mending, GoesAs}
use Rattle.segment_mending.specs.declared.progress.Progress.{Progress}
use Rattle.segment_mending.specs.Looking.{AreActs, Counted, LookingCut, Looks, with_mended, with_unread}
use Rattle.segment_mending.specs.Mending.{reported}
use Rattle.qic_base.specs.Sink as sinks
use Rattle.qic_base.specs.SinkCalls as sink_calls
use Rattle.qic_base.specs.Tape as tapes
use Rattle.qic_base.specs.TapeCalls as tape_calls
use Rattle.qic_base.specs.declared.store_fault.StoreFault.TheVariants as fault

-- ---- the act

abbrev act_of : List Step → List ℕ → Act
act_of steps text = record { steps = steps; text = text }

no_line : (l : Looked) (s : Saying) → reads l s ≡ true → line_in l s ≡ []
no_line l s can = ap (λ (b : Bool). cond b [] (cond (nat_lt l.segment 2) (header_line l.segment) (fault_line l.segment s))) can

no_steps : (c : Cartridge) (l : Looked) (s : Saying) → reads l s ≡ false → steps_in c l s ≡ []
no_steps c l (Data sectors) not_read = cc
no_steps c l (LostSectors n) not_read = refl
no_steps c l Mismatch not_read = refl

-- that of a segment that does not read
abbrev pub telling : Looked → Saying → Act
telling l s = act_of [] (line_in l s)

-- the line of a wrong sector alone
line_of_wrong : (l : Looked) (s : Saying) (wrong : Option ℕ) → reads l s ≡ true →
    wrong_line l.segment wrong ≡ wrong_line l.segment wrong ++ line_in l s
line_of_wrong l s wrong can =
    sym (ap (λ (line : List ℕ). wrong_line l.segment wrong ++ line) (no_line l s can) ∙ append-nil (wrong_line l.segment wrong))

may_find : (depth : Depth) (l : Looked) (s : Saying) (wrong : Option ℕ) → reads l s ≡ true → MayBeWrong (IsSearched depth l) wrong →
    MayFind depth l s wrong
may_find depth l s None can may = tt
may_find depth l s (Some sector) can may = (may.0, can, may.1)

pub are_mended : {T : Type 0} (t : tapes.Meaning T) (a : T) (depth : Depth) (l : Looked) (places : ℕ) (wrong : Option ℕ)
    (sectors : List (List ℕ)) →
    tape_calls.Tells t a (λ c. IsFoundBy (IsSearched depth l) c l (Reads places wrong) sectors) →
    MayMend (IsSearched depth l) l places wrong sectors →
    usable_count l.mask ≤ length sectors →
    AreActs t a depth (l ∷ []) (finding_of l (Reads places wrong) sectors ∷ []) (mending l places wrong sectors ∷ [])
are_mended t a depth l places wrong sectors told may room =
    let f : Finding = finding_of l (Reads places wrong) sectors in
    let text : wrong_line l.segment wrong ≡ line_for l f = line_of_wrong l f.saying wrong may.can_be_read in
    record {
      told = Tells-map t a (λ c. IsFoundBy (IsSearched depth l) c l (Reads places wrong) sectors)
          (λ c. FindInTurn depth c (l ∷ []) (f ∷ []) × (mending l places wrong sectors ∷ [] ≡ finding_acts c (l ∷ []) (f ∷ [])))
          (λ c is.
          let steps : named_writes l.segment l.mask places sectors ≡ steps_for c l f =
          sym (steps_by_places (without wrong l c) l places sectors may.code room may.can_be_read is.places) in (
            (is.finds, tt),
            ap (λ (steps : List Step). act_of steps (wrong_line l.segment wrong) ∷ []) steps
                ∙ ap (λ (text : List ℕ). act_of (steps_for c l f) text ∷ []) text,
          ))
          told;
      may = (may_find depth l f.saying wrong may.can_be_read may.may, tt);
      text = ap (λ (text : List ℕ). text ++ []) text;
    }

pub are_unread : {T : Type 0} (t : tapes.Meaning T) (a : T) (depth : Depth) (l : Looked) (why : Unread) (sectors : List (List ℕ)) →
    tape_calls.Tells t a (λ c. IsFoundBy (IsSearched depth l) c l (Fails why) sectors) → reads l (unread_saying l why sectors) ≡ false →
    AreActs t a depth (l ∷ []) (finding_of l (Fails why) sectors ∷ []) (telling l (unread_saying l why sectors) ∷ [])
are_unread t a depth l why sectors told not_read =
    let s : Saying = unread_saying l why sectors in
    let f : Finding = finding_of l (Fails why) sectors in
    record {
      told = Tells-map t a (λ c. IsFoundBy (IsSearched depth l) c l (Fails why) sectors)
          (λ c. FindInTurn depth c (l ∷ []) (f ∷ []) × (telling l s ∷ [] ≡ finding_acts c (l ∷ []) (f ∷ [])))
          (λ c is. ((is.finds, tt), ap (λ (steps : List Step). act_of steps (line_in l s) ∷ []) (sym (no_steps c l s not_read))))
          told;
      may = (tt, tt);
      text = refl;
    }

pub counted_mended : (l : Looked) (places : ℕ) (wrong : Option ℕ) (sectors : List (List ℕ)) (before after : Counts) →
    reads l (data_in l sectors) ≡ true → after ≡ with_mended (length (sectors_of places)) before →
    Counted (l ∷ []) (finding_of l (Reads places wrong) sectors ∷ []) (mending l places wrong sectors ∷ []) before after
counted_mended l places wrong sectors before after can is =
    let steps : length (named_writes l.segment l.mask places sectors ++ []) ≡ length (sectors_of places) =
    ap (λ (steps : List Step). length steps) (append-nil (named_writes l.segment l.mask places sectors))
    ∙ count_of_named l.segment l.mask places sectors in
    let none : ◌≡◌ {A = ℕ} (cond (reads l (data_in l sectors)) 0 1) 0 = ap (λ (b : Bool). cond b 0 1) can in
    let most : length (sectors_of places) ≤ 32 = count_below places 32 in
    record {
      segments = ap (λ (x : Counts). x.segments) is;
      mended = (let e : after.mended ≡ before.mended + length (sectors_of places) = ap (λ (x : Counts). x.mended) is in omega arith);
      unreadable = (let e : after.unreadable ≡ before.unreadable = ap (λ (x : Counts). x.unreadable) is in omega arith);
      few = omega arith;
    }

pub counted_unread : (l : Looked) (why : Unread) (sectors : List (List ℕ)) (before after : Counts) →
    reads l (unread_saying l why sectors) ≡ false → after ≡ with_unread before →
    Counted (l ∷ []) (finding_of l (Fails why) sectors ∷ []) (telling l (unread_saying l why sectors) ∷ []) before after
counted_unread l why sectors before after not_read is =
    let one : ◌≡◌ {A = ℕ} (cond (reads l (unread_saying l why sectors)) 0 1) 1 = ap (λ (b : Bool). cond b 0 1) not_read in
    record {
      segments = ap (λ (x : Counts). x.segments) is;
      mended = (let e : after.mended ≡ before.mended = ap (λ (x : Counts). x.mended) is in omega arith);
      unreadable = (let e : after.unreadable ≡ before.unreadable + 1 = ap (λ (x : Counts). x.unreadable) is in omega arith);
      few = omega arith;
    }

-- ---- runs

module _ {T K : Type 0} (t : tapes.Meaning T) (k : sinks.Meaning K) where
  -- steps that were done, and then a text
  pub goes_written : (a b : T) (s after : K) (act : Act) → tapes.Done t a b act.steps → sinks.Wrote k s after act.text →
      Went t no_source k (around a s) (around b after) (act ∷ [])
  goes_written a b s after act did wrote = record {
    did = subst (tapes.Done t a b) (sym (append-nil act.steps)) did;
    wrote = subst (sinks.Wrote k s after) (sym (append-nil act.text)) wrote;
    source_later = omega arith;
  }

  -- of which a front was written
  pub goes_unwritten : (a b : T) (s after : K) (act : Act) → tapes.Done t a b act.steps → sink_calls.BrokeOff k s after act.text →
      Cut t no_source k (around a s) (around b after) (act ∷ []) SinkFails
  goes_unwritten a b s after act did broke = sink_cut_one t no_source k (around a s) (around b after) act did broke (omega arith)

  -- steps that broke off
  pub goes_broken : ((x : K) → k.took x [] x) → (a b : T) (s : K) (act : Act) → tapes.Broke t a b act.steps →
      Cut t no_source k (around a s) (around b s) (act ∷ []) TapeFails
  goes_broken nothing a b s act broke = record {
    front = [];
    rest = act ∷ [];
    parts = refl;
    broke = broke;
    here = λ held left told now. broke.torn held left told now;
    wrote = record { took = nothing s; later = omega arith };
    source_later = omega arith;
  }

  -- behind a reading
  pub goes_behind : ((x : K) → k.took x [] x) → TakesBoth k → (a m : T) (s : K) (c : Outside T (Unit {0}) K) (act : Act)
      (result : Result (Unit {0}) StoreFault) →
      tapes.Done t a m [] → GoesAs t k act (around m s) c result → GoesAs t k act (around a s) c result
  goes_behind nothing both a m s c act result read = by_answer result
    where
      first : Went t no_source k (around a s) (around m s) []
      first = record { did = read; wrote = record { took = nothing s; later = omega arith }; source_later = omega arith }

      by_answer : (r : Result (Unit {0}) StoreFault) → GoesAs t k act (around m s) c r → GoesAs t k act (around a s) c r
      by_answer (Ok done) went = went_both t no_source k both (around a s) (around m s) c [] (act ∷ []) first went
      by_answer (Err fault.Sink) cut = went_then_cut t no_source k both (around a s) (around m s) c [] (act ∷ []) SinkFails first cut
      by_answer (Err fault.Tape) cut = went_then_cut t no_source k both (around a s) (around m s) c [] (act ∷ []) TapeFails first cut
      by_answer (Err other) cut = absurd cut

  -- the reading failed
  pub read_cut : ((x : K) → k.took x [] x) → (depth : Depth) (l : Looked) (a b : T) (s : K) → tapes.Broke t a b [] →
      LookingCut t k depth (l ∷ []) (around a s) (around b s) TapeFails
  read_cut nothing depth l a b s broke =
      let none : Cut t no_source k (around a s) (around b s) [] TapeFails = record {
        front = [];
        rest = [];
        parts = refl;
        broke = broke;
        here = λ held left told now. broke.torn held left told now;
        wrote = record { took = nothing s; later = omega arith };
        source_later = omega arith;
      } in
      record {
        told = tells_always t a
            (λ c. (findings : List Finding) → FindInTurn depth c (l ∷ []) findings →
            Cut t no_source k (around a s) (around b s) (finding_acts c (l ∷ []) findings) TapeFails)
            (λ c findings found. cut_is_longer t no_source k (around a s) (around b s) []
            (finding_acts c (l ∷ []) findings) TapeFails none);
        findings = record { saying = Mismatch; wrong = None } ∷ [];
        acts = telling l Mismatch ∷ [];
        may = (tt, tt);
        text = refl;
        cut = cut_is_longer t no_source k (around a s) (around b s) [] (telling l Mismatch ∷ []) TapeFails none;
      }

  -- an act that is that of the segment's finding is cut off whatever the segment is found to be
  pub act_cut : (depth : Depth) (l : Looked) (a b : Outside T (Unit {0}) K) (failing : Failing) (f : Finding) (act : Act) →
      AreActs t a.tape depth (l ∷ []) (f ∷ []) (act ∷ []) → Cut t no_source k a b (act ∷ []) failing →
      LookingCut t k depth (l ∷ []) a b failing
  act_cut depth l a b failing f act are cut = record {
    told = Tells-map t a.tape (λ c. FindInTurn depth c (l ∷ []) (f ∷ []) × (act ∷ [] ≡ finding_acts c (l ∷ []) (f ∷ [])))
        (λ c. (others : List Finding) → FindInTurn depth c (l ∷ []) others → Cut t no_source k a b (finding_acts c (l ∷ []) others) failing)
        (λ c here others found. by_others c here others found)
        are.told;
    findings = f ∷ [];
    acts = act ∷ [];
    may = are.may;
    text = are.text;
    cut = cut;
  }
    where
      by_others : (c : Cartridge) → FindInTurn depth c (l ∷ []) (f ∷ []) × (act ∷ [] ≡ finding_acts c (l ∷ []) (f ∷ [])) →
          (others : List Finding) → FindInTurn depth c (l ∷ []) others → Cut t no_source k a b (finding_acts c (l ∷ []) others) failing
      by_others c here [] found = absurd found
      by_others c here (g ∷ []) found =
          let same : f ≡ g = finds_one depth c l f g here.0.0 found.0 in
          subst (λ (acts : List Act). Cut t no_source k a b acts failing)
          (here.1 ∙ ap (λ (x : Finding). finding_acts c (l ∷ []) (x ∷ [])) same) cut
      by_others c here (g ∷ h ∷ hs) found = absurd (found.1)

  -- by the answer
  pub looks_once : (l : Looked) (a b : Outside T (Unit {0}) K) (f : Finding) (act : Act) (before after : Progress)
      (result : Result (Unit {0}) StoreFault) → AreActs t a.tape before.depth (l ∷ []) (f ∷ []) (act ∷ []) → GoesAs t k act a b result →
      OnOk result (Counted (l ∷ []) (f ∷ []) (act ∷ []) (reported before.report) (reported after.report)) → after.depth ≡ before.depth →
      Looks t k (l ∷ []) a b before after result
  looks_once l a b f act before after (Ok done) are went counted same = record {
    findings = f ∷ [];
    acts = act ∷ [];
    are = are;
    went = went;
    counted = counted;
    depth = same;
  }
  looks_once l a b f act before after (Err fault.Sink) are cut counted same = act_cut before.depth l a b SinkFails f act are cut
  looks_once l a b f act before after (Err fault.Tape) are cut counted same = act_cut before.depth l a b TapeFails f act are cut
  looks_once l a b f act before after (Err other) are cut counted same = absurd cut
