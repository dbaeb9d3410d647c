-- All segments were looked at, and the line of the counts was written, or a fault cut that off.
use Rattle.std.proofs.Common.{◌≡◌, ℕ, List, [], ◌∷◌, ◌++◌, length, refl, sym, ap, ◌∙◌, subst, arith, Err, append-nil}
use Rattle.qic_base.specs.Cartridge.{Cartridge}
use Rattle.qic_base.proofs.Steps.{Tells-map, Done-nothing}
use Rattle.qic_base.proofs.Writing.{TakesBoth}
use Rattle.qic_base.specs.Acts.{Act, steps_of, text_of, Outside, Failing, TapeFails, SinkFails, Went, Cut}
use Rattle.qic_base.specs.Alone.{no_source, around}
use Rattle.qic_base.proofs.Joins.{text_of-append, went_both, went_then_cut, cut_is_longer, sink_cut_one}
use Rattle.cartridge_spec.specs.Table.{Entry}
use Rattle.command_spec.specs.Scrub.{Looked, Counts, looked_at, unread_count, counts_line, Finding, FindInTurn, ScrubsAs, IsTextFor}
use Rattle.command_spec.specs.Scrub.{finding_acts, sayings_of, whole_segment, looked_volumes}
use Rattle.command_laws.specs.ScrubTerms.{last_act, counts_for}
use Rattle.command_spec.specs.declared.depth.Depth.{Depth}
use Rattle.command_laws.proofs.ScrubOneWrong.{form_is_function}
use Rattle.qic_base.specs.declared.store_fault.StoreFault.{StoreFault}
use Rattle.segment_mending.specs.declared.progress.Progress.{Progress}
use Rattle.segment_mending.specs.declared.report.ScrubReport.{ScrubReport}
use Rattle.segment_mending.specs.Looking.{Counted, HasLooked, LookingCut, Looks}
use Rattle.segment_mending.specs.Mending.{reported, HasScrubbed, ScrubCut, ScrubEnds}
use Rattle.segment_mending.proofs.Joining.{looked_both}
use Rattle.qic_base.specs.Sink as sinks
use Rattle.qic_base.specs.SinkCalls as sink_calls
use Rattle.qic_base.specs.Tape as tapes
use Rattle.qic_base.specs.declared.store_fault.StoreFault.TheVariants as fault

-- nothing is counted yet
abbrev pub none_counted : Counts
none_counted = record { segments = 0; mended = 0; unreadable = 0 }

-- and nothing done
abbrev pub not_begun : Depth → Progress
not_begun depth = record { depth = depth; report = record { segments = 0; mended = 0; unreadable = 0 } }

-- the segments in front were looked at, and then those of the volumes
pub all_looked : {T K : Type 0} {t : tapes.Meaning T} {k : sinks.Meaning K} → TakesBoth k → (words : List ℕ) (entries : List Entry)
    {a b d : Outside T (Unit {0}) K} {before between after : Progress} →
    HasLooked t k (whole_segment 0 ∷ whole_segment 1 ∷ whole_segment 2 ∷ []) a b before between →
    HasLooked t k (looked_volumes words entries) b d between after → HasLooked t k (looked_at words entries) a d before after
all_looked both words entries {a} {b} {d} {before} {between} {after} front volumes =
    looked_both both (whole_segment 0 ∷ whole_segment 1 ∷ whole_segment 2 ∷ []) (looked_volumes words entries) a b d before between after
    front volumes

counts_equal : (a b : Counts) → a.segments ≡ b.segments → a.mended ≡ b.mended → a.unreadable ≡ b.unreadable → a ≡ b
counts_equal a b segments mended unreadable =
    ap (λ (n : ℕ). record { segments = n; mended = a.mended; unreadable = a.unreadable }) segments
    ∙ ap (λ (n : ℕ). record { segments = b.segments; mended = n; unreadable = a.unreadable }) mended
    ∙ ap (λ (n : ℕ). record { segments = b.segments; mended = b.mended; unreadable = n }) unreadable

-- what was counted from nothing on is what is counted of the acts
counted_all : (c : Cartridge) (looked : List Looked) (findings : List Finding) (acts : List Act) (counts : Counts) →
    acts ≡ finding_acts c looked findings →
    Counted looked findings acts none_counted counts → counts ≡ counts_for c looked findings
counted_all c looked findings acts counts are counted =
    counts_equal counts (counts_for c looked findings) (let e = counted.segments in omega arith)
    (let e = counted.mended in
    let f : length (steps_of acts) ≡ length (steps_of (finding_acts c looked findings)) =
    ap (λ (xs : List Act). length (steps_of xs)) are in omega arith)
    (let e = counted.unreadable in omega arith)

module _ {T K : Type 0} {t : tapes.Meaning T} {k : sinks.Meaning K} {depth : Depth} (words : List ℕ) (entries : List Entry)
    {a b : Outside T (Unit {0}) K} {form : Depth} {report : ScrubReport}
    (looked : HasLooked t k (looked_at words entries) a b (not_begun depth) (record { depth = form; report = report })) where
  scrubs : (c : Cartridge) → FindInTurn depth c (looked_at words entries) looked.findings →
      looked.acts ≡ finding_acts c (looked_at words entries) looked.findings →
      ScrubsAs depth c words entries (looked.acts ++ last_act (reported report) ∷ [])
  scrubs c found are = record {
    findings = looked.findings;
    found = found;
    are = ap (λ (acts : List Act). acts ++ last_act (reported report) ∷ []) are
        ∙ ap (λ (counts : Counts). finding_acts c (looked_at words entries) looked.findings ++ last_act counts ∷ [])
        (counted_all c (looked_at words entries) looked.findings looked.acts (reported report) are looked.counted);
  }

  text : IsTextFor depth (looked_at words entries) (reported report) (text_of (looked.acts ++ last_act (reported report) ∷ []))
  text = record {
    findings = looked.findings;
    may = looked.are.may;
    lines = text_of-append looked.acts (last_act (reported report) ∷ [])
        ∙ ap (λ (xs : List ℕ). text_of looked.acts ++ xs) (append-nil (counts_line (reported report)))
        ∙ ap (λ (xs : List ℕ). xs ++ counts_line (reported report)) looked.are.text;
    segments = (let e = looked.counted.segments in omega arith);
    unreadable = (let e = looked.counted.unreadable in omega arith);
  }

  -- the line was written
  pub line_written : TakesBoth k → (after : K) → sinks.Wrote k b.sink after (counts_line (reported report)) →
      HasScrubbed t k depth words entries a (around b.tape after) report
  unfolding scrubs
  line_written both after wrote =
      let last : Act = last_act (reported report) in
      let went : Went t no_source k b (around b.tape after) (last ∷ []) = record {
        did = Done-nothing t b.tape;
        wrote = subst (sinks.Wrote k b.sink after) (sym (append-nil (counts_line (reported report)))) wrote;
        source_later = omega arith;
      } in
      record {
        acts = looked.acts ++ last ∷ [];
        went = went_both t no_source k both a b (around b.tape after) looked.acts (last ∷ []) looked.went went;
        told = Tells-map t a.tape
            (λ c. FindInTurn depth c (looked_at words entries) looked.findings
            × (looked.acts ≡ finding_acts c (looked_at words entries) looked.findings))
            (λ c. (scrubs : ScrubsAs depth c words entries (looked.acts ++ last ∷ []))
            × (reported report ≡ counts_for c (looked_at words entries) scrubs.findings))
            (λ c here. (
              scrubs c here.0 here.1,
              counted_all c (looked_at words entries) looked.findings looked.acts (reported report) here.1 looked.counted,
            ))
            looked.are.told;
        text = text;
      }

  -- the sink failed in it
  pub line_cut : TakesBoth k → (after : K) → sink_calls.BrokeOff k b.sink after (counts_line (reported report)) →
      ScrubCut t k depth words entries a (around b.tape after) SinkFails
  line_cut both after broke =
      let last : Act = last_act (reported report) in
      let cut : Cut t no_source k b (around b.tape after) (last ∷ []) SinkFails =
      sink_cut_one t no_source k b (around b.tape after) last (Done-nothing t b.tape) broke (omega arith) in
      let whole : Cut t no_source k a (around b.tape after) (looked.acts ++ last ∷ []) SinkFails =
      went_then_cut t no_source k both a b (around b.tape after) looked.acts (last ∷ []) SinkFails looked.went cut in
      record {
        told = Tells-map t a.tape
            (λ c. FindInTurn depth c (looked_at words entries) looked.findings
            × (looked.acts ≡ finding_acts c (looked_at words entries) looked.findings))
            (λ c. (acts : List Act) → ScrubsAs depth c words entries acts → Cut t no_source k a (around b.tape after) acts SinkFails)
            (λ c here acts others.
            subst (λ (xs : List Act). Cut t no_source k a (around b.tape after) xs SinkFails)
            (form_is_function depth c words entries (looked.acts ++ last ∷ []) acts (scrubs c here.0 here.1) others) whole)
            looked.are.told;
        acts = looked.acts ++ last ∷ [];
        counts = reported report;
        cut = whole;
        front = (
          [],
          subst (IsTextFor depth (looked_at words entries) (reported report))
              (sym (append-nil (text_of (looked.acts ++ last ∷ [])))) text,
        );
      }

module _ {T K : Type 0} (t : tapes.Meaning T) (k : sinks.Meaning K) (depth : Depth) where
  -- a fault cut the looking off
  all_cut : (words : List ℕ) (entries : List Entry) (a b : Outside T (Unit {0}) K) (failing : Failing) →
      LookingCut t k depth (looked_at words entries) a b failing → ScrubCut t k depth words entries a b failing
  all_cut words entries a b failing cut = record {
    told = Tells-map t a.tape
        (λ c. (findings : List Finding) → FindInTurn depth c (looked_at words entries) findings →
        Cut t no_source k a b (finding_acts c (looked_at words entries) findings) failing)
        (λ c. (acts : List Act) → ScrubsAs depth c words entries acts → Cut t no_source k a b acts failing)
        (λ c here acts scrubs.
        let all : List Looked = looked_at words entries in
        subst (λ (xs : List Act). Cut t no_source k a b xs failing) (sym scrubs.are)
        (cut_is_longer t no_source k a b (finding_acts c all scrubs.findings) (last_act (counts_for c all scrubs.findings) ∷ []) failing
        (here scrubs.findings scrubs.found)))
        cut.told;
    acts = cut.acts;
    counts = record {
      segments = length (looked_at words entries);
      mended = 0;
      unreadable = unread_count (looked_at words entries)
          (sayings_of cut.findings);
    };
    cut = cut.cut;
    front = (
      counts_line (record {
        segments = length (looked_at words entries);
        mended = 0;
        unreadable = unread_count (looked_at words entries)
            (sayings_of cut.findings);
      }),
      record {
        findings = cut.findings;
        may = cut.may;
        lines = ap (λ (xs : List ℕ). xs ++ counts_line
            (record {
              segments = length (looked_at words entries);
              mended = 0;
              unreadable = unread_count (looked_at words entries)
                  (sayings_of cut.findings);
            })) cut.text;
        segments = refl;
        unreadable = refl;
      },
    );
  }

  pub ends_cut : (words : List ℕ) (entries : List Entry) (a b : Outside T (Unit {0}) K) (after : Progress) (why : StoreFault) →
      Looks t k (looked_at words entries) a b (not_begun depth) after (Err why) → ScrubEnds t k depth words entries a b (Err why)
  ends_cut words entries a b after fault.Sink cut = all_cut words entries a b SinkFails cut
  ends_cut words entries a b after fault.Tape cut = all_cut words entries a b TapeFails cut
  ends_cut words entries a b after other cut = absurd cut
