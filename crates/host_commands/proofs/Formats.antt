-- How the formatting of a cartridge ends.
use Rattle.std.proofs.Common.{◌≡◌, ◌↔◌, ℕ, ◌*◌, Bool, true, false, List, [], ◌++◌, Option, Some, None, IfSome, Err, refl, sym, ap, ◌∙◌}
use Rattle.std.proofs.Common.{subst, inl, inr, Result}
use Rattle.std.proofs.lemmas.Bool.{lt-ltb}
use Rattle.std.proofs.lemmas.List.{append-nil, append_assoc}
use Rattle.qic_base.specs.Cartridge.{Cartridge}
use Rattle.qic_base.specs.declared.tape.TapeInfo.{TapeInfo}
use Rattle.qic_base.specs.declared.sink.SinkFailed.{SinkFailed}
use Rattle.qic_base.proofs.Steps.{Done-Done, Done-Broke}
use Rattle.cartridge_spec.specs.Shape.{marked_sectors}
use Rattle.cartridge_spec.specs.Formatting.{MarksDefects, clearing_steps, copy_writes, format_steps, IsFirstDefectInFront}
use Rattle.cartridge_spec.specs.Formatting.{HasNoDefectInFront, IsFreshWith}
use Rattle.cartridge_spec.specs.Says.{with_parity}
use Rattle.cartridge_laws.specs.HeaderTerms.{IsFreshArea}
use Rattle.cartridge_laws.proofs.FreshFront.{first_defect_is_none}
use Rattle.cartridge_laws.proofs.FreshMarks.{fresh_area_is_one}
use Rattle.formatter.specs.declared.fault.FormatFault.{FormatFault}
use Rattle.formatter.specs.declared.formatting.FormatReport.{FormatReport}
use Rattle.formatter.specs.Formats.{Formats, HasFormatted}
use Rattle.command_spec.specs.declared.words.Words.TheVariants.{Format}
use Rattle.command_spec.specs.declared.status.Status.{Status}
use Rattle.command_spec.specs.Lines.{formatted_line}
use Rattle.command_spec.specs.Outcome.{CommandOutcome, refused}
use Rattle.hand_commands.specs.Outcome.{first_steps}
use Rattle.command_laws.specs.Outcomes.{cleared, formatted}
use Rattle.command_spec.specs.Single.{FormatOutcome}
use Rattle.host_commands.specs.Format.{format_status}
use Rattle.host_commands.proofs.Mounted.{BeginsSteps}
use Rattle.host_commands.specs.Opening.{NoStart}
use Rattle.hand_commands.specs.Writing.{printed_status}
use Rattle.command_laws.specs.RunTerms.{EndsBlind}
use Rattle.hand_commands.proofs.Endings.{IsBlind, printed, turned_down, turned_behind, cut_off, cut_off_first}
use Rattle.command_laws.proofs.CommandEndings.{Rules}
use Rattle.segment_io.proofs.Going.{done_moved}
use Rattle.volume_store.proofs.Started.{Present, told_known, told_known_beside, told_at_start}
use Rattle.qic_base.specs.CartridgeTerms.{IsInfoOf}
use Rattle.qic_base.specs.Sink as sinks
use Rattle.qic_base.specs.SinkCalls as sink_calls
use Rattle.qic_base.specs.Tape as tapes
use Rattle.formatter.specs.declared.fault.FormatFault.TheVariants as fault
use Rattle.command_spec.specs.declared.status.Status.TheVariants as status

-- ---- what is told of the cartridge

pub not_true : (b : Bool) → (b ≡ true → ⊥) → b ≡ false
not_true true other = absurd (other refl)
not_true false other = refl

-- ---- outcomes

protected_is : (label : List ℕ) (date : ℕ) (info : TapeInfo) (held : Option Cartridge) → info.protected ≡ true → IsInfoOf (Some info) held →
    FormatOutcome label date held (refused status.Protected)
protected_is label date info None mark known = cc
protected_is label date info (Some c) mark known =
    let same : info ≡ c.info = cc in inl (ap (λ (i : TapeInfo). i.protected) (sym same) ∙ mark, refl)

cleared_is : (label : List ℕ) (date : ℕ) (info : TapeInfo) (segment : ℕ) (held : Option Cartridge) → info.protected ≡ false →
    IsInfoOf (Some info) held →
    IfSome held (λ c. IsFirstDefectInFront c segment) → FormatOutcome label date held (cleared info.segments_per_track segment)
cleared_is label date info segment None mark known first = cc
cleared_is label date info segment (Some c) mark known first =
    let same : info ≡ c.info = cc in
    inr (inl (
      ap (λ (i : TapeInfo). i.protected) (sym same) ∙ mark,
      (segment, first, ap (λ (i : TapeInfo). cleared i.segments_per_track segment) same),
    ))

-- the words of the map are just the defects, of which none lies in front
abbrev AreMarks : List ℕ → Cartridge → Type 0
AreMarks words c = MarksDefects c words × HasNoDefectInFront c

fresh_with : (label : List ℕ) (date : ℕ) (info : TapeInfo) (words : List ℕ) (area : List (List ℕ)) (c : Cartridge) → info ≡ c.info →
    IsFreshArea info.segments_per_track label date words area →
    AreMarks words c → IsFreshWith c label date words area
fresh_with label date info words area c same fresh marks =
    let here : IsFreshArea c.info.segments_per_track label date words area =
    subst (λ (i : TapeInfo). IsFreshArea i.segments_per_track label date words area) same fresh in
    record { size = here.size; spells = here.spells; marks = marks.0 }

formatted_is : (label : List ℕ) (date : ℕ) (info : TapeInfo) (words : List ℕ) (area : List (List ℕ)) (held : Option Cartridge) →
    info.protected ≡ false →
    IsFreshArea info.segments_per_track label date words area → IsInfoOf (Some info) held → IfSome held (AreMarks words) →
    FormatOutcome label date held (formatted info.segments_per_track words area)
formatted_is label date info words area None mark fresh known marks = cc
formatted_is label date info words area (Some c) mark fresh known marks =
    let same : info ≡ c.info = cc in
    inr (inr (
      ap (λ (i : TapeInfo). i.protected) (sym same) ∙ mark,
      marks.1,
      (
        words,
        (
          area,
          fresh_with label date info words area c same fresh marks,
          ap (λ (i : TapeInfo). formatted i.segments_per_track words area) same,
        ),
      ),
    ))

-- ---- fronts of their steps

clearing_begins : (label : List ℕ) (date : ℕ) (info : TapeInfo) (held : Option Cartridge) (outcome : CommandOutcome) →
    info.protected ≡ false → IsInfoOf (Some info) held →
    FormatOutcome label date held outcome → BeginsSteps (clearing_steps info.segments_per_track) outcome
clearing_begins label date info None outcome mark known plain = cc
clearing_begins label date info (Some c) outcome mark known (inl plain) =
    let same : info ≡ c.info = cc in let other = ap (λ (i : TapeInfo). i.protected) same in let is = plain.0 in absurd (cc)
clearing_begins label date info (Some c) outcome mark known (inr (inl (unlocked, (segment, first, is)))) =
    let same : info ≡ c.info = cc in (
      [],
      append-nil (clearing_steps info.segments_per_track) ∙ ap (λ (i : TapeInfo). clearing_steps i.segments_per_track) same
          ∙ sym (ap (λ (o : CommandOutcome). first_steps o) is),
    )
clearing_begins label date info (Some c) outcome mark known (inr (inr (unlocked, none, (words, (area, fresh, is))))) =
    let same : info ≡ c.info = cc in (
      copy_writes 0 (with_parity area) ++ copy_writes 1 (with_parity area),
      sym (append_assoc (clearing_steps info.segments_per_track) (copy_writes 0 (with_parity area)) (copy_writes 1 (with_parity area)))
          ∙ ap (λ (i : TapeInfo). format_steps i.segments_per_track area) same ∙ sym (ap (λ (o : CommandOutcome). first_steps o) is),
    )

formatting_begins : (label : List ℕ) (date : ℕ) (info : TapeInfo) (words : List ℕ) (area : List (List ℕ)) (held : Option Cartridge)
    (outcome : CommandOutcome) → info.protected ≡ false →
    IsFreshArea info.segments_per_track label date words area → IsInfoOf (Some info) held → IfSome held (AreMarks words) →
    FormatOutcome label date held outcome →
    BeginsSteps (format_steps info.segments_per_track area) outcome
formatting_begins label date info words area None outcome mark fresh known marks plain = cc
formatting_begins label date info words area (Some c) outcome mark fresh known marks (inl plain) =
    let same : info ≡ c.info = cc in let other = ap (λ (i : TapeInfo). i.protected) same in let is = plain.0 in absurd (cc)
formatting_begins label date info words area (Some c) outcome mark fresh known marks (inr (inl (unlocked, (segment, first, is)))) =
    absurd (first_defect_is_none c (record { segment = segment; is_first = first }) marks.1)
formatting_begins label date info words area (Some c) outcome mark fresh known marks
    (inr (inr (unlocked, none, (others, (other, news, is))))) =
    let same : info ≡ c.info = cc in
    let one = fresh_area_is_one c label date words others area other (fresh_with label date info words area c same fresh marks) news in (
      [],
      append-nil (format_steps info.segments_per_track area) ∙ ap (λ (i : TapeInfo). format_steps i.segments_per_track area) same
          ∙ ap (format_steps c.info.segments_per_track) one.1 ∙ sym (ap (λ (o : CommandOutcome). first_steps o) is),
    )

-- ---- how it ends

is_blind : {label : List ℕ} {date : ℕ} → IsBlind (Format label date)
is_blind = record { reads = refl }

no_cartridge : (label : List ℕ) (date : ℕ) (o : Option (Option Cartridge)) → IfSome o (λ held. held ≡ None) →
    IfSome o (λ held. Rules (Format label date) held (refused status.NoCartridge))
no_cartridge label date None none = tt
no_cartridge label date (Some None) none = λ input. refl
no_cartridge label date (Some (Some c)) none = absurd (cc)

-- there was no start
pub format_unstarted : {T K : Type 0} (t : tapes.Meaning T) (k : sinks.Meaning K) (label : List ℕ) (date : ℕ) (a b : T) (x : K)
    (why : Status) → ((z : K) → k.took z [] z) →
    NoStart t a b why → EndsBlind t k (Format label date) a b x x why
format_unstarted t k label date a b x why nothing (inl (is, (did, none))) =
    rw is (turned_down t k (Format label date) is_blind a b x status.NoCartridge nothing refl refl (λ same. cc)
    (no_cartridge label date (t.told a) none) did)
format_unstarted t k label date a b x why nothing (inr (is, broke)) =
    rw is (cut_off_first t k (Format label date) is_blind a b x nothing broke)

pub format_faulted : {T K : Type 0} (t : tapes.Meaning T) (k : sinks.Meaning K) (label : List ℕ) (date : ℕ) (a b c : T) (x : K)
    (info : TapeInfo) (words : List ℕ) (f : FormatFault) →
    ((z : K) → k.took z [] z) → Present t a b info → (f ≡ fault.Protected) ↔ (info.protected ≡ true) →
    Formats t info.segments_per_track label date b c words (Err f) →
    EndsBlind t k (Format label date) a c x x (format_status f)
format_faulted t k label date a b c x info words fault.Protected nothing there marked came =
    turned_down t k (Format label date) is_blind a c x status.Protected nothing refl refl (λ is. cc)
    (told_known (t.told a) (Some info) (λ h. Rules (Format label date) h (refused status.Protected)) there.known
    (λ held known input. protected_is label date info held (marked.0 refl) known)) (Done-Done there.did (done_moved t b c came))
format_faulted t k label date a b c x info words (fault.DefectInFront segment) nothing there marked came =
    let unlocked : info.protected ≡ false = not_true info.protected (λ mark. let is = marked.1 mark in cc) in
    turned_behind t k (Format label date) is_blind a c x (status.DefectInFront segment) (clearing_steps info.segments_per_track) nothing
    (lt-ltb segment 3 came.in_front) refl (λ is. cc)
    (told_known_beside (t.told a) (Some info) (λ d. IsFirstDefectInFront d segment)
    (λ h. Rules (Format label date) h (cleared info.segments_per_track segment)) there.known
    (told_at_start t a b there.did (λ d. IsFirstDefectInFront d segment) came.first)
    (λ held known first input. cleared_is label date info segment held unlocked known first)) (Done-Done there.did came.did)
format_faulted t k label date a b c x info words fault.Tape nothing there marked (inl broke) =
    let unlocked : info.protected ≡ false = not_true info.protected (λ mark. let is = marked.1 mark in cc) in
    cut_off t k (Format label date) is_blind a c x (clearing_steps info.segments_per_track) nothing
    (told_known (t.told a) (Some info) (λ h. (outcome : CommandOutcome) → Rules (Format label date) h outcome →
    BeginsSteps (clearing_steps info.segments_per_track) outcome) there.known
    (λ held known outcome rules. clearing_begins label date info held outcome unlocked known (rules []))) (Done-Broke there.did broke)
format_faulted t k label date a b c x info words fault.Tape nothing there marked (inr came) =
    let unlocked : info.protected ≡ false = not_true info.protected (λ mark. let is = marked.1 mark in cc) in
    cut_off t k (Format label date) is_blind a c x (format_steps info.segments_per_track came.area) nothing
    (told_known_beside (t.told a) (Some info) (AreMarks words)
    (λ h. (outcome : CommandOutcome) → Rules (Format label date) h outcome →
    BeginsSteps (format_steps info.segments_per_track came.area) outcome) there.known
    (told_at_start t a b there.did (AreMarks words) came.marks)
    (λ held known marks outcome rules. formatting_begins label date info words came.area held outcome unlocked came.fresh known marks
    (rules []))) (Done-Broke there.did came.broke)

-- what the plain machine does where all went well
told_formatted : {T : Type 0} (t : tapes.Meaning T) (label : List ℕ) (date : ℕ) (a b c : T) (info : TapeInfo) (words : List ℕ)
    (report : FormatReport) → Present t a b info → info.protected ≡ false →
    (came : HasFormatted t info.segments_per_track label date b c words report) →
    IfSome (t.told a) (λ h. Rules (Format label date) h (formatted info.segments_per_track words came.area))
told_formatted t label date a b c info words report there unlocked came =
    told_known_beside (t.told a) (Some info) (AreMarks words)
    (λ h. Rules (Format label date) h (formatted info.segments_per_track words came.area)) there.known
    (told_at_start t a b there.did (AreMarks words) came.marks)
    (λ held known marks input. formatted_is label date info words came.area held unlocked came.fresh known marks)

line_is : {T : Type 0} (t : tapes.Meaning T) (label : List ℕ) (date n : ℕ) (b c : T) (words : List ℕ) (report : FormatReport) →
    HasFormatted t n label date b c words report →
    formatted_line report.segments report.bad ≡ formatted_line (28 * n) (marked_sectors words)
line_is t label date n b c words report came =
    ap (λ (m : ℕ). formatted_line m report.bad) came.segments ∙ ap (formatted_line (28 * n)) came.bad

pub format_printed : {T K : Type 0} (t : tapes.Meaning T) (k : sinks.Meaning K) (label : List ℕ) (date : ℕ) (a b c : T) (x y : K)
    (info : TapeInfo) (words : List ℕ) (report : FormatReport) (r : Result (Unit {0}) SinkFailed) →
    Present t a b info → info.protected ≡ false → HasFormatted t info.segments_per_track label date b c words report →
    sink_calls.Writes k x y (formatted_line report.segments report.bad) r → EndsBlind t k (Format label date) a c x y (printed_status r)
format_printed t k label date a b c x y info words report r there unlocked came writes =
    printed t k (Format label date) is_blind a c x y (formatted info.segments_per_track words came.area) r refl refl refl
    (28 * info.segments_per_track, (marked_sectors words, refl))
    (told_formatted t label date a b c info words report there unlocked came) (Done-Done there.did came.did)
    (subst (λ (text : List ℕ). sink_calls.Writes k x y text r) (line_is t label date info.segments_per_track b c words report came) writes)
