-- A volume that is written, segment after segment: those before are filled, and what comes goes behind them.
use Rattle.std.proofs.Common.{◌≡◌, ◌⊎◌, inl, inr, ℕ, ◌+◌, ◌-◌, ◌<◌, ◌≤◌, min, Bool, List, [], ◌∷◌, ◌++◌, length, All, IfNone, Err, refl}
use Rattle.std.proofs.Common.{sym, ap, ◌∙◌, subst, arith, append_assoc, append-nil}
use Rattle.std.proofs.lemmas.Bool.{cases_lt}
use Rattle.std.proofs.lemmas.List.{length-append}
use Rattle.std.proofs.lemmas.List.Elements.{All-nil, All-cons, All-append}
use Rattle.std.proofs.lemmas.List.Sums.{sum_by_push}
use Rattle.qic_base.specs.Source as sources
use Rattle.qic_base.specs.Tape as tapes
use Rattle.qic_base.proofs.Writing.{TakesBoth}
use Rattle.qic_base.specs.SourceCalls.{Gave, input_of}
use Rattle.qic_base.proofs.Giving.{Gave-nothing, Gave-Gave, Gave-end}
use Rattle.qic_base.specs.Acts.{Act, Outside, Failing, TapeFails, SourceFails, Went, Cut}
use Rattle.qic_base.specs.Alone.{no_sink}
use Rattle.qic_base.proofs.Joins.{nothing_went, went_both, went_then_cut, cut_is_longer}
use Rattle.cartridge_laws.specs.Shape.{Carries}
use Rattle.cartridge_spec.specs.Shape.{mask_at, capacity}
use Rattle.cartridge_spec.specs.Appending.{taken_by}
use Rattle.cartridge_laws.proofs.AppendBytes.{capacity_of, capacity_cons}
use Rattle.command_spec.specs.Append.{segment_act, volume_acts, filled_acts, input_acts}
use Rattle.volume_input.specs.Input.{HasWritten, EndedShort, InputCut, InputEnds}
use Rattle.volume_input.specs.Next.{NextWritten, NextBroken, NoneCame, CameShort, NextEnds, grown}
use Rattle.sector_fill.specs.Filling.{GaveWithin}
use Rattle.qic_base.specs.declared.store_fault.StoreFault.{StoreFault}
use Rattle.qic_base.specs.declared.store_fault.StoreFault.TheVariants as fault
use Rattle.volume_input.specs.declared.written.Written.{Written}
use Rattle.volume_input.proofs.Filled.{Carry, GoesOn, carry_head, carries_some, filled_more, filled_ends, volume_ends, filled_behind}
use Rattle.volume_input.proofs.Filled.{volume_behind, volume_full, taken_full, taken_last}
use Rattle.volume_input.proofs.Inputs.{bytes_untold, told_bytes, untold_content, whole_told, dropped, none_left, Begins, filled_begin}
use Rattle.volume_input.proofs.Inputs.{next_begins}
use Rattle.volume_input.proofs.Told.{Tells, tells_more}

pub no_text : TakesBoth no_sink
no_text a b c xs ys first next = ap (λ (l : List ℕ). l ++ ys) first ∙ next

-- The segments of a front are filled, and written; the others are still to come, and so are bytes.
pub record SoFar {T S : Type 0} (t : tapes.Meaning T) (s : sources.Meaning S) (words segments : List ℕ) (most : ℕ)
    (start now : Outside T S (Unit {0})) (rest : List ℕ) (written : Written) : Type 0 where
  pub front : List ℕ
  pub bytes : List ℕ
  pub parts : segments ≡ front ++ rest
  pub carry : Carry words front
  pub full : length bytes ≡ capacity_of words front
  pub going : (front ≡ []) ⊎ (length bytes < most)
  pub content : All (λ b. b < 256) bytes
  pub gave : Gave s start.source now.source bytes
  pub went : Went t s no_sink start now (filled_acts words front bytes)
  pub tells : Tells front (length bytes) written

-- no byte stands in no segment, and some stand in some
empty_front : (words front : List ℕ) (n : ℕ) → n ≡ capacity_of words front → length front ≡ 0 → n ≡ 0
empty_front words [] n full none = full
empty_front words (s ∷ ss) n full none = absurd (omega arith)

some_front : (words front : List ℕ) (n : ℕ) → Carry words front → n ≡ capacity_of words front → 1 ≤ length front → 1024 ≤ n
some_front words [] n carry full some = absurd (omega arith)
some_front words (s ∷ ss) n carry full some =
    let here : 1024 ≤ capacity (mask_at words s) = carries_some words s (carry_head words s ss carry) in
    let all = capacity_cons words s ss in
    omega arith

no_front : (words front : List ℕ) (n : ℕ) → Carry words front → n ≡ capacity_of words front → n ≡ 0 → front ≡ []
no_front words [] n carry full none = refl
no_front words (s ∷ ss) n carry full none =
    let some : 1024 ≤ n = some_front words (s ∷ ss) n carry full (omega arith) in
    absurd (omega arith)

within_most : (words front : List ℕ) (n most : ℕ) → n ≡ capacity_of words front → (front ≡ []) ⊎ (n < most) → n ≤ most
within_most words front n most full (inl none) =
    let zero : n ≡ 0 = full ∙ ap (capacity_of words) none in
    omega arith
within_most words front n most full (inr less) = omega arith

module _ {T S : Type 0} {t : tapes.Meaning T} {s : sources.Meaning S} where
  pub begin : (words segments : List ℕ) (most : ℕ) (start : Outside T S (Unit {0})) →
      SoFar t s words segments most start start segments (record { bytes = 0; start = 0; end = 0 })
  begin words segments most start = record {
    front = [];
    bytes = [];
    parts = refl;
    carry = All-nil (λ (segment : ℕ). Carries (mask_at words segment));
    full = refl;
    going = inl refl;
    content = All-nil (λ (b : ℕ). b < 256);
    gave = Gave-nothing s start.source start.source refl;
    went = nothing_went t s no_sink (λ x. refl) start;
    tells = record { bytes = refl; start = refl; end = refl };
  }

  module _ (words segments : List ℕ) (segment most : ℕ) (exact : Bool) (start now new : Outside T S (Unit {0})) (rest : List ℕ)
      (written : Written) (here : Carries (mask_at words segment))
      (far : SoFar t s words segments most start now (segment ∷ rest) written) where
    within : length far.bytes ≤ most
    within = within_most words far.front (length far.bytes) most far.full far.going

    -- more bytes came
    all_gave : (came : List ℕ) → Gave s now.source new.source came → Gave s start.source new.source (far.bytes ++ came)
    all_gave came gave = Gave-Gave s start.source now.source new.source far.bytes came far.gave gave

    all_content : (came : List ℕ) → All (λ (b : ℕ). b < 256) came → All (λ (b : ℕ). b < 256) (far.bytes ++ came)
    all_content came content = All-append (λ (b : ℕ). b < 256) far.bytes came far.content content

    -- they are some, or the first
    goes_on : (came : List ℕ) → (written.bytes ≡ 0) ⊎ (1 ≤ length came) → GoesOn far.front came
    goes_on came (inl none) = inl (no_front words far.front (length far.bytes) far.carry far.full (sym far.tells.bytes ∙ none))
    goes_on came (inr some) = inr some

    -- the acts of the segments before, and further ones
    both_went : (acts : List Act) → Went t s no_sink now new acts →
        Went t s no_sink start new (filled_acts words far.front far.bytes ++ acts)
    both_went acts went = went_both t s no_sink no_text start now new (filled_acts words far.front far.bytes) acts far.went went

    grown_tells : (came : List ℕ) → Tells (far.front ++ segment ∷ []) (length far.bytes + length came) (grown written segment (length came))
    grown_tells came =
        tells_more far.front segment (length far.bytes) (length came) written
        (empty_front words far.front (length far.bytes) far.full)
        (λ some. let least : 1024 ≤ length far.bytes = some_front words far.front (length far.bytes) far.carry far.full some in omega arith)
        far.tells

    -- ---- the segment was filled, and bytes are still to come
    pub next : (read : ℕ) → NextWritten t s words segment written.bytes most exact now new read → capacity (mask_at words segment) ≤ read →
        written.bytes + read < most →
        SoFar t s words segments most start new rest (grown written segment read)
    next read come filled less =
        let came : List ℕ = come.bytes in
        let all = length-append far.bytes came in
        let fits : length came ≤ capacity (mask_at words segment) = come.came.took.fits in
        let count : read ≡ length came = come.count in
        let before : written.bytes ≡ length far.bytes = far.tells.bytes in
        record {
          front = far.front ++ segment ∷ [];
          bytes = far.bytes ++ came;
          parts = far.parts ∙ sym (append_assoc far.front (segment ∷ []) rest);
          carry = All-append (λ (x : ℕ). Carries (mask_at words x)) far.front (segment ∷ []) far.carry
              (All-cons (λ (x : ℕ). Carries (mask_at words x)) segment [] here (All-nil (λ (x : ℕ). Carries (mask_at words x))));
          full = (let f = far.full in let p = sum_by_push (λ (x : ℕ). capacity (mask_at words x)) far.front segment in omega arith);
          going = inr (omega arith);
          content = all_content came come.came.content;
          gave = all_gave came come.came.took.gave;
          went = subst (Went t s no_sink start new)
              (sym (filled_behind words far.front (segment ∷ []) far.bytes came far.carry far.full
              ∙ ap (λ (acts : List Act). filled_acts words far.front far.bytes ++ acts) (filled_more words segment [] came (omega arith))))
              (both_went (segment_act words segment came ∷ []) come.went);
          tells = subst (λ (n : ℕ). Tells (far.front ++ segment ∷ []) n (grown written segment read)) (sym all)
              (subst (λ (n : ℕ). Tells (far.front ++ segment ∷ []) (length far.bytes + length came) (grown written segment n)) (sym count)
              (grown_tells came));
        }

    -- ---- it was the last
    pub last : (read : ℕ) → NextWritten t s words segment written.bytes most exact now new read → (read < capacity (mask_at words segment))
        ⊎ (written.bytes + read ≡ most) →
        HasWritten t s words segments most exact start new (grown written segment read)
    last read come ends =
        let came : List ℕ = come.bytes in
        let all = length-append far.bytes came in
        let took = come.came.took in
        let fits : length came ≤ capacity (mask_at words segment) = took.fits in
        let few : length came ≤ most - written.bytes = took.within in
        let count : read ≡ length came = come.count in
        let before : written.bytes ≡ length far.bytes = far.tells.bytes in
        let inside : length far.bytes ≤ most = within in
        let on : GoesOn far.front came = goes_on came come.came.some in
        let taken : taken_by words (length (far.bytes ++ came)) segments ≡ far.front ++ segment ∷ [] =
        ap (λ (n : ℕ). taken_by words n segments) all ∙ ap (λ (ss : List ℕ). taken_by words (length far.bytes + length came) ss) far.parts
        ∙ taken_last words far.front segment rest (length far.bytes) (length came) far.full on fits in
        let told : Tells (far.front ++ segment ∷ []) (length far.bytes + length came) (grown written segment read) =
        subst (λ (n : ℕ). Tells (far.front ++ segment ∷ []) (length far.bytes + length came) (grown written segment n)) (sym count)
        (grown_tells came) in
        let there : Tells (taken_by words (length (far.bytes ++ came)) segments) (length far.bytes + length came)
        (grown written segment read) =
        subst (λ (ss : List ℕ). Tells ss (length far.bytes + length came) (grown written segment read)) (sym taken) told in
        record {
          bytes = far.bytes ++ came;
          content = all_content came come.came.content;
          gave = all_gave came took.gave;
          within = omega arith;
          ended = λ less. took.ended (in_segment ends few (omega arith)) (omega arith);
          whole = λ is. let enough : length came ≡ min (capacity (mask_at words segment)) (most - written.bytes) = come.came.whole is in
              all_there ends (omega arith) (omega arith) inside enough (omega arith);
          went = subst (Went t s no_sink start new)
              (sym (ap (λ (ss : List ℕ). volume_acts words ss (far.bytes ++ came)) far.parts
              ∙ volume_behind words far.front (segment ∷ rest) far.bytes came far.carry far.full on
              ∙ ap (λ (acts : List Act). filled_acts words far.front far.bytes ++ acts) (volume_ends words segment rest came fits)))
              (both_went (segment_act words segment came ∷ []) come.went);
          count = there.bytes ∙ sym all;
          start = there.start;
          end = there.end;
        }
      where
        in_segment : (read < capacity (mask_at words segment)) ⊎ (written.bytes + read ≡ most) → length come.bytes ≤ most - written.bytes →
            written.bytes + read < most →
            length come.bytes < capacity (mask_at words segment)
        in_segment (inl less) few below = let count : read ≡ length come.bytes = come.count in omega arith
        in_segment (inr same) few below = absurd (omega arith)

        all_there : (read < capacity (mask_at words segment)) ⊎ (written.bytes + read ≡ most) → read ≡ length come.bytes →
            written.bytes ≡ length far.bytes → length far.bytes ≤ most →
            length come.bytes ≡ min (capacity (mask_at words segment)) (most - written.bytes) →
            length (far.bytes ++ come.bytes) ≡ length far.bytes + length come.bytes →
            length (far.bytes ++ come.bytes) ≡ most
        all_there (inl less) count before inside enough all = omega arith
        all_there (inr same) count before inside enough all = omega arith

    -- ---- none came behind the others
    pub none_came : NoneCame t s words segment written.bytes most exact now new → HasWritten t s words segments most exact start new written
    none_came come =
        let before : written.bytes ≡ length far.bytes = far.tells.bytes in
        let behind : 1 ≤ written.bytes = come.behind in
        let inside : length far.bytes ≤ most = within in
        let some : 1 ≤ length far.front = some_segment (cases_lt 0 (length far.front)) before behind in
        let least : 1024 ≤ capacity (mask_at words segment) = carries_some words segment here in
        let taken : taken_by words (length far.bytes) segments ≡ far.front =
        ap (λ (ss : List ℕ). taken_by words (length far.bytes) ss) far.parts ∙ taken_full words far.front (segment ∷ rest)
        (length far.bytes) far.carry far.full some in
        let there : Tells (taken_by words (length far.bytes) segments) (length far.bytes) written =
        subst (λ (ss : List ℕ). Tells ss (length far.bytes) written) (sym taken) far.tells in
        record {
          bytes = far.bytes;
          content = far.content;
          gave = Gave-end s start.source now.source new.source far.bytes far.gave come.took.gave;
          within = inside;
          ended = λ less. come.took.ended (omega arith) (omega arith);
          whole = λ is. let none : 0 ≡ min (capacity (mask_at words segment)) (most - written.bytes) = come.whole is in omega arith;
          went = subst (Went t s no_sink start new)
              (append-nil (filled_acts words far.front far.bytes)
              ∙ sym (ap (λ (ss : List ℕ). volume_acts words ss far.bytes) far.parts
              ∙ volume_full words far.front (segment ∷ rest) far.bytes far.carry far.full some))
              (both_went [] come.went);
          count = there.bytes;
          start = there.start;
          end = there.end;
        }
      where
        some_segment : (0 < length far.front) ⊎ (length far.front ≤ 0) → written.bytes ≡ length far.bytes → 1 ≤ written.bytes →
            1 ≤ length far.front
        some_segment (inl more) before behind = omega arith
        some_segment (inr few) before behind =
            let none : length far.bytes ≡ 0 = empty_front words far.front (length far.bytes) far.full (omega arith) in
            absurd (omega arith)

    -- ---- too few came
    pub short : (read : ℕ) → CameShort t s words segment written.bytes most exact now new read →
        EndedShort t s words segments most exact start new read
    short read come =
        let came : List ℕ = come.bytes in
        let all = length-append far.bytes came in
        let less : length came < min (capacity (mask_at words segment)) (most - written.bytes) = come.short in
        let before : written.bytes ≡ length far.bytes = far.tells.bytes in
        let count : read ≡ written.bytes + length came = come.count in
        let few : length came < capacity (mask_at words segment) = omega arith in
        record {
          bytes = far.bytes ++ came;
          content = all_content came come.content;
          gave = all_gave came come.took.gave;
          ended = come.took.ended few (omega arith);
          is_exact = come.is_exact;
          short = omega arith;
          went = subst (Went t s no_sink start new)
              (sym (ap (λ (ss : List ℕ). filled_acts words ss (far.bytes ++ came)) far.parts
              ∙ filled_behind words far.front (segment ∷ rest) far.bytes came far.carry far.full
              ∙ ap (λ (acts : List Act). filled_acts words far.front far.bytes ++ acts) (filled_ends words segment rest came few)))
              (both_went [] come.went);
          count = omega arith;
        }

    -- ---- a fault

    -- the acts of some more were cut off, and the input asks for them
    cut_off : (came : List ℕ) (acts : List Act) (failing : Failing) → length far.bytes + length came ≤ most →
        Gave s now.source new.source came →
        IfNone (s.left now.source) (All (λ (b : ℕ). b < 256) came) → Cut t s no_sink now new acts failing →
        Begins words (far.front ++ segment ∷ rest) most exact (far.bytes ++ (came ++ input_of (s.left new.source)))
        (filled_acts words far.front far.bytes ++ acts) →
        InputCut t s words segments most exact start new failing
    cut_off came acts failing few gave content cut begins =
        let done : List Act = filled_acts words far.front far.bytes in
        let behind : List ℕ = input_of (s.left new.source) in
        let input : List ℕ = (far.bytes ++ came) ++ behind in
        let same : far.bytes ++ (came ++ behind) ≡ input = sym (append_assoc far.bytes came behind) in
        record {
          input = input;
          is_told = whole_told (s.left start.source) (s.left new.source) (far.bytes ++ came) (all_gave came gave);
          content = bytes_untold (s.left start.source) (s.left now.source) (s.left new.source) far.bytes came far.gave gave far.content
              content;
          cut = subst (λ (xs : List Act). Cut t s no_sink start new xs failing)
              (begins.1 ∙ ap (input_acts words (far.front ++ segment ∷ rest) most exact) same
              ∙ ap (λ (ss : List ℕ). input_acts words ss most exact input) (sym far.parts))
              (cut_is_longer t s no_sink start new (done ++ acts) begins.0 failing
              (went_then_cut t s no_sink no_text start now new done acts failing far.went cut));
          taken = length (far.bytes ++ came);
          left = dropped (s.left start.source) (s.left new.source) (far.bytes ++ came) (all_gave came gave);
          there = omega (arith, length-append (far.bytes ++ came) behind);
          few = omega (arith, length-append far.bytes came);
        }

    pub source_failed : GaveWithin s now.source new.source (capacity (mask_at words segment)) (most - written.bytes) →
        Cut t s no_sink now new [] SourceFails →
        InputCut t s words segments most exact start new SourceFails
    source_failed gave cut =
        let done : List Act = filled_acts words far.front far.bytes in
        let came = told_bytes (s.left now.source) (s.left new.source) gave.0 gave.3 in
        let begins = filled_begin words far.front (segment ∷ rest) far.bytes most far.carry far.full far.going within exact
        (came.0 ++ input_of (s.left new.source)) in
        let before : written.bytes ≡ length far.bytes = far.tells.bytes in
        let inside : length far.bytes ≤ most = within in
        let some : length gave.0 ≤ most - written.bytes = gave.2 in
        let fewer : length came.0 ≤ length gave.0 = came.3 in
        cut_off came.0 [] SourceFails (omega arith) came.1 came.2 cut
        (begins.0, ap (λ (acts : List Act). acts ++ begins.0) (append-nil done) ∙ begins.1)

    pub tape_failed : NextBroken t s words segment written.bytes most exact now new →
        InputCut t s words segments most exact start new TapeFails
    tape_failed come =
        let came : List ℕ = come.bytes in
        let took = come.came.took in
        let before : written.bytes ≡ length far.bytes = far.tells.bytes in
        let inside : length far.bytes ≤ most = within in
        let fewer : length came ≤ most - written.bytes = took.within in
        cut_off came (segment_act words segment came ∷ []) TapeFails (omega arith) took.gave
        (untold_content (s.left now.source) came come.came.content)
        come.cut
        (next_begins words far.front segment rest far.bytes came (input_of (s.left new.source)) most exact far.carry here far.full within
        took.fits
        (let few = took.within in omega arith)
        (λ less fewer. none_left (s.left new.source) (took.ended less (omega arith)))
        (λ is. come.came.whole is ∙ ap (λ (n : ℕ). min (capacity (mask_at words segment)) (most - n)) before)
        (goes_on came come.came.some))

    pub failed : (why : StoreFault) → NextEnds t s words segment written.bytes most exact now new (Err why) →
        InputEnds t s words segments most exact start new (Err why)
    failed (fault.Short promised read) come = (come.0, short read come.1)
    failed fault.Source come = source_failed come.0 come.1
    failed fault.Tape come = tape_failed come
    failed other come = absurd come
