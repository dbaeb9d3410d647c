-- An input that was taken: what became of it, and the acts that it asked for.
use Rattle.std.proofs.Common.{◌≡◌, Bool, true, false, cond, refl, ◌&&◌, ℕ, ◌+◌, ◌-◌, ◌≤◌, min, List, length, None, nat_le, ◌<◌, ap, ◌∙◌}
use Rattle.std.proofs.Common.{arith, sym, Some, ◌⊎◌, inl, inr, take, nat_lt, ◌++◌, All, Option, IfNone, subst, append-nil, drop, zero, suc}
use Rattle.std.proofs.Common.{[], ◌∷◌, slice_get, Result, Ok, Err, append_assoc}
use Rattle.std.proofs.lemmas.Bool.{le-leb, lt-leb, le-ltb, lt-ltb, cases_lt}
use Rattle.std.specs.Option.{option_map}
use Rattle.std.proofs.Math.Seq.{take-append-add}
use Rattle.std.proofs.lemmas.List.Elements.{All-nil, All-cons, All-append}
use Rattle.std.proofs.lemmas.Option.{same_Some}
use Rattle.std.proofs.lemmas.List.{length-append, take_all}
use Rattle.cartridge_laws.specs.Table.{LieBehind, last_end}
use Rattle.cartridge_spec.specs.Appending.{end_behind, room, free_segments}
use Rattle.cartridge_spec.specs.Table.{Entry}
use Rattle.cartridge_spec.specs.Volumes.{carrying}
use Rattle.command_laws.proofs.StoreTaking.{both_true}
use Rattle.command_spec.specs.Append.{Fits, TooLong, taking, has_promised_room, TooShort, volume_acts, filled_acts, input_acts, Taking}
use Rattle.command_spec.specs.Append.{input_writes}
use Rattle.command_laws.specs.AppendTerms.{bytes_taken}
use Rattle.qic_base.proofs.Giving.{Gave-nothing, Gave-Gave, Gave-end}
use Rattle.qic_base.proofs.Steps.{Done-nothing, Rose-after}
use Rattle.qic_base.specs.Acts.{Act, Outside, Failing, Went, Cut, SourceFails, TapeFails}
use Rattle.qic_base.specs.Alone.{no_sink, reading}
use Rattle.qic_base.specs.Tape.{Rose}
use Rattle.qic_base.specs.SourceCalls.{Gave, HasEnded, input_of}
use Rattle.tape_script.specs.Reading.{Skips}
use Rattle.volume_input.proofs.Inputs.{dropped, none_left, untold_content, whole_told}
use Rattle.volume_input.specs.Input.{HasWritten, EndedShort, InputCut, InputEnds}
use Rattle.volume_input.specs.declared.written.Written.{Written}
use Rattle.volume_store.specs.Appending.{AskedFor, InputWent, InputWritten, InputBroke, InputIs, TakesNone, most_asked}
use Rattle.qic_base.specs.declared.store_fault.StoreFault.{StoreFault}
use Rattle.volume_input.proofs.Filled.{chosen, refused}
use Rattle.qic_base.specs.Source as sources
use Rattle.qic_base.specs.Tape as tapes
use Rattle.qic_base.specs.declared.store_fault.StoreFault.TheVariants as fault

-- ---- choices

first_false : (a b : Bool) → a ≡ false → (a && b) ≡ false
first_false true b is = absurd (cc)
first_false false b is = refl

second_false : (a b : Bool) → b ≡ false → (a && b) ≡ false
second_false true b is = is
second_false false b is = refl

-- ---- what becomes of an input

fits_all : (have : ℕ) (input : List ℕ) → 1 ≤ have → length input ≤ have → taking have None input ≡ Fits input
fits_all have input some within =
    chosen (nat_le 1 have && nat_le (length input) have) (Fits input) (TooLong (min (length input) (have + 1)) have)
    (both_true (nat_le 1 have) (nat_le (length input) have) (le-leb 1 have some) (le-leb (length input) have within))

too_long : (have : ℕ) (input : List ℕ) → have < length input → taking have None input ≡ TooLong (have + 1) have
too_long have input beyond =
    let least : min (length input) (have + 1) ≡ have + 1 = omega arith in
    refused (nat_le 1 have && nat_le (length input) have) (Fits input) (TooLong (min (length input) (have + 1)) have)
    (second_false (nat_le 1 have) (nat_le (length input) have) (lt-leb (length input) have beyond))
    ∙ ap (λ (n : ℕ). TooLong n have) least

no_room : (input : List ℕ) (n : ℕ) → n ≡ min (length input) 1 → taking 0 None input ≡ TooLong n 0
no_room input n is = ap (λ (k : ℕ). TooLong k 0) (sym is)

has_room : (have n : ℕ) → 1 ≤ have → n ≤ have → has_promised_room have (Some n) ≡ true
has_room have n some within = both_true (nat_le 1 have) (nat_le n have) (le-leb 1 have some) (le-leb n have within)

has_none : (have n : ℕ) → (have ≡ 0) ⊎ (have < n) → has_promised_room have (Some n) ≡ false
has_none have n (inl none) = first_false (nat_le 1 have) (nat_le n have) (lt-leb 1 have (omega arith))
has_none have n (inr few) = second_false (nat_le 1 have) (nat_le n have) (lt-leb n have few)

promised_fits : (have n : ℕ) (input : List ℕ) → 1 ≤ have → n ≤ have → n ≤ length input → taking have (Some n) input ≡ Fits (take n input)
promised_fits have n input some within enough =
    chosen (has_promised_room have (Some n)) (cond (nat_lt (length input) n) (TooShort n (length input)) (Fits (take n input)))
    (TooLong n have) (has_room have n some within)
    ∙ refused (nat_lt (length input) n) (TooShort n (length input)) (Fits (take n input)) (le-ltb (length input) n enough)

promised_short : (have n : ℕ) (input : List ℕ) → 1 ≤ have → n ≤ have → length input < n → taking have (Some n) input ≡ TooShort n
    (length input)
promised_short have n input some within less =
    chosen (has_promised_room have (Some n)) (cond (nat_lt (length input) n) (TooShort n (length input)) (Fits (take n input)))
    (TooLong n have) (has_room have n some within)
    ∙ chosen (nat_lt (length input) n) (TooShort n (length input)) (Fits (take n input)) (lt-ltb (length input) n less)

promised_full : (have n : ℕ) (input : List ℕ) → (have ≡ 0) ⊎ (have < n) → taking have (Some n) input ≡ TooLong n have
promised_full have n input few =
    refused (has_promised_room have (Some n)) (cond (nat_lt (length input) n) (TooShort n (length input)) (Fits (take n input)))
    (TooLong n have) (has_none have n few)

-- ---- the input, by what was given of it

pub given_content : (before after : Option (List ℕ)) (bytes : List ℕ) → before ≡ option_map (λ rest. bytes ++ rest) after →
    IfNone before (All (λ (b : ℕ). b < 256) bytes) → IfNone before (All (λ (b : ℕ). b < 256) (bytes ++ input_of after))
given_content (Some told) after bytes gave content = tt
given_content None (Some left) bytes gave content = absurd (cc)
given_content None None bytes gave content = subst (All (λ (b : ℕ). b < 256)) (sym (append-nil bytes)) content

-- at most one byte that was skipped, whatever it may be where it isn't told
abbrev SkippedAs : (before after : Option (List ℕ)) (n : ℕ) → Type 0
SkippedAs before after n =
    (bytes : List ℕ) × (length bytes ≡ n) × (before ≡ option_map (λ rest. bytes ++ rest) after)
    × IfNone before (All (λ (b : ℕ). b < 256) bytes)

skipped_as : (before after : Option (List ℕ)) (bytes : List ℕ) (n : ℕ) → n ≤ 1 → length bytes ≡ n →
    before ≡ option_map (λ rest. bytes ++ rest) after → SkippedAs before after n
skipped_as (Some told) after bytes n few long gave = (bytes, long, gave, tt)
skipped_as None (Some left) bytes n few long gave = absurd (cc)
skipped_as None None bytes zero few long gave = ([], refl, refl, All-nil (λ (b : ℕ). b < 256))
skipped_as None None bytes (suc zero) few long gave =
    (0 ∷ [], refl, refl, All-cons (λ (b : ℕ). b < 256) 0 [] (omega arith) (All-nil (λ (b : ℕ). b < 256)))
skipped_as None None bytes (suc (suc n)) few long gave = absurd (omega arith)

content_both : (before between after : Option (List ℕ)) (xs ys : List ℕ) → before ≡ option_map (λ rest. xs ++ rest) between →
    All (λ (b : ℕ). b < 256) xs →
    IfNone between (All (λ (b : ℕ). b < 256) ys) → IfNone before (All (λ (b : ℕ). b < 256) (xs ++ ys))
content_both (Some told) between after xs ys gave content more = tt
content_both None (Some left) after xs ys gave content more = absurd (cc)
content_both None None after xs ys gave content more = All-append (λ (b : ℕ). b < 256) xs ys content more

pub front_of : (bytes rest : List ℕ) (n : ℕ) → length bytes ≡ n → take n (bytes ++ rest) ≡ bytes
front_of bytes rest n long =
    let same : n ≡ length bytes + 0 = omega arith in
    ap (λ (k : ℕ). take k (bytes ++ rest)) same ∙ take-append-add bytes rest 0 ∙ append-nil bytes

-- ---- the first free segment

pub end_of_last : (entries : List Entry) (before i : ℕ) (e : Entry) → slice_get entries i ≡ Some e → length entries ≡ i + 1 →
    end_behind before entries ≡ e.end
end_of_last [] before i e at long = absurd (omega arith)
end_of_last (x ∷ []) before zero e at long = ap (λ (y : Entry). y.end) (same_Some x e at)
end_of_last (x ∷ []) before (suc i) e at long = absurd (omega arith)
end_of_last (x ∷ y ∷ ys) before zero e at long = absurd (omega arith)
end_of_last (x ∷ y ∷ ys) before (suc i) e at long = end_of_last (y ∷ ys) x.end i e at (omega arith)

pub end_within : (before last : ℕ) (entries : List Entry) → LieBehind before last entries → before ≤ last → end_behind before entries ≤ last
end_within before last [] order within = within
end_within before last (e ∷ es) order within = end_within e.end last es order.3 order.2

pub no_entries : (entries : List Entry) → length entries ≡ 0 → 2 ≡ last_end entries
no_entries [] none = refl
no_entries (e ∷ es) none = absurd (omega arith)

module _ {T S : Type 0} (t : tapes.Meaning T) (s : sources.Meaning S) (words : List ℕ) (entries : List Entry)
    (old new : Outside T S (Unit {0})) where
  abbrev segments : List ℕ
  segments = free_segments words entries

  abbrev have : ℕ
  have = room words entries

  -- the writes that an input asks for, where there is room
  writes_none : (input : List ℕ) → 1 ≤ have → input_writes words entries None input ≡ volume_acts words segments (take have input)
  writes_none input some = chosen (nat_le 1 have) (volume_acts words segments (take have input)) [] (le-leb 1 have some)

  writes_some : (n : ℕ) (input : List ℕ) → 1 ≤ have → n ≤ have →
      input_writes words entries (Some n) input ≡ input_acts words segments n true input
  writes_some n input some within = chosen (has_promised_room have (Some n)) (input_acts words segments n true input) []
      (has_room have n some within)

  went_with : (promised : Option ℕ) (bytes : List ℕ) (became : Taking) → Gave s old.source new.source bytes →
      IfNone (s.left old.source) (All (λ (b : ℕ). b < 256) bytes) →
      taking have promised (bytes ++ input_of (s.left new.source)) ≡ became → bytes_taken promised became ≡ length bytes →
      Went t s no_sink old new (input_writes words entries promised (bytes ++ input_of (s.left new.source))) →
      InputWent t s words entries promised old new became
  went_with promised bytes became gave content took taken went = record {
    input = bytes ++ input_of (s.left new.source);
    is_told = whole_told (s.left old.source) (s.left new.source) bytes gave;
    content = given_content (s.left old.source) (s.left new.source) bytes gave content;
    took = took;
    went = went;
    left = dropped (s.left old.source) (s.left new.source) bytes gave ∙ ap (λ (n : ℕ). option_map (drop n) (s.left old.source)) (sym taken);
  }

  broke_with : (promised : Option ℕ) (failing : Failing) (bytes : List ℕ) → length bytes ≤ most_asked have promised →
      Gave s old.source new.source bytes →
      IfNone (s.left old.source) (All (λ (b : ℕ). b < 256) bytes) →
      Cut t s no_sink old new (input_writes words entries promised (bytes ++ input_of (s.left new.source))) failing →
      InputBroke t s words entries promised old new failing
  broke_with promised failing bytes few gave content cut = record {
    input = bytes ++ input_of (s.left new.source);
    is_told = whole_told (s.left old.source) (s.left new.source) bytes gave;
    content = given_content (s.left old.source) (s.left new.source) bytes gave content;
    cut = cut;
    taken = length bytes;
    left = dropped (s.left old.source) (s.left new.source) bytes gave;
    there = omega (arith, length-append bytes (input_of (s.left new.source)));
    few = few;
  }

  -- ---- with a promise
  module _ (n : ℕ) (some : 1 ≤ have) (within : n ≤ have) where
    promised_written : (written : Written) → HasWritten t s words segments n true old new written →
        InputWritten t s words entries (Some n) old new written
    promised_written written has =
        let all : length has.bytes ≡ n = has.whole refl in
        let input : List ℕ = has.bytes ++ input_of (s.left new.source) in
        let front : take n input ≡ has.bytes = front_of has.bytes (input_of (s.left new.source)) n all in
        let enough : n ≤ length input = omega (arith, length-append has.bytes (input_of (s.left new.source))) in
        record {
          bytes = has.bytes;
          went = went_with (Some n) has.bytes (Fits has.bytes) has.gave (untold_content (s.left old.source) has.bytes has.content)
              (promised_fits have n input some within enough ∙ ap (λ (xs : List ℕ). Fits xs) front) refl
              (subst (Went t s no_sink old new)
              (ap (volume_acts words segments) (sym front)
              ∙ sym (refused (true && nat_lt (length input) n) (filled_acts words segments input)
              (volume_acts words segments (take n input))
              (second_false true (nat_lt (length input) n) (le-ltb (length input) n enough)))
              ∙ sym (writes_some n input some within))
              has.went);
          count = has.count;
          start = has.start;
          end = has.end;
        }

    promised_ends_short : (read : ℕ) → EndedShort t s words segments n true old new read → InputWent t s words entries (Some n) old new
        (TooShort n read)
    promised_ends_short read has =
        let input : List ℕ = has.bytes ++ input_of (s.left new.source) in
        let all : input ≡ has.bytes = ap (λ (xs : List ℕ). has.bytes ++ xs) (none_left (s.left new.source) has.ended)
        ∙ append-nil has.bytes in
        let long : length input ≡ read = ap (λ (xs : List ℕ). length xs) all ∙ sym has.count in
        let less : length input < n = subst (λ (xs : List ℕ). length xs < n) (sym all) has.short in
        went_with (Some n) has.bytes (TooShort n read) has.gave (untold_content (s.left old.source) has.bytes has.content)
        (promised_short have n input some within less ∙ ap (λ (k : ℕ). TooShort n k) long) has.count
        (subst (Went t s no_sink old new)
        (ap (filled_acts words segments) (sym all)
        ∙ sym (chosen (true && nat_lt (length input) n) (filled_acts words segments input) (volume_acts words segments (take n input))
        (both_true true (nat_lt (length input) n) refl (lt-ltb (length input) n less)))
        ∙ sym (writes_some n input some within))
        has.went)

    promised_broke : (failing : Failing) → InputCut t s words segments n true old new failing →
        InputBroke t s words entries (Some n) old new failing
    promised_broke failing cut = record {
      input = cut.input;
      is_told = cut.is_told;
      content = cut.content;
      cut = subst (λ (acts : List Act). Cut t s no_sink old new acts failing) (sym (writes_some n cut.input some within)) cut.cut;
      taken = cut.taken;
      left = cut.left;
      there = cut.there;
      few = cut.few;
    }

    -- by the answer
    pub promised_ends : (answer : Result Written StoreFault) → InputEnds t s words segments n true old new answer →
        InputIs t s words entries (Some n) old new answer
    promised_ends (Ok written) ends = promised_written written ends
    promised_ends (Err (fault.Short promised read)) ends =
        subst (λ (k : ℕ). InputWent t s words entries (Some n) old new (TooShort k read)) (sym ends.0) (promised_ends_short read ends.1)
    promised_ends (Err fault.Source) ends = promised_broke SourceFails ends
    promised_ends (Err fault.Tape) ends = promised_broke TapeFails ends
    promised_ends (Err f) ends = absurd ends

    pub promised_asked : (answer : Result Written StoreFault) → InputEnds t s words segments n true old new answer →
        AskedFor words entries n old.source new.source answer
    promised_asked (Ok written) ends = has_room have n some within
    promised_asked (Err (fault.Full need left)) ends = absurd ends
    promised_asked (Err f) ends = has_room have n some within

  -- ---- with none
  module _ (some : 1 ≤ have) where
    -- the source has ended
    all_written : (bytes : List ℕ) → Gave s old.source new.source bytes → All (λ (b : ℕ). b < 256) bytes → length bytes ≤ have →
        HasEnded s new.source →
        Went t s no_sink old new (volume_acts words segments bytes) → InputWent t s words entries None old new (Fits bytes)
    all_written bytes gave content few ended went =
        let input : List ℕ = bytes ++ input_of (s.left new.source) in
        let all : input ≡ bytes = ap (λ (xs : List ℕ). bytes ++ xs) (none_left (s.left new.source) ended) ∙ append-nil bytes in
        went_with None bytes (Fits bytes) gave (untold_content (s.left old.source) bytes content)
        (ap (taking have None) all ∙ fits_all have bytes some few) refl
        (subst (Went t s no_sink old new)
        (ap (volume_acts words segments) (sym (take_all have bytes few) ∙ ap (take have) (sym all)) ∙ sym (writes_none input some)) went)

    pub all_ended : (written : Written) → HasWritten t s words segments have false old new written → written.bytes < have →
        InputWritten t s words entries None old new written
    all_ended written has less =
        let count : written.bytes ≡ length has.bytes = has.count in
        record {
          bytes = has.bytes;
          went = all_written has.bytes has.gave has.content has.within (has.ended (omega arith)) has.went;
          count = has.count;
          start = has.start;
          end = has.end;
        }

    all_broke : (failing : Failing) → InputCut t s words segments have false old new failing →
        InputBroke t s words entries None old new failing
    all_broke failing cut = record {
      input = cut.input;
      is_told = cut.is_told;
      content = cut.content;
      cut = subst (λ (acts : List Act). Cut t s no_sink old new acts failing) (sym (writes_none cut.input some)) cut.cut;
      taken = cut.taken;
      left = cut.left;
      there = cut.there;
      few = (let few = cut.few in omega arith);
    }

    -- by the fault
    pub all_fails : (why : StoreFault) → InputEnds t s words segments have false old new (Err why) →
        InputIs t s words entries None old new (Err why)
    all_fails (fault.Short promised read) ends = absurd (let exact = ends.1.is_exact in cc)
    all_fails fault.Source ends = all_broke SourceFails ends
    all_fails fault.Tape ends = all_broke TapeFails ends
    all_fails f ends = absurd ends

module _ {T S : Type 0} (t : tapes.Meaning T) (s : sources.Meaning S) (words : List ℕ) (entries : List Entry)
    (old new : Outside T S (Unit {0})) where
  -- the segments and the room by the numbers that a call was handed
  pub moved : (first most : ℕ) (exact : Bool) (answer : Result Written StoreFault) → first ≡ last_end entries + 1 →
      InputEnds t s words (carrying words first (length words - 1)) most exact old new answer →
      InputEnds t s words (free_segments words entries) most exact old new answer
  moved first most exact answer at ends =
      subst (λ (n : ℕ). InputEnds t s words (carrying words n (length words - 1)) most exact old new answer) at ends

  pub moved_all : (first most : ℕ) (answer : Result Written StoreFault) → first ≡ last_end entries + 1 → most ≡ room words entries →
      InputEnds t s words (carrying words first (length words - 1)) most false old new answer →
      InputEnds t s words (free_segments words entries) (room words entries) false old new answer
  moved_all first most answer at is ends =
      subst (λ (n : ℕ). InputEnds t s words (free_segments words entries) n false old new answer) is
      (moved first most false answer at ends)

module _ {T S : Type 0} (t : tapes.Meaning T) (s : sources.Meaning S) (words : List ℕ) (entries : List Entry) (x : T) (a : S) where
  nothing : (c : S) → s.faults c ≡ s.faults a → Went t s no_sink (reading x a) (reading x c) []
  nothing c later = record { did = Done-nothing t x; wrote = record { took = refl; later = omega arith }; source_later = later }

  no_writes : (input : List ℕ) → room words entries ≡ 0 → input_writes words entries None input ≡ []
  no_writes input none =
      refused (nat_le 1 (room words entries))
      (volume_acts words (free_segments words entries) (take (room words entries) input)) []
      (lt-leb 1 (room words entries) (omega arith))

  -- ---- no byte was read where there is no room for those that are promised
  pub promise_refused : (n : ℕ) → (room words entries ≡ 0) ⊎ (room words entries < n) →
      InputWent t s words entries (Some n) (reading x a) (reading x a) (TooLong n (room words entries))
  promise_refused n few =
      let have : ℕ = room words entries in
      let input : List ℕ = [] ++ input_of (s.left a) in
      went_with t s words entries (reading x a) (reading x a) (Some n) [] (TooLong n have) (Gave-nothing s a a refl)
      (untold_content (s.left a) [] (All-nil (λ (b : ℕ). b < 256)))
      (promised_full have n input few) refl
      (subst (Went t s no_sink (reading x a) (reading x a))
      (sym (refused (has_promised_room have (Some n)) (input_acts words (free_segments words entries) n true input) []
      (has_none have n few)))
      (nothing a (omega arith)))

  -- ---- one at most where there is no room, and none is promised
  pub none_fits : (c : S) (n : ℕ) → room words entries ≡ 0 → s.faults c ≡ s.faults a → Skips {E = Unit {0}} s a c 1 (Ok n) →
      InputWent t s words entries None (reading x a) (reading x c) (TooLong n 0)
  none_fits c n none later skipped =
      let have : ℕ = room words entries in
      let few : n ≤ 1 = skipped.0 in
      let got = skipped_as (s.left a) (s.left c) skipped.1.0 n few skipped.1.1 skipped.1.2 in
      let input : List ℕ = got.0 ++ input_of (s.left c) in
      let count : n ≡ min (length input) 1 = counted got.0 got.1 (cases_lt n 1) few in
      went_with t s words entries (reading x a) (reading x c) None got.0 (TooLong n 0) got.2 got.3
      (ap (λ (h : ℕ). taking h None input) none ∙ no_room input n count) (sym got.1)
      (subst (Went t s no_sink (reading x a) (reading x c)) (sym (no_writes input none)) (nothing c later))
    where
      counted : (bytes : List ℕ) → length bytes ≡ n → (n < 1) ⊎ (1 ≤ n) → n ≤ 1 → n ≡ min (length (bytes ++ input_of (s.left c))) 1
      counted bytes long (inl ends) few =
          let rest : length (input_of (s.left c)) ≡ 0 = ap (λ (xs : List ℕ). length xs) (none_left (s.left c) (skipped.2 ends)) in
          let all = length-append bytes (input_of (s.left c)) in
          omega arith
      counted bytes long (inr some) few =
          let all = length-append bytes (input_of (s.left c)) in
          omega arith

  pub none_fails : (c : S) → room words entries ≡ 0 → s.faults a ≤ s.faults c → Rose (s.faults a) (s.faults c) →
      Skips {E = Unit {0}} s a c 1 (Err tt) →
      InputBroke t s words entries None (reading x a) (reading x c) SourceFails
  none_fails c none later rose skipped =
      let got = skipped_as (s.left a) (s.left c) skipped.2.0 skipped.0 (let few = skipped.1 in omega arith) skipped.2.1 skipped.2.2 in
      let input : List ℕ = got.0 ++ input_of (s.left c) in
      let one : length got.0 ≤ 1 = (let few = skipped.1 in let long = got.1 in omega arith) in
      broke_with t s words entries (reading x a) (reading x c) None SourceFails got.0 (omega arith) got.2 got.3
      (subst (λ (acts : List Act). Cut t s no_sink (reading x a) (reading x c) acts SourceFails) (sym (no_writes input none))
      (record {
        front = [];
        rest = [];
        parts = refl;
        did = Done-nothing t x;
        wrote = record { took = refl; later = omega arith };
        cause = rose;
        source_later = later;
      }))

  -- ---- a byte more where all of the room was written
  module _ (y : T) (b c : S) (first have : ℕ) (at : first ≡ last_end entries + 1) (is : have ≡ room words entries) (any : 1 ≤ have)
      (written : Written)
      (ends : InputEnds t s words (carrying words first (length words - 1)) have false (reading x a) (reading y b) (Ok written))
      (least : have ≤ written.bytes) (later : s.faults b ≤ s.faults c) where
    some : 1 ≤ room words entries
    some = omega arith

    has : HasWritten t s words (free_segments words entries) (room words entries) false (reading x a) (reading y b) written
    has = moved_all t s words entries (reading x a) (reading y b) first have (Ok written) at is ends

    full : written.bytes ≡ room words entries
    full = let count = has.count in let few = has.within in omega arith

    abbrev had : ℕ
    had = room words entries

    abbrev places : List ℕ
    places = free_segments words entries

    long_all : length has.bytes ≡ had
    long_all = sym has.count ∙ full

    behind : s.faults c ≡ s.faults b → Went t s no_sink (reading x a) (reading y c) (volume_acts words places has.bytes)
    behind stood = record {
      did = has.went.did;
      wrote = has.went.wrote;
      source_later = (let first = has.went.source_later in omega arith);
    }

    all_given : (more : List ℕ) → Gave s b c more → Gave s a c (has.bytes ++ more)
    all_given more gave = Gave-Gave s a b c has.bytes more has.gave gave

    writes_same : (more : List ℕ) → volume_acts words places has.bytes ≡ input_writes words entries None
        ((has.bytes ++ more) ++ input_of (s.left c))
    writes_same more =
        let rest : List ℕ = input_of (s.left c) in
        ap (volume_acts words places)
        (sym (ap (take had) (append_assoc has.bytes more rest) ∙ front_of has.bytes (more ++ rest) had long_all))
        ∙ sym (writes_none t s words entries (reading x a) (reading y c) ((has.bytes ++ more) ++ rest) some)

    pub no_more : s.faults c ≡ s.faults b → Skips {E = Unit {0}} s b c 1 (Ok 0) → InputWritten t s words entries None (reading x a)
        (reading y c) written
    no_more stood skipped = record {
      bytes = has.bytes;
      went = all_written t s words entries (reading x a) (reading y c) some has.bytes
          (given skipped.1.0 skipped.1.1 skipped.1.2) has.content has.within (skipped.2 (omega arith)) (behind stood);
      count = has.count;
      start = has.start;
      end = has.end;
    }
      where
        given : (bytes : List ℕ) → length bytes ≡ 0 → Gave s b c bytes → Gave s a c has.bytes
        given [] none gave = Gave-end s a b c has.bytes has.gave gave
        given (e ∷ es) none gave = absurd (omega arith)

    pub one_more : s.faults c ≡ s.faults b → (n : ℕ) → 1 ≤ n → Skips {E = Unit {0}} s b c 1 (Ok n) → (need left : ℕ) → need ≡ have →
        left ≡ have → InputWent t s words entries None (reading x a) (reading y c) (TooLong (need + 1) left)
    one_more stood n more skipped need left needs leaves =
        let got = skipped_as (s.left b) (s.left c) skipped.1.0 n skipped.0 skipped.1.1 skipped.1.2 in
        let one : n ≡ 1 = (let few : n ≤ 1 = skipped.0 in omega arith) in
        let all : length (has.bytes ++ got.0) ≡ had + 1 = length-append has.bytes got.0 ∙ ap (λ (k : ℕ). length has.bytes + k) (got.1 ∙ one)
        ∙ ap (λ (k : ℕ). k + 1) long_all in
        let beyond : had < length ((has.bytes ++ got.0) ++ input_of (s.left c)) =
        omega (arith, length-append (has.bytes ++ got.0) (input_of (s.left c))) in
        subst (λ (k : ℕ). InputWent t s words entries None (reading x a) (reading y c) (TooLong (k + 1) left)) (sym (needs ∙ is))
        (subst (λ (k : ℕ). InputWent t s words entries None (reading x a) (reading y c) (TooLong (had + 1) k)) (sym (leaves ∙ is))
        (went_with t s words entries (reading x a) (reading y c) None (has.bytes ++ got.0) (TooLong (had + 1) had) (all_given got.0 got.2)
        (content_both (s.left a) (s.left b) (s.left c) has.bytes got.0 has.gave has.content got.3)
        (too_long had ((has.bytes ++ got.0) ++ input_of (s.left c)) beyond) (sym all)
        (subst (Went t s no_sink (reading x a) (reading y c)) (writes_same got.0) (behind stood))))

    pub more_fails : Rose (s.faults b) (s.faults c) → Skips {E = Unit {0}} s b c 1 (Err tt) →
        InputBroke t s words entries None (reading x a) (reading y c) SourceFails
    more_fails rose skipped =
        let got = skipped_as (s.left b) (s.left c) skipped.2.0 skipped.0 (let few = skipped.1 in omega arith) skipped.2.1 skipped.2.2 in
        let one : length got.0 ≤ 1 = (let few = skipped.1 in let long = got.1 in omega arith) in
        let full_long : length has.bytes ≡ had = long_all in
        broke_with t s words entries (reading x a) (reading y c) None SourceFails (has.bytes ++ got.0)
        (omega (arith, length-append has.bytes got.0)) (all_given got.0 got.2)
        (content_both (s.left a) (s.left b) (s.left c) has.bytes got.0 has.gave has.content got.3)
        (subst (λ (acts : List Act). Cut t s no_sink (reading x a) (reading y c) acts SourceFails) (writes_same got.0)
        (record {
          front = volume_acts words places has.bytes;
          rest = [];
          parts = append-nil (volume_acts words places has.bytes);
          did = has.went.did;
          wrote = has.went.wrote;
          cause = Rose-after (s.faults a) (s.faults b) (s.faults c) has.went.source_later rose;
          source_later = (let first = has.went.source_later in omega arith);
        }))

-- ---- where nothing has room, by the answer

pub none_taken : {T S : Type 0} (t : tapes.Meaning T) (s : sources.Meaning S) (words : List ℕ) (entries : List Entry) (x y : T) (a c : S)
    (promised : Option ℕ) (why : StoreFault) →
    y ≡ x → promised ≡ None → room words entries ≡ 0 → TakesNone s a c why → InputIs t s words entries promised (reading x a) (reading y c)
    (Err why)
none_taken {T} {S} t s words entries x y a c promised why same is none takes =
    subst (λ (z : T). InputIs t s words entries promised (reading x a) (reading z c) (Err why)) (sym same)
    (subst (λ (p : Option ℕ). InputIs t s words entries p (reading x a) (reading x c) (Err why)) (sym is) (by_fault why takes))
  where
    by_fault : (why : StoreFault) → TakesNone s a c why → InputIs t s words entries None (reading x a) (reading x c) (Err why)
    by_fault (fault.Full need room_left) takes =
        subst (λ (h : ℕ). InputWent t s words entries None (reading x a) (reading x c) (TooLong need h)) (sym takes.0)
        (none_fits t s words entries x a c need none takes.1 takes.2)
    by_fault fault.Source takes = none_fails t s words entries x a c none takes.0 takes.1 takes.2
    by_fault fault.NotFormatted takes = absurd takes
    by_fault (fault.Foreign field value) takes = absurd takes
    by_fault fault.TableMismatch takes = absurd takes
    by_fault (fault.NoVolume number count) takes = absurd takes
    by_fault (fault.Lost segment lost) takes = absurd takes
    by_fault (fault.Mismatch segment) takes = absurd takes
    by_fault fault.Protected takes = absurd takes
    by_fault (fault.Short promised read) takes = absurd takes
    by_fault fault.Sink takes = absurd takes
    by_fault fault.Tape takes = absurd takes
