-- The input of a volume that was cut off, and the acts that it asks for.
use Rattle.std.proofs.Common.{◌≡◌, ◌⊎◌, inl, inr, ℕ, ◌+◌, ◌-◌, ◌<◌, ◌≤◌, ◌&&◌, min, Bool, true, false, cond, List, [], ◌∷◌, ◌++◌, length}
use Rattle.std.proofs.Common.{take, drop, All, Option, Some, None, IfSome, IfNone, refl, sym, ap, ◌∙◌, subst, arith, nat_lt, nat_le}
use Rattle.std.proofs.Common.{append_assoc, append-nil}
use Rattle.std.specs.Option.{option_map}
use Rattle.std.proofs.lemmas.Bool.{cases_lt, and_parts, ltb-true, cases_Bool}
use Rattle.std.proofs.lemmas.List.{length-append, length-take}
use Rattle.std.proofs.lemmas.List.Elements.{All-nil, All-append}
use Rattle.std.proofs.Math.Seq.{drop-append_seam, take-append-add, take-nil}
use Rattle.qic_base.specs.Acts.{Act}
use Rattle.cartridge_laws.specs.Shape.{Carries}
use Rattle.cartridge_spec.specs.Shape.{mask_at, capacity}
use Rattle.cartridge_laws.proofs.AppendBytes.{capacity_of}
use Rattle.command_spec.specs.Append.{segment_act, volume_acts, filled_acts, input_acts}
use Rattle.volume_input.proofs.Filled.{Carry, GoesOn, act_front, filled_more, filled_behind, volume_behind, volume_full}
use Rattle.qic_base.specs.SourceCalls.{input_of}

-- ---- what is left

pub whole_told : (before after : Option (List ℕ)) (bytes : List ℕ) → before ≡ option_map (λ rest. bytes ++ rest) after →
    IfSome before (λ told. bytes ++ input_of after ≡ told)
whole_told before None bytes gave = subst (λ (o : Option (List ℕ)). IfSome o (λ told. bytes ++ [] ≡ told)) (sym gave) tt
whole_told before (Some rest) bytes gave = subst (λ (o : Option (List ℕ)). IfSome o (λ told. bytes ++ rest ≡ told)) (sym gave) refl

pub dropped : (before after : Option (List ℕ)) (bytes : List ℕ) → before ≡ option_map (λ rest. bytes ++ rest) after →
    after ≡ option_map (drop (length bytes)) before
dropped before None bytes gave = sym (ap (option_map (drop (length bytes))) gave)
dropped before (Some rest) bytes gave =
    ap (λ (xs : List ℕ). Some xs) (sym (drop-append_seam bytes rest)) ∙ sym (ap (option_map (drop (length bytes))) gave)

pub none_left : (after : Option (List ℕ)) → IfSome after (λ bytes. bytes ≡ []) → input_of after ≡ []
none_left None ended = refl
none_left (Some bytes) ended = ended

-- ---- bytes that no one tells

pub untold_content : (told : Option (List ℕ)) (bytes : List ℕ) → All (λ (b : ℕ). b < 256) bytes →
    IfNone told (All (λ (b : ℕ). b < 256) bytes)
untold_content None bytes content = content
untold_content (Some told) bytes content = tt

-- those of two readings, and what is left
pub bytes_untold : (before now after : Option (List ℕ)) (first came : List ℕ) → before ≡ option_map (λ rest. first ++ rest) now →
    now ≡ option_map (λ rest. came ++ rest) after →
    All (λ (b : ℕ). b < 256) first → IfNone now (All (λ (b : ℕ). b < 256) came) →
    IfNone before (All (λ (b : ℕ). b < 256) ((first ++ came) ++ input_of after))
bytes_untold (Some told) now after first came gave more content some = tt
bytes_untold None (Some told) after first came gave more content some = absurd (cc)
bytes_untold None None (Some left) first came gave more content some = absurd (cc)
bytes_untold None None None first came gave more content some =
    subst (All (λ (b : ℕ). b < 256)) (sym (append-nil (first ++ came))) (All-append (λ (b : ℕ). b < 256) first came content some)

-- where none tells them, there may have been none
pub told_bytes : (before after : Option (List ℕ)) (came : List ℕ) → before ≡ option_map (λ rest. came ++ rest) after →
    (bytes : List ℕ) × (before ≡ option_map (λ rest. bytes ++ rest) after) × IfNone before (All (λ (b : ℕ). b < 256) bytes)
    × (length bytes ≤ length came)
told_bytes (Some told) after came gave = (came, gave, tt, omega arith)
told_bytes None None came gave = ([], refl, All-nil (λ (b : ℕ). b < 256), omega arith)
told_bytes None (Some left) came gave = absurd (cc)

-- ---- acts that the input begins with

-- other acts end those that the input asks for
abbrev pub Begins : (words segments : List ℕ) (most : ℕ) (exact : Bool) (input : List ℕ) (acts : List Act) → Type 0
Begins words segments most exact input acts = (rest : List Act) × (acts ++ rest ≡ input_acts words segments most exact input)

-- the first of the bytes, of which some are before the others
wanted : (bytes more : List ℕ) (most : ℕ) → length bytes ≤ most → take most (bytes ++ more) ≡ bytes ++ take (most - length bytes) more
wanted bytes more most few =
    let all : most ≡ length bytes + (most - length bytes) = omega arith in
    ap (λ (k : ℕ). take k (bytes ++ more)) all ∙ take-append-add bytes more (most - length bytes)

-- none are wanted behind those that fill the segments
none_more : (words : List ℕ) (s : ℕ) (ss rest bytes : List ℕ) (n : ℕ) → Carry words (s ∷ ss) → length bytes ≡ capacity_of words (s ∷ ss) →
    filled_acts words (s ∷ ss) bytes ++ [] ≡ volume_acts words ((s ∷ ss) ++ rest) (bytes ++ take n [])
none_more words s ss rest bytes n carry full =
    append-nil (filled_acts words (s ∷ ss) bytes)
    ∙ sym (volume_full words (s ∷ ss) rest bytes carry full (omega arith))
    ∙ ap (λ (xs : List ℕ). volume_acts words ((s ∷ ss) ++ rest) xs)
    (sym (ap (λ (xs : List ℕ). bytes ++ xs) (take-nil n) ∙ append-nil bytes))

-- the segments that are filled, and those of a volume behind them
abbrev VolumeBegins : (words front rest bytes more : List ℕ) → Type 0
VolumeBegins words front rest bytes more =
    (acts : List Act) × (filled_acts words front bytes ++ acts ≡ volume_acts words (front ++ rest) (bytes ++ more))

volume_begins : (words front rest bytes : List ℕ) (n : ℕ) → Carry words front → length bytes ≡ capacity_of words front → (front ≡ [])
    ⊎ (1 ≤ n) → (more : List ℕ) →
    VolumeBegins words front rest bytes (take n more)
volume_begins words front rest bytes n carry full (inl none) more =
    (volume_acts words rest (take n more), sym (volume_behind words front rest bytes (take n more) carry full (inl none)))
volume_begins words [] rest bytes n carry full (inr some) [] =
    (volume_acts words rest (take n []), sym (volume_behind words [] rest bytes (take n []) carry full (inl refl)))
volume_begins words (s ∷ ss) rest bytes n carry full (inr some) [] = ([], none_more words s ss rest bytes n carry full)
volume_begins words front rest bytes n carry full (inr some) (x ∷ xs) =
    let long : 1 ≤ length (take n (x ∷ xs)) = omega (arith, length-take n (x ∷ xs)) in
    (volume_acts words rest (take n (x ∷ xs)), sym (volume_behind words front rest bytes (take n (x ∷ xs)) carry full (inr long)))

some_left : (front : List ℕ) (n most : ℕ) → (front ≡ []) ⊎ (n < most) → (front ≡ []) ⊎ (1 ≤ most - n)
some_left front n most (inl none) = inl none
some_left front n most (inr less) = inr (omega arith)

module _ (words front rest bytes : List ℕ) (most : ℕ) (carry : Carry words front) (full : length bytes ≡ capacity_of words front)
    (going : (front ≡ []) ⊎ (length bytes < most)) (within : length bytes ≤ most) where
  pub filled_begin : (exact : Bool) (more : List ℕ) → Begins words (front ++ rest) most exact (bytes ++ more)
      (filled_acts words front bytes)
  filled_begin exact more = by_test (exact && nat_lt (length (bytes ++ more)) most)
    where
      by_test : (b : Bool) → (acts : List Act)
          × (filled_acts words front bytes ++ acts ≡ cond b (filled_acts words (front ++ rest) (bytes ++ more))
          (volume_acts words (front ++ rest) (take most (bytes ++ more))))
      by_test true = (filled_acts words rest more, sym (filled_behind words front rest bytes more carry full))
      by_test false =
          let begins = volume_begins words front rest bytes (most - length bytes) carry full
          (some_left front (length bytes) most going) more in
          (begins.0, begins.1 ∙ ap (λ (xs : List ℕ). volume_acts words (front ++ rest) xs) (sym (wanted bytes more most within)))

-- ---- and the next one, with the bytes that came for it

none_behind : (came behind : List ℕ) (left : ℕ) → length came ≤ left → (length came < left → behind ≡ []) →
    take (left - length came) behind ≡ []
none_behind came behind left few ended =
    elim (cases_lt (length came) left) [
      | inl less ↦ ap (λ (xs : List ℕ). take (left - length came) xs) (ended less) ∙ take-nil (left - length came)
      | inr all ↦ let none : left - length came ≡ 0 = omega arith in ap (λ (k : ℕ). take k behind) none
    ]

next_act : (words : List ℕ) (s : ℕ) (came behind : List ℕ) (left : ℕ) → Carries (mask_at words s) →
    length came ≤ capacity (mask_at words s) → length came ≤ left →
    (length came < capacity (mask_at words s) → length came < left → behind ≡ []) →
    segment_act words s (take left (came ++ behind)) ≡ segment_act words s came
next_act words s came behind left here fits few ended =
    ap (λ (xs : List ℕ). segment_act words s xs) (wanted came behind left few)
    ∙ elim (cases_lt (length came) (capacity (mask_at words s))) as
    (λ v. segment_act words s (came ++ take (left - length came) behind) ≡ segment_act words s came) [
      | inl less ↦
          ap (λ (xs : List ℕ). segment_act words s xs)
          (ap (λ (xs : List ℕ). came ++ xs) (none_behind came behind left few (ended less)) ∙ append-nil came)
      | inr all ↦ act_front words s came (take (left - length came) behind) here all
    ]

-- where an exact number of bytes was asked for, and fewer are there, these fill the segment
exact_fills : (exact : Bool) (m n most cap left : ℕ) → (exact && nat_lt n most) ≡ true → (exact ≡ true → m ≡ min cap left) → m ≤ left →
    (m ≡ left → most ≤ n) → cap ≤ m
exact_fills exact m n most cap left both whole few all =
    let parts = and_parts exact (nat_lt n most) both in
    let less : n < most = ltb-true n most parts.1 in
    let is : m ≡ min cap left = whole parts.0 in
    elim (cases_lt m left) [
      | inl below ↦ omega arith
      | inr same ↦ (let enough : most ≤ n = all (omega arith) in absurd (omega arith))
    ]

module _ (words front : List ℕ) (s : ℕ) (rest bytes came behind : List ℕ) (most : ℕ) (exact : Bool) (carry : Carry words front)
    (here : Carries (mask_at words s)) (full : length bytes ≡ capacity_of words front) (within : length bytes ≤ most)
    (fits : length came ≤ capacity (mask_at words s)) (few : length came ≤ most - length bytes)
    (ended : length came < capacity (mask_at words s) → length came < most - length bytes → behind ≡ [])
    (whole : exact ≡ true → length came ≡ min (capacity (mask_at words s)) (most - length bytes)) (on : GoesOn front came) where
  -- the acts with that one begin those of a volume
  next_in_volume : (acts : List Act) × ((filled_acts words front bytes ++ segment_act words s came ∷ []) ++ acts ≡ volume_acts words
      (front ++ s ∷ rest) (take most (bytes ++ (came ++ behind))))
  next_in_volume =
      let left : ℕ = most - length bytes in
      let more : List ℕ = take left (came ++ behind) in
      let acts : List Act = cond (nat_le (length more) (capacity (mask_at words s))) []
      (volume_acts words rest (drop (capacity (mask_at words s)) more)) in (
        acts,
        append_assoc (filled_acts words front bytes) (segment_act words s came ∷ []) acts
            ∙ ap (λ (act : Act). filled_acts words front bytes ++ act ∷ acts) (sym (next_act words s came behind left here fits few ended))
            ∙ sym (volume_behind words front (s ∷ rest) bytes more carry full (goes_on on))
            ∙ ap (λ (xs : List ℕ). volume_acts words (front ++ s ∷ rest) xs) (sym (wanted bytes (came ++ behind) most within)),
      )
    where
      goes_on : GoesOn front came → GoesOn front (take (most - length bytes) (came ++ behind))
      goes_on (inl none) = inl none
      goes_on (inr some) = inr (omega (arith, length-take (most - length bytes) (came ++ behind), length-append came behind))

  -- and those of the segments that are filled, where it is
  next_in_filled : capacity (mask_at words s) ≤ length came →
      (acts : List Act) × ((filled_acts words front bytes ++ segment_act words s came ∷ []) ++ acts ≡ filled_acts words (front ++ s ∷ rest)
      (bytes ++ (came ++ behind)))
  next_in_filled all =
      let acts : List Act = filled_acts words rest (drop (capacity (mask_at words s)) (came ++ behind)) in
      let more : capacity (mask_at words s) ≤ length (came ++ behind) = omega (arith, length-append came behind) in (
        acts,
        append_assoc (filled_acts words front bytes) (segment_act words s came ∷ []) acts
            ∙ ap (λ (act : Act). filled_acts words front bytes ++ act ∷ acts) (sym (act_front words s came behind here all))
            ∙ ap (λ (rear : List Act). filled_acts words front bytes ++ rear) (sym (filled_more words s rest (came ++ behind) more))
            ∙ sym (filled_behind words front (s ∷ rest) bytes (came ++ behind) carry full),
      )

  pub next_begins : Begins words (front ++ s ∷ rest) most exact (bytes ++ (came ++ behind))
      (filled_acts words front bytes ++ segment_act words s came ∷ [])
  next_begins =
      elim (cases_Bool (exact && nat_lt (length (bytes ++ (came ++ behind))) most)) [
        | inl short ↦
            let long : length (bytes ++ (came ++ behind)) ≡ length bytes + (length came + length behind) =
            omega (arith, length-append bytes (came ++ behind), length-append came behind) in
            let begins = next_in_filled (exact_fills exact (length came) (length (bytes ++ (came ++ behind))) most
            (capacity (mask_at words s)) (most - length bytes) short whole few
            (λ all. omega arith)) in (
              begins.0,
              begins.1 ∙ sym (chosen_true (exact && nat_lt (length (bytes ++ (came ++ behind))) most)
                  (filled_acts words (front ++ s ∷ rest) (bytes ++ (came ++ behind)))
                  (volume_acts words (front ++ s ∷ rest) (take most (bytes ++ (came ++ behind)))) short),
            )
        | inr other ↦ (
          next_in_volume.0,
          next_in_volume.1 ∙ sym (chosen_false (exact && nat_lt (length (bytes ++ (came ++ behind))) most)
              (filled_acts words (front ++ s ∷ rest) (bytes ++ (came ++ behind)))
              (volume_acts words (front ++ s ∷ rest) (take most (bytes ++ (came ++ behind)))) other),
        )
      ]
    where
      chosen_true : (b : Bool) (x y : List Act) → b ≡ true → cond b x y ≡ x
      chosen_true true x y is = refl
      chosen_true false x y is = absurd (cc)

      chosen_false : (b : Bool) (x y : List Act) → b ≡ false → cond b x y ≡ y
      chosen_false true x y is = absurd (cc)
      chosen_false false x y is = refl
