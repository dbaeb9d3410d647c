-- What a line names, as bits of a mask.
use Rattle.std.proofs.Common.{◌≡◌, ◌≢◌, ◌⊎◌, ◌↔◌, inl, inr, ⊎_elim, ℕ, ◌+◌, ◌*◌, ◌/◌, ◌%◌, ◌<◌, ◌≤◌, ◌==◌, ◌&&◌, Bool, true, false}
use Rattle.std.proofs.Common.{min, List, [], ◌∷◌, ◌++◌, length, map, Option, Some, None, if◌then◌else◌, nat_le, nat_lt, refl, sym, ap, ◌∙◌}
use Rattle.std.proofs.Common.{arith}
use Rattle.std.proofs.lemmas.Bool.Decides.{nat_tests}
use Rattle.std.proofs.lemmas.Bool.{or_cases, or_left, or_right, cases_eq, ne_eqb, eq-eqb}
use Rattle.std.proofs.lemmas.List.Folds.{list_any-append}
use Rattle.std.specs.List.{list_any}
use Rattle.std.specs.Option.{option_map, option_and_then}
use Rattle.rescue_map.specs.Mask.{IsMarked}
use Rattle.dump_spec.specs.Lists.{Span, span, BadSectors, bad_sectors, is_missing, is_listed_bad, line_numbers}
use Rattle.dump_lists.specs.declared.names.ListKind.{ListKind}
use Rattle.dump_lists.specs.declared.names.ListKind.TheVariants as kinds
use Rattle.dump_lists.specs.declared.names.Named.{Named}
use Rattle.dump_lists.specs.declared.names.Named.TheVariants.{Bits, Fault}
use Rattle.dump_lists.specs.declared.numbers.Numbers.{Numbers}
use Rattle.dump_lists.specs.Masks.{is_in, IsMaskOf, IsMissingSet, IsBadSet}
use Rattle.dump_lists.specs.Names.{BitRange, bit_range, span_bits, bad_bits, bits_named, named_by, bits_of}
use Rattle.dump_lists.specs.Numbers.{kept}
use Rattle.dump_lists.proofs.Numbering.{all_pushed-bad}

-- ---- the numbers that are kept name what all of them do

one_missing : (s : ℕ) (t : Bool) → option_map (map span_bits) (if t then Some (span s s ∷ []) else None)
    ≡ bits_of (if t then Bits s (s + 1) else Fault)
one_missing s true = refl
one_missing s false = refl

two_missing : (s e : ℕ) (t : Bool) → option_map (map span_bits) (if t then Some (span s e ∷ []) else None)
    ≡ bits_of (if t then Bits s (e + 1) else Fault)
two_missing s e true = refl
two_missing s e false = refl

one_bad : (s : ℕ) (t : Bool) → option_map (map bad_bits) (if t then Some (bad_sectors s 0 31 ∷ []) else None)
    ≡ bits_of (if t then Bits (32 * s) (32 * s + 32) else Fault)
one_bad s true = let a : 32 * s + 0 ≡ 32 * s = omega arith in let b : 32 * s + 31 + 1 ≡ 32 * s + 32 = omega arith in rw (a, b) refl
one_bad s false = refl

two_bad : (s i : ℕ) (t u : Bool) → (u ≡ true → min i 31 ≡ i) →
    option_map (map bad_bits) (if t && u then Some (bad_sectors s i i ∷ []) else None)
    ≡ bits_of (if t && u then Bits (32 * s + i) (32 * s + i + 1) else Fault)
two_bad s i true true low = ap (λ (n : ℕ). Some (bit_range (32 * s + i) (32 * s + n + 1) ∷ [])) (low refl)
two_bad s i true false low = refl
two_bad s i false u low = refl

named-kept : (kind : ListKind) (said : Option (List ℕ)) → option_and_then (bits_named kind) said ≡ bits_of (named_by kind (kept said))
named-kept kinds.Missing None = refl
named-kept kinds.Missing (Some []) = refl
named-kept kinds.Missing (Some (s ∷ [])) = one_missing s (nat_lt s 65536)
named-kept kinds.Missing (Some (s ∷ e ∷ [])) = two_missing s e (nat_le s e && nat_lt e 65536)
named-kept kinds.Missing (Some (s ∷ e ∷ n ∷ ns)) = rw (all_pushed-bad ns) refl
named-kept kinds.Bad None = refl
named-kept kinds.Bad (Some []) = refl
named-kept kinds.Bad (Some (s ∷ [])) = one_bad s (nat_lt s 65536)
named-kept kinds.Bad (Some (s ∷ i ∷ [])) = two_bad s i (nat_lt s 65536) (nat_lt i 32) (λ low. grind (arith, nat_tests))
named-kept kinds.Bad (Some (s ∷ i ∷ n ∷ ns)) = rw (all_pushed-bad ns) refl

names : (kind : ListKind) (said : Option (List ℕ)) (numbers : Numbers) (named : Named) → numbers ≡ kept said →
    named ≡ named_by kind numbers → option_and_then (bits_named kind) said ≡ bits_of named
names kind said numbers named is by = named-kept kind said ∙ ap (λ (n : Numbers). bits_of (named_by kind n)) (sym is) ∙ ap bits_of (sym by)

-- those of a line
pub line_names : (kind : ListKind) (line content : List ℕ) (numbers : Numbers) (named is : Named) → content ≡ line →
    numbers ≡ kept (line_numbers content) → named ≡ named_by kind numbers → named ≡ is →
    option_and_then (bits_named kind) (line_numbers line) ≡ bits_of is
line_names kind line content numbers named is same read by what =
    names kind (line_numbers line) numbers named (read ∙ ap (λ (bytes : List ℕ). kept (line_numbers bytes)) same) by ∙ ap bits_of what

-- ---- the mask with more bits

any_push : (p : BitRange → Bool) (rs : List BitRange) (r : BitRange) → list_any p (rs ++ r ∷ []) ≡ true →
    (list_any p rs ≡ true) ⊎ (p r ≡ true)
any_push p rs r h = ⊎_elim (λ a. inl a) (λ b. inr (⊎_elim (λ a. a) (λ n. absurd (cc)) (or_cases (p r) false b)))
    (or_cases (list_any p rs) (list_any p (r ∷ [])) (sym (list_any-append p rs (r ∷ [])) ∙ h))

any_before : (p : BitRange → Bool) (rs : List BitRange) (r : BitRange) → list_any p rs ≡ true → list_any p (rs ++ r ∷ []) ≡ true
any_before p rs r h = list_any-append p rs (r ∷ []) ∙ or_left (list_any p rs) (list_any p (r ∷ [])) h

any_last : (p : BitRange → Bool) (rs : List BitRange) (r : BitRange) → p r ≡ true → list_any p (rs ++ r ∷ []) ≡ true
any_last p rs r h = list_any-append p rs (r ∷ []) ∙ or_right (list_any p rs) (list_any p (r ∷ [])) (or_left (p r) false h)

pub mask_more : (old new : List ℕ) (ranges : List BitRange) (first end : ℕ) → length new ≡ length old →
    ((bit : ℕ) → bit < 32 * length old → (IsMarked new bit ↔ (IsMarked old bit ⊎ ((first ≤ bit) × (bit < end))))) →
    IsMaskOf ranges old → IsMaskOf (ranges ++ bit_range first end ∷ []) new
mask_more old new ranges first end long marks is bit within =
    let here : bit < 32 * length old = omega (arith, within, long) in
    let p : BitRange → Bool = λ r. is_in r bit in (
      (λ m. ⊎_elim (λ o. any_before p ranges (bit_range first end) ((is bit here).0 o))
          (λ (h : (first ≤ bit) × (bit < end)). let low = h.0 in let high = h.1 in
          any_last p ranges (bit_range first end) (let t : (nat_le first bit && nat_lt bit end) ≡ true = grind (arith, nat_tests) in t))
          ((marks bit here).0 m)),
      (λ t. (marks bit here).1 (⊎_elim (λ o. inl ((is bit here).1 o))
          (λ (h : (nat_le first bit && nat_lt bit end) ≡ true). inr (in_range first end bit h))
          (any_push p ranges (bit_range first end) t))),
    ) where
      in_range : (first end bit : ℕ) → (nat_le first bit && nat_lt bit end) ≡ true → (first ≤ bit) × (bit < end)
      in_range first end bit h = (grind (arith, nat_tests), grind (arith, nat_tests))

-- ---- the masks that are promised

same_missing : (spans : List Span) (segment : ℕ) → list_any (λ r. is_in r segment) (map span_bits spans) ≡ is_missing spans segment
same_missing [] segment = refl
same_missing (s ∷ spans) segment =
    let one : nat_lt segment (s.to + 1) ≡ nat_le segment s.to = grind (arith, nat_tests) in
    rw (one, same_missing spans segment) refl

pub missing_set : (spans : List Span) (set : List ℕ) → IsMaskOf (map span_bits spans) set → IsMissingSet spans set
missing_set spans set is segment within = rw (same_missing spans segment) at (is segment within)

in_bad : (b : BadSectors) (segment index : ℕ) → index < 32 → is_in (bad_bits b) (32 * segment + index)
    ≡ ((b.segment == segment) && (nat_le b.from index && nat_le index b.to))
in_bad b segment index low = ⊎_elim
    (λ (same : b.segment ≡ segment).
    let is : (b.segment == segment) ≡ true = eq-eqb b.segment segment same in
    let from : nat_le (32 * b.segment + b.from) (32 * segment + index) ≡ nat_le b.from index = grind (arith, nat_tests) in
    let to : nat_lt (32 * segment + index) (32 * b.segment + min b.to 31 + 1) ≡ nat_le index b.to = grind (arith, nat_tests) in
    rw (is, from, to) refl)
    (λ (other : b.segment ≢ segment).
    let is : (b.segment == segment) ≡ false = ne_eqb b.segment segment other in
    rw is (grind (arith, nat_tests)))
    (cases_eq b.segment segment)

same_bad : (bad : List BadSectors) (segment index : ℕ) → index < 32 →
    list_any (λ r. is_in r (32 * segment + index)) (map bad_bits bad) ≡ is_listed_bad bad segment index
same_bad [] segment index low = refl
same_bad (b ∷ bad) segment index low = rw (in_bad b segment index low, same_bad bad segment index low) refl

pub bad_set : (bad : List BadSectors) (masks : List ℕ) → IsMaskOf (map bad_bits bad) masks → IsBadSet bad masks
bad_set bad masks is segment index within low =
    let word : (32 * segment + index) / 32 ≡ segment = omega arith in
    let place : (32 * segment + index) % 32 ≡ index = omega arith in
    rw (word, place, same_bad bad segment index low) at (is (32 * segment + index) (omega arith))
