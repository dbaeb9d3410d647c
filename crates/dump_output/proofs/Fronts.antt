-- The first bytes of sectors, and those of sectors behind them.
use Rattle.std.proofs.Common.{◌≡◌, ℕ, suc, ◌+◌, ◌-◌, ◌*◌, ◌<◌, ◌≤◌, ◌⊎◌, inl, inr, List, [], ◌∷◌, ◌++◌, length, take, replicate, min}
use Rattle.std.proofs.Common.{refl, sym, ap, ◌∙◌, arith, append-nil}
use Rattle.std.proofs.Math.Seq.{take-append-add}
use Rattle.std.proofs.lemmas.Bool.{cases_lt}
use Rattle.std.proofs.lemmas.Grind.{flat_map-append}
use Rattle.std.proofs.lemmas.List.{take-append-le, take_all, length-append, length-replicate, take-replicate}
use Rattle.std.specs.List.{flat_map, range_with_len}
use Rattle.dump_spec.specs.Given.{Given}
use Rattle.dump_spec.specs.Output.{output_of}
use Rattle.dump_spec.specs.declared.mark.Mark.{Mark}
use Rattle.dump_output.specs.Marks.{marks_in}
use Rattle.segment_salvage.specs.Reading.{given_as, mark_of}
use Rattle.segment_salvage.specs.declared.reading.SegmentReading.{SegmentReading}

-- ---- lists

-- the first of two lists
pub take_both : {A : Type 0} (size : ℕ) (xs ys : List A) → take size (xs ++ ys) ≡ take size xs ++ take (size - length xs) ys
take_both {A} size xs ys = by_length (cases_lt size (length xs)) where
  by_length : (size < length xs) ⊎ (length xs ≤ size) → take size (xs ++ ys) ≡ take size xs ++ take (size - length xs) ys
  by_length (inl short) =
      let none : size - length xs ≡ 0 = omega arith in
      take-append-le size xs ys (omega arith)
      ∙ sym (append-nil (take size xs))
      ∙ ap (λ (n : ℕ). take size xs ++ take n ys) (sym none)
  by_length (inr long) =
      let parts : size ≡ length xs + (size - length xs) = omega arith in
      ap (λ (n : ℕ). take n (xs ++ ys)) parts
      ∙ take-append-add xs ys (size - length xs)
      ∙ ap (λ (zs : List A). zs ++ take (size - length xs) ys) (sym (take_all size xs long))

-- not more than there are
pub take_min : {A : Type 0} (size : ℕ) (xs : List A) → take (min size (length xs)) xs ≡ take size xs
take_min {A} size xs = by_length (cases_lt size (length xs)) where
  by_length : (size < length xs) ⊎ (length xs ≤ size) → take (min size (length xs)) xs ≡ take size xs
  by_length (inl short) = let few : min size (length xs) ≡ size = omega arith in ap (λ (n : ℕ). take n xs) few
  by_length (inr long) =
      let all : min size (length xs) ≡ length xs = omega arith in
      ap (λ (n : ℕ). take n xs) all ∙ take_all (length xs) xs (omega arith) ∙ sym (take_all size xs long)

pub take_copies : {A : Type 0} (size n : ℕ) (x : A) → take size (replicate n x) ≡ replicate (min size n) x
take_copies size n x =
    let long = length-replicate n x in
    sym (take_min size (replicate n x))
    ∙ ap (λ (k : ℕ). take (min size k) (replicate n x)) long
    ∙ first_copies (min size n) (omega arith) where
      first_copies : (k : ℕ) → k ≤ n → take k (replicate n x) ≡ replicate k x
      first_copies k few = take-replicate k n x few

-- ---- bytes and marks of sectors

abbrev pub bytes_of : List Given → List ℕ
bytes_of given = flat_map (λ g. g.bytes) given

abbrev pub marks_of : List Given → List Mark
marks_of given = flat_map (λ g. replicate 1024 g.mark) given

pub marks_long : (given : List Given) → length (marks_of given) ≡ 1024 * length given
marks_long [] = refl
marks_long (g ∷ given) =
    let here = length-append (replicate 1024 g.mark) (marks_of given) in
    let one = length-replicate 1024 g.mark in
    let more = marks_long given in
    let all : length (g ∷ given) ≡ suc (length given) = refl in
    omega arith

-- what the sectors of a segment are given as
pub given_bytes : (reading : SegmentReading) (place : ℕ) (sectors : List (List ℕ)) →
    bytes_of (given_as reading place sectors) ≡ flat_map (λ bytes. bytes) sectors
unfolding given_as
given_bytes reading place [] = refl
given_bytes reading place (bytes ∷ sectors) = ap (λ (xs : List ℕ). bytes ++ xs) (given_bytes reading (suc place) sectors)

pub given_long : (reading : SegmentReading) (place : ℕ) (sectors : List (List ℕ)) → length (given_as reading place sectors) ≡ length sectors
unfolding given_as
given_long reading place [] = refl
given_long reading place (bytes ∷ sectors) = ap suc (given_long reading (suc place) sectors)

marks_from : (reading : SegmentReading) (place : ℕ) (sectors : List (List ℕ)) →
    marks_of (given_as reading place sectors)
    ≡ flat_map (λ p. replicate 1024 (mark_of reading p)) (range_with_len place (length sectors))
unfolding given_as
marks_from reading place [] = refl
marks_from reading place (bytes ∷ sectors) =
    let next : suc place ≡ place + 1 = omega arith in
    ap (λ (ms : List Mark). replicate 1024 (mark_of reading place) ++ ms)
    (marks_from reading (suc place) sectors
    ∙ ap (λ (p : ℕ). flat_map (λ q. replicate 1024 (mark_of reading q)) (range_with_len p (length sectors))) next)

pub given_marks : (reading : SegmentReading) (sectors : List (List ℕ)) →
    marks_of (given_as reading 0 sectors) ≡ marks_in reading (length sectors)
given_marks reading sectors = marks_from reading 0 sectors

-- ---- outputs

-- that of some sectors begins that of more
pub bytes_begin : (size : ℕ) (given more : List Given) →
    (output_of size (given ++ more)).bytes ≡ (output_of size given).bytes ++ take (size - length (bytes_of given)) (bytes_of more)
bytes_begin size given more =
    ap (take size) (flat_map-append (λ g. g.bytes) given more) ∙ take_both size (bytes_of given) (bytes_of more)

pub marks_begin : (size : ℕ) (given more : List Given) →
    (output_of size (given ++ more)).marks ≡ (output_of size given).marks ++ take (size - length (marks_of given)) (marks_of more)
marks_begin size given more =
    ap (take size) (flat_map-append (λ g. replicate 1024 g.mark) given more) ∙ take_both size (marks_of given) (marks_of more)
