-- Laws of the fields of a format: what was written is read back, and every other field stays.
use Rattle.std.proofs.Common.{◌≡◌, ℕ, zero, suc, ◌+◌, ◌-◌, ◌*◌, ◌/◌, ◌%◌, ◌^◌, ◌<◌, ◌≤◌, List, [], ◌∷◌, ◌++◌, length, get_or, take, drop}
use Rattle.std.proofs.Common.{refl, sym, ap, ◌∙◌, arith}
use Rattle.std.proofs.Math.Nat.{pow-suc, div-div-eq-div-mul, div-one}
use Rattle.std.proofs.lemmas.List.{places, same_lists, length-take-le, length-append, append-nil, append_assoc, drop-drop, drop_all}
use Rattle.std.proofs.lemmas.List.{drop_at, take_at}
use Rattle.std.proofs.lemmas.List.Edits.{length-between, get_or-between}
use Rattle.std.specs.List.{slice_range}
use Rattle.std.specs.Int.{byte_at, bytes_low_first}
use Rattle.byteorder.specs.Endian.{little_from}
use Rattle.byteorder.specs.Numbers.{little_from-cons}
use Rattle.qic_base.specs.Field.{little_endian, number_at, little_endian_bytes, overwritten}
use borrow.Rule.Slice.PartMut.{put_mid}

-- a field's number as `byteorder` reads it
little_from-length : (bytes : List ℕ) → little_from 0 (length bytes) bytes ≡ little_endian bytes
little_from-length [] = refl
little_from-length (byte ∷ bytes) =
    ap (λ (n : ℕ). byte + 256 * n) (little_from-cons 0 (length bytes) byte bytes ∙ little_from-length bytes)

-- so the number in a field is that of its bytes
pub little_from-field : (bytes : List ℕ) (at width : ℕ) → at + width ≤ length bytes →
    little_from 0 width (slice_range bytes at (at + width)) ≡ number_at bytes at width
unfolding number_at
little_from-field bytes at width h =
    let n : length (slice_range bytes at (at + width)) ≡ width = omega (arith, length-between bytes at (at + width) h) in
    ap (λ (w : ℕ). little_from 0 w (slice_range bytes at (at + width))) (sym n) ∙ little_from-length (slice_range bytes at (at + width))

byte_at-pow : (k x : ℕ) → byte_at k x ≡ x / 256 ^ k % 256
byte_at-pow zero x = ap (λ (y : ℕ). y % 256) (sym (div-one x))
byte_at-pow (suc k) x = refl

-- the bytes of a number as `byteorder` writes them
bytes_low_first-above : (j width value : ℕ) → bytes_low_first j width value ≡ little_endian_bytes width (value / 256 ^ j)
unfolding little_endian_bytes
bytes_low_first-above j zero value = refl
bytes_low_first-above j (suc width) value =
    let shift : value / 256 ^ suc j ≡ value / 256 ^ j / 256 =
    ap (λ (p : ℕ). value / p) (pow-suc 256 j) ∙ sym (div-div-eq-div-mul value (256 ^ j) 256) in
    rw (byte_at-pow j value, bytes_low_first-above (suc j) width value, shift) refl

bytes_low_first-is : (width value : ℕ) → bytes_low_first 0 width value ≡ little_endian_bytes width value
bytes_low_first-is width value =
    bytes_low_first-above 0 width value ∙ ap (little_endian_bytes width) (div-one value)

pub length-little_endian_bytes : (width value : ℕ) → length (little_endian_bytes width value) ≡ width
unfolding little_endian_bytes
length-little_endian_bytes zero value = refl
length-little_endian_bytes (suc width) value = ap suc (length-little_endian_bytes width (value / 256))

-- a number's bytes spell it
pub little_endian-bytes : (width value : ℕ) → value < 256 ^ width → little_endian (little_endian_bytes width value) ≡ value
unfolding little_endian_bytes
little_endian-bytes zero value h = omega arith
little_endian-bytes (suc width) value h =
    let rest : value / 256 < 256 ^ width = omega (arith, pow-suc 256 width) in
    rw (little_endian-bytes width (value / 256) rest) (omega arith)

pub length-overwritten : (bytes part : List ℕ) (at : ℕ) → at + length part ≤ length bytes →
    length (overwritten bytes at part) ≡ length bytes
unfolding overwritten
length-overwritten bytes part at h = grind (arith, places)

pub get_or-overwritten_below : (bytes part : List ℕ) (at k d : ℕ) → at ≤ length bytes → k < at →
    get_or (overwritten bytes at part) k d ≡ get_or bytes k d
unfolding overwritten
get_or-overwritten_below bytes part at k d h l = grind (arith, places)

pub get_or-overwritten_above : (bytes part : List ℕ) (at k d : ℕ) → at ≤ length bytes → at + length part ≤ k →
    get_or (overwritten bytes at part) k d ≡ get_or bytes k d
unfolding overwritten
get_or-overwritten_above bytes part at k d h l = grind (arith, places)

pub get_or-overwritten : (bytes part : List ℕ) (at k d : ℕ) → at ≤ length bytes → k < length part →
    get_or (overwritten bytes at part) (at + k) d ≡ get_or part k d
unfolding overwritten
get_or-overwritten bytes part at k d h l = grind (arith, places)

at_le-length-overwritten : (bytes part : List ℕ) (at : ℕ) → at ≤ length bytes → at ≤ length (overwritten bytes at part)
unfolding overwritten
at_le-length-overwritten bytes part at h = grind (arith, places)

-- a field that lies before the part, or behind it, keeps its bytes
pub slice_range-overwritten_below : (bytes part : List ℕ) (at i j : ℕ) → at ≤ length bytes → i ≤ j → j ≤ at →
    slice_range (overwritten bytes at part) i j ≡ slice_range bytes i j
slice_range-overwritten_below bytes part at i j h o l =
    let all : at ≤ length (overwritten bytes at part) = at_le-length-overwritten bytes part at h in
    let new = length-between (overwritten bytes at part) i j (omega arith) in
    let old = length-between bytes i j (omega arith) in
    same_lists _ _ (new ∙ sym old)
    (λ k d b.
    get_or-between (overwritten bytes at part) i j k d (omega arith)
    ∙ get_or-overwritten_below bytes part at (i + k) d h (omega arith)
    ∙ sym (get_or-between bytes i j k d (omega arith)))

pub number_at-overwritten_below : (bytes part : List ℕ) (at from width : ℕ) → at ≤ length bytes → from + width ≤ at →
    number_at (overwritten bytes at part) from width ≡ number_at bytes from width
unfolding number_at
number_at-overwritten_below bytes part at from width h l =
    ap little_endian (slice_range-overwritten_below bytes part at from (from + width) h (omega arith) l)

pub slice_range-overwritten_above : (bytes part : List ℕ) (at i j : ℕ) → at + length part ≤ length bytes → at + length part ≤ i → i ≤ j →
    slice_range (overwritten bytes at part) i j ≡ slice_range bytes i j
unfolding overwritten
slice_range-overwritten_above bytes part at i j h l o =
    let n : ℕ = at + length part in
    let front : length (take at bytes ++ part) ≡ n =
    length-append (take at bytes) part ∙ ap (λ (m : ℕ). m + length part) (length-take-le at bytes (omega arith)) in
    let far : i ≡ n + (i - n) = omega arith in
    ap (λ (m : ℕ). take (j - i) (drop m (take at bytes ++ part ++ drop n bytes))) far
    ∙ ap (take (j - i)) (sym (drop-drop (i - n) n (take at bytes ++ part ++ drop n bytes)))
    ∙ ap (λ (xs : List ℕ). take (j - i) (drop (i - n) xs)) (drop_at (take at bytes ++ part) (drop n bytes) n front)
    ∙ ap (take (j - i)) (drop-drop (i - n) n bytes)
    ∙ ap (λ (m : ℕ). take (j - i) (drop m bytes)) (sym far)

pub number_at-overwritten_above : (bytes part : List ℕ) (at from width : ℕ) → at + length part ≤ length bytes → at + length part ≤ from →
    number_at (overwritten bytes at part) from width ≡ number_at bytes from width
unfolding number_at
number_at-overwritten_above bytes part at from width h l =
    ap little_endian (slice_range-overwritten_above bytes part at from (from + width) h l (omega arith))

pub slice_range-overwritten : (bytes part : List ℕ) (at j : ℕ) → at ≤ length bytes → j ≡ at + length part →
    slice_range (overwritten bytes at part) at j ≡ part
unfolding overwritten
slice_range-overwritten bytes part at j h e =
    let n : length part ≡ j - at = omega arith in
    ap (λ (xs : List ℕ). take (j - at) (drop at xs)) (append_assoc (take at bytes) part (drop (at + length part) bytes))
    ∙ ap (take (j - at)) (drop_at (take at bytes) (part ++ drop (at + length part) bytes) at (length-take-le at bytes h))
    ∙ take_at part (drop (at + length part) bytes) (j - at) n

-- what was written is read
pub number_at-overwritten : (bytes : List ℕ) (at width value : ℕ) → at ≤ length bytes → value < 256 ^ width →
    number_at (overwritten bytes at (little_endian_bytes width value)) at width ≡ value
unfolding number_at
number_at-overwritten bytes at width value h f =
    let n : at + width ≡ at + length (little_endian_bytes width value) = omega (arith, length-little_endian_bytes width value) in
    ap little_endian (slice_range-overwritten bytes (little_endian_bytes width value) at (at + width) h n)
    ∙ little_endian-bytes width value f

-- a write by `byteorder` to a part of a slice
pub put_mid-field : (bytes buf mid : List ℕ) (at width value : ℕ) → at + width ≤ length bytes → length mid ≡ width →
    buf ≡ bytes_low_first 0 width value ++ drop width mid → put_mid at (at + width - at) bytes buf ≡ overwritten bytes at
    (little_endian_bytes width value)
unfolding overwritten
put_mid-field bytes buf mid at width value h n e =
    let part : List ℕ = little_endian_bytes width value in
    let written : buf ≡ part =
    e ∙ ap (λ (xs : List ℕ). bytes_low_first 0 width value ++ xs) (drop_all width mid (omega arith))
    ∙ append-nil (bytes_low_first 0 width value) ∙ bytes_low_first-is width value in
    let end : at + (at + width - at) ≡ at + length part = omega (arith, length-little_endian_bytes width value) in
    ap (λ (xs : List ℕ). take at bytes ++ (xs ++ drop (at + width - at) (drop at bytes))) written
    ∙ sym (append_assoc (take at bytes) part (drop (at + width - at) (drop at bytes)))
    ∙ ap (λ (xs : List ℕ). take at bytes ++ part ++ xs) (drop-drop (at + width - at) at bytes)
    ∙ ap (λ (m : ℕ). take at bytes ++ part ++ drop m bytes) end

-- bytes that are copied over a part as a field
pub put_mid-overwritten : (sector bytes : List ℕ) (at k : ℕ) → length bytes ≡ k → put_mid at k sector bytes ≡ overwritten sector at bytes
unfolding overwritten
put_mid-overwritten sector bytes at k h =
    sym (append_assoc (take at sector) bytes (drop k (drop at sector)))
    ∙ ap (λ (xs : List ℕ). take at sector ++ bytes ++ xs) (drop-drop k at sector ∙ ap (λ (n : ℕ). drop (at + n) sector) (sym h))
