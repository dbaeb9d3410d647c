-- What a call of a disk in memory leaves is what a crash inside it may leave.
use Rattle.std.proofs.Common.{◌≡◌, ℕ, ◌+◌, ◌-◌, ◌<◌, ◌≤◌, List, ◌++◌, take, drop, replicate, length, Some, refl, sym, ap, ◌∙◌, arith}
use Rattle.std.proofs.Common.{get_or, length-append, length-take, length-drop}
use Rattle.std.proofs.lemmas.List.{length-replicate, get_or-take, get_or-drop, get_or_append_left, get_or-append_right}
use Rattle.std.proofs.lemmas.List.Elements.{All-append, All-take, All-drop}
use Rattle.std.proofs.lemmas.Option.{slice_get-get_or}
use Rattle.qic_base.specs.Disk.{AreBytes, TornRange, TornLength, resized}
use Rattle.qic_base.specs.Field.{overwritten}
use Rattle.qic_mem.proofs.Places.{slice_get-same}

length-front : (bytes : List ℕ) (place : ℕ) → place ≤ length bytes → length (take place bytes) ≡ place
length-front bytes place within = simp length-take (omega arith)

length-written : (bytes part : List ℕ) (place : ℕ) → place + length part ≤ length bytes →
    length (take place bytes ++ part ++ drop (place + length part) bytes) ≡ length bytes
length-written bytes part place within = simp (length-append, length-take, length-drop) (omega arith)

get-below : (bytes part : List ℕ) (place k : ℕ) → place + length part ≤ length bytes → k < place →
    get_or (take place bytes ++ part ++ drop (place + length part) bytes) k 0 ≡ get_or bytes k 0
get-below bytes part place k within below =
    let front : length (take place bytes) ≡ place = length-front bytes place (omega arith) in
    get_or_append_left (take place bytes ++ part) (drop (place + length part) bytes) 0 k
    (omega (arith, length-append (take place bytes) part))
    ∙ get_or_append_left (take place bytes) part 0 k (omega arith)
    ∙ get_or-take place bytes k 0 below

get-above : (bytes part : List ℕ) (place k : ℕ) → place + length part ≤ length bytes → place + length part ≤ k →
    get_or (take place bytes ++ part ++ drop (place + length part) bytes) k 0 ≡ get_or bytes k 0
get-above bytes part place k within above =
    let front : length (take place bytes) ≡ place = length-front bytes place (omega arith) in
    let sum : place + length part + (k - (place + length part)) ≡ k = omega arith in
    get_or-append_right (take place bytes ++ part) (drop (place + length part) bytes) (place + length part) k 0
    (omega (arith, length-append (take place bytes) part)) above
    ∙ get_or-drop (place + length part) bytes (k - (place + length part)) 0
    ∙ ap (λ p. get_or bytes p 0) sum

-- bytes with bytes written over them
pub written-bytes : (bytes part : List ℕ) (place : ℕ) → AreBytes bytes → AreBytes part → AreBytes (overwritten bytes place part)
unfolding overwritten
written-bytes bytes part place old new =
    let IsByte : ℕ → Type 0 = λ b. b < 256 in
    All-append IsByte (take place bytes ++ part) (drop (place + length part) bytes)
    (All-append IsByte (take place bytes) part (All-take IsByte place bytes old) new) (All-drop IsByte (place + length part) bytes old)

-- bytes, with the first of them replaced
pub replaced-bytes : (bytes front : List ℕ) (n k : ℕ) → AreBytes bytes → AreBytes front → AreBytes (take n (front ++ drop k bytes))
replaced-bytes bytes front n k old new =
    let IsByte : ℕ → Type 0 = λ b. b < 256 in
    All-take IsByte n (front ++ drop k bytes) (All-append IsByte front (drop k bytes) new (All-drop IsByte k bytes old))

pub replaced-length : (bytes front : List ℕ) (n : ℕ) → length front ≡ n → length bytes ≡ n →
    length (take n (front ++ drop (length front) bytes)) ≡ n
replaced-length bytes front n front_long long = simp (length-take, length-append, length-drop) (omega arith)

-- a write of no more bytes than the range has
pub write-torn : (bytes part : List ℕ) (place count : ℕ) → length part ≤ count → place + count ≤ length bytes →
    AreBytes (overwritten bytes place part) → TornRange place count bytes (overwritten bytes place part)
unfolding overwritten
write-torn bytes part place count some within are_bytes =
    let long : length (take place bytes ++ part ++ drop (place + length part) bytes) ≡ length bytes = length-written bytes part place
    (omega arith) in
    record {
      size = long;
      bytes = are_bytes;
      below = λ k under. slice_get-same (take place bytes ++ part ++ drop (place + length part) bytes) bytes k 0 long
          (get-below bytes part place k (omega arith) under);
      above = λ k over. slice_get-same (take place bytes ++ part ++ drop (place + length part) bytes) bytes k 0 long
          (get-above bytes part place k (omega arith) (omega arith));
    }

-- a write that did nothing
pub nothing-torn : (bytes : List ℕ) (place count : ℕ) → AreBytes bytes → TornRange place count bytes bytes
nothing-torn bytes place count are_bytes = record {
  size = refl;
  bytes = are_bytes;
  below = λ k under. refl;
  above = λ k over. refl;
}

get-kept : (bytes : List ℕ) (n k : ℕ) → k < n → k < length bytes →
    get_or (take n bytes ++ replicate (n - length bytes) 0) k 0 ≡ get_or bytes k 0
get-kept bytes n k below within =
    get_or_append_left (take n bytes) (replicate (n - length bytes) 0) 0 k (omega (arith, length-take n bytes))
    ∙ get_or-take n bytes k 0 below

-- a new length
pub resized-torn : (bytes : List ℕ) (n : ℕ) → AreBytes (resized n bytes) → TornLength n bytes (resized n bytes)
resized-torn bytes n are_bytes =
    let long : length (resized n bytes) ≡ n = simp (length-append, length-take, length-replicate) (omega arith) in
    record {
      size = long;
      bytes = are_bytes;
      kept = λ k below within.
          slice_get-get_or (resized n bytes) k 0 (omega arith) ∙ ap Some (get-kept bytes n k below within)
          ∙ sym (slice_get-get_or bytes k 0 within);
    }
