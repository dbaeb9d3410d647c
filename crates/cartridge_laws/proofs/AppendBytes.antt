-- The new volume's segments carry its bytes, and its area begins with them.
use Rattle.std.proofs.Common.{ℕ, List, ◌≡◌, ◌+◌, ◌-◌, ◌∷◌, zero, suc, ◌*◌, inl, inr, sym, ap, ◌∙◌, arith, ◌≤◌, Bool, true, false, cond, []}
use Rattle.std.proofs.Common.{nat_le, refl, All, ◌++◌, length, take, replicate, drop, subst}
use Rattle.std.specs.Prelude.{sum_by}
use Rattle.std.proofs.lemmas.List.Sums.{sum_by-cons}
use Rattle.std.specs.List.{range_with_len}
use Rattle.std.proofs.lemmas.Bool.{cases_Bool, leb-true, le-leb, cases_lt}
use Rattle.std.proofs.lemmas.List.Elements.{All-head, All-tail}
use Rattle.std.proofs.lemmas.List.{append_assoc, take_all, take_at, take-append-drop, length-take, length-drop}
use Rattle.cartridge_laws.proofs.AppendDone.{segments_are}
use Rattle.cartridge_laws.proofs.AppendSegments.{carries, carried, carrying_are, AreTaken, HasRoom, carrying_carry}
use Rattle.cartridge_laws.proofs.AppendVolume.{ready_taken, plain_room}
use Rattle.cartridge_laws.proofs.MountWriting.{places_that, places_none, places_passes, places_fails}
use Rattle.cartridge_laws.specs.AppendLaws.{new_volume}
use Rattle.cartridge_laws.specs.AppendSettled.{DoneBytes}
use Rattle.cartridge_laws.specs.Shape.{Carries}
use Rattle.cartridge_spec.specs.Appending.{taken_by, filled_up, in_sectors, free_segments}
use Rattle.cartridge_spec.specs.Volumes.{bytes_in, carrying, capacity_between, Volume, entries_of, volume_length}
use Rattle.cartridge_laws.specs.VolumeParts.{new_segments, sectors_in}
use Rattle.cartridge_laws.specs.Table.{last_end}
use Rattle.cartridge_spec.specs.HeaderCopies.{last_segment}
use Rattle.cartridge_spec.specs.Shape.{mask_at, capacity, data_count, usable_count}
use Rattle.cartridge_spec.specs.Table.{Entry}
use Rattle.qic_base.proofs.Arrays.{full_sector}

-- ---- what segments carry

-- the bytes that these segments carry
abbrev pub capacity_of : (words segments : List ℕ) → ℕ
capacity_of words segments = sum_by (λ s. capacity (mask_at words s)) segments

pub capacity_cons : (words : List ℕ) (s : ℕ) (ss : List ℕ) → capacity_of words (s ∷ ss) ≡ capacity (mask_at words s) + capacity_of words ss
capacity_cons words s ss = sum_by-cons (λ t. capacity (mask_at words t)) s ss

-- those that carry no data add nothing
range_carries : (words : List ℕ) (m from : ℕ) → capacity_of words (range_with_len from m) ≡ capacity_of words
    (places_that (carries words) from m)
range_carries words zero from = ap (capacity_of words) (sym (places_none (carries words) from))
range_carries words (suc m) from =
    elim (cases_Bool (carries words from)) [
      | inl passes ↦
          capacity_cons words from (range_with_len (from + 1) m)
          ∙ ap (λ (n : ℕ). capacity (mask_at words from) + n) (range_carries words m (from + 1))
          ∙ sym (ap (capacity_of words) (places_passes (carries words) from m passes)
          ∙ capacity_cons words from (places_that (carries words) (from + 1) m))
      | inr fails ↦
          let none = carried (carries words from) (1024 * data_count (mask_at words from)) fails in
          let here : capacity_of words (range_with_len from (suc m)) ≡ capacity (mask_at words from) + capacity_of words
          (range_with_len (from + 1) m) =
          capacity_cons words from (range_with_len (from + 1) m) in
          let rest : capacity_of words (range_with_len from (suc m)) ≡ capacity_of words (range_with_len (from + 1) m) = omega arith in
          rest ∙ range_carries words m (from + 1) ∙ ap (capacity_of words) (sym (places_fails (carries words) from m fails))
    ]

pub between_carries : (words : List ℕ) (start end : ℕ) → capacity_between words start end ≡ capacity_of words (carrying words start end)
between_carries words start end =
    range_carries words (end + 1 - start) start ∙ ap (capacity_of words) (sym (carrying_are words start end))

-- the segments that are taken carry the bytes, where all that are free do
taken_more : (words : List ℕ) (bytes : ℕ) (s : ℕ) (rest : List ℕ) (b : Bool) → nat_le bytes (capacity (mask_at words s)) ≡ b →
    bytes - capacity (mask_at words s) ≤ capacity_of words rest → bytes ≤ capacity_of words (s ∷ cond b [] rest)
taken_more words bytes s rest true is enough = omega (arith, leb-true bytes (capacity (mask_at words s)) is, capacity_cons words s [])
taken_more words bytes s rest false is enough = omega (arith, enough, capacity_cons words s rest)

taken_enough : (words : List ℕ) (bytes : ℕ) (ss : List ℕ) → bytes ≤ capacity_of words ss →
    bytes ≤ capacity_of words (taken_by words bytes ss)
taken_enough words bytes [] enough = enough
taken_enough words bytes (s ∷ ss) enough =
    taken_more words bytes s (taken_by words (bytes - capacity (mask_at words s)) ss) (nat_le bytes (capacity (mask_at words s))) refl
    (taken_enough words (bytes - capacity (mask_at words s)) ss (omega (arith, enough, capacity_cons words s ss)))

-- each sector carries 1,024 bytes
pub carried_all : (words : List ℕ) (s : ℕ) → Carries (mask_at words s) → capacity (mask_at words s) ≡ 1024 * data_count (mask_at words s)
carried_all words s carry =
    ap (λ (b : Bool). cond b (1024 * data_count (mask_at words s)) 0) (le-leb 4 (usable_count (mask_at words s)) carry)

pub sectors_carry : (words segments : List ℕ) → All (λ s. Carries (mask_at words s)) segments →
    capacity_of words segments ≡ 1024 * sectors_in words segments
sectors_carry words [] carry = refl
sectors_carry words (s ∷ ss) carry =
    let here = carried_all words s (All-head (λ (t : ℕ). Carries (mask_at words t)) s ss carry) in
    let rest = sectors_carry words ss (All-tail (λ (t : ℕ). Carries (mask_at words t)) s ss carry) in
    omega (arith, here, rest, capacity_cons words s ss, sum_by-cons (λ t. data_count (mask_at words t)) s ss)

-- ---- bytes in sectors

take_past : (xs ys : List ℕ) (n : ℕ) → take (length xs + n) (xs ++ ys) ≡ xs ++ take n ys
take_past [] ys n = ap (λ (k : ℕ). take k ys) (omega arith)
take_past (x ∷ xs) ys n =
    let more : length (x ∷ xs) + n ≡ suc (length xs + n) = omega arith in
    ap (λ (k : ℕ). take k (x ∷ (xs ++ ys))) more ∙ ap (λ (zs : List ℕ). x ∷ zs) (take_past xs ys n)

no_bytes : (bytes : List ℕ) → length bytes ≤ 0 → take (length bytes) [] ≡ bytes
no_bytes [] none = refl
no_bytes (b ∷ bs) none = absurd (omega arith)

-- bytes of one sector
short_bytes : (bytes rest : List ℕ) → length bytes ≤ 1024 → take (length bytes) (filled_up (take 1024 bytes) ++ rest) ≡ bytes
short_bytes bytes rest few =
    ap (λ (front : List ℕ). take (length bytes) (filled_up front ++ rest)) (take_all 1024 bytes few)
    ∙ ap (take (length bytes)) (append_assoc bytes (replicate (1024 - length bytes) 0) rest)
    ∙ take_at bytes (replicate (1024 - length bytes) 0 ++ rest) (length bytes) refl

pub bytes_of_sectors : (count : ℕ) (bytes : List ℕ) → length bytes ≤ 1024 * count →
    take (length bytes) (bytes_in (in_sectors count bytes)) ≡ bytes
bytes_of_sectors zero bytes within = no_bytes bytes (omega arith)
bytes_of_sectors (suc count) bytes within =
    let rest : List ℕ = bytes_in (in_sectors count (drop 1024 bytes)) in
    elim (cases_lt 1024 (length bytes)) [
      | inl more ↦
          let front : List ℕ = take 1024 bytes in
          let behind : List ℕ = drop 1024 bytes in
          let front_long : length front ≡ 1024 = omega (arith, length-take 1024 bytes) in
          let behind_long : length behind ≡ length bytes - 1024 = length-drop 1024 bytes in
          let whole : length bytes ≡ length front + length behind = omega arith in
          ap (λ (sector : List ℕ). take (length bytes) (sector ++ rest)) (full_sector front front_long)
          ∙ ap (λ (n : ℕ). take n (front ++ rest)) whole
          ∙ take_past front rest (length behind)
          ∙ ap (λ (xs : List ℕ). front ++ xs) (bytes_of_sectors count behind (omega arith))
          ∙ take-append-drop 1024 bytes
      | inr few ↦ short_bytes bytes rest few
    ]

-- ---- the new volume

by_fit : (b : Bool) (size all : ℕ) → b ≡ true → cond b size all ≡ size
by_fit true size all is = refl
by_fit false size all is = absurd (cc)

pub done_bytes : DoneBytes
done_bytes c plain content ready =
    let words : List ℕ = plain.words in
    let last : ℕ = length words - 1 in
    let from : ℕ = last_end (entries_of plain) in
    let segments : List ℕ = new_segments plain content.bytes in
    let volume : Volume = new_volume plain content in
    let entry : Entry = volume.entry in
    let taken : AreTaken words from (last_segment c) segments = ready_taken c plain content ready in
    let room : HasRoom words (entries_of plain) (length content.bytes) = plain_room plain (length content.bytes) ready.room in
    let enough : length content.bytes ≤ capacity_between words (from + 1) last = room.enough in
    let free : capacity_between words (from + 1) last ≡ capacity_of words (free_segments words (entries_of plain)) =
    between_carries words (from + 1) last in
    let carry : length content.bytes ≤ capacity_of words segments =
    taken_enough words (length content.bytes) (free_segments words (entries_of plain)) (omega arith) in
    let all : capacity_between words entry.start entry.end ≡ capacity_of words segments =
    between_carries words entry.start entry.end ∙ ap (capacity_of words) (segments_are words from (last_segment c) segments taken) in
    let sectors : capacity_of words segments ≡ 1024 * sectors_in words segments =
    sectors_carry words segments
    (subst (λ (ss : List ℕ). All (λ s. Carries (mask_at words s)) ss) (sym taken.are) (carrying_carry words taken.start taken.end)) in
    let long : volume_length words entry ≡ length content.bytes =
    by_fit (nat_le (length content.bytes) (capacity_between words entry.start entry.end)) (length content.bytes)
    (capacity_between words entry.start entry.end)
    (le-leb (length content.bytes) (capacity_between words entry.start entry.end) (omega arith)) in (
      long,
      ap (λ (n : ℕ). take n (bytes_in volume.area)) long ∙ bytes_of_sectors (sectors_in words segments) content.bytes (omega arith),
    )
