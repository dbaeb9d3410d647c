-- How the pieces of a dump lie, in memory and by its layout.
use Rattle.std.proofs.Common.{◌≡◌, ℕ, zero, suc, ◌+◌, ◌-◌, ◌*◌, ◌/◌, ◌%◌, ◌<◌, ◌≤◌, ◌&&◌, nat_le, nat_lt, not, Bool, true, false}
use Rattle.std.proofs.Common.{inl, inr, List, [], ◌∷◌, length, if◌then◌else◌, refl, sym, ap, ◌∙◌, arith, zero-add}
use Rattle.std.specs.Prelude.{slice_index, sum_by}
use Rattle.std.specs.List.{range_with_len}
use Rattle.std.specs.Int.{bit_at}
use Rattle.std.proofs.lemmas.Bool.{cases_lt}
use Rattle.std.proofs.lemmas.Bool.Decides.{nat_tests}
use Rattle.std.proofs.lemmas.List.Sums.{sum_by-append}
use Rattle.dump_lists.specs.Masks.{IsMissingSet}
use Rattle.dump_spec.specs.Dump.{Dump}
use Rattle.dump_spec.specs.Lists.{Span, is_missing}
use Rattle.dump_spec.specs.Pieces.{Layout, piece_sectors, sectors_of, piece_start, has_piece}
use Rattle.dump_spec.specs.declared.form.Form.{Form}
use Rattle.dump_reader.proofs.Sectors.{same_test}
use Rattle.dump_reader.specs.Laid.{IsLaidOut, HasSegment, IsPlaced, sectors_in, start_in, is_there}
use Rattle.dump_reader.specs.Piece.{is_marked}
use Rattle.dump_reader.specs.declared.cursor.Cursor.{Cursor}
use Rattle.dump_reader.specs.declared.known.KnownDump.{KnownDump}

-- ---- sums over segments

sum_step : (f : ℕ → ℕ) (a n : ℕ) → sum_by f (range_with_len a (suc n)) ≡ f a + sum_by f (range_with_len (a + 1) n)
sum_step f a n =
    sum_by-append f (a ∷ []) (range_with_len (a + 1) n) ∙ ap (λ (k : ℕ). k + sum_by f (range_with_len (a + 1) n)) (zero-add (f a))

pub sum_more : (f : ℕ → ℕ) (a n : ℕ) → sum_by f (range_with_len a (suc n)) ≡ sum_by f (range_with_len a n) + f (a + n)
sum_more f a zero = let e : a + 0 ≡ a = omega arith in omega (arith, ap f e)
sum_more f a (suc n) =
    let next : a + 1 + n ≡ a + suc n = omega arith in
    omega (arith, sum_step f a (suc n), sum_step f a n, sum_more f (a + 1) n, ap f next)

pub sums_same : (f g : ℕ → ℕ) (a n : ℕ) → ((k : ℕ) → a ≤ k → k < a + n → f k ≡ g k) →
    sum_by f (range_with_len a n) ≡ sum_by g (range_with_len a n)
sums_same f g a zero same = refl
sums_same f g a (suc n) same =
    let here : f a ≡ g a = same a (omega arith) (omega arith) in
    let rest = sums_same f g (a + 1) n (λ k low high. same k (omega arith) (omega arith)) in
    omega (arith, sum_step f a n, sum_step g a n, here, rest)

-- ---- the next segment

pub start_next : (known : KnownDump) (segment : ℕ) →
    start_in known (segment + 1) ≡ start_in known segment + (if nat_lt segment known.first then 0 else sectors_in known segment)
start_next known segment = elim (cases_lt segment known.first) [
  | inl low ↦
      let before : nat_lt segment known.first ≡ true = grind (arith, nat_tests) in
      let none : segment - known.first ≡ 0 = omega arith in
      let still : segment + 1 - known.first ≡ 0 = omega arith in
      rw (before, none, still) refl
  | inr high ↦
      let behind : nat_lt segment known.first ≡ false = grind (arith, nat_tests) in
      let more : segment + 1 - known.first ≡ suc (segment - known.first) = omega arith in
      let here : known.first + (segment - known.first) ≡ segment = omega arith in
      rw behind
      (ap (λ (n : ℕ). sum_by (sectors_in known) (range_with_len known.first n)) more
      ∙ sum_more (sectors_in known) known.first (segment - known.first)
      ∙ ap (λ (k : ℕ). start_in known segment + sectors_in known k) here)
]

-- ---- by the layout

pub missing_same : (missing : List Span) (set : List ℕ) (segment : ℕ) → IsMissingSet missing set → segment < 32 * length set →
    is_marked set segment ≡ is_missing missing segment
missing_same missing set segment is within =
    let few : nat_lt segment (32 * length set) ≡ true = grind (arith, nat_tests) in
    rw few (same_test (bit_at (slice_index set (segment / 32)) (segment % 32)) (is_missing missing segment) (is segment within))

sectors_same : (known : KnownDump) (layout : Layout) (segment : ℕ) → IsLaidOut known layout → HasSegment known segment →
    sectors_in known segment ≡ sectors_of layout segment
sectors_same known layout segment is has =
    ap (λ (b : Bool). if b then 0 else piece_sectors known.form (slice_index known.masks.now segment))
    (missing_same layout.missing known.missing.now segment is.missing has.bit)
    ∙ ap (λ (mask : ℕ). if is_missing layout.missing segment then 0 else piece_sectors known.form mask) (sym (is.masks segment has.mask))
    ∙ ap (λ (form : Form). if is_missing layout.missing segment then 0 else piece_sectors form (layout.masks segment)) (sym is.form)

pub start_same : (known : KnownDump) (layout : Layout) (segment : ℕ) → IsLaidOut known layout → HasSegment known segment →
    start_in known segment ≡ piece_start layout segment
start_same known layout segment is has =
    let mask = has.mask in
    let bit = has.bit in
    sums_same (sectors_in known) (sectors_of layout) known.first (segment - known.first)
    (λ k low high. sectors_same known layout k is (record { mask = omega arith; bit = omega arith }))
    ∙ ap (λ (first : ℕ). sum_by (sectors_of layout) (range_with_len first (segment - first))) (sym is.first)

pub has_same : (known : KnownDump) (cursor : Cursor) (dump : Dump) (layout : Layout) → HasSegment known cursor.segment →
    IsPlaced known cursor → IsLaidOut known layout → length dump.bytes ≡ known.bytes →
    is_there known cursor ≡ has_piece dump layout cursor.segment
has_same known cursor dump layout has placed is long =
    let segment : ℕ = cursor.segment in
    let start : cursor.start ≡ piece_start layout segment = placed.start ∙ start_same known layout segment is has in
    ap (λ (b : Bool). nat_le known.first segment && nat_le segment 65535 && not b && nat_lt (1024 * cursor.start) known.bytes)
    (missing_same layout.missing known.missing.now segment is.missing has.bit)
    ∙ ap (λ (k : ℕ). nat_le known.first segment && nat_le segment 65535 && not (is_missing layout.missing segment)
    && nat_lt (1024 * k) known.bytes) start
    ∙ ap (λ (n : ℕ). nat_le known.first segment && nat_le segment 65535 && not (is_missing layout.missing segment)
    && nat_lt (1024 * piece_start layout segment) n) (sym long)
    ∙ ap (λ (first : ℕ). nat_le first segment && nat_le segment 65535 && not (is_missing layout.missing segment)
    && nat_lt (1024 * piece_start layout segment) (length dump.bytes)) (sym is.first)
