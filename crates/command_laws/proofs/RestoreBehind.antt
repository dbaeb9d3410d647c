-- The segments of a volume's pieces lie behind the table's, on the cartridge.
use Rattle.std.proofs.Common.{◌≡◌, ℕ, zero, suc, ◌-◌, ◌<◌, ◌≤◌, All, List, [], ◌∷◌, Some, slice_get, IsSomeAnd, subst, arith}
use Rattle.std.proofs.lemmas.List.Elements.{All-head, All-tail}
use Rattle.cartridge_laws.proofs.AppendSegments.{carrying_from}
use Rattle.cartridge_laws.specs.Table.{LieBehind, IsSoundList}
use Rattle.command_laws.proofs.ScrubApart.{carrying_to}
use Rattle.cartridge_spec.specs.Shape.{mask_at, capacity}
use Rattle.cartridge_spec.specs.Table.{Entry}
use Rattle.cartridge_spec.specs.Volumes.{carrying_segments, volume_length}
use Rattle.command_spec.specs.Restore.{pieces_of, pieces, volume_at}

-- a volume of a list in order begins behind the segment that all lie behind
begins_behind : (before last : ℕ) (entries : List Entry) (i : ℕ) (e : Entry) → LieBehind before last entries →
    slice_get entries i ≡ Some e → before < e.start
begins_behind before last [] i e order there = absurd (cc)
begins_behind before last (x ∷ es) zero e order there =
    let same : x ≡ e = cc in
    subst (λ (y : Entry). before < y.start) same order.0
begins_behind before last (x ∷ es) (suc i) e order there =
    let starts : before < x.start = order.0 in
    let forwards : x.start ≤ x.end = order.1 in
    let next : x.end < e.start = begins_behind x.end last es i e order.3 there in
    omega arith

-- and ends by the last one
pub ends_by : (entries : List Entry) (before last i : ℕ) (e : Entry) → LieBehind before last entries → slice_get entries i ≡ Some e →
    e.end ≤ last
ends_by [] before last i e order there = absurd (cc)
ends_by (x ∷ es) before last zero e order there = let same : x ≡ e = cc in subst (λ (y : Entry). y.end ≤ last) same order.2
ends_by (x ∷ es) before last (suc i) e order there = ends_by es x.end last i e order.3 there

record IsBetween (last : ℕ) (e : Entry) : Type 0 where
  behind : 2 < e.start
  within : e.end ≤ last

volume_between : (last : ℕ) (entries : List Entry) (number : ℕ) (e : Entry) → IsSoundList last entries → volume_at entries number ≡ Some e →
    IsBetween last e
volume_between last entries zero e order there = absurd (cc)
volume_between last entries (suc n) e order there =
    record { behind = begins_behind 2 last entries n e order there; within = ends_by entries 2 last n e order there }

-- what is so of some segments is so of their pieces
piece_among : (P : ℕ → Type 0) (words : List ℕ) (segments : List ℕ) (left read segment : ℕ) → All P segments →
    IsSomeAnd (slice_get (pieces_of words segments left) read) (λ piece. piece.segment ≡ segment) → P segment
piece_among P words [] left read segment are at = absurd at
piece_among P words (s ∷ ss) zero read segment are at = absurd at
piece_among P words (s ∷ ss) (suc left) zero segment are at = subst P at (All-head P s ss are)
piece_among P words (s ∷ ss) (suc left) (suc read) segment are at =
    piece_among P words ss (suc left - capacity (mask_at words s)) read segment (All-tail P s ss are) at

pub piece_between : (words : List ℕ) (last : ℕ) (entries : List Entry) (number : ℕ) (e : Entry) (read segment : ℕ) →
    IsSoundList last entries → volume_at entries number ≡ Some e →
    IsSomeAnd (slice_get (pieces words e) read) (λ piece. piece.segment ≡ segment) → (3 ≤ segment) × (segment ≤ last)
piece_between words last entries number e read segment order there at =
    let is = volume_between last entries number e order there in
    let starts : 2 < e.start = is.behind in
    let ends : e.end ≤ last = is.within in
    let from : e.start ≤ segment = piece_among (λ s. e.start ≤ s) words (carrying_segments words e) (volume_length words e) read segment
    (carrying_from words e.start e.end) at in
    let to : segment ≤ e.end = piece_among (λ s. s ≤ e.end) words (carrying_segments words e) (volume_length words e) read segment
    (carrying_to words e.start e.end) at in
    (omega arith, omega arith)
