-- The pieces of a dump, counted one after the other.
use Rattle.std.proofs.Common.{◌≡◌, ℕ, ◌+◌, ◌-◌, true, false, [], ◌∷◌, length, sym, ap, ◌∙◌}
use Rattle.std.proofs.Common.{length-append, arith}
use Rattle.std.proofs.lemmas.List.Sums.{sum_by-append}
use Rattle.cartridge_spec.specs.Shape.{usable_count}
use Rattle.dump_spec.specs.Dump.{Dump}
use Rattle.dump_spec.specs.Lines.{bad_count}
use Rattle.dump_spec.specs.Pieces.{Layout, has_piece}
use Rattle.dump_answers.specs.Pieces.{below, CountsTo, HasPieces}
use Rattle.dump_answers.specs.declared.pieces.PieceCounts.{PieceCounts}
use Rattle.dump_answers.proofs.Ranging.{below_none, below_yes, below_no, below_all}

pub counts_none : (dump : Dump) (layout : Layout) (counts : PieceCounts) → counts.pieces ≡ 0 → counts.bad ≡ 0 →
    CountsTo dump layout counts 0
counts_none dump layout counts no_pieces no_bad =
    let none = below_none (has_piece dump layout) in
    record {
      pieces_are = no_pieces ∙ sym (ap length none);
      bad = no_bad ∙ sym (ap (bad_count layout.masks) none);
    }

one_bad : (masks : ℕ → ℕ) (n : ℕ) → bad_count masks (n ∷ []) ≡ 32 - usable_count (masks n)
one_bad masks n = omega arith

pub counts_piece : (dump : Dump) (layout : Layout) (counts next : PieceCounts) (n mask left_out : ℕ) → CountsTo dump layout counts n →
    has_piece dump layout n ≡ true → layout.masks n ≡ mask → left_out ≡ 32 - usable_count mask → next.pieces ≡ counts.pieces + 1 →
    next.bad ≡ counts.bad + left_out → CountsTo dump layout next (n + 1)
counts_piece dump layout counts next n mask left_out so has is out pieces_next bad_next =
    let more = below_yes (has_piece dump layout) n has in
    record {
      pieces_are = omega (arith, so.pieces_are, ap length more, length-append (below (has_piece dump layout) n) (n ∷ []), pieces_next);
      bad = bad_next ∙ ap (λ (k : ℕ). k + left_out) so.bad
          ∙ ap (λ (k : ℕ). bad_count layout.masks (below (has_piece dump layout) n) + k) (out ∙ ap (λ (m : ℕ). 32 - usable_count m)
          (sym is) ∙ sym (one_bad layout.masks n))
          ∙ sym (sum_by-append (λ segment. 32 - usable_count (layout.masks segment)) (below (has_piece dump layout) n) (n ∷ []))
          ∙ sym (ap (bad_count layout.masks) more);
    }

pub counts_same : (dump : Dump) (layout : Layout) (counts : PieceCounts) (n : ℕ) → CountsTo dump layout counts n →
    has_piece dump layout n ≡ false → CountsTo dump layout counts (n + 1)
counts_same dump layout counts n so absent =
    let same = sym (below_no (has_piece dump layout) n absent) in
    record { pieces_are = so.pieces_are ∙ ap length same; bad = so.bad ∙ ap (bad_count layout.masks) same }

pub counts_all : (dump : Dump) (layout : Layout) (counts : PieceCounts) (n : ℕ) → n ≡ 65536 → CountsTo dump layout counts n →
    HasPieces dump layout counts
counts_all dump layout counts n all so =
    let whole = below_all (has_piece dump layout) n all in
    record { pieces_are = so.pieces_are ∙ ap length whole; bad = so.bad ∙ ap (bad_count layout.masks) whole }
