-- What segments give, one behind the other.
use Rattle.std.proofs.Common.{◌≡◌, ℕ, ◌+◌, ◌-◌, ◌≤◌, Bool, List, [], ◌∷◌, ◌++◌, refl, sym, ap, subst, ◌∙◌, arith, append_assoc, append-nil}
use Rattle.std.specs.List.{range_with_len}
use Rattle.dump_laws.proofs.Determined.{one_giving}
use Rattle.dump_output.specs.Laws.{FrontsBegin}
use Rattle.qic_base.proofs.Arrays.{range_part}
use Rattle.dump_spec.specs.Cells.{cells_in}
use Rattle.dump_spec.specs.Dump.{Dump}
use Rattle.dump_spec.specs.Given.{Given, Gives}
use Rattle.dump_spec.specs.Output.{GiveInTurn}
use Rattle.dump_spec.specs.Pieces.{Layout}

-- one segment more
pub turn_more : (dump : Dump) (layout : Layout) (zero_lost : Bool) (segments : List ℕ) (segment : ℕ) (given here : List Given) →
    GiveInTurn dump layout zero_lost segments given → Gives layout.form zero_lost (cells_in dump layout segment) here →
    GiveInTurn dump layout zero_lost (segments ++ segment ∷ []) (given ++ here)
turn_more dump layout zero_lost [] segment given here none gives =
    (here, [], ap (λ (gs : List Given). gs ++ here) none ∙ sym (append-nil here), gives, refl)
turn_more dump layout zero_lost (s ∷ segments) segment given here turn gives = (
  turn.0,
  turn.1 ++ here,
  ap (λ (gs : List Given). gs ++ here) turn.2 ∙ append_assoc turn.0 turn.1 here,
  turn.3,
  turn_more dump layout zero_lost segments segment turn.1 here turn.4 gives,
)

-- the segment behind those from one on
pub range_turn : (dump : Dump) (layout : Layout) (zero_lost : Bool) (first segment : ℕ) (given here : List Given) → first ≤ segment →
    GiveInTurn dump layout zero_lost (range_with_len first (segment - first)) given →
    Gives layout.form zero_lost (cells_in dump layout segment) here →
    GiveInTurn dump layout zero_lost (range_with_len first (segment + 1 - first)) (given ++ here)
range_turn dump layout zero_lost first segment given here low turn gives =
    let parts : segment + 1 - first ≡ segment - first + 1 = omega arith in
    let at : first + (segment - first) ≡ segment = omega arith in
    let all : range_with_len first (segment + 1 - first) ≡ range_with_len first (segment - first) ++ segment ∷ [] =
    ap (range_with_len first) parts ∙ range_part first (segment - first) 1
    ∙ ap (λ (s : ℕ). range_with_len first (segment - first) ++ s ∷ []) at in
    subst (λ (segments : List ℕ). GiveInTurn dump layout zero_lost segments (given ++ here)) (sym all)
    (turn_more dump layout zero_lost (range_with_len first (segment - first)) segment given here turn gives)

-- those up to one, and the others up to another
pub range_parts : (first segment last : ℕ) → first ≤ segment → segment ≤ last + 1 →
    range_with_len first (segment - first) ++ range_with_len segment (last + 1 - segment) ≡ range_with_len first (last + 1 - first)
range_parts first segment last low high =
    let parts : segment - first + (last + 1 - segment) ≡ last + 1 - first = omega arith in
    let at : segment ≡ first + (segment - first) = omega arith in
    ap (λ (s : ℕ). range_with_len first (segment - first) ++ range_with_len s (last + 1 - segment)) at
    ∙ sym (range_part first (segment - first) (last + 1 - segment)) ∙ ap (range_with_len first) parts

-- ---- what the first segments give begins what all give

pub fronts_begin : FrontsBegin
fronts_begin dump layout zero_lost [] rest given whole none all = (whole, ap (λ (gs : List Given). gs ++ whole) (sym none), all)
fronts_begin dump layout zero_lost (segment ∷ front) rest given whole turn all =
    let same : turn.0 ≡ all.0 = one_giving layout.form zero_lost (cells_in dump layout segment) turn.0 all.0 turn.3 all.3 in
    let behind = fronts_begin dump layout zero_lost front rest turn.1 all.1 turn.4 all.4 in (
      behind.0,
      all.2 ∙ ap (λ (gs : List Given). gs ++ all.1) (sym same) ∙ ap (λ (gs : List Given). turn.0 ++ gs) behind.1
          ∙ sym (append_assoc turn.0 turn.1 behind.0) ∙ ap (λ (gs : List Given). gs ++ behind.0) (sym turn.2),
      behind.2,
    )
