-- The table, looked through from its begin on.
use Rattle.std.proofs.Common.{◌≡◌, ◌≢◌, ◌↔◌, ℕ, ◌+◌, ◌<◌, ◌≤◌, Bool, true, false, List, [], ◌∷◌, length, take, get_or}
use Rattle.std.proofs.Common.{map, suc, zero, arith, add-one}
use Rattle.std.proofs.Common.{sym, ap, ◌∙◌, inl, inr}
use Rattle.std.specs.Prelude.{IsTrue}
use Rattle.std.proofs.Math.ListN.{get_or-map, length-map}
use Rattle.std.proofs.lemmas.List.{take_all}
use Rattle.word_hints.specs.Forms.{HasNoRow, HasRow, Row, row_of, rows}
use Rattle.word_hints.specs.declared.forms.Form.{Form}

has_row : (table : List Row) (first : List ℕ) (at : ℕ) (found : Row) → at < length table → get_or table at found ≡ found →
    found.first ≡ first → HasRow table first found
has_row [] first at found here is same = absurd (omega arith)
has_row (row ∷ table) first zero found here is same = inl (ap (λ (r : Row). r.first) is ∙ same, sym is)
has_row (row ∷ table) first (suc at) found here is same = inr (has_row table first at found (omega arith) is same)

no_row : (table : List Row) (first : List ℕ) (at : ℕ) (d : Row) → at < length table → HasNoRow (take at table) first →
    (get_or table at d).first ≢ first → HasNoRow (take (suc at) table) first
no_row [] first at d here none next = absurd (omega arith)
no_row (row ∷ table) first zero d here none next = (next, tt)
no_row (row ∷ table) first (suc at) d here none next = (none.0, no_row table first at d (omega arith) none.1 next)

-- a row at its place in the table
at_row : (forms : List Form) (at : ℕ) (d : Form) → map row_of forms ≡ rows → row_of (get_or forms at d) ≡ get_or rows at (row_of d)
at_row forms at d same = sym (get_or-map row_of forms at d) ∙ ap (λ table. get_or table at (row_of d)) same

-- it has as many rows
long : (forms : List Form) → map row_of forms ≡ rows → length forms ≡ length rows
long forms same = sym (length-map forms row_of) ∙ ap length same

-- ---- a step of the look

pub passed : (forms : List Form) (first : List ℕ) (at : ℕ) (d : Form) (begins : Bool) → map row_of forms ≡ rows → at < length forms →
    HasNoRow (take at rows) first → (IsTrue begins ↔ ((row_of (get_or forms at d)).first ≡ first)) → begins ≡ false →
    HasNoRow (take (at + 1) rows) first
passed forms first at d begins same here none tells is =
    let other : (get_or rows at (row_of d)).first ≢ first =
    λ begun. let told = tells.1 (ap (λ (r : Row). r.first) (at_row forms at d same) ∙ begun) in cc in
    rw add-one (no_row rows first at (row_of d) (rw (long forms same) at here) none other)

pub found : (forms : List Form) (first : List ℕ) (at : ℕ) (d : Form) (begins : Bool) → map row_of forms ≡ rows → at < length forms →
    (IsTrue begins ↔ ((row_of (get_or forms at d)).first ≡ first)) → begins ≡ true →
    HasRow rows first (row_of (get_or forms at d))
found forms first at d begins same here tells is =
    let row : Row = row_of (get_or forms at d) in
    let within : at < length rows = rw (long forms same) at here in
    has_row rows first at row within (default rows at (row_of d) row within (at_row forms at d same)) (tells.0 is)
  where
    default : (table : List Row) (at : ℕ) (d e : Row) → at < length table → e ≡ get_or table at d → get_or table at e ≡ e
    default [] at d e here is = absurd (omega arith)
    default (row ∷ table) zero d e here is = sym is
    default (row ∷ table) (suc at) d e here is = default table at d e (omega arith) is

pub looked : (forms : List Form) (first : List ℕ) (at : ℕ) → map row_of forms ≡ rows → length forms ≤ at → HasNoRow (take at rows) first →
    HasNoRow rows first
looked forms first at same end none = rw (take_all at rows (rw (long forms same) at end)) at none
