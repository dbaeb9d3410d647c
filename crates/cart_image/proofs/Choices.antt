-- Choosing among the sectors of a segment that are to be written.
use Rattle.std.proofs.Common.{◌≡◌, ℕ, Bool, true, List, sym, ◌∙◌, ap}
use Rattle.std.specs.Prelude.{slice_index_or, ◌&&◌}
use Rattle.qic_base.specs.CartridgeTerms.{is_lost}
use Rattle.qic_base.specs.declared.tape.SectorView.{SectorView}
use Rattle.cart_image.specs.declared.reading.SectorState.{SectorState}
use Rattle.cart_image.specs.declared.reading.SectorState.TheVariants as state
use Rattle.cart_image.specs.State.{state_of}

-- whether a sector is to be written and its view is so, where it has the state of that view
abbrev pub IsChoice : (f : SectorView → Bool) (written : ℕ) (states : List SectorState) (i : ℕ) (b : Bool) → Type 0
IsChoice f written states i b = (view : SectorView) → (is_lost written i ≡ true → slice_index_or states i state.Blank ≡ state_of view) →
    b ≡ (is_lost written i && f view)

-- .. as a test of the bit and the state says
pub choice-is : (f : SectorView → Bool) (written : ℕ) (states : List SectorState) (i : ℕ) (is_written b : Bool) →
    is_written ≡ is_lost written i
    → ((view : SectorView) → (is_written ≡ true → slice_index_or states i state.Blank ≡ state_of view) → b ≡ (is_written && f view)) →
    IsChoice f written states i b
choice-is f written states i is_written b is by view seen = by view (λ bit. seen (sym is ∙ bit)) ∙ ap (λ w. w && f view) is
