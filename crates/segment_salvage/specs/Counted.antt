-- Which cells count of a segment in the form of sectors, by the set of those that do not (this project's profile).
use Rattle.std.specs.Prelude.{ℕ, ◌↔◌, Bool, List, slice_get, IsSomeAnd}
use Rattle.cartridge_laws.specs.Segment.{IsUnreadable, hidden}
use Rattle.dump_spec.specs.Given.{CountAs}
use Rattle.dump_spec.specs.declared.form.Form.TheVariants as forms
use Rattle.qic_base.specs.CartridgeTerms.{IsLost}
use Rattle.qic_base.specs.declared.tape.SectorView.{SectorView}

-- the cells that count are those outside the set, whose places are just those of the lost ones
pub record CountsWithout (zero_lost : Bool) (cells : List SectorView) (lost : ℕ) : Type 0 where
  pub counts : CountAs forms.Sectors zero_lost cells (hidden lost cells)
  pub each : (place : ℕ) → IsLost lost place ↔ IsSomeAnd (slice_get (hidden lost cells) place) IsUnreadable
