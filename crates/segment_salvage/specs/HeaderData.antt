-- The data of a header that the cells of a segment read as (this project's profile).
use Rattle.std.specs.Prelude.{ℕ, ◌≡◌, Bool, true, List}
use Rattle.cartridge_spec.specs.Header.{has_signature}
use Rattle.dump_spec.specs.HeaderPlace.{ReadsAs}
use Rattle.dump_spec.specs.declared.form.Form.{Form}
use Rattle.qic_base.specs.declared.tape.SectorView.{SectorView}

pub record IsHeaderData (form : Form) (zero_lost : Bool) (cells : List SectorView) (area : List (List ℕ)) : Type 0 where
  pub reads : ReadsAs form zero_lost cells area
  pub signature : has_signature area ≡ true
