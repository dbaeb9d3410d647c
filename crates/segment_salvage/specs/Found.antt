-- What is found of 4 to 32 cells (this project's own).
use Rattle.std.specs.Prelude.{◌≡◌, ℕ, ◌<◌, ◌^◌, Bool, true, false, List, length}
use Rattle.cartridge_laws.specs.Segment.{hidden}
use Rattle.dump_spec.specs.Given.{Case, CountAs, IsCase}
use Rattle.dump_spec.specs.Given as given
use Rattle.dump_spec.specs.declared.form.Form.TheVariants as forms
use Rattle.qic_base.specs.declared.tape.SectorView.{SectorView}
use Rattle.segment_salvage.specs.Filled.{filled_from}
use Rattle.segment_salvage.specs.declared.case.SegmentCase.{SegmentCase}
use Rattle.segment_salvage.specs.declared.case.SegmentCase.TheVariants.{OneBlock, OneWrong, Contradicts, AsRead}
use Rattle.segment_salvage.specs.declared.reading.SegmentReading.{SegmentReading}
use Rattle.silent_locate.specs.Deep.{cells_without}

-- the case with this block
abbrev pub case_with : SegmentCase → (block : List (List ℕ)) → Case
case_with OneBlock block = given.OneBlock block
case_with (OneWrong place) block = given.OneWrong block place
case_with Contradicts block = given.Contradicts
case_with AsRead block = given.AsRead

-- a code block was found
abbrev pub has_block : SegmentCase → Bool
has_block OneBlock = true
has_block (OneWrong place) = true
has_block case = false

-- what is left of sectors: the block; or the sectors as they were, with zero bytes for the lost ones
abbrev pub IsLeft : SegmentCase → (lost : ℕ) → (old new : List (List ℕ)) → Type 0
IsLeft OneBlock lost old new = length new ≡ length old
IsLeft (OneWrong place) lost old new = length new ≡ length old
IsLeft Contradicts lost old new = new ≡ filled_from lost 0 old
IsLeft AsRead lost old new = new ≡ filled_from lost 0 old

-- what is found of the cells of sectors, of which some are lost, and what is left of them
pub record IsFound (lost : ℕ) (old : List (List ℕ)) (reading : SegmentReading) (new : List (List ℕ)) : Type 0 where
  pub lost_is : reading.lost ≡ lost
  pub is_case : IsCase forms.Sectors (cells_without lost old) (case_with reading.case new)
  pub left : IsLeft reading.case lost old new

-- The cells that count are those of some sectors, and this is found of them.
pub record IsCounted (zero_lost : Bool) (cells : List SectorView) (reading : SegmentReading) (new : List (List ℕ)) : Type 0 where
  pub held : List (List ℕ)
  pub size : length held ≡ length new
  pub within : reading.lost < 2 ^ length held
  pub counts : CountAs forms.Sectors zero_lost cells (cells_without reading.lost held)
  pub shown : hidden reading.lost cells ≡ cells_without reading.lost held
  pub found : IsFound reading.lost held reading new
