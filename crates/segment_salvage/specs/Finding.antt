-- What a check finds by what was found of a segment's cells (this project's profile).
use Rattle.std.specs.Prelude.{ℕ, ◌<◌, slice_index}
use Rattle.cartridge_spec.specs.Shape.{usable_places, usable_count}
use Rattle.erasure_solve.specs.Lost.{lost_count}
use Rattle.dump_spec.specs.Check.{unless_none}
use Rattle.dump_spec.specs.Check as checks
use Rattle.segment_salvage.specs.declared.case.SegmentCase.{SegmentCase}
use Rattle.segment_salvage.specs.declared.case.SegmentCase.TheVariants.{OneBlock, OneWrong, Contradicts, AsRead}
use Rattle.segment_salvage.specs.declared.finding.Finding.{Finding}
use Rattle.segment_salvage.specs.declared.finding.Finding.TheVariants as findings
use Rattle.segment_salvage.specs.declared.reading.SegmentReading.{SegmentReading}

-- a finding as the definitions of dumps have it
abbrev pub told : Finding → checks.Finding
told findings.Well = checks.Well
told (findings.Weak lost) = checks.Weak lost
told (findings.Wrong index) = checks.Wrong index
told findings.Mismatch = checks.Mismatch
told (findings.Lost lost) = checks.LostSectors lost

-- what is found where so many cells are lost
abbrev pub finding_in : SegmentCase → (usable lost : ℕ) → checks.Finding
finding_in OneBlock usable lost = unless_none lost (checks.Weak lost)
finding_in (OneWrong place) usable lost = checks.Wrong (slice_index (usable_places usable) place)
finding_in Contradicts usable lost = checks.Mismatch
finding_in AsRead usable lost = unless_none lost (checks.LostSectors lost)

abbrev pub finding_of : (usable : ℕ) → SegmentReading → checks.Finding
finding_of usable reading = finding_in reading.case usable (lost_count reading.lost)

-- the wrong cell is one of those of the segment
abbrev pub IsPlaced : (usable : ℕ) → SegmentCase → Type 0
IsPlaced usable (OneWrong place) = place < usable_count usable
IsPlaced usable case = Unit {0}
