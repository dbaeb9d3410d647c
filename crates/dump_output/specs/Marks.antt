-- The marks of the bytes of a segment (this project's own).
use Rattle.std.specs.Prelude.{ℕ, List, replicate}
use Rattle.std.specs.List.{flat_map, range_with_len}
use Rattle.dump_spec.specs.declared.mark.Mark.{Mark}
use Rattle.segment_salvage.specs.Reading.{mark_of}
use Rattle.segment_salvage.specs.declared.reading.SegmentReading.{SegmentReading}

-- those of its first data sectors, so many
abbrev pub marks_in : SegmentReading → (sectors : ℕ) → List Mark
marks_in reading sectors = flat_map (λ place. replicate 1024 (mark_of reading place)) (range_with_len 0 sectors)
