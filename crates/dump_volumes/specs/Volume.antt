-- A volume as the definitions of dumps have it, and what a slot tells of one (this project's own).
use Rattle.std.specs.Prelude.{ℕ, ◌+◌, Bool, true, false, List, map}
use Rattle.dump_spec.specs.Volumes.{told_segments, counted_volume, counted_volumes, volume_in}
use Rattle.dump_spec.specs.Volumes as volumes
use Rattle.dump_volumes.specs.declared.volume.Volume.{Volume}
use Rattle.volume_table.specs.Entry.{entry_of}

abbrev pub volume_of : Volume → volumes.Volume
volume_of v = record {
  entry = record (entry_of v.entry) { start = v.start; end = v.end };
  compressed = v.compressed;
}

-- the volume of a slot; where slots count the segments its own begin with this one
abbrev pub told_volume : (counts : Bool) (first : ℕ) → List ℕ → volumes.Volume
told_volume false first bytes = volume_in bytes
told_volume true first bytes = counted_volume first bytes

-- and the first segment of the volume behind it
abbrev pub first_behind : (counts : Bool) (first : ℕ) → List ℕ → ℕ
first_behind false first bytes = first
first_behind true first bytes = first + told_segments bytes

-- those of slots
abbrev pub told_volumes : (counts : Bool) (first : ℕ) → List (List ℕ) → List volumes.Volume
told_volumes false first used = map volume_in used
told_volumes true first used = counted_volumes first used
