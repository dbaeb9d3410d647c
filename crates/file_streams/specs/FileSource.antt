-- A file as a source: its bytes from the place on up to which it was read (this project's own).
use Rattle.std.specs.Prelude.{◌≡◌, ◌≤◌, ◌<◌, ◌+◌, ◌-◌, ◌^◌, ℕ, List, drop}
use Rattle.std.specs.Option.{option_map}
use Rattle.qic_base.specs.Disk as disks
use Rattle.qic_base.specs.Tape.{Rose}
use Rattle.qic_base.specs.declared.disk.Disk.{Ghosts}
use Rattle.qic_base.specs.Source.{Meaning}
use Rattle.file_streams.specs.declared.source.FileSource.{FileSource}

-- From old on the disk was only read, while the source's count went from before to after: it tells what it told, and each
-- crash since then left what one before might have left.
pub record Kept {D : Type 0} (d : disks.Meaning D) (old new : D) (before after : ℕ) : Type 0 where
  pub told : d.told new ≡ d.told old
  pub leaves : (left : List ℕ) → d.may_leave new left → d.may_leave old left
  pub crashes : disks.Crashes d old new disks.Look
  pub later : before ≤ after
  -- no read failed, and no call of the disk
  pub stood : after ≡ before → after < 2 ^ 64 - 1 → d.faults new ≡ d.faults old
  -- one read failed, and one call of the disk did
  pub failed : after ≡ before + 1 → after < 2 ^ 64 - 1 → Rose (d.faults old) (d.faults new)

abbrev pub disk_of : {D : Type 0} {g : Ghosts D} → FileSource D g → D
disk_of s = s.disk

-- the file is only read, from its begin on
abbrev pub source_means : {D : Type 0} {g : Ghosts D} → Meaning (FileSource D g)
source_means {g = g} = record {
  left = λ s. option_map (drop s.at) (g.means.told s.disk);
  keeps = λ a b. Kept g.means a.disk b.disk a.faults b.faults;
  faults = λ s. s.faults;
}
