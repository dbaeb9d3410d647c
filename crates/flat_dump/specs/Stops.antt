-- What a stop leaves of an image that is being written (this project's own).
use Rattle.std.specs.Prelude.{◌≡◌, ℕ, ◌<◌, List, Some, slice_get}
use Rattle.qic_base.specs.Disk.{DiskStep, Look, WriteAt, SetLen, Sync}

-- the first byte is there and is zero
abbrev pub IsUnsigned : List ℕ → Type 0
IsUnsigned bytes = slice_get bytes 0 ≡ Some 0

-- a step that keeps the first byte
abbrev pub KeepsFirst : DiskStep → Type 0
KeepsFirst Look = Unit {0}
KeepsFirst (WriteAt place part) = 0 < place
KeepsFirst (SetLen n) = 0 < n
KeepsFirst Sync = Unit {0}
