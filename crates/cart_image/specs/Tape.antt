-- What a tape in an image file means, by the disk under it (this project's profile).
use Rattle.std.specs.Prelude.{◌≡◌, nat_lt, ℕ, List, Option, None}
use Rattle.std.specs.Option.{option_map}
use Rattle.qic_base.specs.Cartridge.{Cartridge}
use Rattle.qic_base.specs.Tape.{Meaning}
use Rattle.qic_base.specs.Disk as disk
use Rattle.cart_image.specs.Image.{cartridge_of}

-- there are bytes that the disk might have left, of which this is the reading, where the disk tells its crashes
abbrev pub LeftBy : {D : Type 0} (m : disk.Meaning D) (d : D) (t : ℕ) (left : Option Cartridge) → Type 0
LeftBy m d t left = (bytes : List ℕ) × m.left_since d t bytes × (left ≡ cartridge_of bytes)

-- the disk under a tape, read as a cartridge; it keeps no size
abbrev pub disk_means : {D : Type 0} (m : disk.Meaning D) → Meaning D
disk_means m = record {
  told = λ d. option_map cartridge_of (m.told d);
  size = λ d. None;
  faults = m.faults;
  failed_last =
      λ d. nat_lt 0 (m.faults d);
  tells_stops = m.tells_stops;
  moment = m.moment;
  left_since = LeftBy m;
}
