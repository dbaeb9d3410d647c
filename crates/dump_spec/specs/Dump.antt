-- The bytes of a dump as sectors, and which of them can be read (this project's profile).
use Rattle.std.specs.Prelude.{ℕ, ◌+◌, ◌*◌, ◌≡◌, ◌↔◌, ◌&&◌, nat_le, Bool, true, List, length, slice_range, if◌then◌else◌, Option, Some, None}
use Rattle.qic_base.specs.declared.tape.SectorView.{SectorView}
use Rattle.qic_base.specs.declared.tape.SectorView.TheVariants.{Lost, Holds}
use Rattle.rescue_map.specs.Map.{IsWhole}
use Rattle.rescue_map.specs.declared.form.Block.{Block}

-- the bytes of a dump, and which of its sectors were rescued, counted from its front
pub record Dump : Type 0 where
  pub bytes : List ℕ
  pub rescued : ℕ → Bool

-- those were rescued of which all bytes were, by the blocks of a map; all without a map
abbrev pub IsRescuedBy : Option (List Block) → Dump → Type 0
IsRescuedBy None dump = (q : ℕ) → dump.rescued q ≡ true
IsRescuedBy (Some blocks) dump = (q : ℕ) → (dump.rescued q ≡ true) ↔ IsWhole blocks q

-- the 1,024 bytes of the dump's sector q can be read where it has all of them and they were rescued
abbrev pub sector_view : Dump → (q : ℕ) → SectorView
sector_view dump q =
    if nat_le (1024 * q + 1024) (length dump.bytes) && dump.rescued q
    then Holds (slice_range dump.bytes (1024 * q) (1024 * q + 1024))
    else Lost
