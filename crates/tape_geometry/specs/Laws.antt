-- The laws of places and addresses.
use Rattle.std.specs.Prelude.{◌≡◌, ℕ, ◌+◌, ◌*◌, ◌<◌}
use Rattle.tape_geometry.specs.declared.geometry.FloppyAddr.{FloppyAddr}
use Rattle.tape_geometry.specs.Geometry.{HasAddress, logical_offset, track_of}

-- two places with one address are one place
abbrev pub PlacesAreUnique : Type 0
PlacesAreUnique =
    (length s i t j : ℕ) (addr : FloppyAddr) → HasAddress length s i addr → HasAddress length t j addr → (s ≡ t) × (i ≡ j)

-- two addresses of one place are one address
abbrev pub AddressesAreUnique : Type 0
AddressesAreUnique =
    (length segment index : ℕ) (a b : FloppyAddr) → HasAddress length segment index a → HasAddress length segment index b → a ≡ b

-- each place on the tape has an address
abbrev pub EachPlaceHasAnAddress : Type 0
EachPlaceHasAnAddress =
    (length segment index : ℕ) → segment < 28 * length → index < 32 → (addr : FloppyAddr) × HasAddress length segment index addr

-- a segment stands behind those of the tracks before its own, and those before it on its track
abbrev pub TracksAreInOrder : Type 0
TracksAreInOrder =
    (length segment : ℕ) → segment < 28 * length → (segment ≡ length * track_of length segment + logical_offset length segment)
    × (track_of length segment < 28) × (logical_offset length segment < length)
