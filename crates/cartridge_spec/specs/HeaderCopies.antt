-- The header copies of a cartridge, the one in force, and what it shows (their places are this project's profile).
use Rattle.std.specs.Prelude.{◌≡◌, ℕ, List, true, ◌⊎◌, false, None, ◌-◌, ◌*◌}
use Rattle.cartridge_spec.specs.Header.{has_signature, Header, header_fault}
use Rattle.cartridge_spec.specs.Says.{whole_mask, cells_of, Says, Data}
use Rattle.qic_base.specs.Cartridge.{Cartridge}
use Rattle.qic_base.specs.declared.tape.SectorView.{SectorView}
use Rattle.cartridge_spec.specs.Header as headers

-- the cells of a header copy, 0 or 1
abbrev pub copy_cells : Cartridge → ℕ → List SectorView
copy_cells c copy = cells_of c copy whole_mask

-- a header copy can be read, as these data
pub record CopyReads (c : Cartridge) (copy : ℕ) (area : List (List ℕ)) : Type 0 where
  pub says : Says (copy_cells c copy) (Data area)
  pub signature : has_signature area ≡ true

abbrev pub CopyDoesNotRead : Cartridge → ℕ → Type 0
CopyDoesNotRead c copy = (area : List (List ℕ)) → CopyReads c copy area → ⊥

-- a cartridge with its reference bursts, and a header in force: that of copy 0 where it reads, and else that of copy 1
pub record HasHeader (c : Cartridge) (area : List (List ℕ)) : Type 0 where
  pub referenced : c.info.referenced ≡ true
  pub in_force : CopyReads c 0 area ⊎ (CopyDoesNotRead c 0 × CopyReads c 1 area)

-- no header is in force, or the reference bursts are missing
abbrev pub IsUnformatted : Cartridge → Type 0
IsUnformatted c = (c.info.referenced ≡ false) ⊎ (CopyDoesNotRead c 0 × CopyDoesNotRead c 1)

-- the header in force fails no test, and shows this header and the words of this map
pub record IsFormatted (c : Cartridge) (area : List (List ℕ)) (header : Header) (words : List ℕ) : Type 0 where
  pub has_header : HasHeader c area
  pub sound : header_fault area c.info.segments_per_track ≡ None
  pub shown : headers.Shows area header words

-- the last segment of the cartridge
abbrev pub last_segment : Cartridge → ℕ
last_segment c = 28 * c.info.segments_per_track - 1
