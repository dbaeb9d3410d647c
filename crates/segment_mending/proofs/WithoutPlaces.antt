-- What is found of a segment, without the places to be written.
use Rattle.std.proofs.Common.{◌≡◌, ℕ, List, Some, None, arith}
use Rattle.cartridge_laws.proofs.Places.{count_below}
use Rattle.cartridge_laws.proofs.Segments.{count_of_cells}
use Rattle.cartridge_spec.specs.Says.{unreadable_count}
use Rattle.command_spec.specs.Scrub.{Looked, cells_at}
use Rattle.erasure_solve.specs.Lost.{lost_count}
use Rattle.qic_base.specs.Cartridge.{Cartridge}
use Rattle.segment_solve.proofs.SolvedCells.{count_of_lost}
use Rattle.segment_solve.specs.Gathered.{NamesUnreadable}
use Rattle.segment_mending.specs.Locating.{DeepFinds, DeepMayFind}
use Rattle.segment_mending.specs.Searching.{SearchFinds, SearchMayFind, searched_of}
use Rattle.segment_mending.specs.declared.locating.Found.{Found}
use Rattle.segment_mending.specs.declared.locating.Found.TheVariants.{Reads, Fails}
use Rattle.segment_mending.specs.declared.locating.Unread.TheVariants.{NoHeader, Lost, Mismatch}

-- as many sectors can't be read as places are named
lost_are : (c : Cartridge) (l : Looked) (places : ℕ) → NamesUnreadable (cells_at c l) places →
    lost_count places ≡ unreadable_count (cells_at c l)
lost_are c l places names =
    count_of_lost (cells_at c l) places (omega (arith, count_of_cells c l.segment l.mask, count_below l.mask 32)) names

pub searched_finds : (c : Cartridge) (l : Looked) (found : Found) (sectors : List (List ℕ)) → DeepFinds c l found sectors →
    SearchFinds c l (searched_of found) sectors
searched_finds c l (Reads places None) sectors is = (is.finds, lost_are c l places is.places)
searched_finds c l (Reads places (Some sector)) sectors is = is.finds
searched_finds c l (Fails why) sectors is = is.finds

pub searched_may : (l : Looked) (found : Found) (sectors : List (List ℕ)) → DeepMayFind l found sectors →
    SearchMayFind l (searched_of found) sectors
searched_may l (Reads places None) sectors may = (may.fits.can_be_read, may.count tt)
searched_may l (Reads places (Some sector)) sectors may = may.fits.may.1
searched_may l (Fails NoHeader) sectors may = (may.fits, tt)
searched_may l (Fails (Lost n)) sectors may = (may.fits, may.count tt)
searched_may l (Fails Mismatch) sectors may = (may.fits, tt)
