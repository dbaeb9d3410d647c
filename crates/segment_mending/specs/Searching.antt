-- What a search for a wrong sector finds of a segment of which nothing is written (this project's own).
use Rattle.std.specs.Prelude.{◌≡◌, ℕ, ◌<◌, ◌≤◌, List, Some, None, true, false}
use Rattle.cartridge_spec.specs.Says.{unreadable_count}
use Rattle.command_spec.specs.Scrub.{Looked, HasFoundBy, cells_at, reads}
use Rattle.erasure_solve.specs.Lost.{lost_count}
use Rattle.qic_base.specs.Cartridge.{Cartridge}
use Rattle.segment_mending.specs.Locating.{data_in, unread_saying}
use Rattle.segment_mending.specs.declared.locating.Found.{Found}
use Rattle.segment_mending.specs.declared.locating.Unread.{Unread}
use Rattle.segment_mending.specs.declared.locating.Unread.TheVariants.{NoHeader, Lost, Mismatch}
use Rattle.segment_mending.specs.declared.searching.Searched.{Searched}
use Rattle.segment_mending.specs.declared.searching.Searched.TheVariants.{Reads, Wrong, Fails}
use Rattle.segment_mending.specs.declared.locating.Found.TheVariants as found

-- without the places to be written
abbrev pub searched_of : Found → Searched
searched_of (found.Reads places None) = Reads (lost_count places)
searched_of (found.Reads places (Some sector)) = Wrong sector
searched_of (found.Fails why) = Fails why

-- this is found of a segment of a cartridge, with its block, if it has one, at the first places of a workspace
abbrev pub SearchFinds : Cartridge → Looked → Searched → (sectors : List (List ℕ)) → Type 0
SearchFinds c l (Reads lost) sectors = HasFoundBy (Unit {0}) c l (data_in l sectors) None × (lost ≡ unreadable_count (cells_at c l))
SearchFinds c l (Wrong sector) sectors = HasFoundBy (Unit {0}) c l (data_in l sectors) (Some sector)
SearchFinds c l (Fails why) sectors = HasFoundBy (Unit {0}) c l (unread_saying l why sectors) None

-- ---- whatever the tape holds

abbrev pub MayFail : Unread → Type 0
MayFail (Lost n) = (3 < n) × (n ≤ 32)
MayFail NoHeader = Unit {0}
MayFail Mismatch = Unit {0}

abbrev pub SearchMayFind : Looked → Searched → (sectors : List (List ℕ)) → Type 0
SearchMayFind l (Reads lost) sectors = (reads l (data_in l sectors) ≡ true) × (lost ≤ 3)
SearchMayFind l (Wrong sector) sectors = sector < 32
SearchMayFind l (Fails why) sectors = (reads l (unread_saying l why sectors) ≡ false) × MayFail why
