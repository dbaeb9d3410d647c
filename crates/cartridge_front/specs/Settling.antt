-- The settling of the volume table's segment, by its sectors in a workspace (this project's profile).
use Rattle.std.specs.Prelude.{ℕ, ◌||◌, ◌++◌, Bool, not, List, [], take, if◌then◌else◌}
use Rattle.std.specs.Str.{bytes_eq}
use Rattle.qic_base.specs.Step.{Step}
use Rattle.cartridge_spec.specs.Shape.{sector_at}
use Rattle.cartridge_spec.specs.Says.{with_parity}
use Rattle.cartridge_laws.specs.Segment.{places_where}
use Rattle.cartridge_spec.specs.Settling.{block_writes}
use Rattle.table_solve.specs.declared.unread.Unread.{Unread}
use Rattle.qic_base.specs.CartridgeTerms.{is_lost}

-- the block of the table's segment as it was collected, by the data in its first 29 sectors
abbrev pub collected_block : List (List ℕ) → List (List ℕ)
collected_block sectors = with_parity (take 29 sectors)

-- the sector was lost, or isn't that of the block
abbrev pub is_stale : (lost : ℕ) (sectors block : List (List ℕ)) (place : ℕ) → Bool
is_stale lost sectors block place = is_lost lost place || not (bytes_eq (sector_at sectors place) (sector_at block place))

-- first the sector that was left out, and then the others
abbrev pub mending_places : (unread : Unread) (sectors : List (List ℕ)) → List ℕ
mending_places unread sectors =
    places_where (is_lost unread.left_out) ++ places_where (is_stale unread.lost sectors (collected_block sectors))

-- the writes of these sectors
abbrev pub mending_steps : (protected : Bool) (unread : Unread) (sectors : List (List ℕ)) → List Step
mending_steps protected unread sectors =
    if protected then [] else block_writes (collected_block sectors) (mending_places unread sectors)
