-- The laws of readings that leave sectors out of account, and of a segment's shape, as facts.
use Rattle.std.specs.Prelude.{◌≡◌, List, ◌↔◌, [], ◌∷◌, ℕ, ◌++◌}
use Rattle.cartridge_laws.specs.Shape.{Carries, data_places, parity_places}
use Rattle.cartridge_laws.specs.Segment.{hidden}
use Rattle.cartridge_spec.specs.Says.{Saying, Says, SaysBy}
use Rattle.cartridge_spec.specs.Shape.{usable_places}
use Rattle.qic_base.specs.declared.tape.SectorView.{SectorView}

-- ---- readings

-- the empty set hides nothing
abbrev pub NothingIsHidden : Type 0
NothingIsHidden = (cells : List SectorView) → hidden 0 cells ≡ cells

-- a reading by the empty set alone is what the segment says
abbrev pub SaysByNone : Type 0
SaysByNone = (cells : List SectorView) (saying : Saying) → SaysBy (0 ∷ []) cells saying ↔ Says cells saying

-- ---- the shape of a segment

-- the usable sectors of one that carries data are those of data, and behind them those of parity
abbrev pub PlacesAreDataAndParity : Type 0
PlacesAreDataAndParity = (mask : ℕ) → Carries mask → data_places mask ++ parity_places mask ≡ usable_places mask
