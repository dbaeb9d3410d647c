-- The usable sectors of a segment: those of data, and those of parity.
use Rattle.std.proofs.Common.{◌∙◌, ap, le-leb, Bool, [], ◌++◌, drop}
use Rattle.std.specs.Prelude.{if◌then◌else◌}
use Rattle.std.proofs.lemmas.List.{take-append-drop}
use Rattle.cartridge_laws.specs.ReadingLaws.{PlacesAreDataAndParity}
use Rattle.cartridge_laws.specs.Shape.{data_places}
use Rattle.cartridge_spec.specs.Shape.{usable_places, usable_count, data_count}

pub places_are_data_and_parity : PlacesAreDataAndParity
places_are_data_and_parity mask carries =
    ap (λ (b : Bool). data_places mask ++ (if b then drop (data_count mask) (usable_places mask) else []))
    (le-leb 4 (usable_count mask) carries)
    ∙ take-append-drop (data_count mask) (usable_places mask)
