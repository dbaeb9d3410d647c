-- The table that was found, with its data at the front of some sectors (this project's own).
use Rattle.std.specs.Prelude.{ℕ, List, take, Option}
use Rattle.std.specs.Option.{option_map}
use Rattle.dump_spec.specs.Answers.{Known}
use Rattle.dump_spec.specs.Cells.{cells_in}
use Rattle.dump_spec.specs.Table.{FoundTable, HasTableData}
use Rattle.dump_tables.specs.declared.place.TablePlace.{TablePlace}

-- its data
abbrev pub data_in : (sectors : List (List ℕ)) → TablePlace → List (List ℕ)
data_in sectors place = take place.sectors sectors

-- they are those of a segment
abbrev pub HasData : Known → (segment : ℕ) → (sectors : List (List ℕ)) → TablePlace → Type 0
HasData known segment sectors place =
    HasTableData known.layout.form known.zero_lost (known.layout.masks segment) (cells_in known.dump known.layout segment)
    (data_in sectors place) place.sure

abbrev pub table_in : (sectors : List (List ℕ)) → Option TablePlace → Option FoundTable
table_in sectors found =
    option_map (λ place. record { segment = place.segment; area = data_in sectors place; sure = place.sure }) found
