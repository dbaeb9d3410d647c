use Rattle.std.proofs.Common.{ℕ, List, take, ap, ◌∙◌, arith}
use Rattle.cartridge_laws.proofs.Places.{count_below}
use Rattle.cartridge_spec.specs.Shape.{data_count}
use Rattle.dump_spec.specs.Given.{all_sure}
use Rattle.segment_salvage.specs.Buffer.{buffer_cells}
use Rattle.segment_salvage.specs.Reading.{given_as}
use Rattle.table_salvage.proofs.TableData.{part_data}
use Rattle.table_salvage.proofs.reading.give_table.Goals as goal

pub first_are_sure-requires-clause-within : goal.first_are_sure-requires-clause-within
first_are_sure-requires-clause-within c = omega (arith, c.data_sectors-count.ensures, count_below c.args.usable 32)

pub first_are_sure-requires-clause-most : goal.first_are_sure-requires-clause-most
first_are_sure-requires-clause-most c = omega (arith, c.data_sectors-count.ensures, count_below c.args.usable 32)

pub returns : goal.returns
returns c =
    let left : List (List ℕ) = c.read_segment-reading.new.sectors in
    part_data c.args.form c.args.zero_lost c.args.usable (buffer_cells c.args.form c.args.usable c.args.unread c.args.sectors.now)
    c.read_segment-reading.result (take (data_count c.args.usable) left) c.first_are_sure.result c.requires.part
    c.read_segment-reading.ensures.gives
    (c.first_are_sure.ensures ∙ ap (λ (k : ℕ). all_sure (given_as c.read_segment-reading.result 0 (take k left)))
    c.data_sectors-count.ensures)
