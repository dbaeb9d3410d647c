use Rattle.std.proofs.Common.{ℕ, true, false, List, take, refl, subst, sym, ◌∙◌}
use Rattle.cartridge_laws.specs.Segment.{hidden}
use Rattle.cartridge_spec.specs.Says.{whole_mask}
use Rattle.dump_spec.specs.declared.form.Form.TheVariants as forms
use Rattle.qic_base.specs.declared.tape.SectorView.{SectorView}
use Rattle.segment_solve.specs.Gathered.{Gathered}
use Rattle.segment_salvage.specs.Buffer.{buffer_cells}
use Rattle.table_salvage.proofs.TableData.{four_usable, gives_29, whole_data, gathered_counted, length-counted}
use Rattle.table_salvage.proofs.reading.read_whole_table.Goals as goal

pub returns-then-solve_table-clause-area : goal.returns-then-solve_table-clause-area
returns-then-solve_table-clause-area c =
    let old : List (List ℕ) = c.args.sectors.now in
    let left : List (List ℕ) = c.read_segment-reading.new.sectors in
    let cells : List SectorView = buffer_cells forms.Sectors whole_mask c.args.unread old in
    let lost : ℕ = c.read_segment-reading.result.lost in
    let without = c.read_segment-reading.ensures.without refl four_usable in
    let gathered : Gathered (hidden lost cells) lost c.copy_into.new.work =
    subst (Gathered (hidden lost cells) lost) (sym c.copy_into.ensures)
    (gathered_counted c.args.zero_lost lost c.args.unread old c.requires.room without) in
    whole_data c.args.zero_lost true cells c.read_segment-reading.result left c.solve_table.new.work (take 29 c.put_data.new.sectors)
    c.first_are_sure-sure.result without
    (gives_29 c.args.zero_lost cells c.read_segment-reading.result left c.read_segment-reading.ensures.gives)
    (c.if-solve_table.ensures.found (hidden lost cells) (length-counted lost c.args.unread old) gathered)
    (c.put_data.ensures ∙ c.data_sectors.ensures.value) c.first_are_sure-sure.ensures

pub returns-else-solve_table-clause-area : goal.returns-else-solve_table-clause-area
returns-else-solve_table-clause-area c =
    let old : List (List ℕ) = c.args.sectors.now in
    let left : List (List ℕ) = c.read_segment-reading.new.sectors in
    let cells : List SectorView = buffer_cells forms.Sectors whole_mask c.args.unread old in
    let lost : ℕ = c.read_segment-reading.result.lost in
    let without = c.read_segment-reading.ensures.without refl four_usable in
    let gathered : Gathered (hidden lost cells) lost c.copy_into.new.work =
    subst (Gathered (hidden lost cells) lost) (sym c.copy_into.ensures)
    (gathered_counted c.args.zero_lost lost c.args.unread old c.requires.room without) in
    whole_data c.args.zero_lost false cells c.read_segment-reading.result left c.solve_table.new.work (take 29 left)
    c.first_are_sure-sure.result without
    (gives_29 c.args.zero_lost cells c.read_segment-reading.result left c.read_segment-reading.ensures.gives)
    (c.if-solve_table.ensures.found (hidden lost cells) (length-counted lost c.args.unread old) gathered)
    refl c.first_are_sure-sure.ensures
