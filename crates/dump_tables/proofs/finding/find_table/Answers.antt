use Rattle.std.proofs.Common.{◌≡◌, ℕ, sym, subst, ◌∙◌}
use Rattle.dump_spec.specs.Answers.{header_area}
use Rattle.dump_spec.specs.Table.{begins_with_volume, table_segment}
use Rattle.dump_tables.specs.Found.{HasData, data_in}
use Rattle.dump_tables.proofs.Reading.{begins_then, not_then, table_found, table_none}
use Rattle.dump_tables.proofs.finding.find_table.Goals as goal

pub returns-then-is_table-clause-table : goal.returns-then-is_table-clause-table
returns-then-is_table-clause-table g c = λ known shows.
    let place = c.in_ok-place.place in
    let there : place.segment ≡ table_segment (header_area known) known.layout =
    c.in_ok-place.ensures.segment ∙ c.table_segment.ensures (g.D.Disk.means.told c.args.disk.now) known shows in
    let has : HasData known place.segment c.read_at.new.sectors place =
    subst (λ (s : ℕ). HasData known s c.read_at.new.sectors place) (sym c.in_ok-place.ensures.segment)
    (c.in_ok-place.ensures.data known shows) in
    table_found c.args.dump.now (g.D.Disk.means.told c.args.disk.now) known c.read_at.new.sectors place shows there has
    (begins_then c.args.dump.now.header (begins_with_volume (data_in c.read_at.new.sectors place))
    (sym c.is_table.ensures ∙ c.if-is_table.true))

pub returns-else-is_table-clause-table : goal.returns-else-is_table-clause-table
returns-else-is_table-clause-table g c = λ known shows.
    let place = c.in_ok-place.place in
    let there : place.segment ≡ table_segment (header_area known) known.layout =
    c.in_ok-place.ensures.segment ∙ c.table_segment.ensures (g.D.Disk.means.told c.args.disk.now) known shows in
    let has : HasData known place.segment c.read_at.new.sectors place =
    subst (λ (s : ℕ). HasData known s c.read_at.new.sectors place) (sym c.in_ok-place.ensures.segment)
    (c.in_ok-place.ensures.data known shows) in
    let none = not_then c.args.dump.now.header (begins_with_volume (data_in c.read_at.new.sectors place))
    (sym c.is_table.ensures ∙ c.if-is_table.false) in
    table_none c.args.dump.now (g.D.Disk.means.told c.args.disk.now) known c.read_at.new.sectors place shows none.0 there has none.1
