use Rattle.std.proofs.Common.{◌≡◌, ◌<◌, ◌≤◌, ℕ, take, refl, sym, subst, ◌∙◌, arith}
use Rattle.qic_base.proofs.Steps.{Tells-map}
use Rattle.cartridge_laws.specs.Says.{LosesData}
use Rattle.cartridge_spec.specs.Says.{LostSectors, ByCode, TableSays}
use Rattle.cartridge_spec.specs.TableSegment.{table_cells, TableIs}
use Rattle.segment_solve.specs.Gathered.{Gathered}
use Rattle.segment_io.proofs.Going.{front_segment}
use Rattle.table_solve.specs.declared.unread.Unread.{Unread}
use Rattle.cartridge_front.specs.Finding.{FindsTable}
use Rattle.table_solve.specs.Reading.{IsReadBut}
use Rattle.cartridge_laws.proofs.Places.{count_below}
use Rattle.cartridge_laws.proofs.Segments.{length-whole_cells}
use Rattle.erasure_solve.specs.Lost.{lost_count}
use Rattle.cartridge_front.proofs.TableSegment.{finds_read, finds_many, finds_solving, known_solving, read_known}
use Rattle.cartridge_front.proofs.table_reader.read_table.Goals as goal

pub collect-requires : goal.collect-requires
collect-requires g c = record {
  ready = c.requires.ready;
  segment = front_segment 2 c.requires.ready.fits c.requires.referenced (omega arith);
  mode = c.requires.mode;
}

pub returns-in-AsRead-clause-found : goal.returns-in-AsRead-clause-found
returns-in-AsRead-clause-found g c =
    let lost : ℕ = c.in_ok-lost.lost in
    let none : ¬ (LosesData lost) = (c.in-AsRead.ensures.as_read).0 refl in
    Tells-map g.T.Tape.means c.args.unit.now.tape (λ c'. Gathered (table_cells c') lost c.collect.new.work)
    (λ c'. TableIs c' (take 29 c.collect.new.work))
    (λ c' gathered. finds_read c' lost c.collect.new.work c.in_ok-lost.ensures.room gathered none) c.in_ok-lost.ensures.gathered

pub returns-in-TooMany-clause-found : goal.returns-in-TooMany-clause-found
returns-in-TooMany-clause-found g c =
    let lost : ℕ = c.in_ok-lost.lost in
    let many = (c.in-TooMany.ensures.too_many c.in-TooMany.lost).0 refl in
    Tells-map g.T.Tape.means c.args.unit.now.tape (λ c'. Gathered (table_cells c') lost c.collect.new.work)
    (λ c'. (2 ≡ 2) × TableSays (table_cells c') (ByCode (LostSectors c.in-TooMany.lost)))
    (λ c' gathered. (refl, finds_many c' lost c.in-TooMany.lost c.collect.new.work gathered many.0 many.1 many.2))
    c.in_ok-lost.ensures.gathered

pub returns-in-TooMany-clause-many : goal.returns-in-TooMany-clause-many
returns-in-TooMany-clause-many g c = λ named n same.
    let many = (c.in-TooMany.ensures.too_many c.in-TooMany.lost).0 refl in
    let one : 2 ≡ named = cc in
    let count : c.in-TooMany.lost ≡ n = cc in
    let most : lost_count c.in_ok-lost.lost ≤ 32 = count_below c.in_ok-lost.lost 32 in
    (sym one, (subst (λ (k : ℕ). 3 < k) count many.2, subst (λ (k : ℕ). k ≤ 32) (many.1 ∙ count) most))

pub returns-in-AsRead-clause-known : goal.returns-in-AsRead-clause-known
returns-in-AsRead-clause-known g c =
    let lost : ℕ = c.in_ok-lost.lost in
    let unread : Unread = record { lost = c.in_ok-lost.lost; left_out = c.from_mask.result } in
    Tells-map g.T.Tape.means c.args.unit.now.tape (λ c'. Gathered (table_cells c') lost c.collect.new.work)
    (λ c'. IsReadBut (table_cells c') unread c.collect.new.work)
    (λ c' gathered. read_known (table_cells c') lost c.collect.new.work unread refl c.from_mask.ensures gathered)
    c.in_ok-lost.ensures.gathered

pub returns-in-Solve-clause-found : goal.returns-in-Solve-clause-found
returns-in-Solve-clause-found g c =
    let lost : ℕ = c.in_ok-lost.lost in
    Tells-map g.T.Tape.means c.args.unit.now.tape (λ c'. Gathered (table_cells c') lost c.collect.new.work)
    (λ c'. FindsTable c' c.solve_table.new.work c.solve_table.result)
    (λ c' gathered. finds_solving c' c.solve_table.new.work c.solve_table.result
    (c.solve_table.ensures.solves (table_cells c') (length-whole_cells c' 2) gathered)) c.in_ok-lost.ensures.gathered

pub returns-in-Solve-clause-known : goal.returns-in-Solve-clause-known
returns-in-Solve-clause-known g c =
    known_solving g.T.Tape.means c.args.unit.now.tape c.in_ok-lost.lost c.collect.new.work c.solve_table.new.work c.solve_table.result
    c.solve_table.ensures.solves c.in_ok-lost.ensures.gathered
