use Rattle.std.proofs.Common.{refl, inl}
use Rattle.table_solve.proofs.Segment.{collected_reads}
use Rattle.table_salvage.proofs.Tables.{none_many}
use Rattle.table_salvage.proofs.solving.solve_table.Goals as goal

pub solve_lost-requires-clause-few : goal.solve_lost-requires-clause-few
solve_lost-requires-clause-few c = ((c.in-Solve.ensures.solve).0 refl).1

pub solve_lost-requires-clause-loses_data : goal.solve_lost-requires-clause-loses_data
solve_lost-requires-clause-loses_data c = ((c.in-Solve.ensures.solve).0 refl).0

pub returns-in-AsRead-clause-found : goal.returns-in-AsRead-clause-found
returns-in-AsRead-clause-found c = λ cells count gathered.
    inl (collected_reads cells c.args.lost c.args.work.now count c.requires.room gathered ((c.in-AsRead.ensures.as_read).0 refl))

pub returns-in-TooMany-clause-found : goal.returns-in-TooMany-clause-found
returns-in-TooMany-clause-found c = λ cells count gathered.
    let many = (c.in-TooMany.ensures.too_many c.in-TooMany.lost).0 refl in
    none_many cells c.args.lost c.in-TooMany.lost c.args.work.now count gathered many.0 many.1 many.2
