use Rattle.std.proofs.Common.{arith}
use Rattle.std.specs.Prelude.{slice_index}
use Rattle.cartridge_laws.proofs.Places.{count_below}
use Rattle.dump_tables.proofs.finding.read_at.Goals as goal

pub read_piece-requires-clause-placed : goal.read_piece-requires-clause-placed
read_piece-requires-clause-placed g c = c.new-cursor.ensures.placed c.args.dump.now.known

pub returns-clause-few : goal.returns-clause-few
returns-clause-few g c =
    omega (arith, c.data_sectors.ensures, count_below (slice_index c.args.dump.now.known.masks.now c.args.segment) 32)
