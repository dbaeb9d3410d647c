use Rattle.std.proofs.Common.{arith}
use Rattle.cartridge_laws.proofs.Places.{count_below}
use Rattle.dump_reader.proofs.known.piece_sectors.Goals as goal

pub returns-in-Data-clause-few : goal.returns-in-Data-clause-few
returns-in-Data-clause-few c = omega (arith, c.data_sectors.ensures, count_below c.args.mask 32)
