use Rattle.std.proofs.Common.{sym, arith}
use Rattle.header_segments.proofs.Refusals.{number_in-byte}
use Rattle.dump_header.proofs.fields.read_code.Goals as goal

pub returns : goal.returns
returns c = sym (number_in-byte c.args.area.now 4 (omega arith))
