use Rattle.std.proofs.Common.{take, arith}
use Rattle.std.proofs.lemmas.List.{length-take-le}
use Rattle.dump_opening.proofs.Headers.{has_told, header_at}
use Rattle.dump_opening.proofs.header.take_header.Goals as goal

pub slice_bounds-area-end : goal.slice_bounds-area-end
slice_bounds-area-end c = omega (arith, length-take-le 29 c.args.sectors.now (omega arith))

pub returns-clause-told : goal.returns-clause-told
returns-clause-told c =
    has_told (header_at (take 29 c.args.sectors.now) c.args.segment) c.in_ok-take_fields.field-0 c.in_ok-take_fields.ensures
