-- The address by division.
use Rattle.std.proofs.Common.{◌+◌, ◌*◌, ◌/◌, ◌%◌, arith}
use Rattle.tape_geometry.proofs.laws.each_place_has_an_address.Goals as goal

pub returns : goal.returns
returns c length segment index on_tape in_segment = (
  record { head = segment / 600; cylinder = segment % 600 / 4; sector = 32 * (segment % 4) + index + 1 },
  record {
    on_tape = on_tape;
    in_segment = in_segment;
    from_head = omega arith;
    within_head = omega arith;
    from_cylinder = omega arith;
    within_cylinder = omega arith;
    sector = omega arith;
  },
)
