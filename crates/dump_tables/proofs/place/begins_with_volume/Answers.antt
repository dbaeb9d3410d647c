use Rattle.std.proofs.Common.{◌≡◌, not, ap, ◌∙◌, arith}
use Rattle.std.proofs.lemmas.Bool.Decides.{nat_tests}
use Rattle.std.proofs.Common.{length}
use Rattle.dump_tables.proofs.Reading.{begins_none}
use Rattle.dump_tables.proofs.place.begins_with_volume.Goals as goal

pub returns-else-not-is_empty : goal.returns-else-not-is_empty
returns-else-not-is_empty c =
    let tested = c.if-not-is_empty.ensures in
    let none : length c.args.area.now ≡ 0 = grind (arith, nat_tests) in
    ap not c.if-not-is_empty.false ∙ begins_none c.args.area.now none
