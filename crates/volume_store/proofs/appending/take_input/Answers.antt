use Rattle.std.proofs.Common.{◌≡◌, rules, None, refl, arith}
use Rattle.cartridge_spec.specs.Appending.{room}
use Rattle.volume_store.proofs.Taking.{none_taken}
use Rattle.volume_store.proofs.appending.take_input.Goals as goal

pub returns-then-have-eq0-clause-ends : goal.returns-then-have-eq0-clause-ends
returns-then-have-eq0-clause-ends g c =
    let none : c.args.promised ≡ None = search rules in
    let full : room c.args.map.now c.args.table.now ≡ 0 =
    let is = c.free_room-have.ensures in let empty = c.if-have-eq0.true in omega arith in
    none_taken g.T.Tape.means g.S.Source.means c.args.map.now c.args.table.now c.args.unit.now.tape c.args.unit.now.tape c.args.source.now
    c.take_none.new.source c.args.promised c.take_none.result
    refl none full c.take_none.ensures.ends
