use Rattle.std.proofs.Common.{◌≡◌, length, drop, sym, ◌∙◌, arith}
use Rattle.std.proofs.lemmas.List.{length-take-le, take_at}
use Rattle.cartridge_front.proofs.table_writer.put_slot.Goals as goal

pub slice_bounds-put-end-2 : goal.slice_bounds-put-end-2
slice_bounds-put-end-2 c = sym (length-take-le 29 c.args.sectors.now (omega (arith, c.requires.room)))

pub put-requires-clause-sectors : goal.put-requires-clause-sectors
put-requires-clause-sectors c = length-take-le 29 c.args.sectors.now (omega (arith, c.requires.room))

pub returns-clause-data : goal.returns-clause-data
returns-clause-data c =
    let size : length c.put.new.area ≡ 29 = c.put.auto.area ∙ length-take-le 29 c.args.sectors.now (omega (arith, c.requires.room)) in
    take_at c.put.new.area (drop 29 c.args.sectors.now) 29 size ∙ c.in-Ok.ensures.written
