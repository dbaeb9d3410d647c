use Rattle.std.proofs.Common.{◌≡◌, ◌≤◌, length, map, arith}
use Rattle.std.proofs.lemmas.List.{length-map}
use Rattle.volume_table.specs.Entry.{entry_of}
use Rattle.volume_table.proofs.EachSlot.{EachIsSlotOf, shown_by_each}
use Rattle.volume_table.proofs.showing.are_shown_by.Goals as goal

pub returns : goal.returns
returns c =
    let entries = map entry_of c.args.entries.now in
    let all : c.loop-index.index ≡ 232 = omega (arith, c.loop-index.auto.index-end, c.loop-index-test.false) in
    let each : EachIsSlotOf c.args.area.now entries c.loop-index.index = c.loop-index.invariant in
    let few : length entries ≤ 232 = omega (arith, length-map c.args.entries.now entry_of, c.requires.few) in
    (λ _. shown_by_each c.args.area.now entries few (rw all at each), λ _. search)
