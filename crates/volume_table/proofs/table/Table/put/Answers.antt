use Rattle.std.proofs.Common.{◌≡◌, ◌∷◌, [], map, sym, arith}
use Rattle.std.proofs.lemmas.List.{map-append}
use Rattle.volume_table.specs.Entry.{entry_of}
use Rattle.volume_table.proofs.Putting.{arrays_are_long}
use Rattle.cartridge_laws.proofs.TablePutting.{put_shows}
use Rattle.volume_table.proofs.table.Table.put.Goals as goal

pub returns-clause-shown : goal.returns-clause-shown
returns-clause-shown c =
    let area = arrays_are_long c.args.area.now c.requires.sectors c.told-area in
    let old : map entry_of c.self.inside.entries.items ≡ c.args.self.now = c.self.view_is in
    rw (
      c.write_slot.ensures.written,
      c.push_within.ensures.items,
      map-append entry_of c.self.inside.entries.items (c.args.entry.now ∷ []),
      old,
    )
    (put_shows c.args.area.now c.args.self.now (entry_of c.args.entry.now) c.len-index.result area c.requires.list
    (sym c.len-index.ensures.count)
    (omega (arith, c.len-index.ensures.few, c.if-index.false)) c.write_slot.ensures.fits)
