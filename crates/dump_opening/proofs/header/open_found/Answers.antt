use Rattle.std.proofs.Common.{take, refl}
use Rattle.std.specs.Prelude.{Some, None, Ok}
use Rattle.dump_opening.specs.Headers.{IsHeaderOf}
use Rattle.dump_opening.proofs.Headers.{found_opened, header_at}
use Rattle.dump_opening.proofs.header.open_found.Goals as goal

pub returns-in-Ok-Some-clause-header : goal.returns-in-Ok-Some-clause-header
returns-in-Ok-Some-clause-header g c = λ bad is.
    found_opened (IsHeaderOf None c.args.known.now (g.D.Disk.means.told c.args.dump.now) c.args.zero_lost)
    (Some (header_at (take 29 c.find_header.new.sectors) (Some c.in-Ok-Some.segment))) bad c.take_header.new.words c.take_header.result
    (rw c.in-Ok-Some.field-0-is at c.in-Ok-Some.ensures.found) (c.take_header.ensures.masks bad is) c.take_header.ensures.takes

pub returns-in-Ok-None-clause-header : goal.returns-in-Ok-None-clause-header
returns-in-Ok-None-clause-header g c = λ bad is.
    found_opened (IsHeaderOf None c.args.known.now (g.D.Disk.means.told c.args.dump.now) c.args.zero_lost)
    None bad c.make_masks_without_header.new.words (Ok None)
    (rw c.in-Ok-None.field-0-is at c.in-Ok-None.ensures.found) (c.make_masks_without_header.ensures bad is) (refl, tt)
