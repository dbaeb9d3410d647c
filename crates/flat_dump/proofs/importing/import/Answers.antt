use Rattle.flat_dump.proofs.Imports.{imports_cleared}
use Rattle.flat_dump.proofs.importing.import.Goals as goal

pub returns-in-Err-clause-imports : goal.returns-in-Err-clause-imports
returns-in-Err-clause-imports g c =
    imports_cleared g.S.Source.means g.D.Disk.means g.met.D.Disk.left_now g.met.D.Disk.told_right c.args.source.now c.write_image.new.source
    c.args.disk.now c.write_image.new.disk c.clear-cleared.new.disk c.args.mask.now
    c.args.segments_per_track c.in-Err.error c.clear-cleared.result c.in-Err.ensures.fills c.clear-cleared.ensures
