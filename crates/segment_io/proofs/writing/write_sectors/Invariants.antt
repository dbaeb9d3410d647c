-- The named places below the present one are written.
use Rattle.segment_io.proofs.NamedWrites.{AreWritten}
use Rattle.segment_io.proofs.writing.write_sectors.Given as goal

abbrev pub invariant-loop-index : goal.invariant-loop-index
invariant-loop-index g l =
    AreWritten g.T.Tape.means l.segment l.usable l.places l.sectors l.place l.index l.host l.fn.unit l.unit
