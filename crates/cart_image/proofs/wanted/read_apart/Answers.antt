use Rattle.cart_image.proofs.Gathers.{reads-apart}
use Rattle.cart_image.proofs.wanted.read_apart.Goals as goal

pub returns-clause-reads : goal.returns-clause-reads
returns-clause-reads g c =
    reads-apart (g.D.Disk.means.told c.args.disk.now) _ c.args.layout c.args.segment c.args.wanted c.words-read.result.good
    c.in_ok-good.good c.words-read.result.blank c.in_ok-states.states c.args.into.now c.read_all_bytes.new.into
    c.in_ok-states.ensures.looked.told c.in_ok-states.ensures.states c.words-read.ensures.good c.words-read.ensures.blank
    c.in_ok-good.ensures.bytes
