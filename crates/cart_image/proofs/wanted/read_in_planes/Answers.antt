use Rattle.cart_image.proofs.Gathers.{any-length, reads-apart, reads-block}
use Rattle.cart_image.proofs.wanted.read_in_planes.Goals as goal

pub returns-then-read_whole-clause-reads : goal.returns-then-read_whole-clause-reads
returns-then-read_whole-clause-reads g c =
    reads-block (g.D.Disk.means.told c.args.disk.now) c.args.layout c.args.segment c.args.wanted c.words-read.result.good
    c.words-read.result.blank c.place-place.result c.read_whole.new.into c.args.states.now c.args.into.now c.copy_good.new.into
    c.requires.planes c.requires.place c.place-place.ensures (c.read_whole.ensures.bytes c.if-read_whole.true)
    (any-length (g.D.Disk.means.told c.args.disk.now) c.args.layout c.args.segment c.args.wanted c.args.states.now c.requires.states)
    c.words-read.ensures.good c.words-read.ensures.blank c.copy_good.ensures.copied

pub returns-clause-reads : goal.returns-clause-reads
returns-clause-reads g c =
    reads-apart (g.D.Disk.means.told c.args.disk.now) _ c.args.layout c.args.segment c.args.wanted c.words-read.result.good
    c.in_ok-good.good c.words-read.result.blank c.args.states.now c.args.into.now c.read_all_bytes.new.into
    c.read_whole.ensures.looks.told
    (any-length (g.D.Disk.means.told c.args.disk.now) c.args.layout c.args.segment c.args.wanted c.args.states.now c.requires.states)
    c.words-read.ensures.good c.words-read.ensures.blank c.in_ok-good.ensures.bytes
