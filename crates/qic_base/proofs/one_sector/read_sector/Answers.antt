use Rattle.std.proofs.Common.{true≢false, sym, ◌∙◌}
use Rattle.qic_base.proofs.OneSector.{tells_blank, tells_good, tells_lost, place_within}
use Rattle.qic_base.proofs.one_sector.read_sector.Goals as goal

-- src/one_sector.rt:29:1
pub returns-else-contains-2-clause-view : goal.returns-else-contains-2-clause-view
returns-else-contains-2-clause-view g c =
    tells_lost g.T.Tape.means c.args.tape.now c.args.segment c.args.sector _ c.in_ok-read.read.good c.in_ok-read.read.blank _ _
    c.args.into.now
    (place_within g.T.Tape.means c.args.tape.now c.args.segment c.args.sector c.requires) c.set_of.ensures
    c.in_ok-read.ensures.reads
    (λ is. true≢false (sym (c.contains.ensures.lost.1 is) ∙ c.if-contains.false))
    (λ is. true≢false (sym (c.contains-else-contains.ensures.lost.1 is) ∙ c.if-contains-2.false))

pub returns-then-contains-clause-view : goal.returns-then-contains-clause-view
returns-then-contains-clause-view g c =
    tells_good g.T.Tape.means c.args.tape.now c.args.segment c.args.sector _ _ c.in_ok-read.read.good c.in_ok-read.read.blank _ _
    c.args.into.now
    (place_within g.T.Tape.means c.args.tape.now c.args.segment c.args.sector c.requires) c.set_of.ensures c.from.ensures
    c.in_ok-read.ensures.reads (c.contains.ensures.lost.0 c.if-contains.true)

pub returns-then-contains-2-clause-view : goal.returns-then-contains-2-clause-view
returns-then-contains-2-clause-view g c =
    tells_blank g.T.Tape.means c.args.tape.now c.args.segment c.args.sector _ c.in_ok-read.read.good c.in_ok-read.read.blank _ _
    c.args.into.now
    (place_within g.T.Tape.means c.args.tape.now c.args.segment c.args.sector c.requires) c.set_of.ensures
    c.in_ok-read.ensures.reads (c.contains-else-contains.ensures.lost.0 c.if-contains-2.true)
