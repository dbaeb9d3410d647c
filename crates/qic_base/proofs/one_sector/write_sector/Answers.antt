use Rattle.std.proofs.Common.{true≢false, sym, ◌∙◌}
use Rattle.qic_base.proofs.OneSector.{tells_taken, place_within}
use Rattle.qic_base.proofs.one_sector.write_sector.Goals as goal

-- src/one_sector.rt:55:1
pub returns-else-contains-clause-answer : goal.returns-else-contains-clause-answer
returns-else-contains-clause-answer g c =
    tells_taken g.T.Tape.means c.args.tape.now c.args.segment c.args.sector _ c.in_ok-blank.blank
    (place_within g.T.Tape.means c.args.tape.now c.args.segment c.args.sector c.requires) c.set_of.ensures
    c.in_ok-blank.ensures.answer
    (λ is. true≢false (sym (c.contains.ensures.lost.1 is) ∙ c.if-contains.false))
