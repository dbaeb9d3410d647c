use Rattle.std.proofs.Common.{not, refl, sym, ap, ◌∙◌, arith}
use Rattle.std.proofs.lemmas.Bool.{false≢true}
use Rattle.volume_table.proofs.Used.{shows_lost, shows_kept}
use Rattle.volume_table.proofs.leaving_out.shows_used_slot.Goals as goal

pub returns-then-not-contains : goal.returns-then-not-contains
returns-then-not-contains c =
    c.has_used_slot.ensures
    ∙ sym (shows_kept c.args.area.now c.args.lost c.args.place (omega (arith, c.requires.sectors, c.requires.within))
    (λ is. false≢true (c.if-not-contains.ensures.lost.1 is)))

pub returns-else-not-contains : goal.returns-else-not-contains
returns-else-not-contains c =
    ap not c.if-not-contains.false
    ∙ sym (shows_lost c.args.area.now c.args.lost c.args.place (omega (arith, c.requires.sectors, c.requires.within))
    (c.if-not-contains.ensures.lost.0 refl))
