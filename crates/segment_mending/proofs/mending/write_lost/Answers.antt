use Rattle.std.proofs.Common.{◌≡◌, ℕ, List, [], sym, ap, ◌∙◌, subst, refl}
use Rattle.qic_base.specs.Cartridge.{lost_places}
use Rattle.qic_base.specs.Step.{Step}
use Rattle.qic_base.specs.Tape.{Done}
use Rattle.qic_base.proofs.Steps.{Done-nothing}
use Rattle.cartridge_laws.specs.Writes.{named_writes}
use Rattle.segment_mending.proofs.mending.write_lost.Goals as goal

-- an empty set writes nothing
no_writes : (segment usable : ℕ) (sectors : List (List ℕ)) → named_writes segment usable 0 sectors ≡ []
unfolding lost_places
no_writes segment usable sectors = refl

pub returns-then-mask-eq0-clause-did : goal.returns-then-mask-eq0-clause-did
returns-then-mask-eq0-clause-did g c =
    let none : c.args.lost ≡ 0 = sym c.mask.ensures ∙ c.if-mask-eq0.true in
    let steps : [] ≡ named_writes c.args.segment c.args.usable c.args.lost c.args.work.now =
    sym (ap (λ (places : ℕ). named_writes c.args.segment c.args.usable places c.args.work.now) none
    ∙ no_writes c.args.segment c.args.usable c.args.work.now) in
    subst (λ (ss : List Step). Done g.T.Tape.means c.args.unit.now.tape c.args.unit.now.tape ss) steps
    (Done-nothing g.T.Tape.means c.args.unit.now.tape)
