use Rattle.std.proofs.lemmas.Bool.{false≢true}
use Rattle.std.proofs.Common.{◌≡◌, ◌<◌, ◌^◌, ◌∷◌, [], ℕ, length, refl, sym, ◌∙◌, ap, subst, arith}
use Rattle.qic_base.specs.Cartridge.{lost_places}
use Rattle.volume_table.specs.Trials.{AreTrials, tried}
use Rattle.volume_table.proofs.Trying.{tried_one, tried_with_29, tried_with_30, tried_no_more}
use Rattle.qic_base.specs.CartridgeTerms.{with_place}
use Rattle.volume_table.proofs.leaving_out.trials.Goals as goal

pub returns-in-1 : goal.returns-in-1
returns-in-1 c = λ within.
    let lost : ℕ = c.args.lost in
    let few : lost < 2 ^ 32 = omega (arith, c.well_formed) in
    let one : length (lost_places lost 32) ≡ 1 = sym c.count.ensures ∙ c.in-1.is in
    let first = c.add.ensures.more (lost ∷ []) c.of-trials.ensures in
    let second = c.add-in-1.ensures.more (lost ∷ c.with_place.result ∷ []) first in
    let third = c.add_used.ensures.more within (lost ∷ c.with_place.result ∷ c.with_place-in-1.result ∷ []) second in
    let fourth = c.add-in-1-2.ensures.more _ third in
    subst (AreTrials c.add-in-1-2.new.self)
    (rw (
      c.with_place.ensures.set,
      c.with_place-in-1.ensures.set,
      c.with_place-in-1-3.ensures.set,
      c.with_place-in-1-2.ensures.set,
    ) (sym (tried_one lost c.args.last_used few c.requires.loses_data one))) fourth

pub returns-in-2 : goal.returns-in-2
returns-in-2 c = λ within.
    let lost : ℕ = c.args.lost in
    let few : lost < 2 ^ 32 = omega (arith, c.well_formed) in
    let two : length (lost_places lost 32) ≡ 2 = sym c.count.ensures ∙ c.in-2.is in
    subst (AreTrials c.add_used-in-2.new.trials)
    (sym (tried_with_29 lost c.args.last_used few c.requires.loses_data two (c.if-contains.ensures.lost.0 refl)))
    (c.add_used-in-2.ensures.more within (lost ∷ []) c.of-trials.ensures)

pub returns-in-2-2 : goal.returns-in-2-2
returns-in-2-2 c = λ within.
    let lost : ℕ = c.args.lost in
    let few : lost < 2 ^ 32 = omega (arith, c.well_formed) in
    let two : length (lost_places lost 32) ≡ 2 = sym c.count.ensures ∙ c.in-2.is in
    let sets : tried lost c.args.last_used ≡ lost ∷ with_place lost 31 ∷ [] =
    tried_with_30 lost c.args.last_used few c.requires.loses_data two (λ is. false≢true (c.if-contains.ensures.lost.1 is))
    (c.if-contains-2.ensures.lost.0 refl) in
    subst (AreTrials c.add-in-2-2.new.self) (ap (λ (set : ℕ). lost ∷ set ∷ []) (c.with_place-in-2-2.ensures.set) ∙ sym sets)
    (c.add-in-2-2.ensures.more (lost ∷ []) c.of-trials.ensures)

pub returns-else-contains-2 : goal.returns-else-contains-2
returns-else-contains-2 c = λ within.
    let two : length (lost_places c.args.lost 32) ≡ 2 = sym c.count.ensures ∙ c.in-2.is in
    subst (AreTrials c.of-trials.result)
    (sym (tried_no_more c.args.lost c.args.last_used c.requires.loses_data two (λ is. false≢true (c.if-contains.ensures.lost.1 is))
    (λ is. false≢true (c.if-contains-2.ensures.lost.1 is))))
    c.of-trials.ensures
