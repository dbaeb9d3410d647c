use Rattle.std.proofs.Common.{◌≡◌, ℕ, ◌++◌, List, length, take, drop, sym, ap, ◌∙◌, arith}
use Rattle.std.proofs.lemmas.List.{take_at}
use Rattle.cartridge_spec.specs.Code.{parity_sectors}
use Rattle.cartridge_front.specs.Settling.{collected_block, is_stale}
use Rattle.qic_base.specs.CartridgeTerms.{is_lost}
use Rattle.cartridge_front.proofs.settling.renew_parity.Goals as goal

-- the sectors that were lent are those of the block
put_in : (old lent parity new left : List (List ℕ)) → lent ≡ old → parity ≡ parity_sectors (take 29 old) → new ≡ take 29 lent ++ parity →
    length new ≡ 32 →
    take 32 (new ++ left) ≡ collected_block old
put_in old lent parity new left was is put long =
    take_at new left 32 long ∙ put
    ∙ ap (λ (l : List (List ℕ)). take 29 l ++ parity) was
    ∙ ap (λ (l : List (List ℕ)). take 29 old ++ l) is

pub returns-clause-block : goal.returns-clause-block
returns-clause-block c =
    put_in c.args.work.now c.sectors_mut.result.now c.parity_of-parity.result c.replace_parity-stale.new.sectors
    (drop (length c.replace_parity-stale.new.sectors) c.args.work.now)
    c.sectors_mut.ensures.value (c.parity_of-parity.ensures.parity ∙ ap parity_sectors c.data_sectors.ensures.value)
    c.replace_parity-stale.ensures.sectors
    (omega (arith, c.sectors_mut.ensures.size))

pub returns-clause-stale : goal.returns-clause-stale
returns-clause-stale c = λ i within.
    let new : List (List ℕ) = c.replace_parity-stale.new.sectors in
    let left : List (List ℕ) = drop (length new) c.args.work.now in
    let parity : List (List ℕ) = c.parity_of-parity.result in
    let long : length new ≡ 32 = omega (arith, c.sectors_mut.ensures.size) in
    ap (λ (m : ℕ). is_lost m i) c.from_mask.ensures
    ∙ c.replace_parity-stale.ensures.stale i within
    ∙ ap (λ (m : ℕ). is_stale m c.sectors_mut.result.now (take 29 c.sectors_mut.result.now ++ parity) i) c.mask.ensures
    ∙ ap (λ (block : List (List ℕ)). is_stale c.args.lost c.sectors_mut.result.now block i)
    (sym c.replace_parity-stale.ensures.sectors ∙ sym (take_at new left 32 long))
    ∙ ap (λ (old : List (List ℕ)). is_stale c.args.lost old (take 32 (new ++ left)) i) c.sectors_mut.ensures.value
