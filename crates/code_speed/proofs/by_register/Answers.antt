use Rattle.std.proofs.Common.{ℕ, ◌≤◌, sym, subst, arith, List, [], ◌++◌, length, take, take_all}
use Rattle.std.proofs.lemmas.List.{take_more}
use Rattle.cartridge_spec.specs.Code.{IsCodeBlock}
use Rattle.segment_parity.specs.Register.{Holds}
use Rattle.code_speed.proofs.by_register.Goals as goal

pub push-requires : goal.push-requires
push-requires c = omega arith

pub loop-sector-preserved : goal.loop-sector-preserved
loop-sector-preserved c =
    let ss : List (List ℕ) = c.args.sectors.now in
    let i : ℕ = c.loop-sector.sector-index in
    record {
      count = omega arith;
      holds = subst (λ (ts : List (List ℕ)). Holds c.push.new.self ts) (sym (take_more ss i [] (omega arith)))
          (c.push.ensures.sectors (take i ss) c.loop-sector.invariant.holds);
    }

pub returns : goal.returns
returns c =
    let ss : List (List ℕ) = c.args.sectors.now in
    let end : length ss ≤ c.loop-sector.sector-index = omega arith in
    subst (λ (ts : List (List ℕ)). IsCodeBlock (ts ++ c.finish.result)) (take_all c.loop-sector.sector-index ss end)
    (c.finish.ensures.codewords (take c.loop-sector.sector-index ss) c.loop-sector.invariant.holds)
