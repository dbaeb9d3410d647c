use Rattle.std.proofs.Common.{ℕ, ◌≤◌, sym, subst, arith, List, [], length, All, get_or, take, take_all}
use Rattle.std.proofs.lemmas.List.{take_more}
use Rattle.std.proofs.lemmas.List.Elements.{All-nil, All-push}
use Rattle.qic_base.specs.Cartridge.{IsSector}
use Rattle.segment_parity.specs.Register.{AreParity}
use Rattle.segment_parity.proofs.Blocks.{parity_of_none, block_put}
use Rattle.segment_parity.proofs.put_columns.Goals as goal

pub loop-sector-init : goal.loop-sector-init
loop-sector-init c = record { fit = All-nil IsSector; columns = parity_of_none 128 c.args.start }

pub loop-sector-preserved : goal.loop-sector-preserved
loop-sector-preserved c =
    let ss : List (List ℕ) = c.args.sectors.now in
    let i : ℕ = c.loop-sector.sector-index in
    let s : List ℕ = get_or ss i [] in
    let step = sym (take_more ss i [] (omega arith)) in
    let before = c.loop-sector.invariant in
    record {
      fit =
          subst (λ (ts : List (List ℕ)). All IsSector ts) step
          (All-push IsSector (take i ss) s before.fit c.shift_block.ensures.sector);
      columns =
          subst (λ (ts : List (List ℕ)).
          AreParity c.shift_block.new.high c.shift_block.new.middle c.shift_block.new.low ts c.args.start 128) step
          (c.shift_block.ensures.columns (take i ss) before.fit before.columns);
    }

pub returns-clause-sectors : goal.returns-clause-sectors
returns-clause-sectors c =
    let ss : List (List ℕ) = c.args.sectors.now in
    let end : length ss ≤ c.loop-sector.sector-index = omega arith in
    subst (λ (ts : List (List ℕ)). All IsSector ts) (take_all c.loop-sector.sector-index ss end)
    c.loop-sector.invariant.fit

pub returns-clause-columns : goal.returns-clause-columns
returns-clause-columns c = λ was.
    let ss : List (List ℕ) = c.args.sectors.now in
    let end : length ss ≤ c.loop-sector.sector-index = omega arith in
    let u : List ℕ = c.loop-sector.high in
    let v : List ℕ = c.loop-sector.middle in
    let w : List ℕ = c.loop-sector.low in
    block_put c.args.rows.now c.put.new.row c.put-2.new.row c.put-3.new.row u v w ss c.args.start
    c.told-rows c.put.ensures.size c.put-2.ensures.size c.put-3.ensures.size
    c.put.ensures.before c.put-2.ensures.before c.put-3.ensures.before
    c.put.ensures.block c.put-2.ensures.block c.put-3.ensures.block
    (subst (λ (ts : List (List ℕ)). AreParity u v w ts c.args.start 128) (take_all c.loop-sector.sector-index ss end)
    c.loop-sector.invariant.columns)
    was
