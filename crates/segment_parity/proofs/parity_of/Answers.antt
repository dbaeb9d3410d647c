use Rattle.std.proofs.Common.{◌≡◌, ℕ, ◌*◌, refl, sym, subst, arith, List, ◌++◌}
use Rattle.cartridge_spec.specs.Code.{parity_sectors, IsCodeBlock}
use Rattle.gf256_qic.proofs.Parities.{parity_block}
use Rattle.segment_parity.specs.Register.{HasColumns}
use Rattle.segment_parity.proofs.Blocks.{no_columns, rows_done}
use Rattle.segment_parity.proofs.parity_of.Goals as goal
use Rattle.segment_parity.proofs.parity_of.Goals.{After-loop-block}

pub loop-block-init : goal.loop-block-init
loop-block-init c = record {
  size = refl;
  fit = λ h. absurd (omega arith);
  columns = no_columns c.args.sectors.now;
}

rows : (c : After-loop-block) → c.loop-block.rows ≡ parity_sectors c.args.sectors.now
rows c =
    let ss : List (List ℕ) = c.args.sectors.now in
    let done = c.loop-block.invariant in
    let end : 128 * c.loop-block.block ≡ 1024 = omega arith in
    rows_done c.loop-block.rows ss done.size (done.fit (omega arith))
    (subst (λ (n : ℕ). HasColumns c.loop-block.rows ss n) end done.columns)

pub returns-clause-parity : goal.returns-clause-parity
returns-clause-parity c = rows c

pub returns-clause-block : goal.returns-clause-block
returns-clause-block c =
    let ss : List (List ℕ) = c.args.sectors.now in
    subst (λ (rs : List (List ℕ)). IsCodeBlock (ss ++ rs)) (sym (rows c))
    (parity_block ss c.requires.least c.requires.most (c.loop-block.invariant.fit (omega arith)))
