use Rattle.std.proofs.Common.{◌+◌, ◌++◌, ◌∷◌, [], sym, ap, ◌∙◌}
use Rattle.rescue_map.specs.declared.form.Expected.{Expected}
use Rattle.rescue_map.specs.declared.form.Said.{Said}
use Rattle.rescue_map.specs.Map.{Going, behind_said}
use Rattle.rescue_map.proofs.Moving.{status_tracked, block_continues}
use Rattle.rescue_map.proofs.reading.Progress.take.Goals as goal

pub returns-in-Status : goal.returns-in-Status
returns-in-Status c = λ blocks line list are tracked.
    let is = c.in-Status.ensures.said list are in (
      blocks,
      ap (λ (s : Said). behind_said blocks c.args.self.now.expected line s) (sym is),
      status_tracked c.args.self.now.expected list c.args.mask.now blocks c.args.self.now.from is tracked,
    )

pub returns-in-Block : goal.returns-in-Block
returns-in-Block c = λ blocks line list are tracked.
    let is = c.in-Block.ensures.said list are in (
      blocks ++ c.in-Block.block ∷ [],
      ap (λ (s : Said). behind_said blocks c.args.self.now.expected line s) (sym is)
          ∙ ap (λ (e : Expected). Going (blocks ++ c.in-Block.block ∷ []) e (line + 1)) (sym c.add.ensures.expected),
      c.add.ensures.tracked blocks (block_continues c.args.self.now.expected list c.in-Block.block is) tracked,
    )
