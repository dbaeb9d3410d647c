use Rattle.rescue_map.proofs.reading.Progress.add.Goals as goal

pub returns-clause-tracked : goal.returns-clause-tracked
returns-clause-tracked c = λ blocks continues tracked.
    c.mark_block.ensures blocks (c.from_before-from.ensures c.args.mask.now blocks continues tracked)
