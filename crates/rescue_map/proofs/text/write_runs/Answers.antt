use Rattle.std.proofs.Common.{◌-◌, ◌*◌, length}
use Rattle.rescue_map.specs.Text.{blocks_text, runs_from}
use Rattle.rescue_map.proofs.Texting.{write_next, write_broke, run_parts}
use Rattle.rescue_map.proofs.text.write_runs.Goals as goal

pub loop-first-preserved : goal.loop-first-preserved
loop-first-preserved g c =
    let mask = c.args.mask.now in
    let end = c.run_end-end.result in
    record {
      within = c.run_end-end.ensures.within;
      written = write_next c.block_line.result (blocks_text (runs_from mask end (32 * length mask - end))) g.met.K.Sink.took_both
          (run_parts mask c.block_line.result c.run_block-block.result c.loop-first.first end (32 * length mask - c.loop-first.first)
          (32 * length mask - end)
          c.is_marked.result c.block_line.ensures c.run_block-block.ensures c.is_marked.ensures c.run_end-end.ensures.run)
          c.loop-first.invariant.written c.in-Ok.ensures;
    }

pub returns-in-Err : goal.returns-in-Err
returns-in-Err g c =
    let mask = c.args.mask.now in
    let end = c.run_end-end.result in
    write_broke c.block_line.result (blocks_text (runs_from mask end (32 * length mask - end))) g.met.K.Sink.took_both
    (run_parts mask c.block_line.result c.run_block-block.result c.loop-first.first end (32 * length mask - c.loop-first.first)
    (32 * length mask - end)
    c.is_marked.result c.block_line.ensures c.run_block-block.ensures c.is_marked.ensures c.run_end-end.ensures.run)
    c.loop-first.invariant.written c.in-Err.ensures
