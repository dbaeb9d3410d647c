use Rattle.std.proofs.Common.{◌≡◌, ◌<◌, ◌≤◌, ◌-◌, ◌*◌, length}
use Rattle.rescue_map.specs.Text.{is_marked, run_block, runs_from, joined}
use Rattle.rescue_map.proofs.text.run_end.Given as goal

abbrev pub invariant-loop-end : goal.invariant-loop-end
invariant-loop-end l = record {
  some : l.first < l.end;
  within : l.end ≤ 32 * length l.mask;
  run : runs_from l.mask l.first (32 * length l.mask - l.first)
      ≡ joined (run_block l.first l.end (is_marked l.mask l.first)) (runs_from l.mask l.end (32 * length l.mask - l.end));
}

abbrev pub decreases-loop-end : goal.decreases-loop-end
decreases-loop-end l = 32 * length l.mask - l.end
