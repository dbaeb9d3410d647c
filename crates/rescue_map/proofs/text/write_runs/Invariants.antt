use Rattle.std.proofs.Common.{◌≤◌, ◌-◌, ◌*◌, length}
use Rattle.rescue_map.specs.Text.{runs_from, runs_of, blocks_text}
use Rattle.rescue_map.proofs.Texting.{Written}
use Rattle.rescue_map.proofs.text.write_runs.Given as goal

abbrev pub invariant-loop-first : goal.invariant-loop-first
invariant-loop-first g l = record {
  within : l.first ≤ 32 * length l.mask;
  written : Written g.K.Sink.means l.initial.sink l.sink (blocks_text (runs_of l.mask))
      (blocks_text (runs_from l.mask l.first (32 * length l.mask - l.first)));
}

abbrev pub decreases-loop-first : goal.decreases-loop-first
decreases-loop-first g l = 32 * length l.mask - l.first
