use Rattle.std.proofs.Common.{◌≡◌, ◌+◌, ◌-◌, ◌*◌, ℕ, suc, length, sym, ap, ◌∙◌, arith}
use Rattle.rescue_map.specs.Text.{is_marked, run_block, runs_from, joined}
use Rattle.rescue_map.proofs.Texting.{beq_same, run-sector}
use Rattle.rescue_map.proofs.text.run_end.Goals as goal

pub loop-end-preserved : goal.loop-end-preserved
loop-end-preserved c =
    let mask = c.args.mask.now in
    let first = c.args.first in
    let end = c.loop-end.end in
    let next : 32 * length mask - end ≡ suc (32 * length mask - (end + 1)) = omega arith in
    record {
      some = omega arith;
      within = omega arith;
      run = c.loop-end.invariant.run
          ∙ ap (λ (n : ℕ). joined (run_block first end (is_marked mask first)) (runs_from mask end n)) next
          ∙ run-sector mask first end (32 * length mask - (end + 1)) c.loop-end.invariant.some
          (sym c.is_marked.ensures ∙ beq_same c.is_marked.result c.is_marked-marked.result c.if-is_marked-marked.false
          ∙ c.is_marked-marked.ensures);
    }
