use Rattle.std.proofs.Common.{◌≡◌, List, ℕ, refl, subst}
use Rattle.qic_base.specs.Sink.{Wrote}
use Rattle.qic_base.specs.SinkCalls.{BrokeOff}
use Rattle.qic_base.proofs.Writing.{BrokeOff-longer}
use Rattle.rescue_map.specs.Text.{head_text, blocks_text, runs_of, map_text}
use Rattle.rescue_map.proofs.Texting.{writes_behind}
use Rattle.rescue_map.proofs.text.write_map.Goals as goal

pub returns-in-Ok : goal.returns-in-Ok
unfolding head_text
returns-in-Ok g c =
    let head : c.as_bytes.result.now ≡ head_text = c.as_bytes.ensures.value in
    writes_behind g.K.Sink.means c.args.sink.now c.write_text.new.sink c.write_runs.new.sink head_text
    (blocks_text (runs_of c.args.mask.now)) g.met.K.Sink.took_both
    (subst (λ (t : List ℕ). Wrote g.K.Sink.means c.args.sink.now c.write_text.new.sink t) head c.in-Ok.ensures) c.write_runs.result
    c.write_runs.ensures

pub returns-in-Err : goal.returns-in-Err
unfolding head_text
returns-in-Err g c =
    let head : c.as_bytes.result.now ≡ head_text = c.as_bytes.ensures.value in
    BrokeOff-longer (blocks_text (runs_of c.args.mask.now)) (map_text c.args.mask.now) refl
    (subst (λ (t : List ℕ). BrokeOff g.K.Sink.means c.args.sink.now c.write_text.new.sink t) head c.in-Err.ensures)
