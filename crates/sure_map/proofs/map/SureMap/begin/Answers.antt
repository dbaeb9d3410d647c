use Rattle.std.proofs.Common.{◌≡◌, List, ℕ, subst}
use Rattle.qic_base.specs.Sink.{Wrote}
use Rattle.qic_base.specs.SinkCalls.{BrokeOff}
use Rattle.dump_spec.specs.Output.{sure_head}
use Rattle.sure_map.proofs.map.SureMap.begin.Goals as goal

pub returns-in-Ok-clause-head : goal.returns-in-Ok-clause-head
unfolding sure_head
returns-in-Ok-clause-head g c =
    let head : c.as_bytes.result.now ≡ sure_head = c.as_bytes.ensures.value in
    subst (λ (t : List ℕ). Wrote g.K.Sink.means c.args.sink.now c.write_text.new.sink t) head c.in-Ok.ensures

pub returns-in-Err-clause-head : goal.returns-in-Err-clause-head
unfolding sure_head
returns-in-Err-clause-head g c =
    let head : c.as_bytes.result.now ≡ sure_head = c.as_bytes.ensures.value in
    subst (λ (t : List ℕ). BrokeOff g.K.Sink.means c.args.sink.now c.write_text.new.sink t) head c.in-Err.ensures
