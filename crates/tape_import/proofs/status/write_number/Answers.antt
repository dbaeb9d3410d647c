use Rattle.std.proofs.Common.{◌++◌, ◌≡◌, ◌∙◌, ℕ, List, decimal, refl, subst}
use Rattle.qic_base.specs.SinkCalls.{BrokeOff, Writes}
use Rattle.qic_base.specs.Sink.{Wrote}
use Rattle.qic_base.proofs.Writing.{BrokeOff-longer}
use Rattle.rescue_map.proofs.Texting.{writes_behind}
use Rattle.tape_import.proofs.status.write_number.Goals as goal

pub returns-in-Ok : goal.returns-in-Ok
returns-in-Ok g c =
    let digits : c.as_bytes.result.now ≡ decimal c.args.value = c.as_bytes.ensures.value ∙ c.format.ensures.text in
    writes_behind g.K.Sink.means c.args.sink.now c.write_text.new.sink c.write_text-in-Ok.new.sink (decimal c.args.value)
    c.args.behind.now g.met.K.Sink.took_both
    (subst (λ (t : List ℕ). Wrote g.K.Sink.means c.args.sink.now c.write_text.new.sink t) digits c.in-Ok.ensures)
    c.write_text-in-Ok.result
    (subst (λ (t : List ℕ). Writes g.K.Sink.means c.write_text.new.sink c.write_text-in-Ok.new.sink t c.write_text-in-Ok.result)
    c.as_bytes-in-Ok.ensures.value c.write_text-in-Ok.ensures)

pub returns-in-Err : goal.returns-in-Err
returns-in-Err g c =
    let digits : c.as_bytes.result.now ≡ decimal c.args.value = c.as_bytes.ensures.value ∙ c.format.ensures.text in
    BrokeOff-longer c.args.behind.now (decimal c.args.value ++ c.args.behind.now) refl
    (subst (λ (t : List ℕ). BrokeOff g.K.Sink.means c.args.sink.now c.write_text.new.sink t) digits c.in-Err.ensures)
