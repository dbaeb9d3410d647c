use Rattle.std.proofs.Common.{◌++◌, ℕ, List, decimal, refl, subst}
use Rattle.qic_base.specs.SinkCalls.{BrokeOff}
use Rattle.qic_base.specs.Sink.{Wrote}
use Rattle.qic_base.proofs.Writing.{BrokeOff-longer}
use Rattle.rescue_map.proofs.Texting.{writes_behind}
use Rattle.tape_import.proofs.status.write_between.Goals as goal

pub returns-in-Ok : goal.returns-in-Ok
returns-in-Ok g c =
    writes_behind g.K.Sink.means c.args.sink.now c.write_text.new.sink c.write_number.new.sink c.args.before.now
    (decimal c.args.value ++ c.args.behind.now) g.met.K.Sink.took_both
    (subst (λ (t : List ℕ). Wrote g.K.Sink.means c.args.sink.now c.write_text.new.sink t) c.as_bytes.ensures.value c.in-Ok.ensures)
    c.write_number.result c.write_number.ensures

pub returns-in-Err : goal.returns-in-Err
returns-in-Err g c =
    BrokeOff-longer (decimal c.args.value ++ c.args.behind.now) (c.args.before.now ++ (decimal c.args.value ++ c.args.behind.now)) refl
    (subst (λ (t : List ℕ). BrokeOff g.K.Sink.means c.args.sink.now c.write_text.new.sink t) c.as_bytes.ensures.value c.in-Err.ensures)
