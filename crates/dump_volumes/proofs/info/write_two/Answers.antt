use Rattle.std.proofs.Common.{◌++◌, refl}
use Rattle.qic_base.specs.Sink.{Wrote}
use Rattle.qic_base.specs.SinkCalls.{BrokeOff, Writes}
use Rattle.qic_base.proofs.Writing.{BrokeOff-longer}
use Rattle.rescue_map.proofs.Texting.{writes_behind}
use Rattle.dump_volumes.proofs.info.write_two.Goals as goal

pub returns-in-Ok : goal.returns-in-Ok
returns-in-Ok g c =
    let first : Wrote g.K.Sink.means c.args.sink.now c.write_text.new.sink c.args.first.now = rw c.bytes.ensures at c.in-Ok.ensures in
    let next : Writes g.K.Sink.means c.write_text.new.sink c.write_text-in-Ok.new.sink c.args.second.now c.write_text-in-Ok.result =
    rw c.bytes-in-Ok.ensures at c.write_text-in-Ok.ensures in
    writes_behind g.K.Sink.means c.args.sink.now c.write_text.new.sink c.write_text-in-Ok.new.sink c.args.first.now c.args.second.now
    g.met.K.Sink.took_both first c.write_text-in-Ok.result next

pub returns-in-Err : goal.returns-in-Err
returns-in-Err g c =
    let broke : BrokeOff g.K.Sink.means c.args.sink.now c.write_text.new.sink c.args.first.now = rw c.bytes.ensures at c.in-Err.ensures in
    BrokeOff-longer c.args.second.now (c.args.first.now ++ c.args.second.now) refl broke
