use Rattle.std.proofs.Common.{◌≡◌, ◌++◌, ℕ, Bool, List, [], sym, ap, subst}
use Rattle.std.specs.Prelude.{if◌then◌else◌}
use Rattle.qic_base.specs.SinkCalls.{Writes}
use Rattle.qic_base.proofs.Writing.{BrokeOff-longer}
use Rattle.rescue_map.proofs.Texting.{writes_behind}
use Rattle.dump_spec.specs.Lines.{warning_line}
use Rattle.tape_salvage.specs.Endings.{ending_text, line_of}
use Rattle.tape_salvage.proofs.ended.write_ending.Goals as goal

pub returns-in-Ok : goal.returns-in-Ok
returns-in-Ok g c =
    let rest : List ℕ = line_of c.args.ending.now.status in
    let whole : ending_text c.args.ending.now ≡ warning_line ++ rest =
    ap (λ (b : Bool). (if b then warning_line else []) ++ rest) c.if-ending.true in
    subst (λ (text : List ℕ). Writes g.K.Sink.means c.args.sink.now c.write_line.new.sink text c.write_line.result) (sym whole)
    (writes_behind g.K.Sink.means c.args.sink.now c.write_warning.new.sink c.write_line.new.sink warning_line rest
    g.met.K.Sink.took_both c.in-Ok.ensures c.write_line.result c.write_line.ensures)

pub returns-in-Err : goal.returns-in-Err
returns-in-Err g c =
    let rest : List ℕ = line_of c.args.ending.now.status in
    let whole : ending_text c.args.ending.now ≡ warning_line ++ rest =
    ap (λ (b : Bool). (if b then warning_line else []) ++ rest) c.if-ending.true in
    BrokeOff-longer rest (ending_text c.args.ending.now) (sym whole) c.in-Err.ensures
