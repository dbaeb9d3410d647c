use Rattle.std.proofs.Common.{◌++◌, ℕ, codes, decimal, refl, subst}
use Rattle.qic_base.specs.SinkCalls.{BrokeOff, Writes}
use Rattle.qic_base.specs.Sink.{Wrote}
use Rattle.qic_base.proofs.Writing.{BrokeOff-longer}
use Rattle.rescue_map.proofs.Texting.{writes_behind}
use Rattle.tape_import.specs.Texts.{imported_text}
use Rattle.tape_import.proofs.status.write_imported.Goals as goal

pub returns-in-Ok : goal.returns-in-Ok
returns-in-Ok g c =
    writes_behind g.K.Sink.means c.args.sink.now c.write_between.new.sink c.write_number.new.sink
    (codes "imported " ++ (decimal c.args.imported.segments ++ codes " ")) (decimal c.args.imported.lost ++ codes "\n")
    g.met.K.Sink.took_both
    (subst (λ (n : ℕ). Wrote g.K.Sink.means c.args.sink.now c.write_between.new.sink (codes "imported " ++ (decimal n ++ codes " ")))
    c.from.ensures c.in-Ok.ensures) c.write_number.result
    (subst (λ (n : ℕ). Writes g.K.Sink.means c.write_between.new.sink c.write_number.new.sink (decimal n ++ codes "\n")
    c.write_number.result) c.from-in-Ok.ensures c.write_number.ensures)

pub returns-in-Err : goal.returns-in-Err
returns-in-Err g c =
    BrokeOff-longer (decimal c.args.imported.lost ++ codes "\n") (imported_text c.args.imported) refl
    (subst (λ (n : ℕ). BrokeOff g.K.Sink.means c.args.sink.now c.write_between.new.sink (codes "imported " ++ (decimal n ++ codes " ")))
    c.from.ensures c.in-Err.ensures)
