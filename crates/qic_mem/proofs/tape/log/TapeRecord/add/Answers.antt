use Rattle.std.proofs.Common.{◌-◌, refl, arith}
use Rattle.qic_mem.specs.declared.tape.log.TapeRecord.TheInside.{Inside}
use Rattle.qic_mem.proofs.Calls.{log-added}
use Rattle.qic_mem.proofs.tape.log.TapeRecord.add.Goals as goal

pub returns-then-self-gt0 : goal.returns-then-self-gt0
returns-then-self-gt0 c =
    let after : Inside = record { calls = c.push.new.self; calls_left = c.self.inside.calls_left - 1 } in
    rw (← c.self.view_is) (log-added c.self.inside after c.args.call (rw c.unwrap.ensures at c.push.ensures.items) refl
    (omega (arith, c.if-self-gt0.true)))
