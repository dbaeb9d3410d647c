use Rattle.std.proofs.Common.{◌≡◌, ◌+◌, ◌^◌, cond, add-zero, refl, arith}
use Rattle.qic117_commands.proofs.DigitFacts.{length-digits}
use Rattle.qic117_commands.proofs.ReportFacts.{push-room, one-bit}
use Rattle.qic117_commands.proofs.collect.Collector.push.Goals as goal
use Rattle.qic117_commands.proofs.collect.Collector.push.Goals.{then-level, else-level}

pub returns-after-level-clause-room : goal.returns-after-level-clause-room
returns-after-level-clause-room c =
    let own = c.self.inside in
    let more : c.if-level.self-inside ≡ record own { levels = own.levels + cond c.args.level (2 ^ own.count) 0 } =
    elim c.if-level.branch [
      | then-level w ↦ rw (w.self-inside-is, w.if-level.true, one-bit own.count (omega arith)) refl
      | else-level
          w ↦ rw (w.self-inside-is, w.if-level.false, add-zero) refl
    ] in
    rw (← c.self.view_is, more) (λ h. push-room own.count own.levels _ c.args.level c.self.invariant.2 refl)

pub returns-after-level-clause-full : goal.returns-after-level-clause-full
returns-after-level-clause-full c =
    let own = c.self.inside in
    rw (← c.self.view_is) (λ h. absurd (omega (arith, h, c.if-self.true, length-digits own.count own.levels)))

pub returns-else-self-clause-room : goal.returns-else-self-clause-room
returns-else-self-clause-room c =
    let own = c.self.inside in
    rw (← c.self.view_is) (λ h. absurd (omega (arith, h, c.if-self.false, length-digits own.count own.levels)))
