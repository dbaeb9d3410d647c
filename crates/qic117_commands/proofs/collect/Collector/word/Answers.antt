use Rattle.std.proofs.Common.{◌≤◌, ◌<◌, ◌^◌, refl, sym, arith}
use Rattle.qic117_commands.proofs.ReportFacts.{word-none, word-full, word-fits, width-bound, final-bit}
use Rattle.qic117_commands.proofs.collect.Collector.word.Goals as goal

pub returns-then-self-final_bit-clause-word : goal.returns-then-self-final_bit-clause-word
returns-then-self-final_bit-clause-word c =
    let own = c.self.inside in
    let low : own.levels < 2 ^ own.width = omega (arith, final-bit own.width c.self.invariant.0) in
    rw (← c.self.view_is) (sym (word-none own.width own.count own.levels c.self.invariant.1 low).0)

pub returns-then-self-final_bit-clause-complete : goal.returns-then-self-final_bit-clause-complete
returns-then-self-final_bit-clause-complete c =
    let own = c.self.inside in
    let low : own.levels < 2 ^ own.width = omega (arith, final-bit own.width c.self.invariant.0) in
    rw (← c.self.view_is) (λ e. cc, λ e. absurd ((word-none own.width own.count own.levels c.self.invariant.1 low).1 e))

pub returns-clause-word : goal.returns-clause-word
returns-clause-word c =
    let own = c.self.inside in
    let final : 2 ^ own.width ≤ own.levels = omega (arith, final-bit own.width c.self.invariant.0) in
    rw (← c.self.view_is, final-bit own.width c.self.invariant.0)
    (sym (word-full own.width own.count own.levels c.self.invariant.1 c.self.invariant.2 final).0)

pub returns-clause-complete : goal.returns-clause-complete
returns-clause-complete c =
    let own = c.self.inside in
    let final : 2 ^ own.width ≤ own.levels = omega (arith, final-bit own.width c.self.invariant.0) in
    rw (← c.self.view_is) (λ e. (word-full own.width own.count own.levels c.self.invariant.1 c.self.invariant.2 final).1, λ e. refl)

pub overflow_cast-result : goal.overflow_cast-result
overflow_cast-result c =
    let own = c.self.inside in
    let e = final-bit own.width c.self.invariant.0 in
    let final : 2 ^ own.width ≤ own.levels = omega (arith, e) in
    omega (
      arith,
      e,
      width-bound own.width c.self.invariant.0,
      word-fits own.width own.count own.levels c.self.invariant.1 c.self.invariant.2 final,
    )

pub returns-clause-fits : goal.returns-clause-fits
returns-clause-fits c =
    let own = c.self.inside in
    let e = final-bit own.width c.self.invariant.0 in
    let final : 2 ^ own.width ≤ own.levels = omega (arith, e) in
    rw (← c.self.view_is, e) (word-fits own.width own.count own.levels c.self.invariant.1 c.self.invariant.2 final)
