use Rattle.std.proofs.Common.{◌≡◌, List, ℕ, Some, length, take, drop, sym, ap, arith}
use Rattle.std.proofs.lemmas.List.{length-take-le}
use Rattle.tape_script.proofs.Making.{made_gives, drop-made_from}
use Rattle.tape_script.proofs.made.MadeSource.read.Goals as goal

pub returns-clause-gives : goal.returns-clause-gives
returns-clause-gives c =
    let m = c.min-count.ensures in
    let count : length (take c.min-count.result c.args.into.now) ≡ c.min-count.result = length-take-le c.min-count.result c.args.into.now
    (omega arith) in
    rw (← c.self.view_is, c.fill-self-inside.ensures.filled, count)
    (made_gives c.self.inside.next c.self.inside.left (length c.args.into.now) c.min-count.result
    (drop c.min-count.result c.args.into.now) c.requires m)

pub returns-clause-left : goal.returns-clause-left
returns-clause-left c =
    let m = c.min-count.ensures in
    let count : length (take c.min-count.result c.args.into.now) ≡ c.min-count.result = length-take-le c.min-count.result c.args.into.now
    (omega arith) in
    let next = rw count at c.fill-self-inside.ensures.next in
    rw (← c.self.view_is, next)
    (ap (λ (bytes : List ℕ). Some bytes) (sym (drop-made_from c.self.inside.next c.self.inside.left c.min-count.result (omega arith))))
