use Rattle.std.proofs.Common.{arith}
use Rattle.rescue_map.proofs.Cutting.{keep_some, keep_none}
use Rattle.rescue_map.proofs.scan.Scan.keep.Goals as goal

pub returns-then-self-lt32-clause-begun : goal.returns-then-self-lt32-clause-begun
returns-then-self-lt32-clause-begun c = λ begun is.
    let more = keep_some begun c.args.self.now.len c.args.byte c.args.self.now.begun c.if-self-lt32.true (omega arith) is.kept is.long in
    record { kept = more.0; long = more.1 }

pub returns-else-self-lt32-clause-begun : goal.returns-else-self-lt32-clause-begun
returns-else-self-lt32-clause-begun c = λ begun is.
    let more = keep_none begun c.args.self.now.len c.args.byte c.args.self.now.begun c.if-self-lt32.false is.kept is.long in
    record { kept = more.0; long = more.1 }
