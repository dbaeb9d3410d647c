use Rattle.std.proofs.Common.{◌≢◌, ◌⊎◌, inl, inr}
use Rattle.dump_volumes.proofs.Counted.{well_status, damaged_status}
use Rattle.dump_volumes.proofs.checking.CheckCounts.status.Goals as goal
use Rattle.dump_volumes.proofs.checking.CheckCounts.status.Goals.{else-self-eq0-via-then-self-eq0+else-self-eq0-2}
use Rattle.dump_volumes.proofs.checking.CheckCounts.status.Goals.{else-self-eq0-via-else-self-eq0}

pub returns-then-self-eq0-2 : goal.returns-then-self-eq0-2
returns-then-self-eq0-2 c = λ findings is. well_status c.args.self.now findings c.if-self-eq0.true c.if-self-eq0-2.true is

pub returns-else-self-eq0 : goal.returns-else-self-eq0
returns-else-self-eq0 c = λ findings is.
    let some : (c.args.self.now.weak ≢ 0) ⊎ (c.args.self.now.bad ≢ 0) =
    elim c.else-self-eq0.branch [
      | else-self-eq0-via-then-self-eq0+else-self-eq0-2 w ↦ inr w.if-self-eq0-2.false
      | else-self-eq0-via-else-self-eq0 w ↦ inl w.if-self-eq0.false
    ] in
    damaged_status c.args.self.now findings some is
