use Rattle.std.proofs.Common.{◌≢◌, ◌⊎◌, inl, inr}
use Rattle.sure_map.proofs.Mapping.{sure_status, other_status}
use Rattle.sure_map.proofs.map.SureMap.status.Goals as goal
use Rattle.sure_map.proofs.map.SureMap.status.Goals.{else-self-eq0-via-then-self-eq0+else-self-eq0-2, else-self-eq0-via-else-self-eq0}

pub returns-then-self-eq0-2 : goal.returns-then-self-eq0-2
returns-then-self-eq0-2 c = λ marks front is.
    sure_status c.args.self.now marks front c.if-self-eq0.true c.if-self-eq0-2.true is

pub returns-else-self-eq0 : goal.returns-else-self-eq0
returns-else-self-eq0 c = λ marks front is.
    let some : (c.args.self.now.tally.unchecked ≢ 0) ⊎ (c.args.self.now.tally.filled ≢ 0) =
    elim c.else-self-eq0.branch [
      | else-self-eq0-via-then-self-eq0+else-self-eq0-2 w ↦ inr w.if-self-eq0-2.false
      | else-self-eq0-via-else-self-eq0 w ↦ inl w.if-self-eq0.false
    ] in
    other_status c.args.self.now marks front c.from.result c.from-else-self-eq0.result c.from-else-self-eq0-2.result some
    c.from.ensures c.from-else-self-eq0.ensures c.from-else-self-eq0-2.ensures is
