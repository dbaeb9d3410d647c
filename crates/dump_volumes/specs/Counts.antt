-- What a check counts (this project's own).
use Rattle.std.specs.Prelude.{◌≡◌, List, count_by, length}
use Rattle.dump_spec.specs.Check.{Finding, is_weak, is_unread}
use Rattle.dump_volumes.specs.declared.checking.CheckCounts.{CheckCounts}

-- these are the counts of what was found of segments
pub record HasCounted (counts : CheckCounts) (findings : List Finding) : Type 0 where
  pub segments : counts.segments ≡ length findings
  pub weak : counts.weak ≡ count_by is_weak findings
  pub bad : counts.bad ≡ count_by is_unread findings
