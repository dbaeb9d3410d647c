-- Which calls of an object in memory are to fail, and how many calls and faults there were (this project's profile).
use Rattle.std.specs.Prelude.{ℕ, ◌+◌, ◌-◌, ◌^◌, min, Bool, List, Contains, if◌then◌else◌}

-- The numbers of the calls that are to fail, counted from 0 over all calls of the object, and the counts so far.
pub record Plan : Type 0 where
  pub fails : List ℕ
  pub calls : ℕ
  pub faults : ℕ

-- before the first call
abbrev pub new_plan : List ℕ → Plan
new_plan fails = record { fails = fails; calls = 0; faults = 0 }

-- one more, up to the greatest u64, where a count stands
abbrev pub raised : ℕ → ℕ
raised n = min (n + 1) (2 ^ 64 - 1)

-- a count of failures after one more call, which failed or not
abbrev pub counted : ℕ → Bool → ℕ
counted n failed = if failed then raised n else n

-- the next call is one of those that are to fail
abbrev pub IsChosen : Plan → Type 0
IsChosen p = Contains p.fails p.calls

-- after one more call, which failed or not
abbrev pub plan_after : Plan → Bool → Plan
plan_after p failed = record p { calls = raised p.calls; faults = counted p.faults failed }
