-- The calls that a tape in memory recorded, with their steps and how they ended, and what a stop leaves by them (this
-- project's profile).
use Rattle.std.specs.Prelude.{◌≡◌, ◌⊎◌, ℕ, ◌+◌, ◌-◌, ◌≤◌, Bool, false, List, [], ◌∷◌, length, Option, Some, None, ◌==◌, if◌then◌else◌}
use Rattle.qic_base.specs.Cartridge.{Cartridge}
use Rattle.qic_base.specs.Step.{Step, Torn}
use Rattle.qic_mem.specs.declared.tape.outcome.End.{End}
use Rattle.qic_mem.specs.Outcome.{ended}

pub record TapeCall : Type 0 where
  pub step : Step
  pub end : End

-- ---- what a stop leaves

-- what stands behind these calls, the last of them first; before the first there is no cartridge
abbrev pub held_after : List TapeCall → Option Cartridge
held_after [] = None
held_after (call ∷ calls) = ended call.end call.step (held_after calls)

-- a stop since t of the calls were made: before the last of them, in it, or behind it
abbrev pub LeftSince : List TapeCall → ℕ → Option Cartridge → Type 0
LeftSince [] t left = (t ≤ 0) × (left ≡ None)
LeftSince (call ∷ calls) t left =
    LeftSince calls t left
    ⊎ ((t ≤ length calls) × Torn (call.step ∷ []) (held_after calls) left)
    ⊎ ((t ≤ length calls + 1) × (left ≡ held_after (call ∷ calls)))

-- ---- the record

-- The calls so far, the last of them first, and for how many more there is room.
pub record TapeLog : Type 0 where
  pub calls : List TapeCall
  pub calls_left : ℕ

abbrev pub new_log : ℕ → TapeLog
new_log calls = record { calls = []; calls_left = calls }

-- there is a record, and no room in it for one more call
abbrev pub is_full : Option TapeLog → Bool
is_full None = false
is_full (Some l) = l.calls_left == 0

-- one more call, where there is room for it
abbrev pub logged : Option TapeLog → TapeCall → Option TapeLog
logged None call = None
logged (Some l) call = Some (if l.calls_left == 0 then l else record { calls = call ∷ l.calls; calls_left = l.calls_left - 1 })

-- ---- a tape with a record or with none

-- the number of the calls recorded
abbrev pub moment_of : Option TapeLog → ℕ
moment_of None = 0
moment_of (Some l) = length l.calls

-- what a stop since a moment might have left; without a record nothing is meant by it
abbrev pub left_of : Option TapeLog → ℕ → Option Cartridge → Type 0
left_of None t left = Unit {0}
left_of (Some l) t left = LeftSince l.calls t left
