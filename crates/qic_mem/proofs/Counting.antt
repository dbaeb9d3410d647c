-- The counts of failures after one more call.
use Rattle.std.proofs.Common.{◌≡◌, ℕ, Bool, true, false, refl}
use Rattle.qic_base.specs.Tape.{Rose}
use Rattle.qic_mem.specs.Plan.{Plan, counted, plan_after}

-- where it failed, a count rose by one
pub failure-rose : (before after : ℕ) (failed : Bool) → after ≡ counted before failed → failed ≡ true → Rose before after
failure-rose before after failed is fails = rw (is, fails) refl

-- where it didn't, the count is as it was
pub failure-stood : (before after : ℕ) (failed : Bool) → after ≡ counted before failed → failed ≡ false → after ≡ before
failure-stood before after failed is passes = rw (is, passes) refl

-- the same of a plan's count of faults
pub counted-rose : (before after : Plan) (failed : Bool) → after ≡ plan_after before failed → failed ≡ true →
    Rose before.faults after.faults
counted-rose before after failed is fails = rw (is, fails) refl

pub counted-stood : (before after : Plan) (failed : Bool) → after ≡ plan_after before failed → failed ≡ false → after.faults ≡ before.faults
counted-stood before after failed is passes = rw (is, passes) refl
