-- The laws of a record of a disk's calls: what a crash now leaves by it, and what one more event adds to that.
use Rattle.std.proofs.Common.{◌≡◌, ℕ, ◌≤◌, inl, inr, true, false, List, [], ◌∷◌, length, Option, Some, None, is_some, refl, sym, arith}
use Rattle.std.specs.Option.{ForSome}
use Rattle.qic_mem.specs.DiskLog.{DiskEvent, DiskLog, point_of, MayLeave, LeftSince, moment_of, may_leave_of, left_of}

-- the record gives what stands
abbrev pub Stands : Option DiskLog → List ℕ → Type 0
Stands log told = ForSome log (λ l. (point_of l.events).told ≡ told)

-- ---- laws of moments

since-late : (events : List DiskEvent) (t : ℕ) (left : List ℕ) → LeftSince events t left → t ≤ length events
since-late [] t left (late, may) = late
since-late (event ∷ events) t left (inl was) = let late = since-late events t left was in omega arith
since-late (event ∷ events) t left (inr (inl (late, during))) = omega arith
since-late (event ∷ events) t left (inr (inr (late, may))) = omega arith

pub since-now : (events : List DiskEvent) (t : ℕ) (left : List ℕ) → t ≤ length events → MayLeave (point_of events) left →
    LeftSince events t left
since-now [] t left early may = (early, may)
since-now (event ∷ events) t left early may = inr (inr (omega arith, may))

now-since : (events : List DiskEvent) (left : List ℕ) → LeftSince events (length events) left → MayLeave (point_of events) left
now-since [] left (late, may) = may
now-since (event ∷ events) left (inl was) = let late = since-late events (length (event ∷ events)) left was in absurd (omega arith)
now-since (event ∷ events) left (inr (inl (late, during))) = absurd (omega arith)
now-since (event ∷ events) left (inr (inr (late, may))) = may

since-earlier : (events : List DiskEvent) (t u : ℕ) (left : List ℕ) → t ≤ u → LeftSince events u left → LeftSince events t left
since-earlier [] t u left order (late, may) = (omega arith, may)
since-earlier (event ∷ events) t u left order (inl was) = inl (since-earlier events t u left order was)
since-earlier (event ∷ events) t u left order (inr (inl (late, during))) = inr (inl (omega arith, during))
since-earlier (event ∷ events) t u left order (inr (inr (late, may))) = inr (inr (omega arith, may))

-- ---- the same of a disk with a record or with none

pub leave-told : (log : Option DiskLog) (told : List ℕ) → Stands log told → may_leave_of log told told
leave-told None told stands = refl
leave-told (Some l) told stands = inl (sym (stands l refl))

pub leave-untold : (log : Option DiskLog) (told left : List ℕ) → is_some log ≡ false → may_leave_of log told left → left ≡ told
leave-untold None told left untold may = may
leave-untold (Some l) told left untold may = cc

pub left-counts : (log : Option DiskLog) (told : List ℕ) (t : ℕ) (left : List ℕ) → t ≤ moment_of log → may_leave_of log told left →
    left_of log t left
left-counts None told t left early may = tt
left-counts (Some l) told t left early may = since-now l.events t left early may

pub left-only : (log : Option DiskLog) (told left : List ℕ) → is_some log ≡ true → left_of log (moment_of log) left →
    may_leave_of log told left
left-only None told left telling was = cc
left-only (Some l) told left telling was = now-since l.events left was

pub left-earlier : (log : Option DiskLog) (t u : ℕ) (left : List ℕ) → t ≤ u → left_of log u left → left_of log t left
left-earlier None t u left order was = tt
left-earlier (Some l) t u left order was = since-earlier l.events t u left order was
