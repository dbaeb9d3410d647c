-- The laws of a record of a tape's calls: what a stop now leaves by it.
use Rattle.std.proofs.Common.{◌≡◌, ℕ, ◌≤◌, inl, inr, true, List, [], ◌∷◌, length, Option, Some, None, is_some, refl, sym, ◌∙◌, arith}
use Rattle.std.specs.Option.{ForSome}
use Rattle.qic_base.specs.Cartridge.{Cartridge}
use Rattle.qic_mem.specs.TapeLog.{TapeCall, TapeLog, held_after, LeftSince, moment_of, left_of}

-- the record gives what stands
abbrev pub Stands : Option TapeLog → Option Cartridge → Type 0
Stands log held = ForSome log (λ l. held_after l.calls ≡ held)

-- ---- laws of moments

since-late : (calls : List TapeCall) (t : ℕ) (left : Option Cartridge) → LeftSince calls t left → t ≤ length calls
since-late [] t left (late, is) = late
since-late (call ∷ calls) t left (inl was) = let late = since-late calls t left was in omega arith
since-late (call ∷ calls) t left (inr (inl (late, torn))) = omega arith
since-late (call ∷ calls) t left (inr (inr (late, is))) = omega arith

since-now : (calls : List TapeCall) (t : ℕ) (left : Option Cartridge) → t ≤ length calls → left ≡ held_after calls → LeftSince calls t left
since-now [] t left early is = (early, is)
since-now (call ∷ calls) t left early is = inr (inr (omega arith, is))

now-since : (calls : List TapeCall) (left : Option Cartridge) → LeftSince calls (length calls) left → left ≡ held_after calls
now-since [] left (late, is) = is
now-since (call ∷ calls) left (inl was) = let late = since-late calls (length (call ∷ calls)) left was in absurd (omega arith)
now-since (call ∷ calls) left (inr (inl (late, torn))) = absurd (omega arith)
now-since (call ∷ calls) left (inr (inr (late, is))) = is

since-earlier : (calls : List TapeCall) (t u : ℕ) (left : Option Cartridge) → t ≤ u → LeftSince calls u left → LeftSince calls t left
since-earlier [] t u left order (late, is) = (omega arith, is)
since-earlier (call ∷ calls) t u left order (inl was) = inl (since-earlier calls t u left order was)
since-earlier (call ∷ calls) t u left order (inr (inl (late, torn))) = inr (inl (omega arith, torn))
since-earlier (call ∷ calls) t u left order (inr (inr (late, is))) = inr (inr (omega arith, is))

-- ---- the same of a tape with a record or with none

pub left-counts : (log : Option TapeLog) (held : Option Cartridge) (t : ℕ) (left : Option Cartridge) → Stands log held → t ≤ moment_of log →
    left ≡ held → left_of log t left
left-counts None held t left stands early is = tt
left-counts (Some l) held t left stands early is = since-now l.calls t left early (is ∙ sym (stands l refl))

pub left-only : (log : Option TapeLog) (held left : Option Cartridge) → Stands log held → is_some log ≡ true →
    left_of log (moment_of log) left → left ≡ held
left-only None held left stands telling was = cc
left-only (Some l) held left stands telling was = now-since l.calls left was ∙ stands l refl

pub left-earlier : (log : Option TapeLog) (t u : ℕ) (left : Option Cartridge) → t ≤ u → left_of log u left → left_of log t left
left-earlier None t u left order was = tt
left-earlier (Some l) t u left order was = since-earlier l.calls t u left order was
