-- What runs of disk steps leave, told and after a crash.
use Rattle.std.proofs.Common.{◌≡◌, ℕ, ◌≤◌, ◌⊎◌, inl, inr, List, [], ◌∷◌, ◌++◌, refl, sym, ◌∙◌, ap, arith, Some, is_some, subst}
use Rattle.std.specs.Option.{option_map}
use Rattle.qic_base.specs.Disk.{Meaning, DiskStep, Look, WriteAt, SetLen, Sync, stored, Unsynced, Inside, IsSettled, Stored, Failed}
use Rattle.cart_image.specs.Run.{Looks, Ran, Halted, after_steps, Pending, Crashed}
use Rattle.qic_base.proofs.Steps.{is_some-option_map}

-- whatever a run does, time goes on, and the disk tells its bytes as before
pub record Passes {D : Type 0} (m : Meaning D) (old new : D) : Type 0 where
  pub tells : is_some (m.told new) ≡ is_some (m.told old)
  pub later : m.faults old ≤ m.faults new
  pub telling : m.tells_stops new ≡ m.tells_stops old
  pub clock : m.moment old ≤ m.moment new
  pub kept : (t : ℕ) (left : List ℕ) → t ≤ m.moment old → m.left_since old t left → m.left_since new t left
  pub parted : (t u : ℕ) (left : List ℕ) → t ≤ u → u ≤ m.moment old → m.left_since new t left → m.left_since old t left
      ⊎ m.left_since new u left

Passes-nothing : {D : Type 0} (m : Meaning D) (d : D) → Passes m d d
Passes-nothing m d = record {
  tells = refl;
  later = omega arith;
  telling = refl;
  clock = omega arith;
  kept = λ t left early was. was;
  parted = λ t u left order early is. inl is;
}

pub Passes-Passes : {D : Type 0} {m : Meaning D} {a b c : D} → Passes m a b → Passes m b c → Passes m a c
Passes-Passes first next = record {
  tells = next.tells ∙ first.tells;
  later = let e = first.later in let f = next.later in omega arith;
  telling = next.telling ∙ first.telling;
  clock = let e = first.clock in let f = next.clock in omega arith;
  kept = λ t left early was. next.kept t left (let e = first.clock in omega arith) (first.kept t left early was);
  parted = λ t u left order early is.
      elim (next.parted t u left order (let e = first.clock in omega arith) is) [
        | inl earlier ↦ elim (first.parted t u left order early earlier) [
          | inl was ↦ inl was
          | inr later ↦ inr (next.kept u left (let e = first.clock in omega arith) later)
        ]
        | inr later ↦ inr later
      ];
}

Stored-Passes : {D : Type 0} {m : Meaning D} {a b : D} {step : DiskStep} → Stored m a b step → Passes m a b
Stored-Passes {m = m} {a = a} {step = step} s =
    record {
      tells = ap is_some s.told ∙ is_some-option_map (stored step) (m.told a);
      later = let e = s.later in
          omega arith;
      telling = s.crashes.telling;
      clock = s.crashes.clock;
      kept = s.crashes.kept;
      parted = s.crashes.parted;
    }

pub Failed-Passes : {D : Type 0} {m : Meaning D} {a b : D} {step : DiskStep} → Failed m a b step → Passes m a b
Failed-Passes f = record {
  tells = f.tells;
  later = f.later;
  telling = f.crashes.telling;
  clock = f.crashes.clock;
  kept = f.crashes.kept;
  parted = f.crashes.parted;
}

pub Looks-Passes : {D : Type 0} {m : Meaning D} {a b : D} → Looks m a b → Passes m a b
Looks-Passes l = record {
  tells = ap is_some l.told;
  later = l.later;
  telling = l.telling;
  clock = l.clock;
  kept = l.kept;
  parted = l.parted;
}

-- looks

pub Looks-nothing : {D : Type 0} (m : Meaning D) (d : D) → Looks m d d
Looks-nothing m d = record {
  told = refl;
  later = omega arith;
  changes = refl;
  leaves = λ left is. is;
  telling = refl;
  clock = omega arith;
  kept = λ t left early was. was;
  parted = λ t u left order early is. inl is;
  since = λ t left early is. inl is;
}

pub Looks-Looks : {D : Type 0} {m : Meaning D} {a b c : D} → Looks m a b → Looks m b c → Looks m a c
Looks-Looks first next =
    let both = Passes-Passes (Looks-Passes first) (Looks-Passes next) in
    record {
      told = next.told ∙ first.told;
      later = both.later;
      changes = next.changes ∙ first.changes;
      leaves = λ left is. first.leaves left (next.leaves left is);
      telling = both.telling;
      clock = both.clock;
      kept = both.kept;
      parted = both.parted;
      since = λ t left early is. elim (next.since t left (let e = first.clock in omega arith) is) [
        | inl earlier ↦ first.since t left early earlier
        | inr was ↦ inr (first.leaves left was)
      ];
    }

pub Looks-settled : {D : Type 0} {m : Meaning D} {a b : D} → Looks m a b → IsSettled m a → IsSettled m b
Looks-settled looks settled = record { only = λ bytes left told is. settled.only bytes left (sym looks.told ∙ told) (looks.leaves left is) }

-- runs, one after the other

pub Ran-Ran : {D : Type 0} (m : Meaning D) (a b c : D) (xs ys : List DiskStep) → Ran m a b xs → Ran m b c ys → Ran m a c (xs ++ ys)
Ran-Ran m a b c [] ys same rest = subst (λ d. Ran m d c ys) same rest
Ran-Ran m a b c (x ∷ xs) ys first rest = (first.0, first.1, Ran-Ran m first.0 b c xs ys first.2 rest)

pub Ran-Halted : {D : Type 0} (m : Meaning D) (a b c : D) (xs ys : List DiskStep) → Ran m a b xs → Halted m b c ys → Halted m a c (xs ++ ys)
Ran-Halted m a b c [] ys same rest = subst (λ d. Halted m d c ys) same rest
Ran-Halted m a b c (x ∷ xs) ys first rest = inr (first.0, first.1, Ran-Halted m first.0 b c xs ys first.2 rest)

pub Halted-front : {D : Type 0} (m : Meaning D) (a c : D) (xs ys : List DiskStep) → Halted m a c xs → Halted m a c (xs ++ ys)
Halted-front m a c [] ys halted = absurd halted
Halted-front m a c (x ∷ xs) ys (inl failed) = inl failed
Halted-front m a c (x ∷ xs) ys (inr rest) = inr (rest.0, rest.1, Halted-front m rest.0 c xs ys rest.2)

pub Ran-Passes : {D : Type 0} (m : Meaning D) (a b : D) (steps : List DiskStep) → Ran m a b steps → Passes m a b
Ran-Passes m a b [] same = subst (λ d. Passes m a d) (sym same) (Passes-nothing m a)
Ran-Passes m a b (s ∷ ss) ran = Passes-Passes (Stored-Passes ran.1) (Ran-Passes m ran.0 b ss ran.2)

pub Halted-Passes : {D : Type 0} (m : Meaning D) (a b : D) (steps : List DiskStep) → Halted m a b steps → Passes m a b
Halted-Passes m a b [] halted = absurd halted
Halted-Passes m a b (s ∷ ss) (inl failed) = Failed-Passes failed
Halted-Passes m a b (s ∷ ss) (inr rest) = Passes-Passes (Stored-Passes rest.1) (Halted-Passes m rest.0 b ss rest.2)

pub Ran-changes : {D : Type 0} (m : Meaning D) (a b : D) (steps : List DiskStep) → Ran m a b steps → m.failed_changes b ≡ m.failed_changes a
Ran-changes m a b [] same = ap m.failed_changes same
Ran-changes m a b (s ∷ ss) ran = Ran-changes m ran.0 b ss ran.2 ∙ ran.1.changes

pub Halted-settled : {D : Type 0} (m : Meaning D) (a b : D) (steps : List DiskStep) → Halted m a b steps → IsSettled m b
Halted-settled m a b [] halted = absurd halted
Halted-settled m a b (s ∷ ss) (inl failed) = failed.settled
Halted-settled m a b (s ∷ ss) (inr rest) = Halted-settled m rest.0 b ss rest.2

-- what is told after a run

pub Ran-told : {D : Type 0} (m : Meaning D) (a b : D) (steps : List DiskStep) (bytes : List ℕ) → m.told a ≡ Some bytes → Ran m a b steps →
    m.told b ≡ Some (after_steps steps bytes)
Ran-told m a b [] bytes told same = ap m.told same ∙ told
Ran-told m a b (s ∷ ss) bytes told ran = Ran-told m ran.0 b ss (stored s bytes) (ran.1.told ∙ ap (option_map (stored s)) told) ran.2

-- what a crash leaves in a run

-- each crash now may leave only this
abbrev pub MayOnly : {D : Type 0} (m : Meaning D) (d : D) (may : List ℕ → Type 0) → Type 0
MayOnly m d may = (left : List ℕ) → m.may_leave d left → may left

Pending-leaves : {D : Type 0} {m : Meaning D} {a b : D} (step : DiskStep) (bytes : List ℕ) (may : List ℕ → Type 0) → m.told a ≡ Some bytes →
    MayOnly m a may → Stored m a b step → MayOnly m b (Pending step bytes may)
Pending-leaves Look bytes may told only s = λ left is. let was = s.leaves left is in subst may (sym was.2) (only was.0 was.1)
Pending-leaves (WriteAt place part) bytes may told only s = λ left is. let was = s.leaves left is in (was.0, only was.0 was.1, was.2)
Pending-leaves (SetLen n) bytes may told only s = λ left is. let was = s.leaves left is in (was.0, only was.0 was.1, was.2)
Pending-leaves Sync bytes may told only s = λ left is. s.leaves.only bytes left (s.told ∙ ap (option_map (stored Sync)) told) is

Inside-may : {D : Type 0} (m : Meaning D) (a : D) (step : DiskStep) (may : List ℕ → Type 0) (left : List ℕ) → MayOnly m a may →
    Inside m a step left → (before : List ℕ) × may before × Unsynced step before left
Inside-may m a step may left only inside = (inside.0, only inside.0 inside.1, inside.2)

pub Ran-since : {D : Type 0} (m : Meaning D) (a b : D) (steps : List DiskStep) (bytes : List ℕ) (may : List ℕ → Type 0) →
    m.told a ≡ Some bytes → MayOnly m a may → Ran m a b steps
    → (t : ℕ) (left : List ℕ) → t ≤ m.moment a → m.left_since b t left → m.left_since a t left ⊎ Crashed may bytes steps left
Ran-since m a b [] bytes may told only same t left early is = inl (subst (λ d. m.left_since d t left) same is)
Ran-since m a b (s ∷ ss) bytes may told only ran t left early is =
    elim (Ran-since m ran.0 b ss (stored s bytes) (Pending s bytes may) (ran.1.told ∙ ap (option_map (stored s)) told)
    (Pending-leaves s bytes may told only ran.1) ran.2 t left (let e = ran.1.crashes.clock in omega arith) is) [
      | inl earlier ↦ elim (ran.1.crashes.since t left early earlier) [
        | inl was ↦ inl was
        | inr inside ↦ inr (inl (Inside-may m a s may left only inside))
      ]
      | inr crashed ↦ inr (inr crashed)
    ]

pub Halted-since : {D : Type 0} (m : Meaning D) (a b : D) (steps : List DiskStep) (bytes : List ℕ) (may : List ℕ → Type 0) →
    m.told a ≡ Some bytes → MayOnly m a may → Halted m a b steps
    → (t : ℕ) (left : List ℕ) → t ≤ m.moment a → m.left_since b t left → m.left_since a t left ⊎ Crashed may bytes steps left
Halted-since m a b [] bytes may told only halted t left early is = absurd halted
Halted-since m a b (s ∷ ss) bytes may told only (inl failed) t left early is =
    elim (failed.crashes.since t left early is) [
      | inl was ↦ inl was
      | inr inside ↦ inr (inl (Inside-may m a s may left only inside))
    ]
Halted-since m a b (s ∷ ss) bytes may told only (inr ran) t left early is =
    elim (Halted-since m ran.0 b ss (stored s bytes) (Pending s bytes may) (ran.1.told ∙ ap (option_map (stored s)) told)
    (Pending-leaves s bytes may told only ran.1) ran.2 t left (let e = ran.1.crashes.clock in omega arith) is) [
      | inl earlier ↦ elim (ran.1.crashes.since t left early earlier) [
        | inl was ↦ inl was
        | inr inside ↦ inr (inl (Inside-may m a s may left only inside))
      ]
      | inr crashed ↦ inr (inr crashed)
    ]

pub Halted-told : {D : Type 0} (m : Meaning D) (a b : D) (steps : List DiskStep) (bytes left : List ℕ) (may : List ℕ → Type 0) →
    m.told a ≡ Some bytes → MayOnly m a may → Halted m a b steps → m.told b ≡ Some left → Crashed may bytes steps left
Halted-told m a b [] bytes left may told only halted now = absurd halted
Halted-told m a b (s ∷ ss) bytes left may told only (inl failed) now = inl (Inside-may m a s may left only (failed.torn left now))
Halted-told m a b (s ∷ ss) bytes left may told only (inr ran) now =
    inr (Halted-told m ran.0 b ss (stored s bytes) left (Pending s bytes may) (ran.1.told ∙ ap (option_map (stored s)) told)
    (Pending-leaves s bytes may told only ran.1) ran.2 now)
