-- Looks at a disk, one after the other.
use Rattle.std.proofs.Common.{ℕ, inl, inr, List, is_some, refl, sym, ap, ◌∙◌, ◌+◌, ◌-◌, ◌^◌, min, arith}
use Rattle.qic_base.specs.Disk.{Meaning, Look, Inside, Crashes, Stored, Failed}
use Rattle.qic_base.proofs.Disks.{stored-look, told-look}

-- none at all
pub looked_none : {D : Type 0} (m : Meaning D) (d : D) → Stored m d d Look
looked_none m d = record {
  told = sym (stored-look (m.told d));
  later = refl;
  changes = refl;
  leaves = λ left is. (left, is, refl);
  crashes = record {
    telling = refl;
    clock = omega arith;
    kept = λ t left early was. was;
    parted = λ t u left order early is. inl is;
    since = λ t left early is. inl is;
  };
}

inside_both : {D : Type 0} {m : Meaning D} {a b : D} (left : List ℕ) → Stored m a b Look → Inside m b Look left → Inside m a Look left
inside_both left first inside =
    let before = first.leaves inside.0 inside.1 in
    (before.0, before.1, inside.2 ∙ before.2)

crashes_both : {D : Type 0} {m : Meaning D} {a b c : D} → Stored m a b Look → Crashes m b c Look → Crashes m a c Look
crashes_both first next = record {
  telling = next.telling ∙ first.crashes.telling;
  clock = let e = first.crashes.clock in let f = next.clock in omega arith;
  kept = λ t left early was.
      next.kept t left (let e = first.crashes.clock in omega arith) (first.crashes.kept t left early was);
  parted = λ t u left order early is.
      elim (next.parted t u left order (let e = first.crashes.clock in omega arith) is) [
        | inl earlier ↦ elim (first.crashes.parted t u left order early earlier) [
          | inl was ↦ inl was
          | inr later ↦ inr (next.kept u left (let e = first.crashes.clock in omega arith) later)
        ]
        | inr later ↦ inr later
      ];
  since = λ t left early is. elim (next.since t left (let e = first.crashes.clock in omega arith) is) [
    | inl earlier ↦ first.crashes.since t left early earlier
    | inr inside ↦ inr (inside_both left first inside)
  ];
}

-- a look behind one that was done
pub looked_both : {D : Type 0} {m : Meaning D} {a b c : D} → Stored m a b Look → Stored m b c Look → Stored m a c Look
looked_both {m = m} {a = a} first next = record {
  told = told-look next ∙ told-look first ∙ sym (stored-look (m.told a));
  later = next.later ∙ first.later;
  changes = next.changes ∙ first.changes;
  leaves = λ left is. inside_both left first (next.leaves left is);
  crashes = crashes_both first next.crashes;
}

pub failed_behind : {D : Type 0} {m : Meaning D} {a b c : D} → Stored m a b Look → Failed m b c Look → Failed m a c Look
failed_behind first next = record {
  cause = next.cause ∙ ap (λ (n : ℕ). min (n + 1) (2 ^ 64 - 1)) first.later;
  later = let e = first.later in let f = next.later in omega arith;
  changes = next.changes ∙ first.changes;
  tells = next.tells ∙ ap is_some (told-look first);
  torn = λ left told. inside_both left first (next.torn left told);
  leaves = λ left is. inside_both left first (next.leaves left is);
  settled = next.settled;
  crashes = crashes_both first next.crashes;
}
