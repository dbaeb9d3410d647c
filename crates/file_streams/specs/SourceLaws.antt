-- A file as a source keeps what it keeps from call to call.
use Rattle.std.proofs.Common.{◌≡◌, ◌≢◌, ◌⊎◌, ◌≤◌, ◌<◌, ◌+◌, ◌-◌, ◌^◌, ℕ, List, refl, sym, subst, ◌∙◌, inl, inr, arith}
use Rattle.std.proofs.lemmas.Bool.{cases_eq}
use Rattle.qic_base.specs.Disk.{Meaning, Look, Crashes}
use Rattle.qic_base.specs.Tape.{Rose}
use Rattle.qic_base.specs.declared.disk.Disk.{Ghosts}
use Rattle.file_streams.specs.FileSource.{Kept, source_means}
use Rattle.file_streams.specs.declared.source.FileSource.{FileSource}

pub kept-nothing : {D : Type 0} (d : Meaning D) (disk : D) (count : ℕ) → Kept d disk disk count count
kept-nothing d disk count = record {
  told = refl;
  leaves = λ left may. may;
  crashes = record {
    telling = refl;
    clock = omega arith;
    kept = λ t left early was. was;
    parted = λ t u left order early is. inl is;
    since = λ t left early is. inl is;
  };
  later = omega arith;
  stood = λ same small. refl;
  failed = λ one small. absurd (omega arith);
}

crashes-both : {D : Type 0} (d : Meaning D) (a b c : D) → ((left : List ℕ) → d.may_leave b left → d.may_leave a left) →
    Crashes d a b Look → Crashes d b c Look → Crashes d a c Look
crashes-both d a b c leaves first next = record {
  telling = next.telling ∙ first.telling;
  clock = let e = first.clock in let f = next.clock in omega arith;
  kept = λ t left early was. next.kept t left (let e = first.clock in omega arith) (first.kept t left early was);
  parted = λ t u left order early is.
      elim (next.parted t u left order (let e = first.clock in omega arith) is) [
        | inl earlier ↦ elim (first.parted t u left order early earlier) [
          | inl was ↦ inl was
          | inr later ↦ inr (next.kept u left (let e = first.clock in omega arith) later)
        ]
        | inr later ↦ inr later
      ];
  since = λ t left early is. elim (next.since t left (let e = first.clock in omega arith) is) [
    | inl earlier ↦ first.since t left early earlier
    | inr inside ↦ inr (inside.0, leaves inside.0 inside.1, inside.2)
  ];
}

pub kept-both : {D : Type 0} (d : Meaning D) (a b c : D) (before between after : ℕ) → Kept d a b before between →
    Kept d b c between after → Kept d a c before after
kept-both d a b c before between after first next = record {
  told = next.told ∙ first.told;
  leaves = λ left may. first.leaves left (next.leaves left may);
  crashes = crashes-both d a b c first.leaves first.crashes next.crashes;
  later = let e = first.later in let f = next.later in omega arith;
  stood = λ same small.
      let e = first.later in let f = next.later in next.stood (omega arith) small ∙ first.stood (omega arith) (omega arith);
  failed = λ one small. by_middle (cases_eq between before) one small first.later next.later;
}
  where
    by_middle : (between ≡ before) ⊎ (between ≢ before) → after ≡ before + 1 → after < 2 ^ 64 - 1 → before ≤ between → between ≤ after →
        Rose (d.faults a) (d.faults c)
    by_middle (inl still) one small rose more =
        subst (λ (n : ℕ). Rose n (d.faults c)) (first.stood still (omega arith)) (next.failed (omega arith) small)
    by_middle (inr other) one small rose more =
        subst (λ (n : ℕ). Rose (d.faults a) n) (sym (next.stood (omega arith) small)) (first.failed (omega arith) (omega arith))

pub keeps-itself : {D : Type 0} {g : Ghosts D} (s : FileSource D g) → source_means.keeps s s
keeps-itself {g = g} s = kept-nothing g.means s.disk s.faults

pub keeps-on : {D : Type 0} {g : Ghosts D} (a b c : FileSource D g) → source_means.keeps a b → source_means.keeps b c →
    source_means.keeps a c
keeps-on {g = g} a b c first next = kept-both g.means a.disk b.disk c.disk a.faults b.faults c.faults first next
