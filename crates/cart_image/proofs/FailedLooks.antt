-- A look that failed over a disk in which nothing was pending, and what was looked at before and behind it.
use Rattle.std.proofs.Common.{◌≡◌, ℕ, arith, inl, inr, true, false, List, refl, sym, ◌∙◌, ap, Option, Some, None, IfSome}
use Rattle.std.proofs.Common.{is_some, subst, Result, Ok, Err}
use Rattle.std.specs.Prelude.{IfOk}
use Rattle.qic_base.specs.Disk.{Meaning, Look, IsSettled, Stores, Failed}
use Rattle.qic_base.proofs.Disks.{told-look}
use Rattle.cart_image.specs.Run.{Looks}
use Rattle.cart_image.proofs.Known.{told-same}
use Rattle.cart_image.proofs.Runs.{Failed-Passes}

-- it tells what was told
pub failed-told : {D : Type 0} {m : Meaning D} {a b : D} → IsSettled m a → Failed m a b Look → (was now : Option (List ℕ)) →
    m.told a ≡ was → m.told b ≡ now → m.told b ≡ m.told a
failed-told {m = m} {a = a} {b = b} settled failed None None before after = after ∙ sym before
failed-told {m = m} {a = a} {b = b} settled failed None (Some bytes) before after =
    let same : is_some (m.told b) ≡ is_some (m.told a) = failed.tells in
    let none : is_some (m.told a) ≡ false = ap is_some before in
    let some : is_some (m.told b) ≡ true = ap is_some after in cc
failed-told {m = m} {a = a} {b = b} settled failed (Some bytes) None before after =
    let same : is_some (m.told b) ≡ is_some (m.told a) = failed.tells in
    let some : is_some (m.told a) ≡ true = ap is_some before in
    let none : is_some (m.told b) ≡ false = ap is_some after in cc
failed-told {m = m} {a = a} {b = b} settled failed (Some bytes) (Some left) before after =
    let torn = failed.torn left after in
    after ∙ ap Some (torn.2 ∙ settled.only bytes torn.0 before torn.1) ∙ sym before

-- .. and leaves what one that was done leaves
Looks-failed : {D : Type 0} {m : Meaning D} {a b : D} → IsSettled m a → Failed m a b Look → Looks m a b
Looks-failed {m = m} {a = a} {b = b} settled failed =
    let both = Failed-Passes failed in
    record {
      told = failed-told settled failed (m.told a) (m.told b) refl refl;
      later = both.later;
      changes = failed.changes;
      leaves = λ left is. let was = failed.leaves left is in subst (m.may_leave a) (sym was.2) was.1;
      telling = both.telling;
      clock = both.clock;
      kept = both.kept;
      parted = both.parted;
      since = λ t left early is. elim (failed.crashes.since t left early is) [
        | inl earlier ↦ inl earlier
        | inr was ↦ inr (subst (m.may_leave a) (sym was.2) was.1)
      ];
    }

-- .. as does a look that may have failed
pub Looks-tried : {D T E : Type 0} (m : Meaning D) (a b : D) (r : Result T E) → IsSettled m a → Stores m a b Look r → Looks m a b
Looks-tried m a b (Err e) settled failed = Looks-failed settled failed
Looks-tried m a b (Ok x) settled stored = record {
  told = told-look stored;
  later = (let e = stored.later in omega arith);
  changes = stored.changes;
  leaves = λ left is. let was = stored.leaves left is in subst (m.may_leave a) (sym was.2) was.1;
  telling = stored.crashes.telling;
  clock = stored.crashes.clock;
  kept = stored.crashes.kept;
  parted = stored.crashes.parted;
  since = λ t left early is. elim (stored.crashes.since t left early is) [
    | inl earlier ↦ inl earlier
    | inr was ↦ inr (subst (m.may_leave a) (sym was.2) was.1)
  ];
}

-- what a result says of the bytes that were told behind it, it says of those that were told before
pub ok-behind : {T E : Type 0} (r : Result T E) (told t1 : Option (List ℕ)) (P : T → List ℕ → Type 0) → t1 ≡ told →
    IfOk r (λ x. IfSome t1 (P x)) → IfOk r (λ x. IfSome told (P x))
ok-behind (Ok x) told t1 P same fact = told-same (P x) same fact
ok-behind (Err e) told t1 P same fact = tt
