-- What a look that failed leaves of the bytes of a disk in which nothing is pending.
use Rattle.std.proofs.Common.{◌≡◌, ◌≤◌, List, Option, Some, None, is_some, true, false, ℕ, refl, sym, ap, subst, ◌∙◌, arith}
use Rattle.qic_base.specs.Disk.{Meaning, Look, IsSettled, Failed, Stored}
use Rattle.qic_base.specs.Tape.{Rose}
use Rattle.qic_base.proofs.Disks.{told-look}
use Rattle.file_streams.specs.FileSource.{Kept}

-- it tells what it told
pub told-still : {D : Type 0} (m : Meaning D) (old new : D) → IsSettled m old → Failed m old new Look → m.told new ≡ m.told old
told-still {D = D} m old new settled failed = by_told (m.told old) (m.told new) refl refl
  where
    by_told : (was now : Option (List ℕ)) → m.told old ≡ was → m.told new ≡ now → m.told new ≡ m.told old
    by_told None None before after = after ∙ sym before
    by_told None (Some bytes) before after =
        let same : is_some (m.told new) ≡ is_some (m.told old) = failed.tells in
        let none : is_some (m.told old) ≡ false = ap is_some before in
        let some : is_some (m.told new) ≡ true = ap is_some after in cc
    by_told (Some bytes) None before after =
        let same : is_some (m.told new) ≡ is_some (m.told old) = failed.tells in
        let some : is_some (m.told old) ≡ true = ap is_some before in
        let none : is_some (m.told new) ≡ false = ap is_some after in cc
    by_told (Some bytes) (Some left) before after =
        let torn = failed.torn left after in
        after ∙ ap Some (torn.2 ∙ settled.only bytes torn.0 before torn.1) ∙ sym before

-- ---- what a read keeps

-- one that was done
pub kept-looked : {D : Type 0} (m : Meaning D) (a b : D) (count : ℕ) → Stored m a b Look → Kept m a b count count
kept-looked m a b count did = record {
  told = told-look did;
  leaves = λ left may. let one = did.leaves left may in subst (m.may_leave a) (sym one.2) one.1;
  crashes = did.crashes;
  later = omega arith;
  stood = λ same small. did.later;
  failed = λ one small. absurd (omega arith);
}

-- one that failed
pub kept-failed : {D : Type 0} (m : Meaning D) (a b : D) (before after : ℕ) → IsSettled m a → Failed m a b Look → before ≤ after →
    Rose before after → Kept m a b before after
kept-failed m a b before after settled failed later rose = record {
  told = told-still m a b settled failed;
  leaves = λ left may. let one = failed.leaves left may in subst (m.may_leave a) (sym one.2) one.1;
  crashes = failed.crashes;
  later = later;
  stood = λ same small. absurd (omega (arith, rose));
  failed = λ one small. failed.cause;
}

-- nothing is pending behind a look where nothing was
pub settled-still : {D : Type 0} (m : Meaning D) (a b : D) → IsSettled m a → Stored m a b Look → IsSettled m b
settled-still m a b settled did = record {
  only = λ bytes left told may.
      let one = did.leaves left may in one.2 ∙ settled.only bytes one.0 (sym (told-look did) ∙ told) one.1;
}
