-- The parts of a run.
use Rattle.std.proofs.Common.{◌≡◌, ℕ, List, [], ◌∷◌, length, refl, sym, ◌∙◌, arith, Option, Some, None, IfSome, Result, Ok, Err, inl, inr}
use Rattle.qic_base.specs.Disk as disks
use Rattle.qic_base.specs.Disk.{IsSettled, Look}
use Rattle.cart_image.specs.Layout.{resize}
use Rattle.cart_image.specs.Run as steps
use Rattle.tape_import.specs.Runs.{Emptied, FoundEmpty}
use Rattle.qic_base.proofs.Disks.{told-look}

-- it is settled behind a look
settled-behind : {D : Type 0} (d : disks.Meaning D) (old new : D) → disks.Stored d old new Look → IsSettled d old → IsSettled d new
settled-behind d old new looked settled = record {
  only = λ bytes left told may.
      let was = looked.leaves left may in
      was.2 ∙ settled.only bytes was.0 (sym (told-look looked) ∙ told) was.1;
}

no_bytes : (bytes : List ℕ) → 0 ≡ length bytes → bytes ≡ []
no_bytes [] none = refl
no_bytes (x ∷ xs) none = absurd (omega arith)

pub found-empty : {D : Type 0} (d : disks.Meaning D) (old new : D) → disks.Stored d old new Look → IsSettled d old → IfSome (d.told old)
    (λ bytes. 0 ≡ length bytes) → FoundEmpty d old new
found-empty d old new looked settled none = record {
  looked = looked;
  empty = record { told = by (d.told old) (d.told new) (told-look looked) none; settled = settled-behind d old new looked settled };
}
  where
    by : (was now : Option (List ℕ)) → now ≡ was → IfSome was (λ bytes. 0 ≡ length bytes) → IfSome now (λ bytes. bytes ≡ [])
    by None now is none = rw is tt
    by (Some bytes) now is none = rw is (no_bytes bytes none)

-- a file that was to be emptied
pub emptied-by : {D T E : Type 0} (d : disks.Meaning D) (old new : D) (result : Result T E) → steps.Runs d old new (resize 0) result →
    Emptied d old new
emptied-by d old new (Ok x) ran = inl ran
emptied-by d old new (Err e) halted = inr halted
