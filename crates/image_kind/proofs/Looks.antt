-- A file that was looked at tells what it told.
use Rattle.std.proofs.Common.{◌≡◌, ◌≤◌, Result, Ok, Err, refl, sym, ap, ◌∙◌, arith}
use Rattle.qic_base.specs.Disk.{Meaning, IsSettled, Look, Stores}
use Rattle.qic_base.specs.Tape.{Rose}
use Rattle.qic_base.proofs.Disks.{told-look}
use Rattle.cart_image.specs.Run.{Looked}
use Rattle.cart_image.proofs.FailedLooks.{failed-told}
use Rattle.image_kind.specs.Opened.{SomeFailed}
use Rattle.cart_image.proofs.Runs.{Looks-settled}

-- ---- the file is as it was

looked-told : {D T E : Type 0} (m : Meaning D) (a b : D) (r : Result T E) → IsSettled m a → Looked m a b r → m.told b ≡ m.told a
looked-told m a b (Ok x) settled looked = looked.told
looked-told m a b (Err e) settled looked =
    failed-told (Looks-settled looked.1 settled) looked.2 (m.told looked.0) (m.told b) refl refl ∙ looked.1.told

tried-told : {D T E : Type 0} (m : Meaning D) (a b : D) (r : Result T E) → IsSettled m a → Stores m a b Look r → m.told b ≡ m.told a
tried-told m a b (Ok x) settled stored = told-look stored
tried-told m a b (Err e) settled failed = failed-told settled failed (m.told a) (m.told b) refl refl

tried-settled : {D T E : Type 0} (m : Meaning D) (a b : D) (r : Result T E) → IsSettled m a → Stores m a b Look r → IsSettled m b
tried-settled m a b (Err e) settled failed = failed.settled
tried-settled m a b (Ok x) settled stored = record {
  only = λ bytes left told may.
      let was = stored.leaves left may in
      was.2 ∙ settled.only bytes was.0 (sym (told-look stored) ∙ told) was.1;
}

-- two looks
pub twice-told : {D S T E F : Type 0} (m : Meaning D) (a b c : D) (r : Result S E) (s : Result T F) → IsSettled m a →
    Stores m a b Look r → Looked m b c s → m.told c ≡ m.told a
twice-told m a b c r s settled first next =
    looked-told m b c s (tried-settled m a b r settled first) next ∙ tried-told m a b r settled first

-- the last of the looks failed
pub failed-count : {D : Type 0} (m : Meaning D) (first looked opened mid failed back : D) → m.faults looked ≡ m.faults first →
    opened ≡ looked → m.faults opened ≤ m.faults mid → Rose (m.faults mid) (m.faults failed) → back ≡ failed →
    SomeFailed (m.faults first) (m.faults back)
failed-count m first looked opened mid failed back stood same later rose given =
    omega (arith, stood, ap m.faults same, later, rose, ap m.faults given)
