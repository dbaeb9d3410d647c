-- How a seek goes on while trains are sent.
use Rattle.std.proofs.Common.{◌≡◌, ℕ, ◌+◌, ◌-◌, Bool, true, false, if◌then◌else◌, nat_le, refl, ap, arith}
use Rattle.std.proofs.lemmas.Bool.Decides.{nat_tests}
use Rattle.drive_spec.specs.declared.deck.Deck.{Deck}
use Rattle.drive_spec.specs.declared.deck.Motion.{Motion}
use Rattle.drive_spec.specs.declared.deck.Motion.TheVariants.{Stopped, Streaming, Seeking}
use Rattle.drive_spec.specs.Deck.{is_streaming}
use Rattle.drive_spec.specs.Effects.{ticked, ticked_motion}
use Rattle.drive_states.specs.Typed.{is_seeking}
use Rattle.host_driver.specs.Train.{moved_for, waited, ready_deck}

ticked-one : (m : Motion) → ticked_motion m ≡ moved_for 1 m
ticked-one Stopped = refl
ticked-one (Streaming next) = refl
ticked-one (Seeking left) = refl

-- a gap more
ticked-moved_for : (gaps : ℕ) (m : Motion) → ticked_motion (moved_for gaps m) ≡ moved_for (gaps + 1) m
ticked-moved_for gaps Stopped = refl
ticked-moved_for gaps (Streaming next) = refl
ticked-moved_for gaps (Seeking left) = by_test (nat_le left gaps) refl
  where
    last : (b : Bool) → nat_le (left - gaps) 1 ≡ b → (nat_le left gaps ≡ false) →
        (if b then Stopped else Seeking (left - gaps - 1)) ≡ (if nat_le left (gaps + 1) then Stopped else Seeking (left - (gaps + 1)))
    last true e more = let there : nat_le left (gaps + 1) ≡ true = grind (arith, nat_tests) in rw there refl
    last false e more =
        let there : nat_le left (gaps + 1) ≡ false = grind (arith, nat_tests) in
        let same : left - gaps - 1 ≡ left - (gaps + 1) = omega arith in
        rw there (ap Seeking same)

    by_test : (b : Bool) → nat_le left gaps ≡ b →
        ticked_motion (if b then Stopped else Seeking (left - gaps)) ≡ (if nat_le left (gaps + 1) then Stopped else Seeking
        (left - (gaps + 1)))
    by_test true e = let there : nat_le left (gaps + 1) ≡ true = grind (arith, nat_tests) in rw there refl
    by_test false e = last (nat_le (left - gaps) 1) refl e

pub waited-one : (d : Deck) → ticked d ≡ waited 1 d
waited-one d = ap (λ (m : Motion). record d { motion = m }) (ticked-one d.motion)

pub ticked-waited : (gaps : ℕ) (d : Deck) → ticked (waited gaps d) ≡ waited (gaps + 1) d
ticked-waited gaps d = ap (λ (m : Motion). record d { motion = m }) (ticked-moved_for gaps d.motion)

still_motion : (gaps : ℕ) (m : Motion) → is_seeking m ≡ false → moved_for gaps m ≡ m
still_motion gaps Stopped still = refl
still_motion gaps (Streaming next) still = refl
still_motion gaps (Seeking left) still = cc

-- a drive that doesn't seek waits for nothing
pub waited-still : (gaps : ℕ) (d : Deck) → is_seeking d.motion ≡ false → waited gaps d ≡ d
waited-still gaps d still = ap (λ (m : Motion). record d { motion = m }) (still_motion gaps d.motion still)

pub ticked-still : (d : Deck) → is_seeking d.motion ≡ false → ticked d ≡ d
ticked-still d still = ap (λ (m : Motion). record d { motion = m }) (by_motion d.motion still)
  where
    by_motion : (m : Motion) → is_seeking m ≡ false → ticked_motion m ≡ m
    by_motion Stopped e = refl
    by_motion (Streaming next) e = refl
    by_motion (Seeking left) e = cc

-- a tape that neither streams nor seeks is where it was on the way to
pub stands_ready : (d : Deck) → is_streaming d.motion ≡ false → is_seeking d.motion ≡ false → d ≡ ready_deck d
stands_ready d stands still = ap (λ (m : Motion). record d { motion = m }) (by_motion d.motion stands still)
  where
    by_motion : (m : Motion) → is_streaming m ≡ false → is_seeking m ≡ false → m ≡ Stopped
    by_motion Stopped a b = refl
    by_motion (Streaming next) a b = cc
    by_motion (Seeking left) a b = cc
