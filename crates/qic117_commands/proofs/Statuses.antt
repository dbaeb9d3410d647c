-- The status word as the code sets its bits.
use Rattle.std.proofs.Common.{◌≡◌, ℕ, ◌+◌, Bool, true, false, cond, ◌&&◌, ◌==◌, bit_or, bit_and, refl}
use Rattle.std.proofs.lemmas.Bool.{eqb-true, and_parts}
use Rattle.bitflags.specs.Sets.{without}
use denote.Enum.Bare.{sameb}
use Rattle.qic117_commands.specs.contracts.view.Motion as motion
use Rattle.qic117_commands.specs.declared.view.DriveView.{DriveView}
use Rattle.qic117_commands.specs.declared.view.Motion.{Motion}
use Rattle.qic117_commands.specs.declared.view.Motion.TheVariants.{Stopped, Streaming, Seeking}
use Rattle.qic117_commands.specs.StatusWord.{status_of}
use Rattle.qic117_commands.specs.Views.{is_stopped}
use Rattle.std.specs.Prelude.{if◌then◌else◌}

-- a bit of the status word where its fact holds, else nothing
abbrev pub bit_where : ℕ → Bool → ℕ
bit_where bit holds = if holds then bit else 0

-- a test passes at both truth values
abbrev both : (Bool → Bool) → Bool
both test = test true && test false

both_at : (test : Bool → Bool) (b : Bool) → both test ≡ true → test b ≡ true
both_at test true h = (and_parts (test true) (test false) h).0
both_at test false h = (and_parts (test true) (test false) h).1

-- a test of eight facts passes however they stand
abbrev at_all : (Bool → Bool → Bool → Bool → Bool → Bool → Bool → Bool → Bool) → Bool
at_all test = both (λ a. both (λ b. both (λ c. both (λ d. both (λ e. both (λ f. both (λ g. both (λ h. test a b c d e f g h))))))))

at_each : (test : Bool → Bool → Bool → Bool → Bool → Bool → Bool → Bool → Bool) → at_all test ≡ true → (a b c d e f g h : Bool) →
    test a b c d e f g h ≡ true
at_each test every a b c d e f g h = both_at (λ x. test a b c d e f g x) h
    (both_at (λ x. both (λ h'. test a b c d e f x h')) g
    (both_at (λ x. both (λ g'. both (λ h'. test a b c d e x g' h'))) f
    (both_at (λ x. both (λ f'. both (λ g'. both (λ h'. test a b c d x f' g' h')))) e
    (both_at (λ x. both (λ e'. both (λ f'. both (λ g'. both (λ h'. test a b c x e' f' g' h'))))) d
    (both_at (λ x. both (λ d'. both (λ e'. both (λ f'. both (λ g'. both (λ h'. test a b x d' e' f' g' h')))))) c
    (both_at (λ x. both (λ c'. both (λ d'. both (λ e'. both (λ f'. both (λ g'. both (λ h'. test a x c' d' e' f' g' h'))))))) b
    (both_at (λ x. both (λ b'. both (λ c'. both (λ d'. both (λ e'. both (λ f'. both (λ g'. both (λ h'. test x b' c' d' e' f' g' h')))))))) a
    every)))))))

-- a bit set or cleared
abbrev pub put : ℕ → ℕ → Bool → ℕ
put word bit b = cond b (bit_or word bit) (without 8 word bit)

abbrev pub put_all : Bool → Bool → Bool → Bool → Bool → Bool → Bool → Bool → ℕ
put_all a b c d e f g h =
    put (put (put (put (put (put (put (put 0 0x01 a) 0x02 b) 0x04 c) 0x08 d) 0x10 e) 0x20 f) 0x40 g) 0x80 h

abbrev pub sum_all : Bool → Bool → Bool → Bool → Bool → Bool → Bool → Bool → ℕ
sum_all a b c d e f g h =
    bit_where 0x01 a + bit_where 0x02 b + bit_where 0x04 c + bit_where 0x08 d + bit_where 0x10 e + bit_where 0x20 f + bit_where 0x40
    g + bit_where 0x80 h

pub put_all-sum_all : (a b c d e f g h : Bool) → put_all a b c d e f g h ≡ sum_all a b c d e f g h
put_all-sum_all a b c d e f g h =
    eqb-true _ _ (at_each (λ a b c d e f g h. put_all a b c d e f g h == sum_all a b c d e f g h) refl a b c d e f g h)

pub sameb-stopped : (m : Motion) → sameb motion.the_type m Stopped ≡ is_stopped m
sameb-stopped Stopped = refl
sameb-stopped Streaming = refl
sameb-stopped Seeking = refl

-- each bit of a status word tells its fact
pub status_of-stopped : (view : DriveView) (error at_bot at_eot : Bool) → bit_and (status_of view error at_bot at_eot) 0x01 ≡ bit_where 0x01
    (is_stopped view.motion)
unfolding status_of
status_of-stopped view error at_bot at_eot =
    eqb-true _ _ (at_each (λ a b c d e f g h. bit_and (sum_all a b c d e f g h) 0x01 == bit_where 0x01 a) refl
    (is_stopped view.motion) error view.present (view.present && view.protected) view.fresh
    (view.present && view.referenced) at_bot at_eot)

pub status_of-present : (view : DriveView) (error at_bot at_eot : Bool) → bit_and (status_of view error at_bot at_eot) 0x04 ≡ bit_where 0x04
    (view.present)
unfolding status_of
status_of-present view error at_bot at_eot =
    eqb-true _ _ (at_each (λ a b c d e f g h. bit_and (sum_all a b c d e f g h) 0x04 == bit_where 0x04 c) refl
    (is_stopped view.motion) error view.present (view.present && view.protected) view.fresh
    (view.present && view.referenced) at_bot at_eot)

pub status_of-protected : (view : DriveView) (error at_bot at_eot : Bool) →
    bit_and (status_of view error at_bot at_eot) 0x08 ≡ bit_where 0x08 (view.present && view.protected)
unfolding status_of
status_of-protected view error at_bot at_eot =
    eqb-true _ _ (at_each (λ a b c d e f g h. bit_and (sum_all a b c d e f g h) 0x08 == bit_where 0x08 d) refl
    (is_stopped view.motion) error view.present (view.present && view.protected) view.fresh
    (view.present && view.referenced) at_bot at_eot)

pub status_of-referenced : (view : DriveView) (error at_bot at_eot : Bool) →
    bit_and (status_of view error at_bot at_eot) 0x20 ≡ bit_where 0x20 (view.present && view.referenced)
unfolding status_of
status_of-referenced view error at_bot at_eot =
    eqb-true _ _ (at_each (λ a b c d e f g h. bit_and (sum_all a b c d e f g h) 0x20 == bit_where 0x20 f) refl
    (is_stopped view.motion) error view.present (view.present && view.protected) view.fresh
    (view.present && view.referenced) at_bot at_eot)
