-- What a status word tells.
use Rattle.std.proofs.Common.{◌≡◌, ℕ, ◌==◌, ◌&&◌, Bool, true, false, not, is_some, refl, ap, ◌∙◌, bit_and}
use Rattle.qic117_commands.specs.Views as views
use Rattle.qic117_commands.proofs.Statuses.{status_of-stopped, status_of-present, status_of-protected, status_of-referenced, bit_where}
use Rattle.drive_spec.specs.declared.deck.Deck.{Deck}
use Rattle.drive_spec.specs.declared.deck.Motion.{Motion}
use Rattle.drive_spec.specs.declared.deck.Motion.TheVariants.{Stopped, Streaming, Seeking}
use Rattle.drive_spec.specs.Terms.{status_word, is_protected, is_referenced}
use Rattle.drive_spec.specs.Deck.{is_stopped, is_at_bot, is_at_eot, view_of, seen_motion}

seen : (m : Motion) → views.is_stopped (seen_motion m) ≡ is_stopped m
seen Stopped = refl
seen (Streaming next) = refl
seen (Seeking left) = refl

told_01 : (b : Bool) → (bit_where 0x01 b == 0x01) ≡ b
told_01 true = refl
told_01 false = refl

told_04 : (b : Bool) → (bit_where 0x04 b == 0x04) ≡ b
told_04 true = refl
told_04 false = refl

told_08 : (b : Bool) → (bit_where 0x08 b == 0x08) ≡ b
told_08 true = refl
told_08 false = refl

told_20 : (b : Bool) → (bit_where 0x20 b == 0x20) ≡ b
told_20 true = refl
told_20 false = refl

pub status_word-stopped : (d : Deck) → (bit_and (status_word d) 0x01 == 0x01) ≡ is_stopped d.motion
status_word-stopped d =
    ap (λ (n : ℕ). n == 0x01) (status_of-stopped (view_of d) (not (d.error == 0)) (is_at_bot d) (is_at_eot d))
    ∙ told_01 (views.is_stopped (seen_motion d.motion)) ∙ seen d.motion

pub status_word-present : (d : Deck) → (bit_and (status_word d) 0x04 == 0x04) ≡ is_some d.cartridge
status_word-present d =
    ap (λ (n : ℕ). n == 0x04) (status_of-present (view_of d) (not (d.error == 0)) (is_at_bot d) (is_at_eot d))
    ∙ told_04 (is_some d.cartridge)

pub status_word-protected : (d : Deck) → (bit_and (status_word d) 0x08 == 0x08) ≡ (is_some d.cartridge && is_protected d)
status_word-protected d =
    ap (λ (n : ℕ). n == 0x08) (status_of-protected (view_of d) (not (d.error == 0)) (is_at_bot d) (is_at_eot d))
    ∙ told_08 (is_some d.cartridge && is_protected d)

pub status_word-referenced : (d : Deck) → (bit_and (status_word d) 0x20 == 0x20) ≡ (is_some d.cartridge && is_referenced d)
status_word-referenced d =
    ap (λ (n : ℕ). n == 0x20) (status_of-referenced (view_of d) (not (d.error == 0)) (is_at_bot d) (is_at_eot d))
    ∙ told_20 (is_some d.cartridge && is_referenced d)
