-- What a gap does to a drive that seeks.
use Rattle.std.specs.Prelude.{◌≡◌, ◌<◌, ℕ}
use Rattle.drive_spec.specs.declared.deck.Motion.{Motion}
use Rattle.drive_spec.specs.declared.deck.Motion.TheVariants.{Stopped, Streaming, Seeking}
use Rattle.drive_spec.specs.Effects.{ticked}
use Rattle.drive_states.specs.declared.drive.Ticked.{Ticked}
use Rattle.drive_states.specs.declared.drive.Ticked.TheVariants.{Still, There}
use Rattle.drive_states.specs.Unit.{DeckAndTape}

-- so many gaps are left
abbrev pub IsSeekingFor : Motion → (ℕ → Type 0) → Type 0
IsSeekingFor Stopped P = ⊥
IsSeekingFor (Streaming next) P = ⊥
IsSeekingFor (Seeking left) P = P left

-- the drive is there exactly where one gap was left
abbrev pub Ticks : {M T : Type 0} → DeckAndTape T → Ticked M T → Type 0
Ticks old (Still new) = (new ≡ record old { deck = ticked old.deck }) × IsSeekingFor old.deck.motion (λ left. 1 < left)
Ticks old (There new) = (new ≡ record old { deck = ticked old.deck }) × IsSeekingFor old.deck.motion (λ left. left ≡ 1)
