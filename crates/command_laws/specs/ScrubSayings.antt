-- Scrubbing: the segments that are looked at, what is written in each that reads, and what is printed (this project's
-- profile).
use Rattle.std.specs.Prelude.{List, [], ◌∷◌, ◌<◌, All}
use Rattle.cartridge_spec.specs.Says.{Saying, Says}
use Rattle.command_spec.specs.Scrub.{Looked, cells_at}
use Rattle.command_laws.specs.ScrubTerms.{look_act}
use Rattle.qic_base.specs.Acts.{Act}
use Rattle.qic_base.specs.Cartridge.{Cartridge}

-- each segment lies behind all that are looked at before it
abbrev pub Rise : List Looked → Type 0
Rise [] = Unit {0}
Rise (l ∷ ls) = All (λ m. l.segment < m.segment) ls × Rise ls

-- ---- by the cartridge as it was before the first write

-- each of these segments says this
abbrev pub SayAtOnce : Cartridge → List Looked → List Saying → Type 0
SayAtOnce c [] [] = Unit {0}
SayAtOnce c [] (s ∷ ss) = ⊥
SayAtOnce c (l ∷ ls) [] = ⊥
SayAtOnce c (l ∷ ls) (s ∷ ss) = Says (cells_at c l) s × SayAtOnce c ls ss

-- and the acts that follow from that
abbrev pub acts_at_once : Cartridge → List Looked → List Saying → List Act
acts_at_once c [] ss = []
acts_at_once c (l ∷ ls) [] = []
acts_at_once c (l ∷ ls) (s ∷ ss) = look_act c l s ∷ acts_at_once c ls ss
