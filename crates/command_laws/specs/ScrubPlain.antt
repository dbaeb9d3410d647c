-- `scrub`, which looks for no wrong sector, told without findings: what each segment says is enough.
use Rattle.std.specs.Prelude.{List, [], ◌∷◌, ℕ, ◌≡◌}
use Rattle.cartridge_spec.specs.Says.{Saying, Says}
use Rattle.cartridge_spec.specs.Settling.{changed_by}
use Rattle.cartridge_spec.specs.Table.{Entry}
use Rattle.command_spec.specs.Scrub.{Looked, cells_at, line_in, looked_at, steps_in, with_counts}
use Rattle.qic_base.specs.Acts.{Act}
use Rattle.qic_base.specs.Cartridge.{Cartridge}

-- each of these segments says this, on the cartridge as it stands when it is looked at
abbrev pub SayInTurn : Cartridge → List Looked → List Saying → Type 0
SayInTurn c [] [] = Unit {0}
SayInTurn c (l ∷ ls) (s ∷ ss) = Says (cells_at c l) s × SayInTurn (changed_by (steps_in c l s) c) ls ss
SayInTurn c ls ss = ⊥

-- the acts: in each segment its writes, then its line
abbrev pub looking_acts : Cartridge → List Looked → List Saying → List Act
looking_acts c (l ∷ ls) (s ∷ ss) =
    record { steps = steps_in c l s; text = line_in l s } ∷ looking_acts (changed_by (steps_in c l s) c) ls ss
looking_acts c ls ss = []

-- the acts of scrubbing a cartridge with this map and these volumes
pub record Scrubs (c : Cartridge) (words : List ℕ) (entries : List Entry) (acts : List Act) : Type 0 where
  pub sayings : List Saying
  pub said : SayInTurn c (looked_at words entries) sayings
  pub are : acts ≡ with_counts (looked_at words entries) (looking_acts c (looked_at words entries) sayings) sayings
