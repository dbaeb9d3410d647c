-- The laws of the plain machine of `script`, as facts (this project's own).
use Rattle.std.specs.Prelude.{◌≡◌, ℕ, List, ◌∷◌, ◌++◌, Option, Some, ◌⊎◌}
use Rattle.cartridge_spec.specs.Table.{Entry}
use Rattle.command_laws.specs.MountedListed.{IsListed}
use Rattle.command_spec.specs.Outcome.{CommandOutcome}
use Rattle.command_spec.specs.Script.{ScriptDoes, Did, cartridge_behind, acts_of}
use Rattle.qic_base.specs.Acts.{steps_of, Act}
use Rattle.qic_base.specs.Cartridge.{Cartridge}
use Rattle.qic_base.specs.Step.{Torn}

-- an input has at most one outcome over a cartridge with this map and these volumes
abbrev pub ScriptHasOneOutcome : Type 0
ScriptHasOneOutcome =
    (c : Cartridge) (words : List ℕ) (entries : List Entry) (input : List ℕ) (a b : CommandOutcome) →
    ScriptDoes c words entries input a → ScriptDoes c words entries input b → a ≡ b

-- .. and it has one, any list of numbers as the input, where a store knows the cartridge's volume table
abbrev pub ScriptHasAnOutcome : Type 0
ScriptHasAnOutcome =
    (c : Cartridge) (words : List ℕ) (entries : List Entry) (input : List ℕ) → IsListed c words entries →
    (outcome : CommandOutcome) × ScriptDoes c words entries input outcome

-- a stop in one of some items, with those before it done
pub record StopsIn (c : Cartridge) (dids : List Did) (left : Option Cartridge) : Type 0 where
  pub done : List Did
  pub did : Did
  pub rest : List Did
  pub parts : done ++ did ∷ rest ≡ dids
  pub torn : Torn (steps_of did.acts) (Some (cartridge_behind c done)) left

-- a stop in the steps of items and of some last acts is a stop in one of the items, or in the last acts with all items done
abbrev pub StopsInOne : Type 0
StopsInOne =
    (c : Cartridge) (dids : List Did) (last : List Act) (left : Option Cartridge) → Torn (steps_of (acts_of dids ++ last)) (Some c) left →
    StopsIn c dids left ⊎ Torn (steps_of last) (Some (cartridge_behind c dids)) left
