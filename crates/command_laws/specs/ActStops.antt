-- What is left of a cartridge by acts that were cut off, once some of their text was written (this project's own).
use Rattle.std.specs.Prelude.{◌≡◌, ◌≢◌, ◌⊎◌, ℕ, List, [], ◌∷◌, ◌++◌, Option, Some}
use Rattle.qic_base.specs.Acts.{Act, next_steps, steps_of, text_of}
use Rattle.qic_base.specs.Cartridge.{Cartridge}
use Rattle.qic_base.specs.Step.{effects, Torn}

-- a front of them was done and written, and a stop came among the steps of the next one
pub record Between (c : Cartridge) (acts : List Act) (text : List ℕ) (left : Option Cartridge) : Type 0 where
  pub front : List Act
  pub rest : List Act
  pub parts : front ++ rest ≡ acts
  pub torn : Torn (next_steps rest) (effects (steps_of front) (Some c)) left
  pub is_text : text ≡ text_of front

-- all steps of the next one were done, and a part of its text written, and not the whole
pub record Behind (c : Cartridge) (acts : List Act) (text : List ℕ) (left : Option Cartridge) : Type 0 where
  pub front : List Act
  pub act : Act
  pub rest : List Act
  pub parts : front ++ act ∷ rest ≡ acts
  pub is : left ≡ effects (steps_of front ++ act.steps) (Some c)
  pub some : List ℕ
  pub more : List ℕ
  pub written : some ++ more ≡ act.text
  pub lacks : more ≢ []
  pub is_text : text ≡ text_of front ++ some

-- they were cut off once this text was written
abbrev pub IsLeftBy : Cartridge → List Act → (text : List ℕ) → (left : Option Cartridge) → Type 0
IsLeftBy c acts text left = Between c acts text left ⊎ Behind c acts text left
