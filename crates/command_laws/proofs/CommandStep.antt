-- The laws of an outcome that is one step over a cartridge that is there, with a text, where the step keeps all.
use Rattle.std.proofs.Common.{[], ◌≡◌, ◌∙◌, ◌∷◌, ℕ, List, Option, Some, None, IsSomeAnd, inl, inr, refl, sym}
use Rattle.cartridge_laws.proofs.ChangeViews.{ReadsNoMore}
use Rattle.cartridge_laws.proofs.FormatWriting.{some_and}
use Rattle.cartridge_laws.specs.ChangeSteps.{HasNoRenew}
use Rattle.cartridge_spec.specs.Formatting.{HasNoHeader, HasCleanCopies}
use Rattle.cartridge_spec.specs.Header.{Header}
use Rattle.cartridge_spec.specs.Shape.{IsArea}
use Rattle.cartridge_spec.specs.Mounting.{Mounted, Mounts}
use Rattle.cartridge_spec.specs.Table.{Entry}
use Rattle.cartridge_spec.specs.Volumes.{Plain, Stands}
use Rattle.command_laws.proofs.CommandClean.{clean_from_less}
use Rattle.command_laws.proofs.CommandPlainLaws.{only_step}
use Rattle.command_laws.proofs.CommandSteps.{by_outcome}
use Rattle.command_spec.specs.Outcome.{CommandOutcome, StepOutcome}
use Rattle.qic_base.specs.Acts.{steps_of}
use Rattle.qic_base.specs.Cartridge.{Cartridge}
use Rattle.qic_base.specs.Step.{Step, changed, Torn, Halfway}
use Rattle.cartridge_laws.proofs.ChangeClean.{no_header_less}

-- The step keeps what a cartridge stands for, what it is mounted as, and its header copies, for no sector reads more; it is done
-- or not, and puts in no new cartridge.
pub record KeepsAll (step : Step) : Type 0 where
  pub whole : (held left : Option Cartridge) → ¬ (Halfway step held left)
  pub stands : (c : Cartridge) (plain : Plain) → Stands c plain → Stands (changed step c) plain
  pub mounts : (c : Cartridge) (header : Header) (map_words : List ℕ) (table : List (List ℕ)) (entries : List Entry) →
      Mounts c (Mounted header map_words table entries) → Mounts (changed step c) (Mounted header map_words table entries)
  pub reads : (c : Cartridge) → ReadsNoMore c (changed step c)
  pub no_renew : HasNoRenew (step ∷ [])

module _ (step : Step) (text : Cartridge → List ℕ) where
  pub step_answers : (held : Option Cartridge) → (outcome : CommandOutcome) × StepOutcome step text held outcome
  step_answers None = (_, refl)
  step_answers (Some c) = (_, refl)

  pub step_is_one : (held : Option Cartridge) (a b : CommandOutcome) → StepOutcome step text held a → StepOutcome step text held b → a ≡ b
  step_is_one None a b is was = is ∙ sym was
  step_is_one (Some c) a b is was = is ∙ sym was

  pub step_no_renew : KeepsAll step → (held : Option Cartridge) (outcome : CommandOutcome) → StepOutcome step text held outcome →
      HasNoRenew (steps_of outcome.acts)
  step_no_renew keeps None outcome is = by_outcome outcome _ is tt
  step_no_renew keeps (Some c) outcome is = by_outcome outcome _ is keeps.no_renew

  pub step_leaves : (P : Cartridge → Type 0) → KeepsAll step → (c : Cartridge) (outcome : CommandOutcome) (left : Option Cartridge) → P c →
      P (changed step c) →
      StepOutcome step text (Some c) outcome → Torn (steps_of outcome.acts) (Some c) left → IsSomeAnd left P
  step_leaves P keeps c outcome left before behind is torn =
      elim (only_step step (Some c) left outcome _ is refl torn) [
        | inl same ↦ some_and P c left before same
        | inr (inl inside) ↦ absurd (keeps.whole (Some c) left inside)
        | inr (inr done) ↦ some_and P (changed step c) left behind done
      ]

  pub step_stands : KeepsAll step → (c : Cartridge) (plain : Plain) → Stands c plain →
      (outcome : CommandOutcome) (left : Option Cartridge) →
      StepOutcome step text (Some c) outcome → Torn (steps_of outcome.acts) (Some c) left → IsSomeAnd left (λ d. Stands d plain)
  step_stands keeps c plain stood outcome left is torn = step_leaves (λ d. Stands d plain) keeps c outcome left stood
      (keeps.stands c plain stood) is torn

  pub step_mounts : KeepsAll step → (c : Cartridge) (header : Header) (map_words : List ℕ) (table : List (List ℕ)) (entries : List Entry) →
      Mounts c (Mounted header map_words table entries) → (outcome : CommandOutcome) (left : Option Cartridge) →
      StepOutcome step text (Some c) outcome → Torn (steps_of outcome.acts) (Some c) left →
      IsSomeAnd left (λ d. Mounts d (Mounted header map_words table entries))
  step_mounts keeps c header map_words table entries mounts outcome left is torn =
      step_leaves (λ d. Mounts d (Mounted header map_words table entries)) keeps c outcome left mounts
      (keeps.mounts c header map_words table entries mounts) is torn

  pub step_clean : KeepsAll step → (c : Cartridge) (area : List (List ℕ)) → IsArea area → HasCleanCopies c area →
      (outcome : CommandOutcome) (left : Option Cartridge) →
      StepOutcome step text (Some c) outcome → Torn (steps_of outcome.acts) (Some c) left → IsSomeAnd left (λ d. HasCleanCopies d area)
  step_clean keeps c area is_area clean outcome left is torn =
      step_leaves (λ d. HasCleanCopies d area) keeps c outcome left clean
      (clean_from_less area is_area c (changed step c) (keeps.reads c) clean) is torn

  pub step_bare : KeepsAll step → (c : Cartridge) → HasNoHeader c → (outcome : CommandOutcome) (left : Option Cartridge) →
      StepOutcome step text (Some c) outcome → Torn (steps_of outcome.acts) (Some c) left → IsSomeAnd left HasNoHeader
  step_bare keeps c bare outcome left is torn = step_leaves HasNoHeader keeps c outcome left bare
      (no_header_less c (changed step c) (keeps.reads c) bare) is torn
