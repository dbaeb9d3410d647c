-- Commands that look at a cartridge and take no step: at any moment what they leave is what was held.
use Rattle.std.proofs.Common.{◌≡◌, ℕ, List, [], ap, sym, subst, Option, Some, None, IsSomeAnd}
use Rattle.cartridge_laws.specs.ChangeSteps.{HasNoRenew}
use Rattle.cartridge_spec.specs.Header.{Header}
use Rattle.cartridge_spec.specs.Table.{Entry}
use Rattle.command_laws.proofs.CommandClean.{none_leaves}
use Rattle.command_spec.specs.Outcome.{CommandOutcome, Going, OpenOutcome}
use Rattle.qic_base.specs.Acts.{steps_of}
use Rattle.qic_base.specs.Cartridge.{Cartridge}
use Rattle.qic_base.specs.Step.{Step, Torn}
use Rattle.cartridge_spec.specs.Mounting as mounting

abbrev pub steps_in_all : CommandOutcome → List Step
steps_in_all outcome = steps_of outcome.acts

-- what is done on a mounted cartridge takes no step
abbrev pub TakesNoStep : Going → Type 0
TakesNoStep goes =
    (c : Cartridge) (header : Header) (ws : List ℕ) (table : List (List ℕ)) (entries : List Entry) (outcome : CommandOutcome) →
    goes c header ws table entries outcome → steps_of outcome.acts ≡ []

pub open_takes_none : (goes : Going) → TakesNoStep goes → (held : Option Cartridge) (outcome : CommandOutcome) → OpenOutcome goes held
    outcome → steps_of outcome.acts ≡ []
open_takes_none goes none None outcome is = ap steps_in_all is
open_takes_none goes none (Some c) outcome (mounting.NotFormatted, mounts, is) = ap steps_in_all is
open_takes_none goes none (Some c) outcome (mounting.Foreign fault, mounts, is) = ap steps_in_all is
open_takes_none goes none (Some c) outcome (mounting.TableLost lost, mounts, is) = ap steps_in_all is
open_takes_none goes none (Some c) outcome (mounting.TableMismatch, mounts, is) = ap steps_in_all is
open_takes_none goes none (Some c) outcome (mounting.Mounted header ws table entries, mounts, is) = none c header ws table entries outcome
    is

-- what was so of the cartridge is so of what is left
pub still_so : (P : Cartridge → Type 0) (c : Cartridge) (left : Option Cartridge) (outcome : CommandOutcome) → P c → steps_of outcome.acts
    ≡ [] → Torn (steps_of outcome.acts) (Some c) left → IsSomeAnd left P
still_so P c left outcome holds none torn = none_leaves P c (steps_of outcome.acts) holds none left torn

pub puts_in_none : (outcome : CommandOutcome) → steps_of outcome.acts ≡ [] → HasNoRenew (steps_of outcome.acts)
puts_in_none outcome none = subst HasNoRenew (sym none) tt
