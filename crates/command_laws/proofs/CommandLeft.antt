-- What is left of a command is a whole cartridge or none.
use Rattle.std.proofs.Common.{◌≢◌, ℕ, List, Option, Some, None, IfSome, sym, subst}
use Rattle.command_laws.proofs.CommandTable.{laws_of, only_new_renews}
use Rattle.command_laws.proofs.CommandWhole.{renewed_whole}
use Rattle.command_laws.proofs.LifeRuns.{none_of_none, others_keep_live}
use Rattle.command_laws.specs.CommandLaws.{LeavesWhole}
use Rattle.command_laws.specs.CommandFields.{Yields}
use Rattle.command_spec.specs.Outcome.{CommandOutcome}
use Rattle.command_spec.specs.declared.words.Words.{Words}
use Rattle.qic_base.specs.Acts.{steps_of}
use Rattle.qic_base.specs.Cartridge.{Cartridge}
use Rattle.qic_base.specs.CartridgeTerms.{IsCartridge}
use Rattle.qic_base.specs.Step.{Torn}
use Rattle.command_spec.specs.declared.words.Words.TheVariants as words

-- of none
none_left : (command : Words) (left : Option Cartridge) (input : List ℕ) (outcome : CommandOutcome) →
    ((segments : ℕ) → command ≢ words.New segments) → Yields command None input outcome →
    Torn (steps_of outcome.acts) None left → IfSome left IsCartridge
none_left command left input outcome other plain torn =
    subst (λ (o : Option Cartridge). IfSome o IsCartridge)
    (sym (none_of_none (steps_of outcome.acts) left (only_new_renews command None input outcome (others_keep_live command other) plain)
    torn)) tt

pub leaves_whole : LeavesWhole
leaves_whole (words.New segments) held left input outcome values content whole plain torn =
    renewed_whole segments held left outcome values whole plain torn
leaves_whole command (Some c) left input outcome values content whole plain torn =
    (laws_of command).whole c input outcome left values content whole plain torn
leaves_whole command None left input outcome values content whole plain torn = none_left command left input outcome
    (λ segments is. cc) plain torn
