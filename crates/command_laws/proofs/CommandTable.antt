-- The laws of each command, in a file of its own, and what follows for all of them.
pub mod AppendCommand
pub mod CheckCommand
pub mod DeepScrubCommand
pub mod DefectCommand
pub mod FormatCommand
pub mod InfoCommand
pub mod ListCommand
pub mod LoseCommand
pub mod MakeCommand
pub mod NewCommand
pub mod ProtectCommand
pub mod PulsesCommand
pub mod RestoreCommand
pub mod RoomCommand
pub mod ScriptCommand
pub mod ScrubCommand
pub mod UpgradeCommand
use Rattle.std.proofs.Common.{◌≤◌, length, ◌≡◌, ◌∙◌, ℕ, List, [], ◌∷◌, Option, IfSome, ap, refl, if◌then◌else◌}
use Rattle.std.specs.Str.{bytes_eq}
use Rattle.command_laws.proofs.CommandTable.AppendCommand.{append_laws, append_read, append_reading}
use Rattle.command_laws.proofs.CommandTable.CheckCommand.{check_laws, check_read, check_reading}
use Rattle.command_laws.proofs.CommandTable.DeepScrubCommand.{deep_scrub_laws, deep_scrub_read}
use Rattle.command_laws.proofs.CommandTable.DefectCommand.{defect_laws, defect_read, defect_reading}
use Rattle.command_laws.proofs.CommandTable.FormatCommand.{format_laws, format_read, format_reading}
use Rattle.command_laws.proofs.CommandTable.InfoCommand.{info_laws, info_read, info_reading}
use Rattle.command_laws.proofs.CommandTable.ListCommand.{list_laws, list_read, list_reading}
use Rattle.command_laws.proofs.CommandTable.LoseCommand.{lose_laws, lose_read, lose_reading}
use Rattle.command_laws.proofs.CommandTable.MakeCommand.{make_laws, make_read, make_reading}
use Rattle.command_laws.proofs.CommandTable.NewCommand.{new_laws, new_read, new_reading}
use Rattle.command_laws.proofs.CommandTable.ProtectCommand.{protect_laws, protect_read, protect_reading}
use Rattle.command_laws.proofs.CommandTable.PulsesCommand.{pulses_laws, pulses_read, pulses_reading}
use Rattle.command_laws.proofs.CommandTable.RestoreCommand.{restore_laws, restore_read, restore_reading}
use Rattle.command_laws.proofs.CommandTable.RoomCommand.{room_laws, room_read, room_reading}
use Rattle.command_laws.proofs.CommandTable.ScriptCommand.{script_laws, script_read, script_reading}
use Rattle.command_laws.proofs.CommandTable.ScrubCommand.{scrub_laws, scrub_read, scrub_reading}
use Rattle.command_laws.proofs.TextCommands.{IsRead, Reading}
use Rattle.command_laws.proofs.CommandTable.UpgradeCommand.{upgrade_laws, upgrade_read, upgrade_reading}
use Rattle.command_laws.specs.CommandLaws.{DoneWhereAllIsThere, OneOutcome, OnlyNewRenews, CopiesStayClean, CopiesStayBare}
use Rattle.command_laws.specs.CommandRecord.{CommandLaws}
use Rattle.command_spec.specs.Commands.{command_of}
use Rattle.command_spec.specs.Machine.{HasValues, Spells}
use Rattle.command_laws.specs.CommandFields.{Yields}
use Rattle.command_spec.specs.Outcome.{CommandOutcome}
use Rattle.command_spec.specs.declared.words.Words.{Words}
use Rattle.qic_base.specs.Cartridge.{Cartridge}
use Rattle.qic_base.specs.CartridgeTerms.{IsCartridge}
use Rattle.command_spec.specs.declared.words.Words.TheVariants as words

-- the readings of all commands
abbrev pub readings : List Reading
readings =
    new_reading ∷ defect_reading ∷ lose_reading ∷ protect_reading ∷ format_reading ∷ info_reading ∷ append_reading ∷ list_reading ∷
    restore_reading
    ∷ scrub_reading ∷ pulses_reading ∷ script_reading ∷ make_reading ∷ upgrade_reading ∷ room_reading ∷ check_reading ∷ []

-- the command that the first of them reads, whose word the words begin with
abbrev pub read_among : List Reading → (first : List ℕ) → (behind : List (List ℕ)) → Words
read_among [] first behind = words.Info
read_among (reading ∷ more) first behind = if bytes_eq first reading.name then reading.reads behind else read_among more first behind

unfoldable pub guess : List (List ℕ) → Words
guess [] = words.Info
guess (first ∷ behind) = read_among readings first behind

-- no reading before it begins with its word
read_by : (reading : Reading) {command : Words} → ((behind : List (List ℕ)) → guess (reading.name ∷ behind) ≡ reading.reads behind) →
    ((ws : List (List ℕ)) → Spells ws command → IsRead reading ws command) → (ws : List (List ℕ)) → Spells ws command → guess ws ≡ command
read_by reading found read ws spelled = let r = read ws spelled in ap guess r.are ∙ found r.behind ∙ r.is

-- a command's laws, and the reading of its words
record Described (command : Words) : Type 0 where
  laws : CommandLaws (command_of command)
  read : (ws : List (List ℕ)) → Spells ws command → guess ws ≡ command

described : (command : Words) → Described command
unfolding guess
described (words.New segments) = record { laws = new_laws segments; read = read_by new_reading (λ behind. refl) (new_read segments) }
described (words.Defect segment sector) =
    record { laws = defect_laws segment sector; read = read_by defect_reading (λ behind. refl) (defect_read segment sector) }
described (words.Lose segment sector) = record {
  laws = lose_laws segment sector;
  read = read_by lose_reading (λ behind. refl)
      (lose_read segment sector);
}
described (words.Protect on) = record { laws = protect_laws on; read = read_by protect_reading (λ behind. refl) (protect_read on) }
described (words.Format label date) = record {
  laws = format_laws label date;
  read = read_by format_reading (λ behind. refl)
      (format_read label date);
}
described words.Info = record { laws = info_laws; read = read_by info_reading (λ behind. refl) info_read }
described words.Room = record { laws = room_laws; read = read_by room_reading (λ behind. refl) room_read }
described words.Check = record { laws = check_laws; read = read_by check_reading (λ behind. refl) check_read }
described (words.Append name date) = record {
  laws = append_laws name date;
  read = read_by append_reading (λ behind. refl)
      (append_read name date);
}
described words.List = record { laws = list_laws; read = read_by list_reading (λ behind. refl) list_read }
described (words.Restore number) = record {
  laws = restore_laws number;
  read = read_by restore_reading (λ behind. refl)
      (restore_read number);
}
described words.Scrub = record { laws = scrub_laws; read = read_by scrub_reading (λ behind. refl) scrub_read }
described words.ScrubDeep = record { laws = deep_scrub_laws; read = read_by scrub_reading (λ behind. refl) deep_scrub_read }
described words.Pulses = record { laws = pulses_laws; read = read_by pulses_reading (λ behind. refl) pulses_read }
described words.Script = record { laws = script_laws; read = read_by script_reading (λ behind. refl) script_read }
described (words.Make seed count) = record {
  laws = make_laws seed count;
  read = read_by make_reading (λ behind. refl)
      (make_read seed count);
}
described words.Upgrade = record { laws = upgrade_laws; read = read_by upgrade_reading (λ behind. refl) upgrade_read }

pub laws_of : (command : Words) → CommandLaws (command_of command)
laws_of command = (described command).laws

pub guess_is : (words : List (List ℕ)) (command : Words) → Spells words command → guess words ≡ command
guess_is words command spelled = (described command).read words spelled

pub few_words : (words : List (List ℕ)) (command : Words) → Spells words command → (1 ≤ length words) × (length words ≤ 3)
few_words words command spelled = (laws_of command).few_words words spelled

-- the words of a command give it its values
pub has_values : (words : List (List ℕ)) (command : Words) → Spells words command → HasValues command
has_values words command spelled = (laws_of command).values words spelled

-- each has an outcome over what a drive can hold, and one alone
pub plain_answers : (command : Words) (held : Option Cartridge) (input : List ℕ) → HasValues command → IfSome held IsCartridge →
    (outcome : CommandOutcome) × Yields command held input outcome
plain_answers command held input values whole = (laws_of command).answers held input values whole

pub plain_is_function : OneOutcome
plain_is_function command held input a b one other = (laws_of command).one held input a b one other

pub done_where_all_is_there : DoneWhereAllIsThere
done_where_all_is_there command held input outcome whole values can does = (laws_of command).done held input outcome whole values can does

pub only_new_renews : OnlyNewRenews
only_new_renews command held input outcome keeps plain = (laws_of command).live held input outcome keeps plain

pub copies_stay_clean : CopiesStayClean
copies_stay_clean command c input outcome area left keeps plain is_area clean torn =
    (laws_of command).clean c area keeps is_area clean input outcome left plain torn

pub copies_stay_bare : CopiesStayBare
copies_stay_bare command c input outcome left keeps plain bare torn = (laws_of command).bare c keeps bare input outcome left plain torn
