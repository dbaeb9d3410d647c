use Rattle.std.proofs.Common.{ap, ◌∙◌}
use Rattle.qic117_commands.specs.declared.command.Command.{Command}
use Rattle.drive_spec.specs.Terms.{refusal_of, begun}
use Rattle.drive_spec.specs.Effects.{accepted}
use Rattle.host_driver.specs.Commands.{is_plain}
use Rattle.host_driver.proofs.Taking.{entered_as, entry_plain, entry_idle}
use Rattle.host_driver.proofs.host.Host.enter_at_once.Goals as goal

pub command-requires-clause-plain : goal.command-requires-clause-plain
command-requires-clause-plain g c = ap is_plain c.entry_of.ensures ∙ entry_plain c.args.mode

pub command-requires-clause-taken : goal.command-requires-clause-taken
command-requires-clause-taken g c = ap (refusal_of c.args.unit.now.drive.deck) c.entry_of.ensures ∙ c.requires.taken

pub returns-clause-deck : goal.returns-clause-deck
returns-clause-deck g c = c.command.ensures.deck ∙ ap (λ (k : Command). accepted k c.args.unit.now.drive.deck) c.entry_of.ensures

pub returns-clause-mode : goal.returns-clause-mode
returns-clause-mode g c =
    (entered_as c.args.mode c.args.unit.now.drive.deck c.command.new.unit.drive.deck (returns-clause-deck g c) c.requires.stopped).mode_is

pub returns-clause-place : goal.returns-clause-place
returns-clause-place g c =
    (entered_as c.args.mode c.args.unit.now.drive.deck c.command.new.unit.drive.deck (returns-clause-deck g c) c.requires.stopped).place

pub returns-clause-cartridge : goal.returns-clause-cartridge
returns-clause-cartridge g c =
    (entered_as c.args.mode c.args.unit.now.drive.deck c.command.new.unit.drive.deck (returns-clause-deck g c) c.requires.stopped).cartridge

pub returns-clause-ready : goal.returns-clause-ready
returns-clause-ready g c = record {
  fits = c.command.ensures.fits;
  rest = record {
    still = (entered_as c.args.mode c.args.unit.now.drive.deck c.command.new.unit.drive.deck
        (returns-clause-deck g c) c.requires.stopped).still;
    idle = c.command.ensures.under_way ∙ ap (λ (k : Command). begun k c.args.unit.now.drive.deck) c.entry_of.ensures
        ∙ entry_idle c.args.mode c.args.unit.now.drive.deck;
  };
}
