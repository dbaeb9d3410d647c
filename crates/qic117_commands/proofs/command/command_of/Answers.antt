use Rattle.std.proofs.Common.{rules, tests, ◌≡◌, ◌∙◌, ◌==◌, sym, ap, is_some, Option, Some, None, option_map, refl}
use Rattle.std.proofs.lemmas.Iterator.{YieldsList-from_slice}
use Rattle.std.proofs.lemmas.Iterator.Consumers.{YieldsList-from_copied}
use Rattle.std.proofs.lemmas.Iterator.Search.{find_from_yields_List}
use Rattle.qic117_commands.specs.declared.command.Command.{Command}
use Rattle.qic117_commands.specs.Commands.{command_at, commands, number_of}
use Rattle.qic117_commands.proofs.Numbers.{command_at-number_of, number_of-command_at, is_some-command_at, not-iff}
use Rattle.qic117_commands.proofs.command.command_of.Goals as goal

option_map-same : (found : Option Command) → found ≡ option_map (λ command. command) found
option_map-same None = refl
option_map-same (Some command) = refl

pub returns-clause-known : goal.returns-clause-known
unfolding command_at commands
returns-clause-known c =
    option_map-same c.find.result ∙ find_from_yields_List (λ command. number_of command == c.args.pulses) _ _ c.find.result
    c.find.ensures.ran (YieldsList-from_copied (YieldsList-from_slice commands cc)) (λ x b q k. search (rules, tests))

pub returns-clause-inverse : goal.returns-clause-inverse
returns-clause-inverse c command = (
  λ found. number_of-command_at _ _ (sym (returns-clause-known c) ∙ found),
  λ number. returns-clause-known c ∙ ap command_at (sym number)
      ∙ command_at-number_of command,
)

pub returns-clause-undefined : goal.returns-clause-undefined
returns-clause-undefined c = not-iff _ _ (ap is_some (returns-clause-known c) ∙ is_some-command_at _ c.ranges.pulses.fits)
