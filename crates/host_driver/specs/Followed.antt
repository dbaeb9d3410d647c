-- What a host remembers after a train that the drive took (this project's own).
use Rattle.std.specs.Prelude.{ℕ, ◌-◌, ◌==◌, Option, Some, None, if◌then◌else◌, nat_lt}
use Rattle.qic117_commands.specs.Commands.{command_at}
use Rattle.qic117_commands.specs.declared.command.Command.{Command}
use Rattle.drive_spec.specs.declared.under_way.Parameter.{Parameter}
use Rattle.drive_spec.specs.Effects.{accepted, given, ticked}
use Rattle.drive_spec.specs.Terms.{longer}
use Rattle.drive_spec.specs.Parameters.{parameter_trains}
use Rattle.host_driver.specs.declared.host.Host.{Host}
use Rattle.host_driver.specs.Place.{idled_deck}

-- a command was accepted, and its parameter is awaited; ReportNextBit and what a report shows change nothing
abbrev pub after_command : Host → Option Command → Host
after_command h None = h
after_command h (Some command) = record h {
  deck = accepted command h.deck;
  awaited = if nat_lt 0 (parameter_trains command) then Some record { command = command; taken = 0; value = 0 } else None;
}

-- a value of a parameter was taken
abbrev pub after_value : Host → Parameter → Host
after_value h a =
    if a.taken == parameter_trains a.command
    then record h { deck = given a.command a.value h.deck; awaited = None }
    else record h { awaited = Some a }

abbrev pub after_pulses : Host → (pulses : ℕ) → Option Parameter → Host
after_pulses h pulses None = after_command h (command_at pulses)
after_pulses h pulses (Some a) = after_value h (longer a (pulses - 2))

abbrev pub followed : Host → (pulses : ℕ) → Host
followed h pulses =
    if pulses == 0
    then record h { deck = idled_deck (ticked h.deck) }
    else after_pulses (record h { deck = ticked h.deck }) pulses h.awaited
