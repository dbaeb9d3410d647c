use Rattle.std.proofs.Common.{refl}
use Rattle.qic117_commands.specs.Commands.{command_at, commands}
use Rattle.qic117_commands.specs.Refusals.{first_refusal, illegal_in_format, illegal_in_primary, illegal_in_verify, is_diagnostic}
use Rattle.qic117_commands.specs.Refusals.{is_unsupported, needs_cartridge, needs_known_cartridge, needs_logical_bot, needs_reference}
use Rattle.qic117_commands.specs.Refusals.{needs_writable, waits_for_seek, waits_for_stop}
use Rattle.qic117_commands.specs.StatusWord.{status_of}
use Rattle.qic117_commands.specs.Digits.{digits}
use Rattle.drive_spec.specs.Row.{pulsed_row}
use Rattle.drive_spec.specs.Steps.{train_changes}
use Rattle.command_laws.proofs.worked_values.trains.Goals as goal

pub returns-clause-status : goal.returns-clause-status
unfolding pulsed_row train_changes status_of first_refusal command_at commands is_unsupported is_diagnostic needs_cartridge waits_for_seek
    waits_for_stop illegal_in_primary illegal_in_format illegal_in_verify needs_writable needs_known_cartridge needs_reference
    needs_logical_bot digits
returns-clause-status c = refl

pub returns-clause-status_word : goal.returns-clause-status_word
unfolding pulsed_row train_changes status_of first_refusal command_at commands is_unsupported is_diagnostic needs_cartridge waits_for_seek
    waits_for_stop illegal_in_primary illegal_in_format illegal_in_verify needs_writable needs_known_cartridge needs_reference
    needs_logical_bot digits
returns-clause-status_word c = refl

pub returns-clause-illegal_track : goal.returns-clause-illegal_track
unfolding pulsed_row train_changes status_of first_refusal command_at commands is_unsupported is_diagnostic needs_cartridge waits_for_seek
    waits_for_stop illegal_in_primary illegal_in_format illegal_in_verify needs_writable needs_known_cartridge needs_reference
    needs_logical_bot digits
returns-clause-illegal_track c = refl

pub returns-clause-broken_off : goal.returns-clause-broken_off
unfolding pulsed_row train_changes status_of first_refusal command_at commands is_unsupported is_diagnostic needs_cartridge waits_for_seek
    waits_for_stop illegal_in_primary illegal_in_format illegal_in_verify needs_writable needs_known_cartridge needs_reference
    needs_logical_bot digits
returns-clause-broken_off c = refl

pub returns-clause-seek : goal.returns-clause-seek
unfolding pulsed_row train_changes status_of first_refusal command_at commands is_unsupported is_diagnostic needs_cartridge waits_for_seek
    waits_for_stop illegal_in_primary illegal_in_format illegal_in_verify needs_writable needs_known_cartridge needs_reference
    needs_logical_bot digits
returns-clause-seek c = refl

pub returns-clause-errors : goal.returns-clause-errors
unfolding pulsed_row train_changes status_of first_refusal command_at commands is_unsupported is_diagnostic needs_cartridge waits_for_seek
    waits_for_stop illegal_in_primary illegal_in_format illegal_in_verify needs_writable needs_known_cartridge needs_reference
    needs_logical_bot digits
returns-clause-errors c = refl

pub returns-clause-protected_error : goal.returns-clause-protected_error
unfolding pulsed_row train_changes status_of first_refusal command_at commands is_unsupported is_diagnostic needs_cartridge waits_for_seek
    waits_for_stop illegal_in_primary illegal_in_format illegal_in_verify needs_writable needs_known_cartridge needs_reference
    needs_logical_bot digits
returns-clause-protected_error c = refl

pub returns-clause-no_cartridge : goal.returns-clause-no_cartridge
unfolding pulsed_row train_changes status_of first_refusal command_at commands is_unsupported is_diagnostic needs_cartridge waits_for_seek
    waits_for_stop illegal_in_primary illegal_in_format illegal_in_verify needs_writable needs_known_cartridge needs_reference
    needs_logical_bot digits
returns-clause-no_cartridge c = refl

pub returns-clause-sought : goal.returns-clause-sought
unfolding pulsed_row train_changes status_of first_refusal command_at commands is_unsupported is_diagnostic needs_cartridge waits_for_seek
    waits_for_stop illegal_in_primary illegal_in_format illegal_in_verify needs_writable needs_known_cartridge needs_reference
    needs_logical_bot digits
returns-clause-sought c = (refl, refl, refl)

pub returns-clause-skipped : goal.returns-clause-skipped
unfolding pulsed_row train_changes status_of first_refusal command_at commands is_unsupported is_diagnostic needs_cartridge waits_for_seek
    waits_for_stop illegal_in_primary illegal_in_format illegal_in_verify needs_writable needs_known_cartridge needs_reference
    needs_logical_bot digits
returns-clause-skipped c = (refl, refl, refl)
