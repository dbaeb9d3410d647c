-- What a host that knows its cartridge may send where the tape stands: reports.
use Rattle.std.proofs.Common.{◌≡◌, true, None, refl}
use Rattle.qic_base.specs.Tape.{Meaning}
use Rattle.qic117_commands.specs.Refusals.{first_refusal, is_unsupported, is_diagnostic, needs_cartridge, waits_for_seek, waits_for_stop}
use Rattle.qic117_commands.specs.Refusals.{illegal_in_primary, illegal_in_format, illegal_in_verify, needs_writable, needs_known_cartridge}
use Rattle.qic117_commands.specs.Refusals.{needs_reference, needs_logical_bot}
use Rattle.qic117_commands.specs.declared.view.DriveView.{DriveView}
use Rattle.qic117_commands.specs.declared.view.Motion.TheVariants as seen_as
use Rattle.drive_spec.specs.Terms.{refusal_of}
use Rattle.drive_spec.specs.Deck.{view_of, is_stopped}
use Rattle.drive_states.specs.Unit.{UnitView}
use Rattle.host_driver.specs.declared.host.Host.{Host}
use Rattle.host_driver.specs.declared.report.Report.{Report}
use Rattle.host_driver.specs.declared.report.Report.TheVariants.{Status, Error, Configuration, Rom, Vendor, TapeStatus, FormatSegments}
use Rattle.host_driver.specs.Fits.{Fits}
use Rattle.host_driver.specs.Reports.{command_of}
use Rattle.host_driver.proofs.Taking.{stands_known}
use Rattle.drive_states.proofs.Bounds.{seen_stop}

kind_taken : (kind : Report) (v : DriveView) → v.present ≡ true → v.motion ≡ seen_as.Stopped → first_refusal v (command_of kind) ≡ None
unfolding first_refusal is_unsupported is_diagnostic needs_cartridge waits_for_seek waits_for_stop illegal_in_primary illegal_in_format
    illegal_in_verify needs_writable needs_known_cartridge needs_reference needs_logical_bot
kind_taken Status v present stopped = refl
kind_taken Error v present stopped = refl
kind_taken Configuration v present stopped = rw stopped refl
kind_taken Rom v present stopped = rw stopped refl
kind_taken Vendor v present stopped = rw stopped refl
kind_taken TapeStatus v present stopped = rw (present, stopped) refl
kind_taken FormatSegments v present stopped = rw (present, stopped) refl

-- no row refuses a report
pub report_taken : {T : Type 0} {m : Meaning T} {h : Host} {u : UnitView T} (kind : Report) → Fits m h u →
    is_stopped u.drive.deck.motion ≡ true →
    refusal_of u.drive.deck (command_of kind) ≡ None
report_taken {u = u} kind fits stopped =
    kind_taken kind (view_of u.drive.deck) (stands_known fits stopped).present (seen_stop u.drive.deck.motion stopped)
