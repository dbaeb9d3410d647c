-- Where no row of the state table refuses what a host sends, and what that tells of the drive.
use Rattle.std.proofs.Common.{◌≡◌, ℕ, Bool, true, false, not, ◌&&◌, ◌==◌, None, refl}
use Rattle.qic117_commands.specs.declared.command.Command.TheVariants.{ReportStatus, ReportError, ReportFormatSegments, LogicalForward}
use Rattle.qic117_commands.specs.declared.command.Command.TheVariants.{SeekTrack, EnterFormat, EnterVerify, SkipReverse, SkipForward}
use Rattle.qic117_commands.specs.declared.view.DriveView.{DriveView}
use Rattle.qic117_commands.specs.declared.view.Mode.{Mode}
use Rattle.qic117_commands.specs.declared.view.Mode.TheVariants.{Primary, Format, Verify}
use Rattle.qic117_commands.specs.declared.view.Motion.{Motion}
use Rattle.qic117_commands.specs.declared.view.Motion.TheVariants.{Stopped, Streaming, Seeking}
use Rattle.qic117_commands.specs.Refusals.{first_refusal, is_unsupported, is_diagnostic, needs_cartridge, waits_for_seek, waits_for_stop}
use Rattle.qic117_commands.specs.Refusals.{illegal_in_primary, illegal_in_format, illegal_in_verify, needs_writable, needs_known_cartridge}
use Rattle.qic117_commands.specs.Refusals.{needs_reference, needs_logical_bot}
use Rattle.qic117_commands.specs.Views.{is_format, is_verify}

pub status_taken : (v : DriveView) → first_refusal v ReportStatus ≡ None
unfolding first_refusal is_unsupported is_diagnostic needs_cartridge waits_for_seek waits_for_stop illegal_in_primary illegal_in_format
    illegal_in_verify needs_writable needs_known_cartridge needs_reference needs_logical_bot
status_taken v = refl

pub error_taken : (v : DriveView) → first_refusal v ReportError ≡ None
unfolding first_refusal is_unsupported is_diagnostic needs_cartridge waits_for_seek waits_for_stop illegal_in_primary illegal_in_format
    illegal_in_verify needs_writable needs_known_cartridge needs_reference needs_logical_bot
error_taken v = refl

pub segments_report_taken : (v : DriveView) → v.present ≡ true → v.motion ≡ Stopped → first_refusal v ReportFormatSegments ≡ None
unfolding first_refusal is_unsupported is_diagnostic needs_cartridge waits_for_seek waits_for_stop illegal_in_primary illegal_in_format
    illegal_in_verify needs_writable needs_known_cartridge needs_reference needs_logical_bot
segments_report_taken v present stopped = rw (present, stopped) refl

pub seek_taken : (v : DriveView) → v.present ≡ true → v.motion ≡ Stopped → v.fresh ≡ false → v.referenced ≡ true →
    first_refusal v SeekTrack ≡ None
unfolding first_refusal is_unsupported is_diagnostic needs_cartridge waits_for_seek waits_for_stop illegal_in_primary illegal_in_format
    illegal_in_verify needs_writable needs_known_cartridge needs_reference needs_logical_bot
seek_taken v present stopped known referenced = rw (present, stopped, known, referenced) refl

pub skip_forward_taken : (v : DriveView) → v.present ≡ true → v.motion ≡ Stopped → is_format v.mode ≡ false → v.fresh ≡ false →
    v.referenced ≡ true → first_refusal v SkipForward ≡ None
unfolding first_refusal is_unsupported is_diagnostic needs_cartridge waits_for_seek waits_for_stop illegal_in_primary illegal_in_format
    illegal_in_verify needs_writable needs_known_cartridge needs_reference needs_logical_bot
skip_forward_taken v present stopped other known referenced = rw (present, stopped, other, known, referenced) refl

pub skip_reverse_taken : (v : DriveView) → v.present ≡ true → v.motion ≡ Stopped → is_format v.mode ≡ false → v.fresh ≡ false →
    v.referenced ≡ true → first_refusal v SkipReverse ≡ None
unfolding first_refusal is_unsupported is_diagnostic needs_cartridge waits_for_seek waits_for_stop illegal_in_primary illegal_in_format
    illegal_in_verify needs_writable needs_known_cartridge needs_reference needs_logical_bot
skip_reverse_taken v present stopped other known referenced = rw (present, stopped, other, known, referenced) refl

-- the tape stands at the start of its track, where the mode asks for that
at_bot : (m : Mode) (offset : ℕ) (b : Bool) → (is_format m ≡ true → offset ≡ 0) → is_format m && not (offset == 0) && b ≡ false
at_bot Primary offset b first = refl
at_bot Format offset b first = rw (first refl) refl
at_bot Verify offset b first = refl

pub forward_taken : (v : DriveView) → v.present ≡ true → v.motion ≡ Stopped → v.fresh ≡ false → v.referenced ≡ true →
    (is_format v.mode ≡ true → v.offset ≡ 0) → first_refusal v LogicalForward ≡ None
unfolding first_refusal is_unsupported is_diagnostic needs_cartridge waits_for_seek waits_for_stop illegal_in_primary illegal_in_format
    illegal_in_verify needs_writable needs_known_cartridge needs_reference needs_logical_bot
forward_taken v present stopped known referenced first =
    let past = at_bot v.mode v.offset true first in
    rw (present, stopped, known, referenced, past) refl

pub format_taken : (v : DriveView) → v.present ≡ true → v.motion ≡ Stopped → v.mode ≡ Primary → v.protected ≡ false → v.fresh ≡ false →
    first_refusal v EnterFormat ≡ None
unfolding first_refusal is_unsupported is_diagnostic needs_cartridge waits_for_seek waits_for_stop illegal_in_primary illegal_in_format
    illegal_in_verify needs_writable needs_known_cartridge needs_reference needs_logical_bot
format_taken v present stopped primary writable known = rw (present, stopped, primary, writable, known) refl

pub verify_taken : (v : DriveView) → v.present ≡ true → v.motion ≡ Stopped → is_verify v.mode ≡ false → v.fresh ≡ false →
    v.referenced ≡ true → first_refusal v EnterVerify ≡ None
unfolding first_refusal is_unsupported is_diagnostic needs_cartridge waits_for_seek waits_for_stop illegal_in_primary illegal_in_format
    illegal_in_verify needs_writable needs_known_cartridge needs_reference needs_logical_bot
verify_taken v present stopped other known referenced = rw (present, stopped, other, known, referenced) refl

-- a protected cartridge refuses Format mode, unless an earlier row does
by_facts : (present protected fresh referenced : Bool) (motion : Motion) (mode : Mode) (offset : ℕ) →
    first_refusal record {
      present = present;
      motion = motion;
      mode = mode;
      protected = protected;
      fresh = fresh;
      referenced = referenced;
      offset = offset;
    } EnterFormat ≡ None →
    protected ≡ false
unfolding first_refusal is_unsupported is_diagnostic needs_cartridge waits_for_seek waits_for_stop illegal_in_primary illegal_in_format
    illegal_in_verify needs_writable needs_known_cartridge needs_reference needs_logical_bot
by_facts present false fresh referenced motion mode offset taken = refl
by_facts false true fresh referenced motion mode offset taken = cc
by_facts true true fresh referenced Seeking mode offset taken = cc
by_facts true true fresh referenced Streaming mode offset taken = cc
by_facts true true fresh referenced Stopped Primary offset taken = cc
by_facts true true fresh referenced Stopped Format offset taken = cc
by_facts true true fresh referenced Stopped Verify offset taken = cc

pub format_writable : (v : DriveView) → first_refusal v EnterFormat ≡ None → v.protected ≡ false
format_writable v taken = by_facts v.present v.protected v.fresh v.referenced v.motion v.mode v.offset taken
