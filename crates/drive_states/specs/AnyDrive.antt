-- A drive in whatever state it is.
use Rattle.std.specs.Prelude.{true, false}
use Rattle.qic117_commands.specs.declared.view.Mode.TheVariants as mode
use Rattle.drive_states.specs.declared.any_drive.AnyDrive.{AnyDrive}
use Rattle.drive_states.specs.declared.any_drive.AnyDrive.TheVariants.{LoadPoint, Primary, Format, Verify, SeekingLoadPoint, SeekingPrimary}
use Rattle.drive_states.specs.declared.any_drive.AnyDrive.TheVariants.{SeekingFormat, SeekingVerify}
use Rattle.drive_states.specs.Typed.{TypedState}
use Rattle.drive_states.specs.Unit.{DeckAndTape}

abbrev pub drive_of : {T : Type 0} → AnyDrive T → DeckAndTape T
drive_of (LoadPoint d) = d
drive_of (Primary d) = d
drive_of (Format d) = d
drive_of (Verify d) = d
drive_of (SeekingLoadPoint d) = d
drive_of (SeekingPrimary d) = d
drive_of (SeekingFormat d) = d
drive_of (SeekingVerify d) = d

-- the state that a variant stands for
abbrev pub state_of : {T : Type 0} → AnyDrive T → TypedState
state_of (LoadPoint d) = record { mode = mode.Primary; at_load_point = true; seeks = false }
state_of (Primary d) = record { mode = mode.Primary; at_load_point = false; seeks = false }
state_of (Format d) = record { mode = mode.Format; at_load_point = false; seeks = false }
state_of (Verify d) = record { mode = mode.Verify; at_load_point = false; seeks = false }
state_of (SeekingLoadPoint d) = record { mode = mode.Primary; at_load_point = true; seeks = true }
state_of (SeekingPrimary d) = record { mode = mode.Primary; at_load_point = false; seeks = true }
state_of (SeekingFormat d) = record { mode = mode.Format; at_load_point = false; seeks = true }
state_of (SeekingVerify d) = record { mode = mode.Verify; at_load_point = false; seeks = true }
