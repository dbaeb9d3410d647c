-- The status word, bit by bit. Standard: QIC-117, the drive status; this project's profile.
use Rattle.std.specs.Prelude.{ℕ, ◌+◌, ◌&&◌, Bool, if◌then◌else◌}
use Rattle.qic117_commands.specs.declared.view.DriveView.{DriveView}
use Rattle.qic117_commands.specs.Views.{is_stopped}

-- the status word: the sum of the bits whose facts hold (QIC-117)
unfoldable pub status_of : DriveView → Bool → Bool → Bool → ℕ
status_of view error at_bot at_eot =
    (if is_stopped view.motion then 0x01 else 0)
    + (if error then 0x02 else 0)
    + (if view.present then 0x04 else 0)
    + (if view.present && view.protected then 0x08 else 0)
    + (if view.fresh then 0x10 else 0)
    + (if view.present && view.referenced then 0x20 else 0)
    + (if at_bot then 0x40 else 0)
    + (if at_eot then 0x80 else 0)
