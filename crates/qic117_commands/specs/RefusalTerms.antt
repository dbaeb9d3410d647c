-- Parts of the table of refusals that contracts and proofs cite, and no definition of the statement.
use Rattle.std.specs.Prelude.{ℕ, Bool, ◌==◌, ◌&&◌, ◌||◌, not, nat_le, [], ◌∷◌}
use Rattle.std.specs.List.{list_any}
use Rattle.qic117_commands.specs.declared.command.Command.{Command}
use Rattle.qic117_commands.specs.declared.view.DriveView.{DriveView}
use Rattle.qic117_commands.specs.Refusals.{Row}
use Rattle.qic117_commands.specs.Views.{is_stopped, is_format}

-- no command has the number: it is 0, a reserved one or above the last (QIC-117)
unfoldable pub is_undefined : ℕ → Bool
is_undefined pulses =
    list_any (λ reserved. reserved == pulses) (0 ∷ 19 ∷ 20 ∷ 39 ∷ 40 ∷ 41 ∷ 42 ∷ 43 ∷ 44 ∷ 45 ∷ [])
    || nat_le 48 pulses

-- the tape stands in Format mode, past the start of its track
abbrev pub stands_past_bot : DriveView → Bool
stands_past_bot view =
    is_format view.mode && not (view.offset == 0) && is_stopped view.motion

-- a row refuses a command in a drive: it speaks of the command, and holds of the drive
abbrev pub refuses : DriveView → Command → Row → Bool
refuses view command row = row.covers command && row.holds view
