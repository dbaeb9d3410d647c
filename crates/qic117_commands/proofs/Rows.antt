-- The rows of refusals as the code lists them.
use Rattle.std.proofs.Common.{◌≡◌, Bool, true, false, cond, ◌&&◌, List, [], ◌∷◌, Option, Some, None, map, find, option_map, refl, ◌||◌}
use Rattle.std.proofs.Common.{is_some}
use Rattle.std.specs.List.{list_any}
use denote.Enum.Bare.{sameb}
use Rattle.qic117_commands.specs.contracts.view.Mode as mode
use Rattle.qic117_commands.specs.contracts.view.Motion as motion
use Rattle.qic117_commands.specs.declared.command.Command.{Command}
use Rattle.qic117_commands.specs.declared.error_code.ErrorCode.{ErrorCode}
use Rattle.qic117_commands.specs.declared.view.DriveView.{DriveView}
use Rattle.qic117_commands.specs.declared.view.Mode.{Mode}
use Rattle.qic117_commands.specs.declared.view.Mode.TheVariants.{Primary, Format, Verify}
use Rattle.qic117_commands.specs.declared.view.Motion.{Motion}
use Rattle.qic117_commands.specs.declared.view.Motion.TheVariants.{Stopped, Streaming, Seeking}
use Rattle.qic117_commands.specs.declared.command.Command.TheVariants.{Reset, ReportNextBit}
use Rattle.qic117_commands.specs.Refusals.{Row, refusal_rows, first_refusal, is_unsupported, is_diagnostic, needs_cartridge, waits_for_seek}
use Rattle.qic117_commands.specs.Refusals.{waits_for_stop, illegal_in_primary, illegal_in_format, illegal_in_verify, needs_writable}
use Rattle.qic117_commands.specs.Refusals.{needs_known_cartridge, needs_reference, needs_logical_bot}
use Rattle.qic117_commands.specs.RefusalTerms.{refuses}
use Rattle.qic117_commands.specs.Views.{is_streaming, is_seeking, is_primary, is_format, is_verify}

-- a row at a command and a drive
abbrev pub at : DriveView → Command → Row → ErrorCode × Bool × Bool
at view command row = (row.code, row.covers command, row.holds view)

-- the code of the first of the code's rows that covers and holds
abbrev pub first_code : List (ErrorCode × Bool × Bool) → Option ErrorCode
first_code rows = option_map (λ row. row.0) (find (λ row. row.1 && row.2) rows)

same_step : (view : DriveView) (command : Command) (b : Bool) (row : Row) (here : Option (ErrorCode × Bool × Bool)) (there : Option Row) →
    option_map (λ r. r.0) here ≡ option_map (λ r. r.code) there →
    option_map (λ r. r.0) (cond b (Some (at view command row)) here) ≡ option_map (λ r. r.code) (cond b (Some row) there)
same_step view command true row here there h = refl
same_step view command false row here there h = h

-- the code's rows give the code of the table's
pub first_code-map : (view : DriveView) (command : Command) (rows : List Row) → first_code (map (at view command) rows) ≡ option_map
    (λ row. row.code) (find (refuses view command) rows)
first_code-map view command [] = refl
first_code-map view command (row ∷ rows) =
    same_step view command (refuses view command row) row (find (λ r. r.1 && r.2) (map (at view command) rows))
    (find (refuses view command) rows) (first_code-map view command rows)

pub sameb-seeking : (m : Motion) → sameb motion.the_type m Seeking ≡ is_seeking m
sameb-seeking Stopped = refl
sameb-seeking Streaming = refl
sameb-seeking Seeking = refl

pub sameb-streaming : (m : Motion) → sameb motion.the_type m Streaming ≡ is_streaming m
sameb-streaming Stopped = refl
sameb-streaming Streaming = refl
sameb-streaming Seeking = refl

pub sameb-primary : (m : Mode) → sameb mode.the_type m Primary ≡ is_primary m
sameb-primary Primary = refl
sameb-primary Format = refl
sameb-primary Verify = refl

pub sameb-format : (m : Mode) → sameb mode.the_type m Format ≡ is_format m
sameb-format Primary = refl
sameb-format Format = refl
sameb-format Verify = refl

pub sameb-verify : (m : Mode) → sameb mode.the_type m Verify ≡ is_verify m
sameb-verify Primary = refl
sameb-verify Format = refl
sameb-verify Verify = refl

-- the two commands that no row covers
pub first_refusal-reset : (view : DriveView) → first_refusal view Reset ≡ None
unfolding first_refusal is_unsupported is_diagnostic needs_cartridge waits_for_seek waits_for_stop illegal_in_primary illegal_in_format
    illegal_in_verify needs_writable needs_known_cartridge needs_reference needs_logical_bot
first_refusal-reset view = refl

pub first_refusal-report_next_bit : (view : DriveView) → first_refusal view ReportNextBit ≡ None
unfolding first_refusal is_unsupported is_diagnostic needs_cartridge waits_for_seek waits_for_stop illegal_in_primary illegal_in_format
    illegal_in_verify needs_writable needs_known_cartridge needs_reference needs_logical_bot
first_refusal-report_next_bit view = refl

is_some-step : (b : Bool) (row : Row) (rest : Option Row) (others : Bool) → is_some (option_map (λ r. r.code) rest) ≡ others →
    is_some (option_map (λ r. r.code) (cond b (Some row) rest)) ≡ (b || others)
is_some-step true row rest others h = refl
is_some-step false row rest others h = h

is_some-rows : (view : DriveView) (command : Command) (rows : List Row) →
    is_some (option_map (λ r. r.code) (find (refuses view command) rows)) ≡ list_any (refuses view command) rows
is_some-rows view command [] = refl
is_some-rows view command (row ∷ rows) =
    is_some-step (refuses view command row) row (find (refuses view command) rows) (list_any (refuses view command) rows)
    (is_some-rows view command rows)

-- a code comes exactly where some row refuses
pub is_some-first_refusal : (view : DriveView) (command : Command) → is_some (first_refusal view command) ≡ list_any
    (refuses view command) refusal_rows
unfolding first_refusal
is_some-first_refusal view command = is_some-rows view command refusal_rows
