-- What a gap does to the record: the state table, for a whole train at once (this project's profile of QIC-117).
use Rattle.std.specs.Prelude.{ℕ, ◌+◌, ◌-◌, ◌*◌, ◌^◌, ◌==◌, Bool, true, false, List, [], ◌∷◌, ◌++◌, Option, Some, None, if◌then◌else◌}
use Rattle.std.specs.Prelude.{nat_lt}
use Rattle.qic117_commands.specs.Commands.{number_of, command_at}
use Rattle.qic117_commands.specs.declared.command.Command.{Command}
use Rattle.qic117_commands.specs.declared.command.Command.TheVariants.{Reset, ReportNextBit, LogicalForward}
use Rattle.qic117_commands.specs.declared.error_code.ErrorCode.{ErrorCode}
use Rattle.qic117_commands.specs.declared.error_code.ErrorCode.TheVariants.{UndefinedCommand, IllegalInReport, LogicalEot}
use Rattle.qic117_commands.specs.Refusals.{first_refusal}
use Rattle.qic117_commands.specs.Digits.{digits}
use Rattle.drive_spec.specs.declared.deck.Deck.{Deck}
use Rattle.drive_spec.specs.declared.deck.Motion.{Motion}
use Rattle.drive_spec.specs.declared.deck.Motion.TheVariants.{Stopped, Streaming}
use Rattle.drive_spec.specs.declared.under_way.Parameter.{Parameter}
use Rattle.drive_spec.specs.declared.under_way.UnderWay.{UnderWay}
use Rattle.drive_spec.specs.declared.under_way.UnderWay.TheVariants.{Nothing, Report, Awaited}
use Rattle.drive_spec.specs.Deck.{is_streaming, view_of, limit}
use Rattle.drive_spec.specs.Effects.{error_word, accepted, given, reset, ticked, ends_early}
use Rattle.drive_spec.specs.Record.{Record}
use Rattle.drive_spec.specs.Reports.{report_width, report_word}
use Rattle.drive_spec.specs.Parameters.{parameter_trains, parameter_values, parameter_code}

-- an error: it replaces an older one, and ends a report under way or the wait for a parameter
abbrev pub latched : Record → ErrorCode → (command : ℕ) → Record
latched r code command = record r { deck = record r.deck { error = error_word code command }; under_way = Nothing }

-- Refused with the code of the first row that refuses, or accepted. A report is acknowledged by the level 1; its word's
-- digits and the final 1 are left to show.
abbrev pub by_refusal : Record → Command → Option ErrorCode → Record
by_refusal r command None =
    let reports : Bool = nat_lt 0 (report_width command) in
    let under_way : UnderWay =
    if reports then Report (digits (report_width command) (report_word command r.deck) ++ true ∷ [])
    else if nat_lt 0 (parameter_trains command) then Awaited record { command = command; taken = 0; value = 0 } else Nothing in
    record r { deck = accepted command r.deck; line = reports; under_way = under_way }
by_refusal r command (Some code) = latched r code (number_of command)

-- a number that no command has is refused
abbrev pub by_command : Record → (train : ℕ) → Option Command → Record
by_command r train None = latched r UndefinedCommand train
by_command r train (Some command) = by_refusal r command (first_refusal (view_of r.deck) command)

-- the command is carried out when its parameter is whole
abbrev pub given_more : Record → Parameter → Record
given_more r a =
    if a.taken == parameter_trains a.command then record r { deck = given a.command a.value r.deck; under_way = Nothing }
    else record r { under_way = Awaited a }

-- a value of a parameter, of which the first is the lowest; it is sent as the train of two pulses more
abbrev pub taking : Record → Parameter → (value : ℕ) → Record
taking r a value =
    if nat_lt value (parameter_values a.command)
    then given_more r (record a { taken = a.taken + 1; value = a.value + value * 16 ^ a.taken })
    else latched r (parameter_code a.command) (number_of a.command)

-- a report under way shows its next level, and is over after the last
abbrev pub showing : Record → List Bool → Record
showing r [] = record r { under_way = Nothing }
showing r (level ∷ []) = record r { line = level; under_way = Nothing }
showing r (level ∷ next ∷ rest) = record r { line = level; under_way = Report (next ∷ rest) }

-- a train of two pulses or more, by what is under way
abbrev pub heard : Record → (train : ℕ) → UnderWay → Record
heard r train (Awaited a) = taking r a (train - 2)
heard r train (Report levels) = if train == number_of ReportNextBit then showing r levels else latched r IllegalInReport train
heard r train Nothing = by_command r train (command_at train)

-- the tape has run on by a segment, and stops at the limit; an error that this latches ends what is under way
abbrev pub moved_on : Record → Record
moved_on r =
    let motion : Motion = if nat_lt (r.deck.offset + 1) (limit r.deck) then Streaming 0 else Stopped in
    let error : ℕ = if ends_early r.deck then error_word LogicalEot (number_of LogicalForward) else r.deck.error in
    let deck : Deck = record r.deck { offset = r.deck.offset + 1; motion = motion; error = error } in
    record r { deck = deck; under_way = if ends_early r.deck then Nothing else r.under_way }

-- after the seek's gap was counted: a gap after no pulse lets the tape run on, a train is heard, and none is counted then
abbrev pub after_tick : Record → (train : ℕ) → Record
after_tick r train =
    if train == 0 then (if is_streaming r.deck.motion then moved_on r else r)
    else if train == number_of Reset then record r { deck = reset r.deck; line = false; train = 0; under_way = Nothing }
    else heard (record r { line = false; train = 0 }) train r.under_way

-- a gap
abbrev pub after_gap : Record → Record
after_gap r = after_tick (record r { deck = ticked r.deck }) r.train

-- the drive after so many pulses and a gap
unfoldable pub pulsed_row : Record → (train : ℕ) → Record
pulsed_row r train = after_gap (record r { train = train })
