-- What was said on the cable. The commands are QIC-117's, and so is the form of a report; the words are this project's
-- own.
use Rattle.std.specs.Prelude.{ℕ, ◌+◌, ◌-◌, ◌/◌, ◌%◌, ◌==◌, ◌≤◌, Bool, true, false, List, [], ◌∷◌, ◌++◌, Option, Some, None, length}
use Rattle.std.specs.Prelude.{if◌then◌else◌, nat_lt, min, codes, decimal}
use Rattle.qic117_commands.specs.declared.command.Command.{Command}
use Rattle.qic117_commands.specs.declared.command.Command.TheVariants as command
use Rattle.qic117_commands.specs.Commands.{command_at}
use Rattle.qic117_commands.specs.Names.{name_of}
use Rattle.qic117_commands.specs.Report.{Collected, IsWidth, word_of}
use Rattle.pulse_dialogue.specs.declared.context.Context.{Context}
use Rattle.pulse_dialogue.specs.declared.context.Context.TheVariants.{Nothing, Parameter, Acknowledgement, Report}
use Rattle.pulse_dialogue.specs.declared.line.Line.{Line}
use Rattle.pulse_dialogue.specs.Lines.{Ending}
use Rattle.pulse_dialogue.specs.Events.{Event, Train, Sampled, events_of, ended_by}

-- ---- trains

-- the words for a train, and the context behind it
pub record Said : Type 0 where
  pub text : List ℕ
  pub context : Context

-- what follows a command (QIC-117): the trains of its parameter, or the acknowledgement of a report of 8 or 16 bits
abbrev pub begun_by : Command → Context
begun_by command.SeekTrack = Parameter 1
begun_by command.SkipReverse = Parameter 2
begun_by command.SkipForward = Parameter 2
begun_by command.SetFormatSegments = Parameter 3
begun_by command.ReportStatus = Acknowledgement 8
begun_by command.ReportConfiguration = Acknowledgement 8
begun_by command.ReportRom = Acknowledgement 8
begun_by command.ReportTapeStatus = Acknowledgement 8
begun_by command.ReportError = Acknowledgement 16
begun_by command.ReportVendor = Acknowledgement 16
begun_by command.ReportFormatSegments = Acknowledgement 16
begun_by _ = Nothing

-- a command of its own, or a number that no command has
abbrev pub said_of : Option Command → Said
said_of None = record { text = codes "undefined"; context = Nothing }
said_of (Some c) = record { text = name_of c; context = begun_by c }

-- an acknowledgement or a level that is awaited is given up where a train comes
abbrev pub given_up : Context → Context
given_up Nothing = Nothing
given_up (Parameter trains) = Parameter trains
given_up (Acknowledgement width) = Nothing
given_up (Report collector true) = Nothing
given_up (Report collector false) = Report collector false

-- a train of a parameter less is awaited
abbrev pub one_fewer : ℕ → Context
one_fewer trains = if nat_lt 1 trains then Parameter (trains - 1) else Nothing

-- a train of any number but 1, where nothing that it gives up is awaited
abbrev pub said_in : Context → (count : ℕ) → Said
said_in (Parameter trains) count =
    record { text = codes "value " ++ decimal (count - 2); context = one_fewer trains }
said_in (Report collector awaits) count =
    if count == 2 then record { text = codes "next bit"; context = Report collector true }
    else record { text = codes "refused in report"; context = Nothing }
said_in Nothing count = said_of (command_at count)
said_in (Acknowledgement width) count = said_of (command_at count)

-- A train: a reset, whatever was said before; a value; a report's next bit, or what breaks the report off; or a command.
abbrev pub said_by_train : Context → (count : ℕ) → Said
said_by_train context count =
    if count == 1 then record { text = codes "Reset"; context = Nothing }
    else said_in (given_up context) count

-- ---- samples

-- the words for a sample, if it has any, and the context behind it
pub record Heard : Type 0 where
  pub text : Option (List ℕ)
  pub context : Context

abbrev pub hex_digit : ℕ → ℕ
hex_digit n = if nat_lt (n % 16) 10 then 48 + n % 16 else 55 + n % 16

-- four hexadecimal digits, in capitals
abbrev pub hex_digits : ℕ → List ℕ
hex_digits n = hex_digit (n / 4096) ∷ hex_digit (n / 256) ∷ hex_digit (n / 16) ∷ hex_digit n ∷ []

-- the end of a report: its word (QIC-117), where the last level is the final 1
abbrev pub report_text : Option ℕ → List ℕ
report_text (Some word) = codes "word 0x" ++ hex_digits word
report_text None = codes "no final bit"

-- behind a level of a report: it is over once it has a level more than its width
abbrev pub heard_in_report : Collected → Heard
heard_in_report collected =
    if nat_lt collected.width (length collected.levels)
    then record { text = Some (report_text (word_of collected.width collected.levels)); context = Nothing }
    else record { text = None; context = Report collected false }

abbrev pub with_level : Collected → Bool → Collected
with_level collected level = record collected { levels = collected.levels ++ level ∷ [] }

-- a sample: a report's acknowledgement, a level that is awaited, or one that nothing awaits
abbrev pub heard_level : Context → (level : Bool) → Heard
heard_level Nothing level = record { text = None; context = Nothing }
heard_level (Parameter trains) level = record { text = None; context = Parameter trains }
heard_level (Acknowledgement width) true =
    record { text = None; context = Report (record { width = width; levels = [] }) false }
heard_level (Acknowledgement width) false =
    record { text = Some (codes "not acknowledged"); context = Nothing }
heard_level (Report collector true) level = heard_in_report (with_level collector level)
heard_level (Report collector false) level = record { text = None; context = Report collector false }

-- ---- the dialogue

-- a count that is printed and looked up is at most 255
abbrev pub counted : ℕ → ℕ
counted count = min count 255

-- `TIME COUNT TEXT`
abbrev pub train_line : (first count : ℕ) → (text : List ℕ) → List ℕ
train_line first count text =
    decimal first ++ codes " " ++ decimal count ++ codes " " ++ text ++ codes "\n"

-- `TIME TEXT`, where there is a text
abbrev pub sample_line : (time : ℕ) → (text : Option (List ℕ)) → List ℕ
sample_line time None = []
sample_line time (Some text) = decimal time ++ codes " " ++ text ++ codes "\n"

-- what trains and samples say, from a context on
abbrev pub told_from : Context → List Event → List ℕ
told_from context [] = []
told_from context (Train first count ∷ events) =
    train_line first (counted count) (said_by_train context (counted count)).text
    ++ told_from (said_by_train context (counted count)).context events
told_from context (Sampled time level ∷ events) =
    sample_line time (heard_level context level).text
    ++ told_from (heard_level context level).context events

-- the dialogue of a recording with this gap
abbrev pub dialogue : (gap : ℕ) → List Line → Ending → List ℕ
dialogue gap lines ending = told_from Nothing (ended_by ending (events_of gap lines))

-- ---- what holds of each context

abbrev pub IsSound : Context → Type 0
IsSound Nothing = Unit {0}
IsSound (Parameter trains) = Unit {0}
IsSound (Acknowledgement width) = IsWidth width
IsSound (Report collector awaits) = length collector.levels ≤ collector.width
