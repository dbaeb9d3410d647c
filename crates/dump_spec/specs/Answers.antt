-- What a run over opened files answers, in the order of its tests: the output, the map of the output, the warning and the
-- status, where nothing of the outside fails (this project's own).
use Rattle.std.specs.Prelude.{ℕ, ◌+◌, ◌-◌, ◌≡◌, ◌&&◌, ◌==◌, nat_lt, not, Bool, false, List, [], ◌++◌, length, count_by, if◌then◌else◌}
use Rattle.std.specs.Prelude.{Option, Some, None, slice_get, unwrap_or, MatchBool}
use Rattle.std.specs.Option.{option_map, option_or, option_and_then}
use Rattle.cartridge_spec.specs.Header.{HeaderFault}
use Rattle.rescue_map.specs.declared.form.Block.{Block}
use Rattle.rescue_map.specs.Map as maps
use Rattle.dump_spec.specs.Check.{Finding, FindInTurn, looked_at, is_weak, is_unread, check_text}
use Rattle.dump_spec.specs.Dump.{Dump, IsRescuedBy}
use Rattle.dump_spec.specs.Given.{Given}
use Rattle.dump_spec.specs.Header.{header_refusal, is_wide}
use Rattle.dump_spec.specs.HeaderPlace.{FoundHeader, IsHeader}
use Rattle.dump_spec.specs.Lines.{info_text, list_text, bad_count, status_line, warning_line}
use Rattle.dump_spec.specs.Lists.{Reading, Listed, Fault, listed_in, missing_reading, bad_reading, Span, BadSectors}
use Rattle.dump_spec.specs.Masks.{dump_mask}
use Rattle.dump_spec.specs.Output.{Output, Give, output_of, all_are_sure, marked_bytes, sure_text}
use Rattle.dump_spec.specs.Pieces.{Layout, first_segment, pieces, most_bytes}
use Rattle.dump_spec.specs.Table.{FoundTable, IsTable}
use Rattle.dump_spec.specs.Volumes.{Volume, volumes_of, has_bad_range, carried, carried_between, length_of}
use Rattle.dump_spec.specs.declared.asked.Asked.{Asked}
use Rattle.dump_spec.specs.declared.asked.Command.{Command}
use Rattle.dump_spec.specs.declared.asked.Command.TheVariants as commands
use Rattle.dump_spec.specs.declared.mark.Mark.{Mark}
use Rattle.dump_spec.specs.declared.mark.Mark.TheVariants.{Sure, Unchecked, Filled}
use Rattle.dump_spec.specs.declared.status.InputText.{InputText}
use Rattle.dump_spec.specs.declared.status.InputText.TheVariants as texts
use Rattle.dump_spec.specs.declared.status.Status.{Status}
use Rattle.dump_spec.specs.declared.status.Status.TheVariants as status

-- what the files hold that the words name: the dump, and those of the options that are given
pub record Inputs : Type 0 where
  pub dump : List ℕ
  pub map : Option (List ℕ)
  pub header : Option (List ℕ)
  pub missing : Option (List ℕ)
  pub bad : Option (List ℕ)
  pub sure : Option (List ℕ)

-- how a run ends, whether the warning of a table that is not sure comes first, what is printed, and what is written into the
-- file of the sure map, where one is named
pub record Answer : Type 0 where
  pub status : Status
  pub warned : Bool
  pub printed : List ℕ
  pub sure : List ℕ

-- nothing is printed or written
abbrev pub refused : (warned : Bool) → Status → Answer
refused warned why = record { status = why; warned = warned; printed = []; sure = [] }

-- standard error
abbrev pub error_lines : Answer → List ℕ
error_lines answer = (if answer.warned then warning_line else []) ++ status_line answer.status

-- ---- what is read of the texts

-- the blocks of a map, if there is one; none of a text at fault
abbrev pub blocks_in : maps.Reading → List Block
blocks_in (maps.Blocks blocks) = blocks
blocks_in (maps.Fault line) = []

abbrev pub map_blocks : Option (List ℕ) → Option (List Block)
map_blocks text = option_map (λ t. blocks_in (maps.reading_of t)) text

abbrev pub missing_spans : Option (List ℕ) → List Span
missing_spans None = []
missing_spans (Some text) = listed_in (missing_reading text)

abbrev pub listed_bad : Option (List ℕ) → List BadSectors
listed_bad None = []
listed_bad (Some text) = listed_in (bad_reading text)

-- ---- the refusals in front of the header

abbrev pub sure_refusal : Option (List ℕ) → Option Status
sure_refusal None = None
sure_refusal (Some bytes) = if length bytes == 0 then None else Some status.SureNotEmpty

abbrev pub map_fault : maps.Reading → Option Status
map_fault (maps.Blocks blocks) = None
map_fault (maps.Fault line) = Some (status.TextFault texts.Map line)

abbrev pub map_refusal : Option (List ℕ) → Option Status
map_refusal None = None
map_refusal (Some text) = map_fault (maps.reading_of text)

abbrev pub list_fault : {A : Type 0} → InputText → Reading A → Option Status
list_fault which (Listed names) = None
list_fault which (Fault line) = Some (status.TextFault which line)

abbrev pub missing_refusal : Option (List ℕ) → Option Status
missing_refusal None = None
missing_refusal (Some text) = list_fault texts.Missing (missing_reading text)

abbrev pub bad_refusal : Option (List ℕ) → Option Status
bad_refusal None = None
bad_refusal (Some text) = list_fault texts.Bad (bad_reading text)

-- the segment of the first piece
abbrev pub first_of : Inputs → Asked → ℕ
first_of inputs asked = first_segment asked.form asked.first inputs.dump

abbrev pub length_refusal : Inputs → Asked → Option Status
length_refusal inputs asked =
    if nat_lt (most_bytes asked.form (first_of inputs asked) (missing_spans inputs.missing)) (length inputs.dump)
    then Some (status.TooLong (length inputs.dump)) else None

-- the sure map is not empty; a fault of the map, of the missing segments, of the bad sectors; too many bytes
abbrev pub early_refusal : Inputs → Asked → Option Status
early_refusal inputs asked =
    option_or (sure_refusal inputs.sure) (option_or (map_refusal inputs.map)
    (option_or (missing_refusal inputs.missing) (option_or (bad_refusal inputs.bad) (length_refusal inputs asked))))

-- ---- the dump as it is read

-- the dump, where each piece of it lies, whether sectors of zero bytes may be lost ones, and the header
pub record Known : Type 0 where
  pub dump : Dump
  pub layout : Layout
  pub zero_lost : Bool
  pub header : Option FoundHeader

abbrev pub header_area : Known → Option (List (List ℕ))
header_area known = option_map (λ header. header.area) known.header

-- it is that of the files and the words
pub record IsKnown (inputs : Inputs) (asked : Asked) (known : Known) : Type 0 where
  pub bytes : known.dump.bytes ≡ inputs.dump
  pub rescued : IsRescuedBy (map_blocks inputs.map) known.dump
  pub form : known.layout.form ≡ asked.form
  pub first : known.layout.first ≡ first_of inputs asked
  pub missing : known.layout.missing ≡ missing_spans inputs.missing
  pub masks : (segment : ℕ) → known.layout.masks segment ≡ dump_mask (header_area known) (listed_bad inputs.bad) segment
  pub zero_lost : known.zero_lost ≡ asked.zero_lost
  pub header : IsHeader inputs.header known.dump known.layout known.zero_lost known.header

-- a field of the header is refused
abbrev pub foreign_status : HeaderFault → Status
foreign_status fault = status.Foreign fault.field fault.value

abbrev pub foreign_in : Known → Option Status
foreign_in known = option_map foreign_status (option_and_then header_refusal (header_area known))

-- ---- output of bytes

-- all bytes are sure, or how many have each mark
abbrev pub output_status : List Mark → Status
output_status marks =
    if all_are_sure marks then status.Done
    else status.NotAllSure (marked_bytes Sure marks) (marked_bytes Unchecked marks) (marked_bytes Filled marks)

abbrev pub output_answer : (warned : Bool) → Output → Answer
output_answer warned output =
    record { status = output_status output.marks; warned = warned; printed = output.bytes; sure = sure_text output.marks }

-- the first bytes, so many, of what the segments from one to another give
abbrev pub PutsOut : Known → (warned : Bool) → (first last size : ℕ) → Answer → Type 0
PutsOut known warned first last size answer =
    (given : List Given) × Give known.dump known.layout known.zero_lost first last given
    × (answer ≡ output_answer warned (output_of size given))

-- ---- the commands

-- a text
abbrev pub printed_answer : (warned : Bool) → (text : List ℕ) → Answer
printed_answer warned text = record { status = status.Done; warned = warned; printed = text; sure = [] }

-- the segments of the volumes are counted in their slots
abbrev pub counts_segments : Known → Bool
counts_segments known = unwrap_or (option_map is_wide (header_area known)) false

abbrev pub volumes_in : Known → FoundTable → List Volume
volumes_in known table = volumes_of (counts_segments known) table.segment table.area

abbrev pub warns : Option FoundTable → Bool
warns None = false
warns (Some table) = not table.sure

abbrev pub volume_count : Known → Option FoundTable → ℕ
volume_count known None = 0
volume_count known (Some table) = length (volumes_in known table)

abbrev pub info_answer : Known → Option FoundTable → Answer
info_answer known table =
    let segments : List ℕ = pieces known.dump known.layout in
    printed_answer (warns table)
    (info_text known.layout.form (length known.dump.bytes) (length segments) known.header (bad_count known.layout.masks segments)
    (volume_count known table))

abbrev pub list_answer : Known → Option FoundTable → Answer
list_answer known None = refused false status.NoHeader
list_answer known (Some table) =
    printed_answer (not table.sure) (list_text known.layout.masks table.segment (volumes_in known table))

-- a volume of a table: refused where its range is bad; else its length of bytes, or all that it carries
abbrev pub GivesVolume : Known → FoundTable → (number : ℕ) → (whole : Bool) → Option Volume → Answer → Type 0
GivesVolume known table number whole None answer =
    answer ≡ refused (not table.sure) (status.NoVolume number (length (volumes_in known table)))
GivesVolume known table number whole (Some volume) answer =
    MatchBool (has_bad_range table.segment volume)
    (answer ≡ refused (not table.sure) (status.BadRange number))
    (PutsOut known (not table.sure) volume.entry.start volume.entry.end
    (if whole then carried known.layout.masks volume else length_of known.layout.masks table.segment volume) answer)

-- the volume with a number from 1 on
abbrev pub numbered : List Volume → (number : ℕ) → Option Volume
numbered volumes number = if number == 0 then None else slice_get volumes (number - 1)

abbrev pub AnswersVolume : Known → (number : ℕ) → (whole : Bool) → Option FoundTable → Answer → Type 0
AnswersVolume known number whole None answer = answer ≡ refused false status.NoHeader
AnswersVolume known number whole (Some table) answer =
    GivesVolume known table number whole (numbered (volumes_in known table) number) answer

abbrev pub check_status : List Finding → Status
check_status findings =
    if (count_by is_weak findings == 0) && (count_by is_unread findings == 0) then status.Done
    else status.Damaged (count_by is_weak findings) (count_by is_unread findings)

abbrev pub check_answer : (segments : List ℕ) → List Finding → Answer
check_answer segments findings =
    record { status = check_status findings; warned = false; printed = check_text segments findings; sure = [] }

-- the table of a dump that was read
abbrev pub TableIs : Known → Option FoundTable → Type 0
TableIs known table = IsTable (header_area known) known.dump known.layout known.zero_lost table

abbrev pub AnswersTo : Known → Command → Answer → Type 0
AnswersTo known commands.Info answer = (table : Option FoundTable) × TableIs known table × (answer ≡ info_answer known table)
AnswersTo known commands.List answer = (table : Option FoundTable) × TableIs known table × (answer ≡ list_answer known table)
AnswersTo known commands.Check answer =
    let segments : List ℕ = looked_at known.dump known.layout in
    (findings : List Finding) × FindInTurn known.dump known.layout known.zero_lost segments findings
    × (answer ≡ check_answer segments findings)
AnswersTo known (commands.Volume number whole) answer =
    (table : Option FoundTable) × TableIs known table × AnswersVolume known number whole table answer
AnswersTo known (commands.Segments first last) answer =
    PutsOut known false first last (carried_between known.layout.masks first last) answer

-- ---- all of it

-- behind the header, which may be refused
abbrev pub AnswersBehind : Known → Command → Option Status → Answer → Type 0
AnswersBehind known command (Some why) answer = answer ≡ refused false why
AnswersBehind known command None answer = AnswersTo known command answer

-- the dump is read, and answered of
abbrev pub AnswersRead : Inputs → Asked → Answer → Type 0
AnswersRead inputs asked answer =
    (known : Known) × IsKnown inputs asked known × AnswersBehind known asked.command (foreign_in known) answer

abbrev pub AnswersUnless : Inputs → Asked → Option Status → Answer → Type 0
AnswersUnless inputs asked (Some why) answer = answer ≡ refused false why
AnswersUnless inputs asked None answer = AnswersRead inputs asked answer

-- what a run over these files answers
abbrev pub Answers : Inputs → Asked → Answer → Type 0
Answers inputs asked answer = AnswersUnless inputs asked (early_refusal inputs asked) answer
