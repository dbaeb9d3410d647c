-- What is printed of an ending (this project's own).
use Rattle.std.specs.Prelude.{ℕ, List, [], ◌++◌, codes, if◌then◌else◌}
use Rattle.dump_answers.specs.declared.ending.Ending.{Ending}
use Rattle.dump_spec.specs.Lines.{status_line, warning_line}
use Rattle.dump_spec.specs.declared.status.Status.{Status}
use Rattle.dump_spec.specs.declared.status.Status.TheVariants as status

abbrev pub usage_line : List ℕ
usage_line =
    codes "usage: tape_salvage [OPTIONS] DUMP info|list|check|volume N|segments A B; "
    ++ codes "A is at most B, --sure is for volume and segments, --whole for volume\n"

-- the line of a status; that of the usage is told of words that are no command
abbrev pub line_of : Status → List ℕ
line_of status.Usage = usage_line
line_of other = status_line other

abbrev pub ending_text : Ending → List ℕ
ending_text ending = (if ending.warned then warning_line else []) ++ line_of ending.status
