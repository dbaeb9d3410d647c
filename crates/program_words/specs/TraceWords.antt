-- The words of the command line (this project's own), by what the contract of `clap` calls the words of a simple command.
use Rattle.std.specs.Prelude.{◌≡◌, ◌≢◌, ℕ, ◌≤◌, true, List, [], ◌∷◌, Some, codes, pos}
use Rattle.std.specs.Str.Parse.{digits_value, without_leading_plus}
use Rattle.clap.specs.Walk.{Rule, Text, one_of}
use Rattle.clap.specs.Simple.{App, new_app, new_rule, with_rule, matches_of}
use Rattle.clap.specs.Takes.{takes}
use Rattle.clap.specs.Faults.{fault_of}
use Rattle.clap.specs.declared.builder.action.ArgAction.TheVariants.{Set}
use Rattle.clap.specs.declared.builder.value_parser.ValueParser.TheVariants.{Signed}
use Rattle.program_words.specs.declared.gap.BadGap.{BadGap}
use Rattle.program_words.specs.declared.gap.BadGap.TheVariants.{Refused, NoMemory}

-- the option `--gap`: a number from 1 to 1,000,000, and 1000 where it isn't given
abbrev pub gap_rule : Rule
gap_rule = record (new_rule (codes "gap")) {
  long = Some (codes "gap");
  action = Some Set;
  defaults = codes "1000" ∷ [];
  parser = Some (Signed (pos 1) (pos 1000000));
}

-- the command, with this option alone
abbrev pub program_name : Text
program_name = codes "pulse_trace"

abbrev pub trace_command : App
trace_command = with_rule (new_app program_name) gap_rule

-- No step of the parse of these words fails, and its matches have this gap, in decimal digits.
pub record HasGap (words : List Text) (gap : ℕ) : Type 0 where
  pub taken : fault_of trace_command words ≡ []
  pub text : Text
  pub given : one_of (codes "gap") (matches_of trace_command words) ≡ Some text
  pub number : gap ≡ digits_value 10 (without_leading_plus text)
  pub least : 1 ≤ gap
  pub most : gap ≤ 1000000

-- A step of the parse of these words fails, as where they ask for help, and they are not among those that the command
-- takes.
pub record IsRefused (words : List Text) : Type 0 where
  pub fault : fault_of trace_command words ≢ []
  pub not_taken : takes trace_command words ≢ true

-- words are refused; want of memory says nothing of them
abbrev pub IsRefusedBy : List Text → BadGap → Type 0
IsRefusedBy words Refused = IsRefused words
IsRefusedBy words NoMemory = Unit {0}
