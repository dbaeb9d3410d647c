-- The line of a hint (this project's own).
use Rattle.std.specs.Prelude.{ℕ, List, ◌++◌, chars, codes, decimal}
use Rattle.message_text.specs.Printable.{printed}
use Rattle.word_hints.specs.declared.fault.WordFault.{WordFault}
use Rattle.word_hints.specs.declared.fault.WordFault.TheVariants as faults
use Rattle.word_hints.specs.declared.hint.Hint.{Hint}
use Rattle.word_hints.specs.declared.hint.Hint.TheVariants as hints

-- a word as it can be printed, and in quotes
abbrev pub shown_word : List ℕ → List ℕ
shown_word word = printed 100 (chars word)

abbrev pub word_text : List ℕ → List ℕ
word_text word = codes "'" ++ shown_word word ++ codes "'"

abbrev pub fault_text : WordFault → List ℕ
fault_text faults.NoNumber = codes "a number must be decimal digits"
fault_text faults.LeadingZero = codes "a number must not begin with 0"
fault_text faults.TooManyDigits = codes "a number must have at most nine digits"
fault_text (faults.OutOfRange least greatest) = codes "expected a number from " ++ decimal least ++ codes " to " ++ decimal greatest
fault_text faults.NameLength = codes "a name or label must have 1 to 44 bytes"
fault_text faults.NameByte = codes "a name must be printable ASCII without a space at its ends"
fault_text faults.NoDate = codes "expected a date like 1996-02-29T12:00:00"
fault_text faults.OtherWord = codes "not one of the words that may stand there"

abbrev pub hint_words : Hint → List ℕ
hint_words hints.NoWord = codes "the command is missing; try 'tape --help'"
hint_words (hints.NoImage command) = codes "the image is missing; it comes first: tape IMAGE " ++ shown_word command.now
hint_words (hints.Swapped command image) =
    codes "the image comes first: tape " ++ shown_word image.now ++ codes " " ++ shown_word command.now
hint_words (hints.NoCommand word) = codes "there is no command " ++ word_text word.now ++ codes "; try 'tape --help'"
hint_words (hints.Form text) = codes "wrong number of arguments; use: tape IMAGE " ++ text.now
hint_words (hints.Word word fault) = word_text word.now ++ codes ": " ++ fault_text fault

abbrev pub hint_text : Hint → List ℕ
hint_text hint = codes "tape: " ++ hint_words hint ++ codes "\n"
