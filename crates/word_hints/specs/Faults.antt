-- What is wrong with a word (this project's own).
use Rattle.std.specs.Prelude.{◌≡◌, ◌≢◌, ℕ, ◌<◌, ◌≤◌, ◌⊎◌, List, All, length, slice_index}
use Rattle.command_spec.specs.Command.{IsNumber}
use Rattle.word_hints.specs.declared.fault.WordFault.{WordFault}
use Rattle.word_hints.specs.declared.fault.WordFault.TheVariants as faults

-- a decimal digit
abbrev pub IsDigit : (byte : ℕ) → Type 0
IsDigit byte = (48 ≤ byte) × (byte ≤ 57)

-- decimal digits alone, and some
abbrev pub AreDigits : List ℕ → Type 0
AreDigits word = (1 ≤ length word) × All IsDigit word

-- digits with a zero in front of others; more than nine of them, without that
abbrev pub HasLeadingZero : List ℕ → Type 0
HasLeadingZero word = AreDigits word × (2 ≤ length word) × (slice_index word 0 ≡ 48)

abbrev pub HasTooManyDigits : List ℕ → Type 0
HasTooManyDigits word = AreDigits word × (10 ≤ length word) × (slice_index word 0 ≢ 48)

-- what is wrong in the writing of a word that is no number
abbrev pub IsWrittenFault : List ℕ → WordFault → Type 0
IsWrittenFault word faults.NoNumber = ¬ (AreDigits word)
IsWrittenFault word faults.LeadingZero = HasLeadingZero word
IsWrittenFault word faults.TooManyDigits = HasTooManyDigits word
IsWrittenFault word fault = ⊥

-- what is wrong with a word that is no number from the first to the second
abbrev pub IsNumberFault : List ℕ → (least greatest : ℕ) → WordFault → Type 0
IsNumberFault word least greatest (faults.OutOfRange from to) =
    (from ≡ least) × (to ≡ greatest) × ((n : ℕ) × IsNumber word n × ((n < least) ⊎ (greatest < n)))
IsNumberFault word least greatest fault = IsWrittenFault word fault

-- what is wrong with a word that is no name
abbrev pub IsNameFault : List ℕ → WordFault → Type 0
IsNameFault word faults.NameLength = (length word ≡ 0) ⊎ (44 < length word)
IsNameFault word faults.NameByte = (1 ≤ length word) × (length word ≤ 44)
IsNameFault word fault = ⊥
