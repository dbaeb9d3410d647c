-- What formatting did, by its answer (this project's profile).
use Rattle.std.specs.Prelude.{◌≡◌, ◌⊎◌, ℕ, ◌*◌, ◌<◌, ◌++◌, List, Result, Ok, Err}
use Rattle.qic_base.specs.Step.{Step}
use Rattle.qic_base.specs.Tape.{Meaning, Done, Broke}
use Rattle.qic_base.specs.TapeCalls.{Does, Tells}
use Rattle.cartridge_spec.specs.Shape.{marked_sectors}
use Rattle.cartridge_spec.specs.Formatting.{MarksDefects, clearing_steps, copy_writes, format_steps, HasNoDefectInFront}
use Rattle.cartridge_spec.specs.Formatting.{IsFirstDefectInFront}
use Rattle.cartridge_spec.specs.Says.{with_parity}
use Rattle.cartridge_laws.specs.HeaderTerms.{IsFreshArea}
use Rattle.formatter.specs.declared.fault.FormatFault.{FormatFault}
use Rattle.formatter.specs.declared.fault.FormatFault.TheVariants.{Protected, DefectInFront, Tape}
use Rattle.formatter.specs.declared.formatting.FormatReport.{FormatReport}

-- ---- the whole

-- where the tape tells its cartridge, the words mark just its defects, and none lies in the segments 0 to 2
abbrev pub MarksFormattable : {T : Type 0} (m : Meaning T) (tape : T) (words : List ℕ) → Type 0
MarksFormattable m tape words = Tells m tape (λ c. MarksDefects c words × HasNoDefectInFront c)

-- all steps were done, with a header that has this label, this date and the words of this map
pub record HasFormatted {T : Type 0} (m : Meaning T) (n : ℕ) (label : List ℕ) (date : ℕ) (old new : T) (words : List ℕ)
    (report : FormatReport) : Type 0 where
  pub area : List (List ℕ)
  pub fresh : IsFreshArea n label date words area
  pub did : Done m old new (format_steps n area)
  pub marks : MarksFormattable m old words
  pub segments : report.segments ≡ 28 * n
  pub bad : report.bad ≡ marked_sectors words

-- the segments were formatted, and the first of the segments 0 to 2 that has a defect was found
pub record HasRefused {T : Type 0} (m : Meaning T) (n : ℕ) (old new : T) (segment : ℕ) : Type 0 where
  pub in_front : segment < 3
  pub did : Done m old new (clearing_steps n)
  pub first : Tells m old (λ c. IsFirstDefectInFront c segment)

-- the tape failed when the header copies were to be written
pub record HasBrokenOff {T : Type 0} (m : Meaning T) (n : ℕ) (label : List ℕ) (date : ℕ) (old new : T) (words : List ℕ) : Type 0 where
  pub area : List (List ℕ)
  pub fresh : IsFreshArea n label date words area
  pub broke : Broke m old new (format_steps n area)
  pub marks : MarksFormattable m old words

-- for a cartridge of n segments per track, with the words of the map that was made
abbrev pub Formats : {T : Type 0} (m : Meaning T) (n : ℕ) (label : List ℕ) (date : ℕ) (old new : T) (words : List ℕ) →
    Result FormatReport FormatFault → Type 0
Formats m n label date old new words (Ok report) = HasFormatted m n label date old new words report
Formats m n label date old new words (Err Protected) = new ≡ old
Formats m n label date old new words (Err (DefectInFront segment)) = HasRefused m n old new segment
Formats m n label date old new words (Err Tape) =
    Broke m old new (clearing_steps n) ⊎ HasBrokenOff m n label date old new words

-- ---- its parts

-- the reference bursts and all segments
abbrev pub Clears : {T : Type 0} (m : Meaning T) (n : ℕ) (old new : T) → Result (Unit {0}) FormatFault → Type 0
Clears m n old new (Ok done) = Done m old new (clearing_steps n)
Clears m n old new (Err Protected) = new ≡ old
Clears m n old new (Err (DefectInFront segment)) = ⊥
Clears m n old new (Err Tape) = Broke m old new (clearing_steps n)

-- both header copies, copy 0 first
abbrev pub header_writes : (area : List (List ℕ)) → List Step
header_writes area = copy_writes 0 (with_parity area) ++ copy_writes 1 (with_parity area)

-- they were written with some header data that have this label, this date and these words
pub record WritesHeader {T E : Type 0} (m : Meaning T) (n : ℕ) (label : List ℕ) (date : ℕ) (words : List ℕ) (old new : T)
    (result : Result (Unit {0}) E) : Type 0 where
  pub area : List (List ℕ)
  pub fresh : IsFreshArea n label date words area
  pub did : Does m old new (header_writes area) result
