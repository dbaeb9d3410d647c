-- The lines of a recording (this project's own): times in microseconds, of pulses and of samples of the track-0 line.
use Rattle.std.specs.Prelude.{◌≡◌, ◌≢◌, ℕ, ◌+◌, ◌≤◌, Bool, true, false, List, [], ◌∷◌, ◌++◌, length, decimal}
use Rattle.pulse_dialogue.specs.declared.line.Line.{Line}
use Rattle.pulse_dialogue.specs.declared.line.Line.TheVariants.{Pulse, Sample}

-- ---- a line

abbrev pub time_of : Line → ℕ
time_of (Pulse time) = time
time_of (Sample time level) = time

-- a level as a line has it, `0` or `1`
abbrev pub level_digit : Bool → ℕ
level_digit false = 48
level_digit true = 49

-- a line without its newline: the time, and behind the time of a sample a space and the level
abbrev pub line_text : Line → List ℕ
line_text (Pulse time) = decimal time
line_text (Sample time level) = decimal time ++ 0x20 ∷ level_digit level ∷ []

-- a line as it stands in the input; it has at most 12 bytes
unfoldable pub line_bytes : Line → List ℕ
line_bytes line = line_text line ++ 0x0A ∷ []

-- a time has at most nine digits
abbrev pub greatest_time : ℕ
greatest_time = 999999999

-- the bytes before a newline are the line
pub record IsLine (text : List ℕ) (line : Line) : Type 0 where
  pub spelled : text ≡ line_text line
  pub nine : time_of line ≤ greatest_time

-- they are no line
abbrev pub IsNoLine : List ℕ → Type 0
IsNoLine text = (line : Line) → IsLine text line → ⊥

-- ---- the input

-- the most lines
abbrev pub most_lines : ℕ
most_lines = 1048576

-- what ends the lines: the end of the input, or a fault in the line with this number, counted from 1, with so many bytes
-- of the input before it
pub data Ending : Type 0 where
  AtEnd : Ending
  AtFault : ℕ → ℕ → Ending

-- a line may stand behind one of that time
pub record Follows (last : ℕ) (line : Line) : Type 0 where
  pub later : last ≤ time_of line
  pub nine : time_of line ≤ greatest_time

-- a line that may stand there begins the input
abbrev pub HasLine : (last : ℕ) → List ℕ → Type 0
HasLine last input = (line : Line) × ((rest : List ℕ) × ((input ≡ line_bytes line ++ rest) × Follows last line))

-- No line is read here, behind one of that time: some bytes are left, and no line that may stand there begins them, or
-- none may come any more.
pub record IsFault (last line : ℕ) (input : List ℕ) : Type 0 where
  pub some : input ≢ []
  pub no_line : line ≤ most_lines → ¬ (HasLine last input)

-- how the lines end, in front of the line with this number
abbrev pub LinesEnd : (last line place : ℕ) → List ℕ → Ending → Type 0
LinesEnd last line place input AtEnd = input ≡ []
LinesEnd last line place input (AtFault number before) = IsFault last line input × (number ≡ line) × (before ≡ place)

-- the input is these lines and then this ending, behind a line of that time, from the line with this number and the place
-- with so many bytes before it
abbrev pub HasLines : (last line place : ℕ) → List ℕ → List Line → Ending → Type 0
HasLines last line place input [] ending = LinesEnd last line place input ending
HasLines last line place input (first ∷ lines) ending =
    (line ≤ most_lines) × Follows last first
    × ((rest : List ℕ) × ((input ≡ line_bytes first ++ rest)
    × HasLines (time_of first) (line + 1) (place + length (line_bytes first)) rest lines ending))

-- the input is the recording of these lines, and ends so
abbrev pub IsRecording : List ℕ → List Line → Ending → Type 0
IsRecording input lines ending = HasLines 0 1 0 input lines ending
