-- What the text of a map is read as, and which bytes it says were rescued (GNU ddrescue's mapfile).
use Rattle.std.specs.Prelude.{◌≡◌, ◌⊎◌, ℕ, ◌+◌, ◌-◌, ◌*◌, ◌^◌, ◌≤◌, ◌<◌, List, [], ◌∷◌, ◌++◌, length, if◌then◌else◌, ◌||◌, nat_lt, nat_le}
use Rattle.rescue_map.specs.declared.form.Block.{Block}
use Rattle.rescue_map.specs.declared.form.Expected.{Expected}
use Rattle.rescue_map.specs.declared.form.Expected.TheVariants as awaits
use Rattle.rescue_map.specs.declared.form.Said.{Said}
use Rattle.rescue_map.specs.declared.form.Said.TheVariants as said
use Rattle.rescue_map.specs.Lines.{Line, lines_of, words_of}
use Rattle.rescue_map.specs.Form.{line_says}

-- the most lines
abbrev pub most_lines : ℕ
most_lines = 1048576

-- a line of so many bytes before its newline is at fault: no file is that long
abbrev pub endless : ℕ
endless = 2 ^ 64 - 1

-- what the lines so far came to: these blocks, what is expected next and the number of the next line, counted from 1; or
-- a fault in the line with this number
pub data State : Type 0 where
  Going : List Block → Expected → ℕ → State
  Failed : ℕ → State

-- behind a line that says this
abbrev pub behind_said : List Block → Expected → ℕ → Said → State
behind_said blocks expected line said.Nothing = Going blocks expected (line + 1)
behind_said blocks expected line said.Status = Going blocks awaits.First (line + 1)
behind_said blocks expected line (said.Block block) =
    Going (blocks ++ block ∷ []) (awaits.Next (block.start + block.size)) (line + 1)
behind_said blocks expected line said.Bad = Failed line

-- behind a line
abbrev pub behind_line : State → Line → State
behind_line (Failed line) text = Failed line
behind_line (Going blocks expected line) text =
    if nat_lt most_lines line || nat_le endless (length text.bytes) then Failed line
    else behind_said blocks expected line (line_says expected (words_of text))

abbrev pub behind_lines : State → List Line → State
behind_lines state [] = state
behind_lines state (line ∷ lines) = behind_lines (behind_line state line) lines

-- a text is the map of these blocks, or has its first fault in the line with this number
pub data Reading : Type 0 where
  Blocks : List Block → Reading
  Fault : ℕ → Reading

-- a map without a status line has its fault in the line behind its last one
abbrev pub behind_all : State → Reading
behind_all (Going blocks awaits.Status line) = Fault line
behind_all (Going blocks awaits.First line) = Blocks blocks
behind_all (Going blocks (awaits.Next end) line) = Blocks blocks
behind_all (Failed line) = Fault line

-- the one reading of a text
abbrev pub reading_of : List ℕ → Reading
reading_of text = behind_all (behind_lines (Going [] awaits.Status 1) (lines_of text))

-- ---- what was rescued

abbrev pub IsIn : Block → ℕ → Type 0
IsIn block byte = (block.start ≤ byte) × (byte < block.start + block.size)

-- the byte lies in a block with `+`
abbrev pub Rescued : List Block → ℕ → Type 0
Rescued [] byte = ⊥
Rescued (block ∷ blocks) byte = ((block.mark ≡ 43) × IsIn block byte) ⊎ Rescued blocks byte

-- all 1,024 bytes of the sector were rescued
abbrev pub IsWhole : List Block → (sector : ℕ) → Type 0
IsWhole blocks sector = (byte : ℕ) → 1024 * sector ≤ byte → byte < 1024 * sector + 1024 → Rescued blocks byte
