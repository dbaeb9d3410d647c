-- The form of a map's lines: the status line, and blocks that meet (GNU ddrescue's mapfile).
use Rattle.std.specs.Prelude.{ℕ, ◌+◌, ◌^◌, ◌==◌, Bool, true, false, List, Option, Some, None, length, if◌then◌else◌, ◌&&◌, ◌||◌, nat_lt}
use Rattle.std.specs.Prelude.{nat_le}
use Rattle.rescue_map.specs.declared.spelling.Word.{Word}
use Rattle.rescue_map.specs.declared.spelling.Word.TheVariants.{Missing, Number, Mark}
use Rattle.rescue_map.specs.declared.form.Block.{Block}
use Rattle.rescue_map.specs.declared.form.Expected.{Expected}
use Rattle.rescue_map.specs.declared.form.Expected.TheVariants as awaits
use Rattle.rescue_map.specs.declared.form.Said.{Said}
use Rattle.rescue_map.specs.declared.form.Said.TheVariants as said
use Rattle.rescue_map.specs.Lines.{word_at}

-- a number, a mark and, which may lack, a decimal number; it begins with no 0, so it is from 1 on
abbrev pub is_status : Word → Word → Word → Bool
is_status (Number at d) (Mark m) Missing = true
is_status (Number at d) (Mark m) (Number pass decimal) = decimal
is_status _ _ _ = false

-- blocks have the marks `?`, `*`, `/`, `-` and `+`
abbrev pub is_block_mark : ℕ → Bool
is_block_mark b = b == 63 || b == 42 || b == 47 || b == 45 || b == 43

-- a number, a number from 1 on and a mark; start plus size is a number too
abbrev pub block_form : Word → Word → Word → Option Block
block_form (Number start d) (Number size e) (Mark mark) =
    if nat_le 1 size && nat_lt (start + size) (2 ^ 63) && is_block_mark mark
    then Some (record { start = start; size = size; mark = mark })
    else None
block_form _ _ _ = None

-- the first block may start anywhere
abbrev pub first_block : Option Block → Said
first_block None = said.Bad
first_block (Some block) = said.Block block

-- a further one starts where the one before it ended
abbrev pub next_block : (end : ℕ) → Option Block → Said
next_block end None = said.Bad
next_block end (Some block) = if block.start == end then said.Block block else said.Bad

-- a line with words, where this is expected
abbrev pub words_say : Expected → Word → Word → Word → Said
words_say awaits.Status first second third =
    if is_status first second third then said.Status else said.Bad
words_say awaits.First first second third = first_block (block_form first second third)
words_say (awaits.Next end) first second third = next_block end (block_form first second third)

abbrev pub is_missing : Word → Bool
is_missing Missing = true
is_missing _ = false

-- a line without words says nothing
abbrev pub says : Expected → Word → Word → Word → Said
says expected first second third =
    if is_missing first then said.Nothing else words_say expected first second third

-- no line has a fourth word
abbrev pub line_says : Expected → List (List ℕ) → Said
line_says expected words =
    if nat_lt 3 (length words) then said.Bad
    else says expected (word_at words 0) (word_at words 1) (word_at words 2)
