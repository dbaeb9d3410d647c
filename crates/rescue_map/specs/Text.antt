-- The text that a mask is written as (GNU ddrescue's mapfile).
use Rattle.std.specs.Prelude.{ℕ, zero, suc, ◌+◌, ◌-◌, ◌*◌, ◌/◌, ◌%◌, ◌==◌, Bool, List, [], ◌∷◌, ◌++◌, length, slice_index, codes}
use Rattle.std.specs.Prelude.{if◌then◌else◌, nat_lt}
use Rattle.std.specs.Int.{bit_at}
use Rattle.rescue_map.specs.declared.form.Block.{Block}

-- ---- runs

abbrev pub is_marked : List ℕ → (sector : ℕ) → Bool
is_marked mask sector = bit_at (slice_index mask (sector / 32)) (sector % 32) == 1

-- a sector as a block: `+` where it is in the mask, and else `-`
abbrev pub sector_block : (sector : ℕ) (marked : Bool) → Block
sector_block sector marked =
    record { start = 1024 * sector; size = 1024; mark = if marked then 43 else 45 }

-- the sectors from one up to another, as a block
abbrev pub run_block : (first end : ℕ) (marked : Bool) → Block
run_block first end marked =
    record { start = 1024 * first; size = 1024 * (end - first); mark = if marked then 43 else 45 }

-- a block and those behind it: it is one with the next where both have the same mark
abbrev pub joined : Block → List Block → List Block
joined block [] = block ∷ []
joined block (next ∷ blocks) =
    if block.mark == next.mark
    then record { start = block.start; size = block.size + next.size; mark = block.mark } ∷ blocks
    else block ∷ next ∷ blocks

-- the longest runs of so many sectors from this one on
abbrev pub runs_from : List ℕ → (sector left : ℕ) → List Block
runs_from mask sector zero = []
runs_from mask sector (suc left) =
    joined (sector_block sector (is_marked mask sector)) (runs_from mask (sector + 1) left)

-- a block for each longest run of sectors that are in the mask, and of sectors that aren't, in ascending order
abbrev pub runs_of : List ℕ → List Block
runs_of mask = runs_from mask 0 (32 * length mask)

-- ---- the text

-- a hexadecimal digit, in capitals
abbrev pub hex_digit : ℕ → ℕ
hex_digit n = if nat_lt n 10 then 48 + n else 55 + n

-- the last digits of a number, so many of them
abbrev pub hex_digits : (count : ℕ) → ℕ → List ℕ
hex_digits zero n = []
hex_digits (suc count) n = hex_digits count (n / 16) ++ hex_digit (n % 16) ∷ []

-- a number below 2^32 as printf writes it by `0x%08X`
unfoldable pub hex_text : ℕ → List ℕ
hex_text n = codes "0x" ++ hex_digits 8 n

-- a block's line, as printf writes it by `0x%08X  0x%08X  %c`
abbrev pub block_text : Block → List ℕ
block_text block = hex_text block.start ++ codes "  " ++ hex_text block.size ++ codes "  " ++ block.mark ∷ 10 ∷ []

abbrev pub blocks_text : List Block → List ℕ
blocks_text [] = []
blocks_text (block ∷ blocks) = block_text block ++ blocks_text blocks

-- the comments and the status line
unfoldable pub head_text : List ℕ
head_text =
    codes "# Mapfile. Created by tape_export\n"
    ++ codes "# current_pos  current_status  current_pass\n"
    ++ codes "0x00000000     +               1\n"
    ++ codes "#      pos        size  status\n"

-- the map of a mask
abbrev pub map_text : List ℕ → List ℕ
map_text mask = head_text ++ blocks_text (runs_of mask)
