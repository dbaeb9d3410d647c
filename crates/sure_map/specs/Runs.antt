-- Runs of bytes that have one mark (this project's own).
use Rattle.std.specs.Prelude.{ℕ, ◌+◌, ◌==◌, ◌||◌, Bool, List, [], if◌then◌else◌}
use Rattle.rescue_map.specs.Text.{joined, block_text}
use Rattle.rescue_map.specs.declared.form.Block.{Block}
use Rattle.dump_spec.specs.Output.{mark_blocks}
use Rattle.dump_spec.specs.declared.mark.Mark.{Mark}
use Rattle.sure_map.specs.declared.run.Run.{Run}

-- the place behind a run's last byte
abbrev pub end_of : Run → ℕ
end_of run = run.start + run.size

abbrev pub block_of : Run → Block
block_of run = record { start = run.start; size = run.size; mark = run.mark }

-- bytes with a mark go on with a run
abbrev pub goes_on : Run → (mark : ℕ) → Bool
goes_on run mark = (run.size == 0) || (run.mark == mark)

-- the last run, where bytes with a mark come behind this one
abbrev pub with_bytes : Run → (mark count : ℕ) → Run
with_bytes run mark count =
    if goes_on run mark then record { start = run.start; size = run.size + count; mark = mark }
    else record { start = end_of run; size = count; mark = mark }

-- the line of a run that bytes with a mark end
abbrev pub line_before : Run → (mark : ℕ) → List ℕ
line_before run mark = if goes_on run mark then [] else block_text (block_of run)

-- the blocks from a run on, with the bytes behind it that have these marks
abbrev pub blocks_from : Run → List Mark → List Block
blocks_from run more =
    if run.size == 0 then mark_blocks run.start more else joined (block_of run) (mark_blocks (end_of run) more)
