-- What is written of the map of an output, while its bytes come (this project's own).
use Rattle.std.specs.Prelude.{ℕ, ◌≡◌, ◌==◌, List, [], ◌++◌, length, if◌then◌else◌}
use Rattle.rescue_map.specs.Text.{block_text, blocks_text}
use Rattle.dump_spec.specs.Output.{mark_byte, marked_bytes, sure_text}
use Rattle.dump_spec.specs.declared.mark.Mark.{Mark}
use Rattle.sure_map.specs.Counts.{counted}
use Rattle.sure_map.specs.Runs.{end_of, block_of, line_before, blocks_from}
use Rattle.sure_map.specs.declared.map.SureMap.{SureMap}

-- how many bytes came
abbrev pub byte_count : SureMap → ℕ
byte_count map = end_of map.run

-- Bytes with these marks came, and this was written: with the lines of the last run and of further bytes it is the map of them
-- all.
pub record IsMapOf (map : SureMap) (marks : List Mark) (front : List ℕ) : Type 0 where
  pub text : (more : List Mark) → front ++ blocks_text (blocks_from map.run more) ≡ sure_text (marks ++ more)
  pub bytes : byte_count map ≡ length marks
  pub counts : (mark : Mark) → counted map.tally mark ≡ marked_bytes mark marks

-- what is written as bytes come
abbrev pub ended_line : SureMap → Mark → (count : ℕ) → List ℕ
ended_line map mark count = if count == 0 then [] else line_before map.run (mark_byte mark)

-- and behind them all
abbrev pub last_line : SureMap → List ℕ
last_line map = if map.run.size == 0 then [] else block_text (block_of map.run)
