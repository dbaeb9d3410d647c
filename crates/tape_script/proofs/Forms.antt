-- The forms of a script's lines, and the items that they begin.
use Rattle.std.proofs.Common.{inl, inr, ℕ, List, length, ◌≤◌, arith}
use Rattle.command_laws.proofs.TextCommands.{dated_cases, only, spelled_length}
use Rattle.command_laws.specs.Inputs.{HasLineForm}
use Rattle.command_spec.specs.declared.line.Line.{Line}
use Rattle.command_spec.specs.declared.line.Line.TheVariants as line

-- ---- how many words a line has

pub line_length : (ws : List (List ℕ)) (l : Line) → HasLineForm ws l → length ws ≤ 4
line_length ws (line.Append name length date) h = elim (dated_cases ws _ date h) [
  | inl full ↦ let l = spelled_length ws _ full in omega arith
  | inr bare ↦ let l = spelled_length ws _ bare.0 in omega arith
]
line_length ws line.List h = let l = spelled_length ws _ (only ws _ h) in omega arith
line_length ws (line.Restore number) h = let l = spelled_length ws _ (only ws _ h) in omega arith
line_length ws line.Scrub h = let l = spelled_length ws _ (only ws _ h) in omega arith
line_length ws (line.Lose segment sector) h = let l = spelled_length ws _ (only ws _ h) in omega arith
line_length ws line.End h = let l = spelled_length ws _ (only ws _ h) in omega arith
