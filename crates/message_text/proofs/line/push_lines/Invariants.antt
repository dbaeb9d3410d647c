use Rattle.std.proofs.Common.{◌≡◌, ◌-◌, ◌≤◌, ◌++◌, length, drop}
use Rattle.std.specs.Str.{chars}
use Rattle.message_text.specs.Printable.{printed_in}
use Rattle.message_text.proofs.line.push_lines.Given as goal

abbrev pub invariant-loop-c : goal.invariant-loop-c
invariant-loop-c l =
    (l.line ++ printed_in l.lines (l.end - length l.line) (drop (length l.yielded)
    (chars l.text)) ≡ l.initial.line ++ printed_in l.lines l.room (chars l.text)) ×
    (length l.line ≤ l.end)
