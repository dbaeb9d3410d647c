use Rattle.std.proofs.Common.{string_bytes}
use Rattle.word_hints.specs.Forms.{IsCommand}
use Rattle.word_hints.proofs.hint.misplaced.Goals as goal

pub returns-then-is_command : goal.returns-then-is_command
returns-then-is_command c =
    let same = c.as_str.ensures.value in
    let has : IsCommand (string_bytes c.args.first.now) = rw same at (c.is_command.ensures.0 c.if-is_command.true) in
    λ misplaced. has
