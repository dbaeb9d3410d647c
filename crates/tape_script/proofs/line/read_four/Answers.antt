use Rattle.std.proofs.Common.{refl}
use Rattle.command_laws.proofs.TextLines.{no_dated_line}
use Rattle.tape_script.proofs.line.read_four.Goals as goal

pub returns-in_err-date : goal.returns-in_err-date
returns-in_err-date c =
    rw (c.from_residual-in_err-date.ensures, c.if-not-is_word.ensures.0 refl)
    (no_dated_line c.args.second.now c.args.third.now c.args.fourth.now c.in_err-date.ensures)
