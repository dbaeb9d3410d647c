use Rattle.command_laws.proofs.TextWords.{no_dated_format}
use Rattle.tape_script.proofs.words.read_dated_format.Goals as goal

pub returns-in_err-date : goal.returns-in_err-date
returns-in_err-date c = rw c.from_residual-in_err-date.ensures (no_dated_format c.args.label.now c.args.date.now c.in_err-date.ensures)
