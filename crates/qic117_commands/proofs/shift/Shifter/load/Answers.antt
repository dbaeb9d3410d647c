use Rattle.qic117_commands.proofs.ReportFacts.{levels_left-all}
use Rattle.qic117_commands.proofs.shift.Shifter.load.Goals as goal

pub returns : goal.returns
returns c = levels_left-all c.args.width c.args.word
