use Rattle.command_laws.proofs.TextMaking.{made_bytes_from}
use Rattle.tape_script.proofs.made.Made.new.Goals as goal

pub returns : goal.returns
returns c = rw (c.from.ensures, c.from-2.ensures, c.from-3.ensures, c.from-4.ensures) (made_bytes_from c.args.seed c.args.volume)
