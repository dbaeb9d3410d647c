use Rattle.command_laws.proofs.LifeLaws as life
use Rattle.command_laws.proofs.lives.a_life.Goals as goal

pub returns : goal.returns
returns c = life.a_life
