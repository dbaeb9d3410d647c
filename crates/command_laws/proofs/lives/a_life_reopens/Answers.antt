use Rattle.command_laws.proofs.LifeReopened.{a_reopening_life}
use Rattle.command_laws.proofs.lives.a_life_reopens.Goals as goal

pub returns : goal.returns
returns c = a_reopening_life
