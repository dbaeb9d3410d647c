use Rattle.command_laws.proofs.LifeGrowing as life
use Rattle.command_laws.proofs.lives.a_life_keeps_its_volumes.Goals as goal

pub returns : goal.returns
returns c = life.volumes_are_kept
