use Rattle.command_laws.proofs.LifeGrowing as life
use Rattle.command_laws.proofs.lives.a_life_gives_its_volumes_back.Goals as goal

pub returns-clause-volumes : goal.returns-clause-volumes
returns-clause-volumes c = life.volumes_are_given_back

pub returns-clause-backups : goal.returns-clause-backups
returns-clause-backups c = life.backups_are_given_back
