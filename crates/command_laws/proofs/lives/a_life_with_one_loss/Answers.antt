use Rattle.command_laws.proofs.LifeLossKept.{volumes_are_given_back_so, volumes_are_kept_so}
use Rattle.command_laws.proofs.LifeOneLoss.{a_life_with_one_loss}
use Rattle.command_laws.proofs.lives.a_life_with_one_loss.Goals as goal

pub returns-clause-becomes : goal.returns-clause-becomes
returns-clause-becomes c = a_life_with_one_loss

pub returns-clause-kept : goal.returns-clause-kept
returns-clause-kept c = volumes_are_kept_so

pub returns-clause-given : goal.returns-clause-given
returns-clause-given c = volumes_are_given_back_so
