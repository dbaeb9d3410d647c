use Rattle.command_laws.proofs.LifeGrowing as life
use Rattle.command_laws.proofs.lives.runs_of_words_are_of_a_life.Goals as goal

pub returns-clause-answered : goal.returns-clause-answered
returns-clause-answered c = life.answered_runs

pub returns-clause-stopped : goal.returns-clause-stopped
returns-clause-stopped c = life.stopped_runs
