use Rattle.command_laws.proofs.SettledRuns.{outcomes_over_settled, runs_over_settled}
use Rattle.command_laws.proofs.lives.a_run_is_one_over_the_settled_cartridge.Goals as goal

pub returns-clause-outcomes : goal.returns-clause-outcomes
returns-clause-outcomes c = outcomes_over_settled

pub returns-clause-runs : goal.returns-clause-runs
returns-clause-runs c = runs_over_settled
