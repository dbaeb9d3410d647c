-- The steps of a command's first act (this project's own).
use Rattle.std.specs.Prelude.{List}
use Rattle.command_spec.specs.Outcome.{CommandOutcome}
use Rattle.qic_base.specs.Acts.{next_steps}
use Rattle.qic_base.specs.Step.{Step}

-- the steps of the first act
abbrev pub first_steps : CommandOutcome → List Step
first_steps outcome = next_steps outcome.acts
