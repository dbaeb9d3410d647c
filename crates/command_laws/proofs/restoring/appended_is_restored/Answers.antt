use Rattle.command_laws.proofs.RestoreAppended.{appended_is_among, appended_is_restored}
use Rattle.command_laws.proofs.restoring.appended_is_restored.Goals as goal

pub returns-clause-among : goal.returns-clause-among
returns-clause-among c = appended_is_among

pub returns-clause-bytes : goal.returns-clause-bytes
returns-clause-bytes c = appended_is_restored
