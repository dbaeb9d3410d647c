use Rattle.command_laws.proofs.MountedStanding.{kept_appended, stopped_appended}
use Rattle.command_laws.proofs.MountedSurviving.{appended_survive, appends_survive}
use Rattle.command_laws.proofs.mounted.an_append_keeps_what_stands.Goals as goal

pub returns-clause-keeps : goal.returns-clause-keeps
returns-clause-keeps c = λ cartridge plain content held may room. record {
  done = kept_appended content may cartridge plain held room;
  stopped = λ left torn. stopped_appended content may cartridge plain held left room torn;
}

pub returns-clause-survives : goal.returns-clause-survives
returns-clause-survives c = appends_survive

pub returns-clause-appended : goal.returns-clause-appended
returns-clause-appended c = appended_survive
