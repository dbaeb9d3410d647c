use Rattle.command_laws.proofs.CheckAnswered.{mended_check_is_done, standing_has_one_header}
use Rattle.command_laws.proofs.CheckMended.{told_is_mendable}
use Rattle.command_laws.proofs.CheckScrubbed.{deep_scrub_makes_sound}
use Rattle.command_laws.proofs.checking.a_mended_check.Goals as goal

pub returns-clause-mendable : goal.returns-clause-mendable
returns-clause-mendable c = told_is_mendable

pub returns-clause-header : goal.returns-clause-header
returns-clause-header c = standing_has_one_header

pub returns-clause-sound : goal.returns-clause-sound
returns-clause-sound c = deep_scrub_makes_sound

pub returns-clause-done : goal.returns-clause-done
returns-clause-done c = mended_check_is_done
