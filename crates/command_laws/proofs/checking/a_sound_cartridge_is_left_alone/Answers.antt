use Rattle.command_laws.proofs.CheckLeft.{sound_is_left_by_deep_scrub, sound_is_left_by_scrub, sound_is_settled}
use Rattle.command_laws.proofs.CheckPrinted.{sound_scrub_prints}
use Rattle.command_laws.proofs.checking.a_sound_cartridge_is_left_alone.Goals as goal

pub returns-clause-settled : goal.returns-clause-settled
returns-clause-settled c = sound_is_settled

pub returns-clause-scrub : goal.returns-clause-scrub
returns-clause-scrub c = sound_is_left_by_scrub

pub returns-clause-deep : goal.returns-clause-deep
returns-clause-deep c = sound_is_left_by_deep_scrub

pub returns-clause-prints : goal.returns-clause-prints
returns-clause-prints c = sound_scrub_prints
