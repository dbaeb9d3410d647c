use Rattle.command_laws.proofs.CheckSound.{done_where_read_throughout, done_where_sound, read_whole_is_sound, sound_is_read_whole}
use Rattle.command_laws.proofs.checking.a_sound_check.Goals as goal

pub returns-clause-read : goal.returns-clause-read
returns-clause-read c = sound_is_read_whole

pub returns-clause-told : goal.returns-clause-told
returns-clause-told c = read_whole_is_sound

pub returns-clause-done : goal.returns-clause-done
returns-clause-done c = done_where_sound

pub returns-clause-throughout : goal.returns-clause-throughout
returns-clause-throughout c = done_where_read_throughout
