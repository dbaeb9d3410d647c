use Rattle.cartridge_laws.proofs.TableOrders.{faultless_is_sound, sound_is_faultless}
use Rattle.cartridge_laws.proofs.tables.sound_lists.Goals as goal

pub returns-clause-faultless : goal.returns-clause-faultless
returns-clause-faultless c = faultless_is_sound

pub returns-clause-sound : goal.returns-clause-sound
returns-clause-sound c = sound_is_faultless
