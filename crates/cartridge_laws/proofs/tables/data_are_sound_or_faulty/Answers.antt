use Rattle.cartridge_laws.proofs.TableTotals as totals
use Rattle.cartridge_laws.proofs.tables.data_are_sound_or_faulty.Goals as goal

pub returns : goal.returns
returns c = totals.data_are_sound_or_faulty
