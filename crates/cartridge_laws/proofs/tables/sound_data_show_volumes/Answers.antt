use Rattle.cartridge_laws.proofs.TableTotals as totals
use Rattle.cartridge_laws.proofs.tables.sound_data_show_volumes.Goals as goal

pub returns : goal.returns
returns c = totals.sound_data_show_volumes
