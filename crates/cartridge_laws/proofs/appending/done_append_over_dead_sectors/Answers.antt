use Rattle.cartridge_laws.proofs.AppendDone.{done_stands, done_is_settled_for}
use Rattle.cartridge_laws.proofs.AppendBytes.{done_bytes}
use Rattle.cartridge_laws.proofs.AppendMounted.{done_mounts, done_is_clean, done_touches_only}
use Rattle.cartridge_laws.proofs.AppendReady.{done_may_append_to}
use Rattle.cartridge_laws.proofs.AppendTable.{done_table_shows}
use Rattle.cartridge_laws.proofs.AppendWhole.{done_is_cartridge}
use Rattle.cartridge_laws.proofs.appending.done_append_over_dead_sectors.Goals as goal

pub returns-clause-shows : goal.returns-clause-shows
returns-clause-shows c = done_table_shows

pub returns-clause-bytes : goal.returns-clause-bytes
returns-clause-bytes c = done_bytes

pub returns-clause-stands : goal.returns-clause-stands
returns-clause-stands c = done_stands

pub returns-clause-mounts : goal.returns-clause-mounts
returns-clause-mounts c = done_mounts

pub returns-clause-settled : goal.returns-clause-settled
returns-clause-settled c = done_is_settled_for

pub returns-clause-clean : goal.returns-clause-clean
returns-clause-clean c = done_is_clean

pub returns-clause-whole : goal.returns-clause-whole
returns-clause-whole c = done_is_cartridge

pub returns-clause-others : goal.returns-clause-others
returns-clause-others c = done_touches_only

pub returns-clause-again : goal.returns-clause-again
returns-clause-again c = done_may_append_to
