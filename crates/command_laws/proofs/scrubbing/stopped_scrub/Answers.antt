use Rattle.command_laws.proofs.ScrubMending.{stopped_scrub, readable_stays, stopped_scrub_is_cartridge}
use Rattle.command_laws.proofs.ScrubMounted.{stopped_scrub_stands, stopped_scrub_is_clean, stopped_scrub_mounts, stopped_scrub_table}
use Rattle.command_laws.proofs.ScrubSettled.{stopped_scrub_is_settled}
use Rattle.command_laws.proofs.scrubbing.stopped_scrub.Goals as goal

pub returns-clause-mending : goal.returns-clause-mending
returns-clause-mending c = stopped_scrub

pub returns-clause-readable : goal.returns-clause-readable
returns-clause-readable c = readable_stays

pub returns-clause-whole : goal.returns-clause-whole
returns-clause-whole c = stopped_scrub_is_cartridge

pub returns-clause-stands : goal.returns-clause-stands
returns-clause-stands c = stopped_scrub_stands

pub returns-clause-clean : goal.returns-clause-clean
returns-clause-clean c = stopped_scrub_is_clean

pub returns-clause-mounts : goal.returns-clause-mounts
returns-clause-mounts c = stopped_scrub_mounts

pub returns-clause-table : goal.returns-clause-table
returns-clause-table c = stopped_scrub_table

pub returns-clause-settled : goal.returns-clause-settled
returns-clause-settled c = stopped_scrub_is_settled
