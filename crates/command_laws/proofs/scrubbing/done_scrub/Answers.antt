use Rattle.command_laws.proofs.ScrubDone.{done_scrub}
use Rattle.command_laws.proofs.ScrubMending.{done_scrub_is_cartridge}
use Rattle.command_laws.proofs.ScrubMounted.{done_scrub_stands, done_scrub_is_clean, done_scrub_mounts, done_scrub_table}
use Rattle.command_laws.proofs.ScrubSettled.{done_scrub_is_settled}
use Rattle.command_laws.proofs.scrubbing.done_scrub.Goals as goal

pub returns-clause-scrubbed : goal.returns-clause-scrubbed
returns-clause-scrubbed c = done_scrub

pub returns-clause-whole : goal.returns-clause-whole
returns-clause-whole c = done_scrub_is_cartridge

pub returns-clause-stands : goal.returns-clause-stands
returns-clause-stands c = done_scrub_stands

pub returns-clause-clean : goal.returns-clause-clean
returns-clause-clean c = done_scrub_is_clean

pub returns-clause-mounts : goal.returns-clause-mounts
returns-clause-mounts c = done_scrub_mounts

pub returns-clause-table : goal.returns-clause-table
returns-clause-table c = done_scrub_table

pub returns-clause-settled : goal.returns-clause-settled
returns-clause-settled c = done_scrub_is_settled
