use Rattle.command_laws.proofs.ScrubForms.{done_in_form, done_form_is_cartridge}
use Rattle.command_laws.proofs.ScrubFormsStanding.{done_form_stands, done_form_is_clean}
use Rattle.command_laws.proofs.ScrubFormsTable.{done_form_table, done_form_is_settled}
use Rattle.command_laws.proofs.deep_scrubbing.done_in_form.Goals as goal

pub returns-clause-scrubbed : goal.returns-clause-scrubbed
returns-clause-scrubbed c = done_in_form

pub returns-clause-whole : goal.returns-clause-whole
returns-clause-whole c = done_form_is_cartridge

pub returns-clause-stands : goal.returns-clause-stands
returns-clause-stands c = done_form_stands

pub returns-clause-clean : goal.returns-clause-clean
returns-clause-clean c = done_form_is_clean

pub returns-clause-table : goal.returns-clause-table
returns-clause-table c = done_form_table

pub returns-clause-settled : goal.returns-clause-settled
returns-clause-settled c = done_form_is_settled
