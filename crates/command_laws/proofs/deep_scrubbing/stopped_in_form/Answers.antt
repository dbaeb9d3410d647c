use Rattle.command_laws.proofs.ScrubForms.{stopped_in_form, stopped_form_is_cartridge}
use Rattle.command_laws.proofs.ScrubFormsStanding.{stopped_form_stands, stopped_form_is_clean}
use Rattle.command_laws.proofs.ScrubFormsTable.{stopped_form_table, stopped_form_is_settled}
use Rattle.command_laws.proofs.deep_scrubbing.stopped_in_form.Goals as goal

pub returns-clause-mending : goal.returns-clause-mending
returns-clause-mending c = stopped_in_form

pub returns-clause-whole : goal.returns-clause-whole
returns-clause-whole c = stopped_form_is_cartridge

pub returns-clause-stands : goal.returns-clause-stands
returns-clause-stands c = stopped_form_stands

pub returns-clause-clean : goal.returns-clause-clean
returns-clause-clean c = stopped_form_is_clean

pub returns-clause-table : goal.returns-clause-table
returns-clause-table c = stopped_form_table

pub returns-clause-settled : goal.returns-clause-settled
returns-clause-settled c = stopped_form_is_settled
