use Rattle.command_laws.proofs.ScriptStanding.{fault_stands, items_have_bytes, items_stand, stopped_item_stands}
use Rattle.command_laws.proofs.scripts.items_keep_what_stands.Goals as goal

pub returns-clause-bytes : goal.returns-clause-bytes
returns-clause-bytes c = items_have_bytes

pub returns-clause-done : goal.returns-clause-done
returns-clause-done c = items_stand

pub returns-clause-stopped : goal.returns-clause-stopped
returns-clause-stopped c = stopped_item_stands

pub returns-clause-early : goal.returns-clause-early
returns-clause-early c = fault_stands
