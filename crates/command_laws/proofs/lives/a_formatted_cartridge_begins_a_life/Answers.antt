use Rattle.command_laws.proofs.LifeGrowing as life
use Rattle.command_laws.proofs.lives.a_formatted_cartridge_begins_a_life.Goals as goal

pub returns-clause-formatted : goal.returns-clause-formatted
returns-clause-formatted c = life.format_begins

pub returns-clause-renewed : goal.returns-clause-renewed
returns-clause-renewed c = life.new_and_format_begin
