use Rattle.cartridge_laws.proofs.Writing.{writes_leave_data, writes_make_readable}
use Rattle.cartridge_laws.proofs.saying.writes_leave_data.Goals as goal

pub returns-clause-cells : goal.returns-clause-cells
returns-clause-cells c = writes_leave_data

pub returns-clause-readable : goal.returns-clause-readable
returns-clause-readable c = writes_make_readable
