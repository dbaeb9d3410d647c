use Rattle.std.proofs.Common.{Result, subst}
use Rattle.qic_base.specs.TapeCalls.{Tells}
use Rattle.cartridge_front.specs.Finding.{FindsTable}
use Rattle.table_solve.specs.declared.unread.Unread.{Unread}
use Rattle.segment_solve.specs.declared.fault.SegFault.{SegFault}
use Rattle.cartridge_check.proofs.Table.{undecided_by, undecided_open}
use Rattle.cartridge_check.proofs.verdicts.look_at_undecided.Goals as goal

pub returns-in-Ok-clause-undecided : goal.returns-in-Ok-clause-undecided
returns-in-Ok-clause-undecided g c =
    undecided_open g.T.Tape.means c.args.unit.now.tape c.read_table.new.work
    (subst (λ (read : Result Unread SegFault). Tells g.T.Tape.means c.args.unit.now.tape (λ c'. FindsTable c' c.read_table.new.work read))
    c.in-Ok.is c.in_ok-read_table.ensures.found)

pub returns-in-Err-Lost-clause-undecided : goal.returns-in-Err-Lost-clause-undecided
returns-in-Err-Lost-clause-undecided g c =
    undecided_by g.T.Tape.means c.args.unit.now.tape c.read_table.new.work c.in-Err-Lost.field-0
    (subst (λ (read : Result Unread SegFault). Tells g.T.Tape.means c.args.unit.now.tape (λ c'. FindsTable c' c.read_table.new.work read))
    c.in-Err-Lost.is c.in_ok-read_table.ensures.found)

pub returns-in-Err-Mismatch-clause-undecided : goal.returns-in-Err-Mismatch-clause-undecided
returns-in-Err-Mismatch-clause-undecided g c =
    undecided_by g.T.Tape.means c.args.unit.now.tape c.read_table.new.work c.in-Err-Mismatch.field-0
    (subst (λ (read : Result Unread SegFault). Tells g.T.Tape.means c.args.unit.now.tape (λ c'. FindsTable c' c.read_table.new.work read))
    c.in-Err-Mismatch.is c.in_ok-read_table.ensures.found)
