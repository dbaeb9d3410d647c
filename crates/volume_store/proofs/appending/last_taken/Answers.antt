use Rattle.std.proofs.Common.{◌-◌, sym, ◌∙◌, arith}
use Rattle.volume_table.specs.Entry.{entry_of}
use Rattle.volume_store.proofs.Taking.{end_of_last, no_entries}
use Rattle.volume_store.proofs.appending.last_taken.Goals as goal

pub returns-in-0 : goal.returns-in-0
returns-in-0 c = no_entries c.args.table.now (sym c.len.ensures.count ∙ c.in-0.is)

pub returns-in_default : goal.returns-in_default
returns-in_default c =
    sym (end_of_last c.args.table.now 2 (c.len.result - 1) (entry_of c.entry.result.now) c.entry.ensures
    (let count = c.len.ensures.count in let some = c.in_default in omega arith))
