use Rattle.std.proofs.Common.{◌%◌, ◌^◌, refl}
use Rattle.dump_header.proofs.Entries.{mark_one, mark_all}
use Rattle.dump_header.proofs.list.mark_entry.Goals as goal

pub returns-then-entry-ge-ENTIRE : goal.returns-then-entry-ge-ENTIRE
returns-then-entry-ge-ENTIRE c =
    mark_all c.args.words.now c.mark.new.mask c.args.entry (c.args.entry % 2 ^ 23) c.if-entry-ge-ENTIRE.true c.requires refl
    c.if-number-eq0.false (rw c.from-sector.ensures at c.mark.ensures)

pub returns-else-entry-ge-ENTIRE : goal.returns-else-entry-ge-ENTIRE
returns-else-entry-ge-ENTIRE c =
    mark_one c.args.words.now c.mark-else-entry-ge-ENTIRE.new.mask c.args.entry (c.args.entry % 2 ^ 23) c.if-entry-ge-ENTIRE.false refl
    c.if-number-eq0.false (rw c.from-sector.ensures at c.mark-else-entry-ge-ENTIRE.ensures)
