use Rattle.dump_opening.proofs.Headers.{opens_filed}
use Rattle.dump_opening.proofs.header.open_header.Goals as goal

pub returns-in-Some-clause-header : goal.returns-in-Some-clause-header
returns-in-Some-clause-header g c = λ text bad tells is.
    opens_filed g.D.Disk.means c.in-Some.file text c.args.known.now (g.D.Disk.means.told c.args.dump.now) c.args.zero_lost bad
    c.open_filed.new.words c.open_filed.result (rw c.in-Some.is at tells)
    (λ file told_is. c.open_filed.ensures.header file bad told_is is)
