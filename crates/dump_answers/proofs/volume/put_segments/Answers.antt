use Rattle.std.proofs.Common.{ℕ, false, subst}
use Rattle.dump_answers.specs.Ends.{StatusEnds}
use Rattle.dump_spec.specs.Answers.{PutsOut}
use Rattle.dump_answers.proofs.Masking.{holds}
use Rattle.dump_answers.proofs.volume.put_segments.Goals as goal

pub returns-clause-puts : goal.returns-clause-puts
returns-clause-puts g c = λ known shows.
    subst (λ (n : ℕ). StatusEnds g.K.Sink.means g.M.Sink.means (PutsOut known false c.args.first c.args.last n)
    (record { output = c.args.output.now; sure = c.args.sure.now })
    (record { output = c.put_bytes.new.output; sure = c.put_bytes.new.sure }) c.put_bytes.result)
    (c.carried_between-size.ensures.bytes known.layout.masks
    (holds c.args.dump.now (g.D.Disk.means.told c.args.disk.now) known shows))
    (c.put_bytes.ensures.puts known false shows)
