use Rattle.dump_answers.proofs.Endings.{put_counts, put_shown}
use Rattle.dump_answers.proofs.volume.put_bytes.Goals as goal

pub returns-clause-puts : goal.returns-clause-puts
returns-clause-puts g c = λ known warned shows.
    put_shown g.D.Disk.means g.K.Sink.means g.M.Sink.means c.args.dump.now known warned c.args.first c.args.last c.args.size
    (record { disk = c.args.disk.now; output = c.args.output.now; sure = c.args.sure.now })
    (record { disk = c.put_out.new.disk; output = c.put_out.new.output; sure = c.put_out.new.sure })
    c.put_out.result shows c.put_out.ensures.out c.put_out.ensures.whole

pub returns-clause-counts : goal.returns-clause-counts
returns-clause-counts g c =
    put_counts g.D.Disk.means g.K.Sink.means g.M.Sink.means c.args.size
    (record { disk = c.args.disk.now; output = c.args.output.now; sure = c.args.sure.now })
    (record { disk = c.put_out.new.disk; output = c.put_out.new.output; sure = c.put_out.new.sure })
    c.put_out.ensures.out.rest c.put_out.ensures.out.given c.put_out.result c.put_out.ensures.out.puts
