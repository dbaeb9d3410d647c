use Rattle.std.proofs.Common.{ℕ, not, if◌then◌else◌, sym, ap, ◌∙◌}
use Rattle.dump_spec.specs.Volumes.{carried, has_bad_range, length_of}
use Rattle.dump_volumes.specs.Volume.{volume_of}
use Rattle.dump_answers.proofs.Masking.{holds}
use Rattle.dump_answers.proofs.Volumes.{bad_range_ends, volume_put}
use Rattle.dump_answers.proofs.volume.put_found.Goals as goal

pub returns-then-has_bad_range-clause-puts : goal.returns-then-has_bad_range-clause-puts
returns-then-has_bad_range-clause-puts g c = λ known found shows place.
    bad_range_ends g.K.Sink.means g.M.Sink.means known found c.args.asked.number c.args.asked.whole (volume_of c.args.volume.now)
    (record { output = c.args.output.now; sure = c.args.sure.now }) (g.met.K.Sink.took_nothing _) (g.met.M.Sink.took_nothing _)
    (ap (λ (s : ℕ). has_bad_range s (volume_of c.args.volume.now)) (sym place.segment) ∙ sym c.has_bad_range.ensures
    ∙ c.if-has_bad_range.true)

pub returns-clause-puts : goal.returns-clause-puts
returns-clause-puts g c = λ known found shows place.
    volume_put g.K.Sink.means g.M.Sink.means known found c.args.asked.number c.asked_size-size.result c.args.asked.whole
    (volume_of c.args.volume.now)
    (record { output = c.args.output.now; sure = c.args.sure.now })
    (record { output = c.put_bytes.new.output; sure = c.put_bytes.new.sure }) c.put_bytes.result
    (ap (λ (s : ℕ). has_bad_range s (volume_of c.args.volume.now)) (sym place.segment) ∙ sym c.has_bad_range.ensures
    ∙ c.if-has_bad_range.false)
    (c.asked_size-size.ensures.bytes known.layout.masks
    (holds c.args.dump.now (g.D.Disk.means.told c.args.disk.now) known shows)
    ∙ ap (λ (s : ℕ). if c.args.asked.whole then carried known.layout.masks (volume_of c.args.volume.now) else
    length_of known.layout.masks s (volume_of c.args.volume.now)) place.segment)
    (c.put_bytes.ensures.puts known (not found.sure) shows)
