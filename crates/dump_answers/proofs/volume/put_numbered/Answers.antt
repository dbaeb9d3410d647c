use Rattle.std.proofs.Common.{ℕ, Bool, Some, None, not, refl, sym, ap, ◌∙◌}
use Rattle.std.specs.Option.{option_map}
use Rattle.std.specs.Prelude.{Ok}
use Rattle.dump_answers.specs.Ends.{Sinks}
use Rattle.dump_spec.specs.Volumes.{volumes_of}
use Rattle.dump_spec.specs.Answers.{GivesVolume, counts_segments, numbered, refused}
use Rattle.dump_spec.specs.declared.status.Status.TheVariants as ends
use Rattle.dump_volumes.specs.Volume.{volume_of}
use Rattle.dump_tables.proofs.Reading.{found_as}
use Rattle.dump_answers.proofs.Endings.{refusal_ends}
use Rattle.dump_answers.proofs.Volumes.{numbered_ends}
use Rattle.dump_answers.proofs.volume.put_numbered.Goals as goal

pub returns-in-Some-clause-puts : goal.returns-in-Some-clause-puts
returns-in-Some-clause-puts g c = λ known shows.
    let found = found_as c.args.sectors.now c.args.table in
    numbered_ends g.K.Sink.means g.M.Sink.means known found c.args.asked.number c.args.asked.whole (Some (volume_of c.in-Some.volume))
    (record { output = c.args.output.now; sure = c.args.sure.now })
    (record { output = c.put_found.new.output; sure = c.put_found.new.sure }) c.put_found.result
    (ap (option_map volume_of) (sym c.in-Some.is) ∙ c.numbered-found.ensures
    ∙ ap (λ (b : Bool). numbered (volumes_of b c.args.table.segment found.area) c.args.asked.number)
    (c.counts_segments.ensures (g.D.Disk.means.told c.args.disk.now) known shows))
    (c.put_found.ensures.puts known found shows (record { segment = refl; sure = refl }))

pub returns-in-None-clause-puts : goal.returns-in-None-clause-puts
returns-in-None-clause-puts g c = λ known shows.
    let found = found_as c.args.sectors.now c.args.table in
    let both : Sinks g.row.K.Denot g.row.M.Denot = record { output = c.args.output.now; sure = c.args.sure.now } in
    numbered_ends g.K.Sink.means g.M.Sink.means known found c.args.asked.number c.args.asked.whole None both both
    (Ok (ends.NoVolume c.args.asked.number c.from.result))
    (ap (option_map volume_of) (sym c.in-None.is) ∙ c.numbered-found.ensures
    ∙ ap (λ (b : Bool). numbered (volumes_of b c.args.table.segment found.area) c.args.asked.number)
    (c.counts_segments.ensures (g.D.Disk.means.told c.args.disk.now) known shows))
    (refusal_ends g.K.Sink.means g.M.Sink.means (GivesVolume known found c.args.asked.number c.args.asked.whole None) (not found.sure)
    (ends.NoVolume c.args.asked.number c.from.result) both (g.met.K.Sink.took_nothing _) (g.met.M.Sink.took_nothing _)
    (ap (λ (n : ℕ). refused (not found.sure) (ends.NoVolume c.args.asked.number n))
    (c.from.ensures ∙ c.count_volumes.ensures (counts_segments known) c.args.table.segment)))
