use Rattle.std.proofs.Common.{None, false, refl, sym, subst}
use Rattle.std.specs.Prelude.{Ok, Option}
use Rattle.dump_spec.specs.Answers.{AnswersVolume}
use Rattle.dump_spec.specs.declared.status.Status.TheVariants as ends
use Rattle.dump_tables.specs.Found.{table_in}
use Rattle.dump_tables.specs.declared.place.TablePlace.{TablePlace}
use Rattle.dump_answers.specs.Ends.{Sinks, StatusEnds}
use Rattle.dump_answers.proofs.Endings.{refusal_ends}
use Rattle.dump_answers.proofs.volume.put_volume.Goals as goal

pub returns-in-None-clause-puts : goal.returns-in-None-clause-puts
returns-in-None-clause-puts g c = λ known shows.
    let both : Sinks g.row.K.Denot g.row.M.Denot = record { output = c.args.output.now; sure = c.args.sure.now } in
    subst (λ (t : Option TablePlace). StatusEnds g.K.Sink.means g.M.Sink.means
    (AnswersVolume known c.args.asked.number c.args.asked.whole (table_in c.args.sectors.now t)) both both (Ok ends.NoHeader))
    (sym c.in-None.is)
    (refusal_ends g.K.Sink.means g.M.Sink.means (AnswersVolume known c.args.asked.number c.args.asked.whole None) false ends.NoHeader both
    (g.met.K.Sink.took_nothing _) (g.met.M.Sink.took_nothing _) refl)
