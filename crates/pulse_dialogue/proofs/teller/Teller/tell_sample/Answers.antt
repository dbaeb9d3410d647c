use Rattle.std.proofs.Common.{◌++◌, ap, refl, subst}
use Rattle.qic_base.specs.SinkCalls.{Writes}
use Rattle.qic_base.proofs.Writing.{BrokeOff-longer}
use Rattle.pulse_dialogue.specs.declared.context.Context.{Context}
use Rattle.pulse_dialogue.specs.declared.teller.Teller.{Teller}
use Rattle.pulse_dialogue.specs.Dialogue.{sample_line, heard_level}
use Rattle.pulse_dialogue.specs.Telling.{ended_text, ended_context}
use Rattle.pulse_dialogue.proofs.Running.{writes_both}
use Rattle.pulse_dialogue.proofs.teller.Teller.tell_sample.Goals as goal

pub returns-in-Ok-clause-wrote : goal.returns-in-Ok-clause-wrote
returns-in-Ok-clause-wrote g c =
    let old = c.args.self.now in
    subst (λ (x : Context). Writes g.K.Sink.means c.args.sink.now c.tell_here.new.sink
    (ended_text old.context old.open_train ++ sample_line c.args.time (heard_level x c.args.level).text) c.tell_here.result)
    (ap (λ (t : Teller). t.context) c.in-Ok.ensures.teller)
    (writes_both g.K.Sink.means c.args.sink.now c.end_train.new.sink c.tell_here.new.sink (ended_text old.context old.open_train)
    (sample_line c.args.time (heard_level c.end_train.new.self.context c.args.level).text) g.met.K.Sink.took_both c.in-Ok.ensures.wrote
    c.tell_here.result c.tell_here.ensures.wrote)

pub returns-in-Err-clause-wrote : goal.returns-in-Err-clause-wrote
returns-in-Err-clause-wrote g c =
    let old = c.args.self.now in
    let said = sample_line c.args.time (heard_level (ended_context old.context old.open_train) c.args.level).text in
    BrokeOff-longer said (ended_text old.context old.open_train ++ said) refl c.in-Err.ensures.wrote
