use Rattle.qic_base.proofs.Outcomes.{cut_is_torn, cut_stops, cut_took_front}
use Rattle.qic_base.proofs.acts.acts_cut_off.Goals as goal

pub returns-clause-torn : goal.returns-clause-torn
returns-clause-torn g c = cut_is_torn g.T.Tape.means g.S.Source.means g.K.Sink.means

pub returns-clause-stops : goal.returns-clause-stops
returns-clause-stops g c = cut_stops g.T.Tape.means g.S.Source.means g.K.Sink.means

pub returns-clause-text : goal.returns-clause-text
returns-clause-text g c = cut_took_front g.T.Tape.means g.S.Source.means g.K.Sink.means
