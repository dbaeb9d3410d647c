use Rattle.qic_base.proofs.Joins.{went_both, went_then_cut, cut_is_longer}
use Rattle.qic_base.proofs.acts.acts_join.Goals as goal

pub returns-clause-both : goal.returns-clause-both
returns-clause-both g c = went_both g.T.Tape.means g.S.Source.means g.K.Sink.means g.met.K.Sink.took_both

pub returns-clause-cut : goal.returns-clause-cut
returns-clause-cut g c = went_then_cut g.T.Tape.means g.S.Source.means g.K.Sink.means g.met.K.Sink.took_both

pub returns-clause-longer : goal.returns-clause-longer
returns-clause-longer g c = cut_is_longer g.T.Tape.means g.S.Source.means g.K.Sink.means
