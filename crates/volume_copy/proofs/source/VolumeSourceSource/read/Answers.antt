use Rattle.std.proofs.Common.{sym, subst}
use Rattle.std.specs.Prelude.{drop}
use Rattle.volume_copy.proofs.Starting.{given_kept}
use Rattle.volume_copy.specs.Source.{SourceView, KeepsVolume}
use Rattle.volume_copy.proofs.source.VolumeSourceSource.read.Goals as goal

pub returns-in-Ok-true-clause-kept : goal.returns-in-Ok-true-clause-kept
returns-in-Ok-true-clause-kept g c =
    subst (λ (s : SourceView g.row.T.Denot). KeepsVolume g.T.Tape.means c.args.self.now s) (sym c.give.ensures.is)
    (given_kept g.T.Tape.means c.args.self.now c.fill.new.self (drop c.give.result c.fill.new.self.unread) c.fill.ensures.kept)
