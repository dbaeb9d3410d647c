use Rattle.std.proofs.Common.{[], refl, arith}
use Rattle.std.proofs.lemmas.Grind.{common_steps}
use Rattle.qic_base.proofs.Giving.{Gave-nothing, GaveSome-read}
use Rattle.command_laws.proofs.ScriptGiven.{limited_left}
use Rattle.volume_script.proofs.limited.LimitedSource.read.Goals as goal

pub returns-in-Ok-clause-left : goal.returns-in-Ok-clause-left
returns-in-Ok-clause-left g c =
    limited_left c.in-Ok.read c.args.self.now.left (g.S.Source.means.left c.args.self.now.source.now)
    (g.S.Source.means.left c.read.new.self) (grind (arith, common_steps, c.in-Ok.ensures.within)) c.in-Ok.ensures.left

pub returns-in-Ok-clause-kept : goal.returns-in-Ok-clause-kept
returns-in-Ok-clause-kept g c =
    let m = g.S.Source.means in
    let old = c.args.self.now.source.now in
    record {
      same = refl;
      kept = c.in-Ok.ensures.kept;
      count = c.in-Ok.read;
      counted = grind (arith, common_steps, c.in-Ok.ensures.within);
      gave = GaveSome-read m old old c.read.new.self c.read.new.into 0 c.in-Ok.read c.in-Ok.read
          ([], refl, Gave-nothing m old old refl) c.in-Ok.ensures.gives c.in-Ok.ensures.left
          (grind (arith, common_steps, c.in-Ok.ensures.within, c.read.auto.into)) (omega arith);
    }
