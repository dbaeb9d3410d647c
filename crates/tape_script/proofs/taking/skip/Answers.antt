use Rattle.std.proofs.Common.{◌≤◌, ◌-◌, arith}
use Rattle.std.proofs.lemmas.List.{length-take}
use Rattle.qic_base.proofs.Giving.{GaveSome-read, GaveSome-same}
use Rattle.tape_script.proofs.taking.skip.Goals as goal

pub loop-left-preserved : goal.loop-left-preserved
loop-left-preserved g c =
    let within = c.in-Ok.ensures.within in
    let most : c.in-Ok.count ≤ c.loop-left.left = let l = length-take c.min-asked.result c.loop-left.scratch in
    let m = c.min-asked.ensures in omega arith in
    record {
      within = let w = c.loop-left.invariant.within in omega arith;
      gave = GaveSome-read g.S.Source.means c.args.source.now c.loop-left.source c.read.new.self c.read.new.into
          (c.args.bytes - c.loop-left.left) c.in-Ok.count (c.args.bytes - (c.loop-left.left - c.in-Ok.count)) c.loop-left.invariant.gave
          c.in-Ok.ensures.gives c.in-Ok.ensures.left (let l = c.read.auto.into in omega arith)
          (let w = c.loop-left.invariant.within in omega arith);
      kept = g.met.S.Source.keeps_on _ _ _ c.loop-left.invariant.kept c.in-Ok.ensures.kept;
      later = let e = c.loop-left.invariant.later in let f = c.in-Ok.ensures.cause.stood in omega arith;
    }

pub returns-in-Err-clause-skipped : goal.returns-in-Err-clause-skipped
returns-in-Err-clause-skipped g c = (
  c.args.bytes - c.loop-left.left,
  omega arith,
  GaveSome-same g.S.Source.means c.args.source.now c.loop-left.source c.read.new.self
      (c.args.bytes - c.loop-left.left) c.loop-left.invariant.gave c.in-Err.ensures.failed,
)
