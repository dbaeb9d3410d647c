use Rattle.std.proofs.Common.{◌≡◌, ℕ, ◌-◌, ◌≤◌, length, take, drop, arith}
use Rattle.std.proofs.lemmas.List.{length-take, length-drop}
use Rattle.qic_base.proofs.Giving.{Gave-Gave, Gave-read}
use Rattle.sector_fill.proofs.Sectors.{take-put_rear, length-put_rear}
use Rattle.sector_fill.proofs.filling.read_full.Goals as goal

pub loop-len-preserved : goal.loop-len-preserved
loop-len-preserved g c =
    let before = c.loop-len.invariant in
    let room : ℕ = length c.loop-len.into - c.loop-len.len in
    let size : length c.read.new.into ≡ length c.loop-len.into - c.loop-len.len =
    omega (
      arith,
      c.read.auto.into,
      length-take room (drop c.loop-len.len c.loop-len.into),
      length-drop c.loop-len.len c.loop-len.into,
    ) in
    let long = length-put_rear c.loop-len.len room c.loop-len.into c.read.new.into (omega arith) in
    let few : c.in-Ok.count ≤ length c.read.new.into = omega (arith, c.in-Ok.ensures.within, c.read.auto.into) in
    let front = take-put_rear c.loop-len.len room c.in-Ok.count c.loop-len.into c.read.new.into
    (omega (arith, before.within)) few in
    record {
      within = omega (arith, before.within);
      long = omega (arith, before.within, before.long);
      gave = rw front (Gave-Gave g.S.Source.means c.args.source.now c.loop-len.source c.read.new.self
          (take c.loop-len.len c.loop-len.into) (take c.in-Ok.count c.read.new.into) before.gave
          (Gave-read g.S.Source.means c.loop-len.source c.read.new.self c.read.new.into c.in-Ok.count
          c.in-Ok.ensures.gives c.in-Ok.ensures.left));
      kept = g.met.S.Source.keeps_on _ _ _ before.kept c.in-Ok.ensures.kept;
      later = let f = c.in-Ok.ensures.cause.stood in omega (arith, before.later);
    }
