use Rattle.std.proofs.Common.{arith, refl, ◌∙◌}
use Rattle.cart_image.proofs.Gathers.{got-more, got-all}
use Rattle.cart_image.proofs.Runs.{Looks-Looks}
use Rattle.cart_image.proofs.wanted.read_each_bytes.Goals as goal

pub loop-i-preserved : goal.loop-i-preserved
loop-i-preserved g c = record {
  looks = Looks-Looks c.loop-i.invariant.looks c.in_ok-is_got.ensures.looked;
  seen = c.in_ok-is_got.ensures.seen ∙ c.loop-i.invariant.seen;
  so = got-more (g.D.Disk.means.told c.args.disk.now) _ c.args.layout c.args.segment c.args.good c.loop-i.got c.with_sector-got.result
      c.loop-i.i _ c.args.into.now c.loop-i.into c.read_bytes_if.new.into c.is_in.result c.in_ok-is_got.is_got
      c.loop-i.invariant.looks.told refl (omega arith) c.is_in.ensures c.in_ok-is_got.ensures.got c.in_ok-is_got.ensures.bytes
      (λ out. c.in_ok-is_got.ensures.kept (λ same. cc)) c.with_sector-got.ensures.same c.with_sector-got.ensures.others
      c.loop-i.invariant.so;
}

pub returns-clause-bytes : goal.returns-clause-bytes
returns-clause-bytes g c =
    got-all (g.D.Disk.means.told c.args.disk.now) c.args.layout c.args.segment c.args.good c.loop-i.got c.args.into.now c.loop-i.into
    c.loop-i.i (omega arith) c.loop-i.invariant.so
