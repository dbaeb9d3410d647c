use Rattle.std.proofs.Common.{◌+◌, refl, sym, arith}
use Rattle.std.proofs.lemmas.Option.{unwrap_or-slice_get}
use Rattle.qic_base.specs.declared.tape.SectorView.TheVariants.{Blank}
use Rattle.qic_base.specs.TapeCalls.{is_readable, is_blank}
use Rattle.qic_mem.proofs.Several.{chose-next, read-next}
use Rattle.qic_mem.proofs.tape.sectors.read_from.Goals as goal

pub loop-i-preserved : goal.loop-i-preserved
loop-i-preserved c = record {
  good = chose-next is_readable _ _ _ _ c.loop-i.i _ _ _ c.is_in-is_wanted.ensures c.with_sector-good.ensures.same
      c.read_wanted.ensures.good (sym (unwrap_or-slice_get c.args.views.now (c.args.first + c.loop-i.i) Blank))
      c.with_sector-good.ensures.others c.loop-i.invariant.good;
  blank = chose-next is_blank _ _ _ _ c.loop-i.i _ _ _ c.is_in-is_wanted.ensures c.with_sector-blank.ensures.same
      c.is_asked_blank.ensures (sym (unwrap_or-slice_get c.args.views.now (c.args.first + c.loop-i.i) Blank))
      c.with_sector-blank.ensures.others c.loop-i.invariant.blank;
  so = read-next _ _ _ _ _ c.loop-i.i _ _ _ (omega arith) c.is_in-is_wanted.ensures c.read_wanted.ensures.bytes
      (sym (unwrap_or-slice_get c.args.views.now (c.args.first + c.loop-i.i) Blank)) refl c.loop-i.invariant.so;
}
