use Rattle.std.proofs.Common.{◌<◌, length, arith, rules}
use Rattle.qic_base.specs.CartridgeTerms.{IsView}
use Rattle.std.proofs.lemmas.List.Elements.{All-set}
use Rattle.std.proofs.lemmas.List.Edits.{map_over_more}
use Rattle.qic_mem.proofs.tape.sectors.format_views.Goals as goal

pub loop-view-preserved : goal.loop-view-preserved
loop-view-preserved c =
    let within : c.loop-view.view-index < length c.loop-view.views = omega arith in
    record {
      formatted = rw (c.format_view.ensures.formatted)
          (map_over_more _ _ _ _ _ c.loop-view-test.true c.loop-view.invariant.formatted (search rules));
      whole = λ all. let whole = c.loop-view.invariant.whole all in
          All-set IsView _ _ _ (c.format_view.ensures.whole (whole _ _ within)) whole;
    }
