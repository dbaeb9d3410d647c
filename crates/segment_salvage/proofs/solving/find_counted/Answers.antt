use Rattle.std.proofs.Common.{◌≡◌, Bool, true, List, subst, sym, inl, inr}
use Rattle.qic_base.specs.declared.tape.SectorView.{SectorView}
use Rattle.segment_salvage.proofs.Counting.{counted_settled, counted_again}
use Rattle.segment_salvage.specs.Found.{IsCounted}
use Rattle.silent_locate.specs.Deep.{cells_without}
use Rattle.segment_salvage.proofs.solving.find_counted.Goals as goal
use Rattle.segment_salvage.proofs.solving.find_counted.Goals.{then-not-zero_lost-via-then-not-zero_lost}
use Rattle.segment_salvage.proofs.solving.find_counted.Goals.{then-not-zero_lost-via-else-not-zero_lost+then-has_block}

pub returns-then-not-zero_lost : goal.returns-then-not-zero_lost
returns-then-not-zero_lost c =
    counted_settled c.args.zero_lost c.args.lost c.args.sectors.now c.find_block-reading.new.sectors c.find_block-reading.result
    c.requires.within c.find_block-reading.ensures
    (elim c.then-not-zero_lost.branch [
      | then-not-zero_lost-via-then-not-zero_lost w ↦ inl w.if-not-zero_lost.true
      | then-not-zero_lost-via-else-not-zero_lost+then-has_block w ↦ inr (sym (w.if-has_block.ensures))
    ])

pub returns : goal.returns
returns c =
    let on : c.args.zero_lost ≡ true = c.if-not-zero_lost.false in
    let cells : List SectorView = cells_without c.args.lost c.args.sectors.now in
    subst (λ (b : Bool). IsCounted b cells c.find_block.result c.find_block.new.sectors) (sym on)
    (counted_again c.args.lost c.zero_places-zero.result c.args.sectors.now c.find_block-reading.new.sectors c.find_block.new.sectors
    c.find_block-reading.result c.find_block.result c.find_block-reading.ensures (sym (c.if-has_block.ensures))
    c.zero_places-zero.ensures.zero c.zero_places-zero.ensures.within c.find_block.ensures)
