-- The sectors before the index are marked where they aren't good.
use Rattle.std.proofs.Common.{◌≡◌, length}
use Rattle.qic_base.specs.Cartridge.{Cartridge, view_at}
use Rattle.qic_base.specs.CartridgeTerms.{place_of}
use Rattle.formatter.specs.Marking.{AreReadable, MarksBelow}
use Rattle.formatter.proofs.marking.mark_others.Given as goal

abbrev pub invariant-loop-index : goal.invariant-loop-index
invariant-loop-index l = record {
  marks : (c : Cartridge) → AreReadable l.good (view_at c l.segment) → MarksBelow c l.fn.map (place_of l.segment 0) →
      MarksBelow c l.map (place_of l.segment l.index);
  words : length l.map ≡ length l.fn.map;
}
