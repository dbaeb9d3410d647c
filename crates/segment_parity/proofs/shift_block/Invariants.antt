use Rattle.std.proofs.Common.{◌≡◌, ℕ, List, [], ◌∷◌, ◌++◌, length, All}
use Rattle.qic_base.specs.Cartridge.{IsSector}
use Rattle.segment_parity.specs.Register.{AreParity}
use Rattle.segment_parity.proofs.Blocks.{Untouched}
use Rattle.segment_parity.proofs.shift_block.Given as goal

abbrev pub invariant-loop-j : goal.invariant-loop-j
invariant-loop-j l = record {
  high : length l.high ≡ 128;
  middle : length l.middle ≡ 128;
  low : length l.low ≡ 128;
  rest : Untouched l.initial.high l.initial.middle l.initial.low l.high l.middle l.low l.j;
  done : (ss : List (List ℕ)) → All IsSector ss →
      AreParity l.initial.high l.initial.middle l.initial.low ss l.start 128 →
      AreParity l.high l.middle l.low (ss ++ l.sector ∷ []) l.start l.j;
}
