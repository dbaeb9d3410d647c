use Rattle.std.proofs.Common.{◌≡◌, ◌≤◌, ◌<◌, ℕ, get_or, bit_or}
use Rattle.cartridge_spec.specs.Header.{word_in}
use Rattle.dump_header.proofs.map.mark_map.Given as goal

abbrev pub invariant-loop-segment : goal.invariant-loop-segment
invariant-loop-segment l = record {
  done : (s : ℕ) → s < l.segment → get_or l.words s 0 ≡ bit_or (get_or l.initial.words s 0) (word_in l.area s);
  kept : (s : ℕ) → l.segment ≤ s → get_or l.words s 0 ≡ get_or l.initial.words s 0;
}
