use Rattle.std.proofs.Common.{◌≡◌, ◌≤◌, replicate}
use Rattle.std.specs.Vec.{vec_capacity}
use Rattle.bad_sector_map.proofs.words.clear_words.Given as goal

abbrev pub invariant-loop : goal.invariant-loop
invariant-loop l = record {
  items : l.words.items ≡ replicate l.counter 0;
  room : vec_capacity l.fn.words ≤ vec_capacity l.words;
}
