use Rattle.std.proofs.Common.{◌≡◌, ◌≤◌}
use Rattle.std.specs.Vec.{vec_len, vec_capacity}
use Rattle.cartridge_laws.specs.HeaderTerms.{words_in}
use Rattle.bad_sector_map.proofs.words.read_words.Given as goal

abbrev pub invariant-loop-segment : goal.invariant-loop-segment
invariant-loop-segment l = record {
  items : l.words.items ≡ words_in l.area l.segment;
  len : vec_len l.words ≡ l.segment;
  room : vec_capacity l.fn.words ≤ vec_capacity l.words;
}
