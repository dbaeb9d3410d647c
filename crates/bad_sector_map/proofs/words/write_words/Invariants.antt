use Rattle.std.proofs.Common.{◌≡◌, ℕ, ◌<◌, get_or}
use Rattle.cartridge_laws.specs.HeaderTerms.{byte_in, IsInMap}
use Rattle.cartridge_spec.specs.Header.{word_in}
use Rattle.bad_sector_map.proofs.words.write_words.Given as goal

abbrev pub invariant-loop-segment : goal.invariant-loop-segment
invariant-loop-segment l = record {
  words : (s : ℕ) → s < l.segment → word_in l.area s ≡ get_or l.words s 0;
  others : (k : ℕ) → ¬ (IsInMap l.segment k) → byte_in l.area k ≡ byte_in l.initial.area k;
}
