use Rattle.std.proofs.Common.{◌≡◌, ◌≤◌, ◌<◌, ◌+◌, ◌-◌, ◌^◌, ℕ, get_or}
use Rattle.dump_header.proofs.masks.complement.Given as goal

abbrev pub invariant-loop-word : goal.invariant-loop-word
invariant-loop-word l = record {
  done : (segment : ℕ) → segment < l.word-index → get_or l.words segment 0 + get_or l.initial.words segment 0 ≡ 2 ^ 32 - 1;
  kept : (segment : ℕ) → l.word-index ≤ segment → get_or l.words segment 0 ≡ get_or l.initial.words segment 0;
}
