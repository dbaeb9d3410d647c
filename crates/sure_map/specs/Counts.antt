-- How many bytes have each mark (this project's own).
use Rattle.std.specs.Prelude.{ℕ, ◌+◌, ◌==◌, ◌≡◌, if◌then◌else◌}
use Rattle.dump_spec.specs.Output.{mark_byte}
use Rattle.dump_spec.specs.declared.mark.Mark.{Mark}
use Rattle.dump_spec.specs.declared.mark.Mark.TheVariants.{Sure, Unchecked, Filled}
use Rattle.sure_map.specs.declared.tally.Tally.{Tally}

abbrev pub total : Tally → ℕ
total tally = tally.sure + tally.unchecked + tally.filled

abbrev pub counted : Tally → Mark → ℕ
counted tally Sure = tally.sure
counted tally Unchecked = tally.unchecked
counted tally Filled = tally.filled

-- so many more have this mark
abbrev pub IsMore : Mark → (count : ℕ) → (old new : Tally) → Type 0
IsMore mark count old new =
    (m : Mark) → counted new m ≡ counted old m + (if mark_byte mark == mark_byte m then count else 0)
