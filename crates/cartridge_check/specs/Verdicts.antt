-- What is told of the volume table's segment by a mount's reading of it (this project's own).
use Rattle.std.specs.Prelude.{◌≡◌, ℕ, Bool, if◌then◌else◌}
use Rattle.command_spec.specs.Check.{TableOpens, is_named, undecided}
use Rattle.command_spec.specs.Scrub.{whole_segment}
use Rattle.command_spec.specs.declared.verdict.Verdict.{Verdict}
use Rattle.command_spec.specs.declared.verdict.Verdict.TheVariants.{Wrong}
use Rattle.qic_base.specs.Cartridge.{Cartridge}

-- no code block agrees with all that can be read, and no sector is named: this is told
pub record IsUndecided (c : Cartridge) (verdict : Verdict) : Type 0 where
  pub opens : Bool
  pub table : TableOpens c opens
  pub is : verdict ≡ undecided 2 opens

-- a sector is wrong: this is told
pub record IsJudged (c : Cartridge) (sector : ℕ) (verdict : Verdict) : Type 0 where
  pub opens : Bool
  pub table : TableOpens c opens
  pub is : verdict ≡ (if is_named c (whole_segment 2) sector then Wrong sector else undecided 2 opens)
