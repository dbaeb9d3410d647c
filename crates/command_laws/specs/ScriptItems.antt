-- A line of a script whose bytes end early (this project's own).
use Rattle.std.specs.Prelude.{◌≡◌, ℕ, List}
use Rattle.cartridge_spec.specs.Table.{Entry}
use Rattle.command_spec.specs.Input.{promised}
use Rattle.command_spec.specs.Script.{Meeting, Meets, acts_on}
use Rattle.command_spec.specs.declared.line.Line.{Line}
use Rattle.qic_base.specs.Acts.{Act}
use Rattle.qic_base.specs.Cartridge.{Cartridge}
use Rattle.command_spec.specs.declared.line.Line.TheVariants as line

-- the acts of a line whose bytes end early: only an append promises bytes
abbrev pub EarlyDoes : Cartridge → (words : List ℕ) → List Entry → Line → (bytes : List ℕ) → List Act → Type 0
EarlyDoes c words entries (line.Append name promised date) bytes acts =
    (meeting : Meeting) × Meets c meeting × (acts ≡ acts_on c words entries name promised date bytes meeting)
EarlyDoes c words entries other bytes acts = ⊥
