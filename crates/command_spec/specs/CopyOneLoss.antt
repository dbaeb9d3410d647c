-- What becomes of the target of a copy, done or stopped, where then one sector more of its table's segment is lost, whatever the
-- source is (this project's own).
use Rattle.std.specs.Prelude.{ℕ, ◌+◌, ◌≤◌, List, [], ◌≡◌, ◌⊎◌, length, take, Option, Some, IsSomeAnd}
use Rattle.cartridge_spec.specs.Appending.{Content, with_all}
use Rattle.cartridge_spec.specs.Settling.{settling_steps}
use Rattle.cartridge_spec.specs.Volumes.{Plain}
use Rattle.command_spec.specs.Copied.{copied_lines, lengths_of}
use Rattle.command_spec.specs.CopyGiven.{AreGivenBack, GivenBy, missing_on}
use Rattle.command_spec.specs.Copying.{Side}
use Rattle.command_spec.specs.OneLoss.{ComesBackAsOneOf, SomeComeBack}
use Rattle.qic_base.specs.Cartridge.{Cartridge}
use Rattle.qic_base.specs.Step.{Torn}

-- It comes back with the first ones of the missing volumes, each as a restore of it gives it; and no volume is missing whose line is
-- among the bytes that were printed.
pub record ComesBackWithGiven (from : Side) (to : Plain) (printed : ℕ) (left : Option Cartridge) : Type 0 where
  pub contents : List Content
  pub given : AreGivenBack from (missing_on from to) contents
  pub back : SomeComeBack (λ n. with_all to (take n contents)) 0 (length contents) left
  pub whole : (n : ℕ) → n ≤ length (missing_on from to) →
      length (copied_lines (length to.volumes + 1) (lengths_of from.words (take n (missing_on from to)))) ≤ printed → n ≤ back.one

-- .. with all of them
pub record ComesBackWithAll (from : Side) (to : Plain) (left : Option Cartridge) : Type 0 where
  pub contents : List Content
  pub given : AreGivenBack from (missing_on from to) contents
  pub all : length contents ≡ length (missing_on from to)
  pub comes : IsSomeAnd left (ComesBackAsOneOf (with_all to contents) (with_all to contents))

-- where the stop didn't come before its table was settled, and nothing was printed
abbrev pub SettlesOrComesBack : (from : Option Cartridge) → (d : Cartridge) → (to : Plain) → (text : List ℕ) → (left : Option Cartridge) →
    Type 0
SettlesOrComesBack from d to text left =
    ((text ≡ []) × Torn (settling_steps to.table_area d) (Some d) left)
    ⊎ GivenBy from to (λ side. ComesBackWithGiven side to (length text) left)
