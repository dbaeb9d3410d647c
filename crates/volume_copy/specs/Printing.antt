-- What a copy prints where both cartridges stand for plain ones, alike in what both have (this project's own).
use Rattle.std.specs.Prelude.{◌≡◌, ℕ, List, [], ◌++◌, length, Some}
use Rattle.cartridge_spec.specs.Volumes.{Plain}
use Rattle.command_spec.specs.Copied.{StandAlike, StandsPrinted, lines_upto}
use Rattle.command_spec.specs.CopyPromises.{Decks}
use Rattle.command_spec.specs.Headline.{ToldNow}
use Rattle.command_spec.specs.Lines.{count_line}
use Rattle.command_spec.specs.declared.copy_status.CopyStatus.{CopyStatus}
use Rattle.qic_base.specs.Cartridge.{Cartridge}
use Rattle.command_spec.specs.declared.copy_status.CopyStatus.TheVariants as status
use Rattle.qic_base.specs.Sink as sinks
use Rattle.qic_base.specs.Tape as tapes

-- The sink took a front of the lines of the missing volumes with the count of all behind them, and all of that at Done;
-- and the target has at least the volumes whose lines were written whole.
pub record PrintsMissing {A B K : Type 0} (b : tapes.Meaning B) (k : sinks.Meaning K) (old new : Decks A B K) (answer : CopyStatus)
    (from to : Plain) : Type 0 where
  pub text : List ℕ
  pub rest : List ℕ
  pub parts : text ++ rest ≡ lines_upto from to (length from.volumes) ++ count_line (length from.volumes)
  pub all : answer ≡ status.Done → rest ≡ []
  pub took : k.took old.sink text new.sink
  pub printed : ToldNow b new.to (StandsPrinted from to (length text))

-- .. over what both tapes tell
abbrev pub PrintsLines : {A B K : Type 0} (a : tapes.Meaning A) (b : tapes.Meaning B) (k : sinks.Meaning K) (old new : Decks A B K) →
    CopyStatus → Type 0
PrintsLines a b k old new answer =
    (c : Cartridge) (one : Plain) (d : Cartridge) (other : Plain) → a.told old.from ≡ Some (Some c) → b.told old.to ≡ Some (Some d) →
    StandAlike c one d other → PrintsMissing b k old new answer one other
