-- The laws of the list of an exported cartridge, as facts (this project's own).
use Rattle.std.specs.Prelude.{ℕ, ◌≡◌, ◌≤◌, false, List, Option, None}
use Rattle.cartridge_spec.specs.Header.{Header}
use Rattle.cartridge_spec.specs.Says.{Written, unreadable_count}
use Rattle.cartridge_spec.specs.Table.{Entry}
use Rattle.cartridge_spec.specs.TableSegment.{CanBeRead, table_cells}
use Rattle.cartridge_spec.specs.Volumes.{Plain, Stands, entries_of}
use Rattle.command_spec.specs.Lines.{list_text}
use Rattle.qic_base.specs.Cartridge.{Cartridge}
use Rattle.qic_base.specs.CartridgeTerms.{IsCartridge}
use Rattle.dump_spec.specs.Answers.{Answer, Answers, sure_refusal}
use Rattle.dump_spec.specs.declared.asked.Command.TheVariants as commands
use Rattle.dump_spec.specs.declared.status.Status.TheVariants as status
use Rattle.salvage_laws.specs.Exported.{exported, plainly, IsReadAs, IsUncompressed}

-- the text is printed, and nothing is wrong; the table is sure where its segment was written and lost at most two sectors
pub record Lists (c : Cartridge) (table : List (List ℕ)) (text : List ℕ) (answer : Answer) : Type 0 where
  pub status : answer.status ≡ status.Done
  pub printed : answer.printed ≡ text
  pub sure : Written (table_cells c) table → unreadable_count (table_cells c) ≤ 2 → answer.warned ≡ false

-- The list is the one that `tape` prints of the cartridge, by the words of its map and its volumes.
abbrev pub ListAgrees : Type 0
ListAgrees =
    (c : Cartridge) (header : Header) (words : List ℕ) (table : List (List ℕ)) (entries : List Entry) (sure : Option (List ℕ))
    (answer : Answer) → IsReadAs c header words table entries → sure_refusal sure ≡ None →
    Answers (exported c sure) (plainly commands.List) answer → Lists c table (list_text words entries) answer

-- so it is of a cartridge that stands for a plain one
abbrev pub StandingListAgrees : Type 0
StandingListAgrees =
    (c : Cartridge) (plain : Plain) (sure : Option (List ℕ)) (answer : Answer) → IsCartridge c → Stands c plain → CanBeRead c →
    IsUncompressed plain.table_area (entries_of plain) → sure_refusal sure ≡ None →
    Answers (exported c sure) (plainly commands.List) answer →
    Lists c plain.table_area (list_text plain.words (entries_of plain)) answer
