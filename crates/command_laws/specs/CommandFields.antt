-- What the record of a command says of it, by names of their own (this project's own).
use Rattle.std.specs.Prelude.{List, ℕ, Option}
use Rattle.cartridge_spec.specs.Volumes.{Plain}
use Rattle.command_spec.specs.Command.{Part}
use Rattle.command_spec.specs.Commands.{command_of}
use Rattle.command_spec.specs.declared.words.Words.{Words}
use Rattle.qic_base.specs.Cartridge.{Cartridge}
use Rattle.command_spec.specs.Outcome.{CommandOutcome}
use Rattle.command_spec.specs.declared.status.Status.{Status}

-- the command keeps what a cartridge stands for
abbrev pub KeepsVolumes : Words → Cartridge → Plain → Type 0
KeepsVolumes command c plain = (command_of command).keeps_volumes c plain

-- it keeps a cartridge's header copies
abbrev pub KeepsCopies : Words → Cartridge → Type 0
KeepsCopies command c = (command_of command).keeps_copies c

-- it keeps that each sector of the table's segment takes a write
abbrev pub KeepsLive : Words → Type 0
KeepsLive command = (command_of command).keeps_live

-- the forms of a command's words
abbrev pub word_forms : Words → List (List Part)
word_forms command = (command_of command).forms

-- a command over what the drive holds and an input
abbrev pub Yields : Words → (held : Option Cartridge) (input : List ℕ) → CommandOutcome → Type 0
Yields command held input outcome = (command_of command).yields held input outcome

-- what a command that was carried out prints, whatever it is that the drive holds
abbrev pub CommandPrints : Words → List ℕ → Type 0
CommandPrints command text = (command_of command).prints text

-- a front of that; of the lines of a generated run any
abbrev pub FrontPrints : Words → List ℕ → Type 0
FrontPrints command text = (command_of command).fronts text

-- what a command has printed that was refused with this answer: most of them nothing; the levels of the trains, or the replies to
-- the lines, before a fault of the input, or before a volume table that doesn't show the list; the bytes of a volume before a
-- segment that doesn't read; and the lines of a generated run before the step that was refused
abbrev pub RefusedPrints : Words → Status → List ℕ → Type 0
RefusedPrints command answer text = (command_of command).refused answer text

-- the fault of the input of a command: the number of the line, counted from 1, and how many bytes stand before it
abbrev pub HasInputFault : Words → (input : List ℕ) → (line place : ℕ) → Type 0
HasInputFault command input line place = (command_of command).fault input line place

-- All is there that the command needs. A new cartridge and trains need none that is held; a line of a script that is refused is
-- answered by its reply, so the lines need nothing more.
abbrev pub CanBeDone : Words → (held : Option Cartridge) (input : List ℕ) → Type 0
CanBeDone command held input = (command_of command).needs held input
