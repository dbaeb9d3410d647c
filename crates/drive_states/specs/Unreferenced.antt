-- What a drive is in where the reference bursts could not be written (this project's profile of QIC-117).
use Rattle.std.specs.Prelude.{false}
use Rattle.drive_spec.specs.declared.deck.Deck.{Deck}
use Rattle.drive_spec.specs.Terms.{referenced}
use Rattle.drive_spec.specs.Record.{Record}

-- the deck knows of no reference bursts
abbrev pub unreferenced : Deck → Deck
unreferenced d = referenced false d

abbrev pub without_reference : Record → Record
without_reference r = record r { deck = unreferenced r.deck }
