-- An error word on a deck.
use Rattle.std.specs.Prelude.{ℕ, Bool}
use Rattle.drive_spec.specs.declared.deck.Deck.{Deck}

-- another error word and new cartridge flag
abbrev pub with_error : (error : ℕ) (fresh : Bool) → Deck → Deck
with_error error fresh d = record d { error = error; fresh = fresh }
