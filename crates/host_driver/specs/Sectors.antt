-- Where a sector call leaves the head (this project's profile of QIC-117).
use Rattle.std.specs.Prelude.{ℕ}
use Rattle.qic_base.specs.declared.tape.SectorRead.{SectorRead}
use Rattle.qic_base.specs.declared.tape.SectorRead.TheVariants as read
use Rattle.qic_base.specs.declared.tape.SectorWrite.{SectorWrite}
use Rattle.qic_base.specs.declared.tape.SectorWrite.TheVariants as write
use Rattle.drive_spec.specs.declared.deck.Deck.{Deck}
use Rattle.drive_states.specs.Reach.{passed}

-- behind the sector, unless that was never formatted
abbrev pub deck_after_read : SectorRead → (sector : ℕ) → Deck → Deck
deck_after_read read.Good sector d = passed d sector
deck_after_read read.Lost sector d = passed d sector
deck_after_read read.Blank sector d = d

abbrev pub deck_after_write : SectorWrite → (sector : ℕ) → Deck → Deck
deck_after_write write.Taken sector d = passed d sector
deck_after_write write.Blank sector d = d
