use Rattle.cartridge_laws.proofs.FormatClearing.{clearing_clears, cleared_shows_defects, cleared_copies_are_zero, cleared_is_unformatted}
use Rattle.cartridge_laws.proofs.formatting.clearing_clears.Goals as goal

pub returns-clause-clears : goal.returns-clause-clears
returns-clause-clears c = clearing_clears

pub returns-clause-copies : goal.returns-clause-copies
returns-clause-copies c = cleared_copies_are_zero

pub returns-clause-unformatted : goal.returns-clause-unformatted
returns-clause-unformatted c = cleared_is_unformatted

pub returns-clause-defects : goal.returns-clause-defects
returns-clause-defects c = cleared_shows_defects
