use Rattle.std.proofs.Common.{refl}
use Rattle.command_spec.specs.Lines.{number_line, place_line}
use Rattle.qic_base.specs.Cartridge.{lost_places}
use Rattle.qic_base.specs.Field.{filled}
use Rattle.std.specs.Fmt.{digits}
use Rattle.command_laws.proofs.worked_values.copies.Goals as goal

pub returns-clause-text : goal.returns-clause-text
unfolding digits number_line place_line
returns-clause-text c = refl

pub returns-clause-first : goal.returns-clause-first
unfolding lost_places filled
returns-clause-first c = λ from to. refl

pub returns-clause-second : goal.returns-clause-second
unfolding lost_places filled
returns-clause-second c = λ from to. refl

pub returns-clause-alike : goal.returns-clause-alike
unfolding lost_places filled
returns-clause-alike c = refl

pub returns-clause-name : goal.returns-clause-name
unfolding lost_places filled
returns-clause-name c = refl

pub returns-clause-more : goal.returns-clause-more
unfolding lost_places filled
returns-clause-more c = refl
