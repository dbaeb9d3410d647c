use Rattle.std.proofs.Common.{refl}
use Rattle.command_spec.specs.Lines.{appended_line, count_lines, date_form, date_text, label_lines, list_text, name_text, number_line}
use Rattle.command_spec.specs.Lines.{place_line, trimmed, volume_line, volume_lines}
use Rattle.command_spec.specs.Make.{sum_line}
use Rattle.qic_base.specs.Cartridge.{lost_places}
use Rattle.qic_base.specs.Field.{filled}
use Rattle.std.specs.Fmt.{digits}
use Rattle.command_laws.proofs.worked_values.generated.Goals as goal

pub returns-clause-first : goal.returns-clause-first
returns-clause-first c = refl

pub returns-clause-third : goal.returns-clause-third
returns-clause-third c = refl

pub returns-clause-byte : goal.returns-clause-byte
returns-clause-byte c = refl

pub returns-clause-name : goal.returns-clause-name
unfolding digits number_line place_line date_form date_text trimmed name_text appended_line volume_line volume_lines list_text label_lines
    count_lines filled lost_places
returns-clause-name c = refl

pub returns-clause-first_segments : goal.returns-clause-first_segments
unfolding lost_places
returns-clause-first_segments c = refl

pub returns-clause-second_segments : goal.returns-clause-second_segments
unfolding lost_places
returns-clause-second_segments c = refl

pub returns-clause-third_segments : goal.returns-clause-third_segments
unfolding lost_places
returns-clause-third_segments c = refl

pub returns-clause-worn : goal.returns-clause-worn
unfolding lost_places
returns-clause-worn c = refl

pub returns-clause-looked : goal.returns-clause-looked
unfolding lost_places
returns-clause-looked c = refl

pub returns-clause-sum : goal.returns-clause-sum
unfolding sum_line digits
returns-clause-sum c = refl
