use Rattle.std.proofs.Common.{refl}
use Rattle.command_spec.specs.Lines.{appended_line, count_lines, date_form, date_text, label_lines, list_text, name_text, number_line}
use Rattle.command_spec.specs.Lines.{place_line, trimmed, volume_line, volume_lines}
use Rattle.qic_base.specs.Cartridge.{lost_places}
use Rattle.qic_base.specs.Field.{filled}
use Rattle.std.specs.Fmt.{digits}
use Rattle.command_laws.proofs.worked_values.lines.Goals as goal

pub returns-clause-blank : goal.returns-clause-blank
unfolding digits number_line place_line date_form date_text trimmed name_text appended_line volume_line volume_lines list_text label_lines
    count_lines filled lost_places
returns-clause-blank c = refl

pub returns-clause-room : goal.returns-clause-room
unfolding digits number_line place_line date_form date_text trimmed name_text appended_line volume_line volume_lines list_text label_lines
    count_lines filled lost_places
returns-clause-room c = refl

pub returns-clause-defect : goal.returns-clause-defect
unfolding digits number_line place_line date_form date_text trimmed name_text appended_line volume_line volume_lines list_text label_lines
    count_lines filled lost_places
returns-clause-defect c = refl

pub returns-clause-lost : goal.returns-clause-lost
unfolding digits number_line place_line date_form date_text trimmed name_text appended_line volume_line volume_lines list_text label_lines
    count_lines filled lost_places
returns-clause-lost c = refl

pub returns-clause-protected : goal.returns-clause-protected
unfolding digits number_line place_line date_form date_text trimmed name_text appended_line volume_line volume_lines list_text label_lines
    count_lines filled lost_places
returns-clause-protected c = refl

pub returns-clause-upgraded : goal.returns-clause-upgraded
unfolding digits number_line place_line date_form date_text trimmed name_text appended_line volume_line volume_lines list_text label_lines
    count_lines filled lost_places
returns-clause-upgraded c = refl

pub returns-clause-formatted : goal.returns-clause-formatted
unfolding digits number_line place_line date_form date_text trimmed name_text appended_line volume_line volume_lines list_text label_lines
    count_lines filled lost_places
returns-clause-formatted c = refl

pub returns-clause-info : goal.returns-clause-info
unfolding digits number_line place_line date_form date_text trimmed name_text appended_line volume_line volume_lines list_text label_lines
    count_lines filled lost_places
returns-clause-info c = refl

pub returns-clause-empty_list : goal.returns-clause-empty_list
unfolding digits number_line place_line date_form date_text trimmed name_text appended_line volume_line volume_lines list_text label_lines
    count_lines filled lost_places
returns-clause-empty_list c = refl

pub returns-clause-one_volume : goal.returns-clause-one_volume
unfolding digits number_line place_line date_form date_text trimmed name_text appended_line volume_line volume_lines list_text label_lines
    count_lines filled lost_places
returns-clause-one_volume c = refl

pub returns-clause-appended : goal.returns-clause-appended
unfolding digits number_line place_line date_form date_text trimmed name_text appended_line volume_line volume_lines list_text label_lines
    count_lines filled lost_places
returns-clause-appended c = refl

pub returns-clause-scrub : goal.returns-clause-scrub
unfolding digits number_line place_line date_form date_text trimmed name_text appended_line volume_line volume_lines list_text label_lines
    count_lines filled lost_places
returns-clause-scrub c = refl

pub returns-clause-header : goal.returns-clause-header
unfolding digits number_line place_line date_form date_text trimmed name_text appended_line volume_line volume_lines list_text label_lines
    count_lines filled lost_places
returns-clause-header c = refl

pub returns-clause-lost_segment : goal.returns-clause-lost_segment
unfolding digits number_line place_line date_form date_text trimmed name_text appended_line volume_line volume_lines list_text label_lines
    count_lines filled lost_places
returns-clause-lost_segment c = refl

pub returns-clause-mismatch : goal.returns-clause-mismatch
unfolding digits number_line place_line date_form date_text trimmed name_text appended_line volume_line volume_lines list_text label_lines
    count_lines filled lost_places
returns-clause-mismatch c = refl

pub returns-clause-wrong : goal.returns-clause-wrong
unfolding digits number_line place_line date_form date_text trimmed name_text appended_line volume_line volume_lines list_text label_lines
    count_lines filled lost_places
returns-clause-wrong c = refl

pub returns-clause-last_date : goal.returns-clause-last_date
unfolding digits number_line place_line date_form date_text trimmed name_text appended_line volume_line volume_lines list_text label_lines
    count_lines filled lost_places
returns-clause-last_date c = refl

pub returns-clause-no_date : goal.returns-clause-no_date
unfolding digits number_line place_line date_form date_text trimmed name_text appended_line volume_line volume_lines list_text label_lines
    count_lines filled lost_places
returns-clause-no_date c = refl

pub returns-clause-name : goal.returns-clause-name
unfolding digits number_line place_line date_form date_text trimmed name_text appended_line volume_line volume_lines list_text label_lines
    count_lines filled lost_places
returns-clause-name c = refl
