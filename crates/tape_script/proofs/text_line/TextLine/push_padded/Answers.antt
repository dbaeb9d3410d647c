use Rattle.std.proofs.Common.{refl}
use Rattle.std.proofs.lemmas.List.{take-map}
use Rattle.command_spec.specs.Lines.{name_text}
use Rattle.tape_script.proofs.text_line.TextLine.push_padded.Goals as goal

pub returns-clause-name : goal.returns-clause-name
unfolding name_text
returns-clause-name c = rw (c.push_text.ensures, c.make_printable.ensures, take-map, c.trimmed_len-len.ensures.trimmed) refl
