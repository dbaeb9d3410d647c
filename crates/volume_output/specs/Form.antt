-- The form in which a volume's bytes are given, as its definitions take it (this project's own).
use Rattle.std.specs.Prelude.{Bool, true, false}
use Rattle.volume_output.specs.declared.form.Form.{Form}
use Rattle.volume_output.specs.declared.form.Form.TheVariants.{Alone, Lined}

-- each segment's bytes come behind a line with their number
abbrev pub is_lined : Form → Bool
is_lined Alone = false
is_lined Lined = true
