use Rattle.std.proofs.Common.{take}
use Rattle.word_hints.specs.Forms.{HasNoRow, rows}
use Rattle.word_hints.proofs.forms.form_of.Given as goal

abbrev pub invariant-loop-form : goal.invariant-loop-form
invariant-loop-form l = HasNoRow (take l.form-index rows) l.first
