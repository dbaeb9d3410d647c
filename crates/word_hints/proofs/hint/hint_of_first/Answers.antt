use Rattle.std.proofs.Common.{map, string_bytes}
use Rattle.word_hints.specs.Forms.{HasRow, row_of, rows}
use Rattle.word_hints.proofs.HintsFound.{told, short}
use Rattle.word_hints.proofs.hint.hint_of_first.Goals as goal

pub returns-in-Some-clause-hint : goal.returns-in-Some-clause-hint
returns-in-Some-clause-hint c =
    let same = c.as_bytes.ensures.value in
    let has : HasRow rows (string_bytes c.args.first.now) (row_of c.in-Some.form) = rw same at c.in-Some.ensures in
    told (string_bytes c.args.first.now) (map string_bytes c.args.behind.now) (row_of c.in-Some.form) c.hint_of_form.result has
    c.hint_of_form.ensures

pub returns-in-Some-clause-short : goal.returns-in-Some-clause-short
returns-in-Some-clause-short c =
    short c.as_bytes.result.now (map string_bytes c.args.behind.now) (row_of c.in-Some.form) c.hint_of_form.result c.in-Some.ensures
    c.hint_of_form.ensures
