use Rattle.std.proofs.Common.{map, string_bytes}
use Rattle.word_hints.specs.Hints.{text_of}
use Rattle.word_hints.proofs.HintsFound.{in_order}
use Rattle.word_hints.proofs.hint.hint_with.Goals as goal

pub returns-in-None-clause-hint : goal.returns-in-None-clause-hint
returns-in-None-clause-hint c =
    in_order (text_of c.args.image) (string_bytes c.args.first.now) (map string_bytes c.args.behind.now) c.hint_of_first.result
    c.in-None.ensures c.hint_of_first.ensures.hint
