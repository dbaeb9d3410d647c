use Rattle.std.proofs.Common.{map, string_bytes}
use Rattle.std.proofs.lemmas.Result.{MatchResult-at_ok}
use Rattle.command_laws.proofs.CommandTable.{has_values}
use Rattle.command_rows.proofs.ready.command.Goals as goal

pub returns : goal.returns
returns g c =
    has_values (map string_bytes c.words_of.result.items) c.expect.result (MatchResult-at_ok _ _ _ c.expect.ensures c.read_words.ensures)
