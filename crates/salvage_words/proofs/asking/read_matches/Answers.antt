use Rattle.std.proofs.Common.{Global, ap, map}
use Rattle.std.specs.Prelude.{string_bytes}
use Rattle.salvage_words.proofs.Matches.{parsed}
use Rattle.salvage_words.proofs.asking.read_matches.Goals as goal

pub returns : goal.returns
returns c =
    parsed c.in_ok-command.command c.in_ok-command.ensures (map (string_bytes {Z = Global}) c.as_slice.result.now)
    (map (string_bytes {Z = Global}) c.args.words.now.items) (ap (map (string_bytes {Z = Global})) c.as_slice.ensures.value)
    c.try_get_matches_from.result c.try_get_matches_from.ensures.parsed c.try_get_matches_from.ensures.matches
    c.try_get_matches_from.ensures.kinds c.try_get_matches_from.ensures.passes
