use Rattle.std.proofs.Common.{◌∙◌, Global, ap, map}
use Rattle.std.specs.Prelude.{string_bytes}
use Rattle.std.specs.Str.Parse.{ParsesUnsigned, ExplainsUnsignedError, HasUnsignedDigitsIfOk}
use Rattle.program_words.proofs.Gaps.{number_read, has_gap, is_refused}
use Rattle.program_words.proofs.gap.read_gap.Goals as goal

pub returns-in-Some : goal.returns-in-Some
returns-in-Some c =
    let parse = c.in-Ok-try_get_matches_from.ensures in
    let m = c.in-Ok-try_get_matches_from.matches in
    let number = number_read _ (λ bs r. ParsesUnsigned 32 10 bs r × ExplainsUnsignedError 10 bs r × HasUnsignedDigitsIfOk bs r)
    (λ u x g. g.0)
    c.in-Ok.command m c.in-Ok.ensures parse.parsed c.get_one.result c.get_one.ensures.value in
    has_gap c.in-Ok.command m (map (string_bytes {Z = Global}) c.as_slice.result.now)
    (map (string_bytes {Z = Global}) c.args.words.now.items)
    c.in-Some.gap c.get_one.result c.in-Ok.ensures (ap (map (string_bytes {Z = Global})) c.as_slice.ensures.value) number c.in-Some.is
    parse.matches parse.kinds

pub unreachable-requires : goal.unreachable-requires
unreachable-requires c =
    let parse = c.in-Ok-try_get_matches_from.ensures in
    let m = c.in-Ok-try_get_matches_from.matches in
    let number = number_read _ (λ bs r. ParsesUnsigned 32 10 bs r × ExplainsUnsignedError 10 bs r × HasUnsignedDigitsIfOk bs r)
    (λ u x g. g.0)
    c.in-Ok.command m c.in-Ok.ensures parse.parsed c.get_one.result c.get_one.ensures.value in
    cc (number.is, c.in-None.is)

pub returns : goal.returns
returns c =
    is_refused c.in-Ok.command c.in-Err.error (map (string_bytes {Z = Global}) c.as_slice.result.now)
    (map (string_bytes {Z = Global}) c.args.words.now.items)
    c.in-Ok.ensures (ap (map (string_bytes {Z = Global})) c.as_slice.ensures.value)
    (λ e. let no = c.if-is_memory.ensures.1 (c.kind.ensures ∙ e) in cc)
    c.in-Err.ensures.kinds c.in-Err.ensures.passes
