use Rattle.std.proofs.Common.{◌≡◌, ◌∙◌, Global, Bor, List, ℕ, Some, ap, map, sym, codes}
use Rattle.std.specs.Prelude.{string_bytes}
use Rattle.std.specs.Option.{option_map}
use Rattle.clap.specs.Matches.{found_of, first_value}
use Rattle.clap.proofs.CallerLemmas.{some_of_text}
use Rattle.std.specs.Str.Parse.{ParsesUnsigned, ExplainsUnsignedError, HasUnsignedDigitsIfOk}
use Rattle.program_words.specs.DumpWords.{import_app}
use Rattle.program_words.proofs.Asking.{import_is, import_plain, imported_image, imported_length, none_is_not, words_taken, ask_import}
use Rattle.program_words.proofs.Asking.{is_refused}
use Rattle.program_words.proofs.import_words.read_import_words.Goals as goal

pub unreachable-requires : goal.unreachable-requires
unreachable-requires c =
    let there = imported_image c.in_ok-command.command c.in-Ok.matches c.in_ok-command.ensures c.in-Ok.ensures.parsed in
    let some = some_of_text (λ (s : Bor (List ℕ)). s.now) c.get_str.result
    (first_value (found_of c.in-Ok.matches) (codes "image")) c.get_str.ensures there in
    none_is_not c.get_str.result c.in-None.is some

pub returns-in-Some : goal.returns-in-Some
returns-in-Some c =
    let parse = c.in-Ok.ensures in
    let m = c.in-Ok.matches in
    let words = map (string_bytes {Z = Global}) c.args.words.now.items in
    let taken = words_taken import_app import_plain c.in_ok-command.command m (map (string_bytes {Z = Global}) c.as_slice.result.now) words
    (import_is c.in_ok-command.command c.in_ok-command.ensures) (ap (map (string_bytes {Z = Global})) c.as_slice.ensures.value)
    parse.matches parse.kinds in
    let shown : Some c.in-Some.image.now ≡ first_value (found_of m) (codes "image") = ap (option_map (λ (s : Bor (List ℕ)). s.now))
    (sym c.in-Some.is) ∙ c.get_str.ensures in
    let size = imported_length _ (λ bs r. ParsesUnsigned 16 10 bs r × ExplainsUnsignedError 10 bs r × HasUnsignedDigitsIfOk bs r)
    (λ u x g. g.0)
    c.in_ok-command.command m c.in_ok-command.ensures parse.parsed c.get_one.result c.get_one.ensures.none c.get_one.ensures.value in
    ask_import words m (record { image = c.in-Some.image; map = c.get_str-in-Some.result; segments_per_track = c.get_one.result }) taken
    (sym shown) c.get_str-in-Some.ensures size

pub returns-in-Err : goal.returns-in-Err
returns-in-Err c =
    is_refused import_app import_plain c.in_ok-command.command c.in-Err.error (map (string_bytes {Z = Global}) c.as_slice.result.now)
    (map (string_bytes {Z = Global}) c.args.words.now.items)
    (import_is c.in_ok-command.command c.in_ok-command.ensures) (ap (map (string_bytes {Z = Global})) c.as_slice.ensures.value)
    c.in-Err.ensures.kinds c.in-Err.ensures.passes
