-- What is read is printed again.
use Rattle.std.proofs.Common.{◌≡◌, ℕ, false, nat_lt, sym, arith, zero, suc, ◌-◌, List, [], ◌∷◌, ◌++◌, replicate, refl, ap, ◌∙◌}
use Rattle.std.proofs.Common.{append_assoc, append-nil, ◌<◌, map, length, get_or, ◌≢◌, Some, take}
use Rattle.std.proofs.lemmas.Bool.Decides.{nat_tests}
use Rattle.std.proofs.lemmas.List.{take_all}
use Rattle.std.proofs.lemmas.Option.{slice_get-get_or}
use Rattle.command_laws.proofs.TextTrimmed.{trimmed-filler, trimmed-take-kept}
use Rattle.command_laws.specs.TextLaws.{DateIsPrintedAsRead, NameIsPrintedAsRead}
use Rattle.command_spec.specs.Lines.{date_text, trimmed, name_text}
use Rattle.command_laws.specs.TextTerms.{printable, is_filler}
use Rattle.qic_base.proofs.DateLaws.{written_date_is_read_back}
use Rattle.qic_base.specs.Field.{low_part, date_word, filled}
use Rattle.qic_base.specs.DateTerms.{greatest_low_part, ShowsDate}
use Rattle.qic_base.specs.LineBytes.{IsPrintable}

pub date_is_printed_as_read : DateIsPrintedAsRead
unfolding date_text
date_is_printed_as_read word date d =
    let w : ℕ = date_word d.year d.month d.day d.hour d.minute d.second in
    let s : ShowsDate w d.year d.month d.day d.hour d.minute d.second =
    written_date_is_read_back d.year d.month d.day d.hour d.minute d.second d.a_date in
    let dated : nat_lt greatest_low_part (low_part w) ≡ false = let a = s.a_date in grind (arith, nat_tests) in
    rw (d.stamped, dated, s.same_year, s.same_month, s.same_day, s.same_hour, s.same_minute, s.same_second) (sym d.written)

-- ---- names

trimmed-filling : (xs : List ℕ) (k : ℕ) → trimmed (xs ++ replicate k 0x20) ≡ trimmed xs
trimmed-filling xs zero = ap trimmed (append-nil xs)
trimmed-filling xs (suc k) =
    ap trimmed (sym (append_assoc xs (0x20 ∷ []) (replicate k 0x20))) ∙ trimmed-filling (xs ++ 0x20 ∷ []) k ∙ trimmed-filler xs 0x20 refl

shown : (xs : List ℕ) → ((k : ℕ) (d : ℕ) → k < length xs → IsPrintable (get_or xs k d)) → map printable xs ≡ xs
shown [] all = refl
shown (x ∷ xs) all =
    let here : IsPrintable x = all 0 x (omega arith) in
    let same : printable x ≡ x = grind (arith, nat_tests) in
    let rest : map printable xs ≡ xs = shown xs (λ k d l. all (suc k) d (omega arith)) in cc

pub name_is_printed_as_read : NameIsPrintedAsRead
unfolding name_text filled
name_is_printed_as_read word name =
    let len : ℕ = length word in
    let some = name.some in
    let here : len - 1 < len = omega arith in
    let last = name.printable (len - 1) 0 here in
    let no_space : get_or word (len - 1) 0 ≢ 0x20 = λ e. name.ends (slice_get-get_or word (len - 1) 0 here ∙ ap (λ (b : ℕ). Some b) e) in
    let no_filler : is_filler (get_or word (len - 1) 0) ≡ false = grind (arith, nat_tests) in
    let all : take len word ≡ word = take_all len word (omega arith) in
    let kept : word ≡ trimmed word = rw all at (trimmed-take-kept word len (omega arith) (omega arith) no_filler) in
    rw (trimmed-filling word (44 - length word), ← kept) (shown word name.printable)
