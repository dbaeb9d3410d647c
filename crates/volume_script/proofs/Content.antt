-- The bytes of a script's input, where no one tells them.
use Rattle.std.proofs.Common.{◌≡◌, ℕ, ◌+◌, ◌<◌, nat_lt, ltb-true, Bool, true, false, cond, List, [], ◌∷◌, ◌++◌, length, take, replicate}
use Rattle.std.proofs.Common.{Option, Some, None, IfSome, IfNone, codes, refl, sym, ap, ◌∙◌, ◌/◌, ◌%◌, subst, arith, inl, inr}
use Rattle.std.specs.List.{AllZip}
use Rattle.std.specs.List.{join_with_byte}
use Rattle.std.specs.Option.{option_map}
use Rattle.std.proofs.lemmas.Bool.{cases_Bool}
use Rattle.std.proofs.lemmas.List.{length-replicate}
use Rattle.std.proofs.lemmas.List.Elements.{All-nil, All-cons, All-append, All-take, All-replicate, All-from_get_or}
use Rattle.std.proofs.lemmas.List.Splits.{join_with_byte-slice_split}
use Rattle.command_laws.proofs.ScriptGiven.{Behind, behind}
use Rattle.command_laws.proofs.TextCommands.{dated_cases}
use Rattle.command_laws.proofs.TextDecimals.{all_digits}
use Rattle.command_laws.specs.Inputs.{words_of}
use Rattle.command_spec.specs.Command.{AnyNumber, Date, HasForm, IsDateWord, IsNumber, Name, Number, Part, SpellsPart, Word}
use Rattle.command_spec.specs.Input.{IsLineText, line_forms}
use Rattle.command_spec.specs.Lines.{date_form, two_digits}
use Rattle.command_spec.specs.declared.line.Line.{Line}
use Rattle.qic_base.specs.Field.{IsNameText}
use Rattle.volume_input.proofs.Inputs.{untold_content}
use Rattle.qic_base.specs.Disk.{AreBytes}
use Rattle.qic_base.specs.Source.{IsInput}
use Rattle.command_spec.specs.declared.line.Line.TheVariants as line

-- ---- the words of a line

-- of a text that is written out
abbrev below : List ℕ → Bool
below [] = true
below (x ∷ xs) = cond (nat_lt x 256) (below xs) false

below_bytes : (xs : List ℕ) → below xs ≡ true → AreBytes xs
below_bytes [] is = All-nil (λ b. b < 256)
below_bytes (x ∷ xs) is = elim (cases_Bool (nat_lt x 256)) [
  | inl less ↦ All-cons (λ b. b < 256) x xs (ltb-true x 256 less)
      (below_bytes xs (sym (ap (λ (b : Bool). cond b (below xs) false) less) ∙ is))
  | inr more ↦ absurd (let no : false ≡ true = sym (ap (λ (b : Bool). cond b (below xs) false) more) ∙ is in cc)
]

number_bytes : (word : List ℕ) (n : ℕ) → IsNumber word n → AreBytes word
number_bytes word n is = All-from_get_or (λ b. b < 256) word 0 (λ i here. let digit = (all_digits word n i is here).1 in omega arith)

name_bytes : (word : List ℕ) → IsNameText word → AreBytes word
name_bytes word is = λ k d within. let most = (is.printable k d within).1 in omega arith

two_bytes : (n : ℕ) → AreBytes (two_digits n)
two_bytes n = All-cons (λ b. b < 256) (48 + n / 10 % 10) ((48 + n % 10) ∷ []) (omega arith)
    (All-cons (λ b. b < 256) (48 + n % 10) [] (omega arith) (All-nil (λ b. b < 256)))

date_bytes : (word : List ℕ) (date : ℕ) → IsDateWord word date → AreBytes word
unfolding date_form
date_bytes word date is =
    let both : (xs ys : List ℕ) → AreBytes xs → AreBytes ys → AreBytes (xs ++ ys) = λ xs ys a b. All-append (λ b. b < 256) xs ys a b in
    let from_minute : List ℕ = two_digits is.minute ++ codes ":" ++ two_digits is.second in
    let from_hour : List ℕ = two_digits is.hour ++ codes ":" ++ from_minute in
    let from_day : List ℕ = two_digits is.day ++ codes "T" ++ from_hour in
    let from_month : List ℕ = two_digits is.month ++ codes "-" ++ from_day in
    let from_year : List ℕ = two_digits is.year ++ codes "-" ++ from_month in
    let minutes : AreBytes from_minute =
    both (two_digits is.minute) (codes ":" ++ two_digits is.second) (two_bytes is.minute)
    (both (codes ":") (two_digits is.second) (below_bytes (codes ":") refl) (two_bytes is.second)) in
    let hours : AreBytes from_hour = both (two_digits is.hour) (codes ":" ++ from_minute) (two_bytes is.hour)
    (both (codes ":") from_minute (below_bytes (codes ":") refl) minutes) in
    let days : AreBytes from_day = both (two_digits is.day) (codes "T" ++ from_hour) (two_bytes is.day)
    (both (codes "T") from_hour (below_bytes (codes "T") refl) hours) in
    let months : AreBytes from_month = both (two_digits is.month) (codes "-" ++ from_day) (two_bytes is.month)
    (both (codes "-") from_day (below_bytes (codes "-") refl) days) in
    let years : AreBytes from_year = both (two_digits is.year) (codes "-" ++ from_month) (two_bytes is.year)
    (both (codes "-") from_month (below_bytes (codes "-") refl) months) in
    subst AreBytes (sym is.written) (both (two_digits (is.year / 100)) from_year (two_bytes (is.year / 100)) years)

-- the words that stand in a form are of bytes
abbrev PartIsBytes : Part → Type 0
PartIsBytes (Word text) = AreBytes text
PartIsBytes other = Unit {0}

part_bytes : (word : List ℕ) (part : Part) → PartIsBytes part → SpellsPart word part → AreBytes word
part_bytes word (Word text) known is = subst AreBytes (sym is) known
part_bytes word (Number least greatest n) known is = number_bytes word n is.0
part_bytes word (Name name) known is = name_bytes word is.0
part_bytes word (Date date) known is = date_bytes word date is

abbrev FormIsBytes : List Part → Type 0
FormIsBytes [] = Unit {0}
FormIsBytes (part ∷ parts) = PartIsBytes part × FormIsBytes parts

abbrev WordsAreBytes : List (List ℕ) → Type 0
WordsAreBytes [] = Unit {0}
WordsAreBytes (word ∷ words) = AreBytes word × WordsAreBytes words

form_bytes : (words : List (List ℕ)) (parts : List Part) → FormIsBytes parts → AllZip SpellsPart words parts → WordsAreBytes words
form_bytes [] parts known is = tt
form_bytes (word ∷ words) [] known is = absurd is
form_bytes (word ∷ words) (part ∷ parts) known is = (part_bytes word part known.0 is.0, form_bytes words parts known.1 is.1)

joined_bytes : (words : List (List ℕ)) → WordsAreBytes words → AreBytes (join_with_byte 0x20 words)
joined_bytes [] known = All-nil (λ b. b < 256)
joined_bytes (word ∷ []) known = known.0
joined_bytes (word ∷ other ∷ words) known =
    All-append (λ b. b < 256) word (0x20 ∷ join_with_byte 0x20 (other ∷ words)) known.0
    (All-cons (λ b. b < 256) 0x20 (join_with_byte 0x20 (other ∷ words)) (omega arith) (joined_bytes (other ∷ words) known.1))

line_words : (words : List (List ℕ)) (asked : Line) → HasForm words (line_forms asked) → WordsAreBytes words
line_words words (line.Append name n date) has = elim (dated_cases words (Word (codes "append") ∷ Name name ∷ AnyNumber n ∷ []) date has) [
  | inl full ↦ form_bytes words (Word (codes "append") ∷ Name name ∷ AnyNumber n ∷ Date date ∷ [])
      (below_bytes (codes "append") refl, (tt, (tt, (tt, tt)))) full
  | inr bare ↦ form_bytes words (Word (codes "append") ∷ Name name ∷ AnyNumber n ∷ [])
      (below_bytes (codes "append") refl, (tt, (tt, tt))) bare.0
]
line_words words line.List (inl is) = form_bytes words (Word (codes "list") ∷ []) (below_bytes (codes "list") refl, tt) is
line_words words line.List (inr never) = absurd never
line_words words (line.Restore number) (inl is) = form_bytes words (Word (codes "restore") ∷ AnyNumber number ∷ [])
    (below_bytes (codes "restore") refl, (tt, tt)) is
line_words words (line.Restore number) (inr never) = absurd never
line_words words line.Scrub (inl is) = form_bytes words (Word (codes "scrub") ∷ []) (below_bytes (codes "scrub") refl, tt) is
line_words words line.Scrub (inr never) = absurd never
line_words words (line.Lose segment sector) (inl is) =
    form_bytes words (Word (codes "lose") ∷ AnyNumber segment ∷ AnyNumber sector ∷ []) (below_bytes (codes "lose") refl, (tt, (tt, tt))) is
line_words words (line.Lose segment sector) (inr never) = absurd never
line_words words line.End (inl is) = form_bytes words (Word (codes "end") ∷ []) (below_bytes (codes "end") refl, tt) is
line_words words line.End (inr never) = absurd never

-- a line is one of bytes
line_bytes : (text : List ℕ) (asked : Line) → IsLineText text asked → AreBytes text
line_bytes text asked is =
    let before : AreBytes is.before = subst AreBytes (join_with_byte-slice_split 0x20 is.before)
    (joined_bytes (words_of is.before) (line_words (words_of is.before) asked is.has)) in
    subst AreBytes (sym is.whole) (All-append (λ b. b < 256) is.before (0x0A ∷ []) before
    (All-cons (λ b. b < 256) 0x0A [] (omega arith) (All-nil (λ b. b < 256))))

-- ---- where none are told

pub content_both : (before between : Option (List ℕ)) (xs ys : List ℕ) → before ≡ option_map (λ rest. xs ++ rest) between →
    IfNone before (AreBytes xs) → IfNone between (AreBytes ys) →
    IfNone before (AreBytes (xs ++ ys))
content_both (Some told) between xs ys gave content more = tt
content_both None (Some left) xs ys gave content more = absurd (cc)
content_both None None xs ys gave content more = All-append (λ b. b < 256) xs ys content more

-- a line is, and what stands behind it
pub content_behind : (before between : Option (List ℕ)) (text ys : List ℕ) (asked : Line) → IsLineText text asked →
    before ≡ option_map (λ rest. text ++ rest) between → IfNone between (AreBytes ys) →
    IfNone before (AreBytes (text ++ ys))
content_behind before between text ys asked is gave more = content_both before between text ys gave
    (untold_content before text (line_bytes text asked is)) more

pub no_content : (told : Option (List ℕ)) → IfNone told (AreBytes [])
no_content told = untold_content told [] (All-nil (λ b. b < 256))

-- what is left, or none where it isn't told
pub record AnyBytes (o : Option (List ℕ)) : Type 0 where
  pub rest : List ℕ
  pub told : IfSome o (λ bytes. bytes ≡ rest)
  pub content : IfNone o (AreBytes rest)

pub any_bytes : (o : Option (List ℕ)) → AnyBytes o
any_bytes None = record { rest = []; told = tt; content = All-nil (λ b. b < 256) }
any_bytes (Some bytes) = record { rest = bytes; told = refl; content = tt }

-- any bytes can be what was given, as many as were
pub record GivenAs (before after : Option (List ℕ)) (count : ℕ) : Type 0 where
  pub bytes : List ℕ
  pub long : length bytes ≡ count
  pub gave : before ≡ option_map (λ rest. bytes ++ rest) after
  pub content : IfNone before (AreBytes bytes)

pub given_as : (before after : Option (List ℕ)) (bytes : List ℕ) → before ≡ option_map (λ rest. bytes ++ rest) after →
    GivenAs before after (length bytes)
given_as (Some told) after bytes gave = record { bytes = bytes; long = refl; gave = gave; content = tt }
given_as None (Some left) bytes gave = absurd (cc)
given_as None None bytes gave = record {
  bytes = replicate (length bytes) 0;
  long = length-replicate (length bytes) 0;
  gave = refl;
  content = All-replicate (λ b. b < 256) (length bytes) 0 (omega arith);
}

-- what a limited source doesn't tell
pub limit_untold : (f : List ℕ → List ℕ) (told : Option (List ℕ)) (P : Type 0) → IfNone (option_map f told) P → IfNone told P
limit_untold f None P known = known
limit_untold f (Some bytes) P known = tt

-- the first of some bytes
pub taken_content : (told : Option (List ℕ)) (n : ℕ) (bytes : List ℕ) → IfNone told (AreBytes bytes) → IfNone told (AreBytes (take n bytes))
taken_content None n bytes content = All-take (λ b. b < 256) n bytes content
taken_content (Some told) n bytes content = tt

-- what the source tells, or an input where it tells nothing
pub record BehindBytes (told : Option (List ℕ)) (n : ℕ) (input : List ℕ) : Type 0 where
  pub at : Behind told n input
  pub content : IfNone told (AreBytes at.rest)

pub behind_bytes : (told : Option (List ℕ)) (n : ℕ) (input : List ℕ) → IsInput (option_map (take n) told) input →
    IfNone told (AreBytes input) → BehindBytes told n input
behind_bytes None n input is content = record {
  at = record { rest = input; told = tt; front = refl; enough = λ e. e; few = λ e. refl };
  content = content;
}
behind_bytes (Some bytes) n input is content = record { at = behind (Some bytes) n input is; content = tt }

pub zero_byte : AreBytes (0 ∷ [])
zero_byte = All-cons (λ b. b < 256) 0 [] (omega arith) (All-nil (λ b. b < 256))

pub stop_bytes : AreBytes (codes "end\n" ++ [])
stop_bytes = below_bytes (codes "end\n" ++ []) refl

-- nothing is left
pub ended_content : (told : Option (List ℕ)) (rest : List ℕ) → rest ≡ [] → IfNone told (AreBytes rest)
ended_content told rest none = subst (λ (bytes : List ℕ). IfNone told (AreBytes bytes)) (sym none) (no_content told)
