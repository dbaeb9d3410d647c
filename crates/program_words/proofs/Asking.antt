-- What the matches of the commands say of the words.
use Rattle.std.proofs.Common.{◌≡◌, ◌⊎◌, ◌≢◌, ◌<◌, ◌∙◌, ap, ap₂, ℕ, zero, suc, true, false, List, [], ◌∷◌, length, Option, Some, None, All}
use Rattle.std.proofs.Common.{Result, refl, sym, subst, codes, arith, inl, inr, slice_index, is_some}
use Rattle.std.specs.List.{slice_index_or}
use Rattle.std.specs.Option.{option_map}
use Rattle.std.specs.Borrow.{Bor}
use Rattle.std.specs.Prelude.{pos}
use Rattle.std.specs.Str.Parse.{ParsesUnsigned}
use Rattle.std.proofs.lemmas.Slice.Eq.{bytes_eq-Decides}
use Rattle.std.proofs.lemmas.List.Elements.{All-cons, All-nil}
use Rattle.clap.specs.Built.{FitsChain, HasDistinctIds, IsAuto, IsParsedFrom, IsPlainArg, TakesValue}
use Rattle.clap.specs.Facts.{least_values, unwrap_or_range}
use Rattle.clap.specs.Faults.{fault_of, is_simple_and_free}
use Rattle.clap.specs.Kinds.{HasKind, IsAmong, Kinds}
use Rattle.clap.specs.Matches.{ReadsOne, found_of, first_value, one_text}
use Rattle.clap.specs.Simple.{App, HasMatchesOf, app_of, is_simple, matches_of, with_rule}
use Rattle.clap.specs.Takes.{takes}
use Rattle.clap.specs.Values.{Accepts, kind_of, read_as, reading_of}
use Rattle.clap.specs.Walk.{Rule, Text, first_of, one_of, rows_of}
use Rattle.clap.specs.declared.builder.arg.Arg.{Arg}
use Rattle.clap.specs.declared.builder.command.Command.{Command}
use Rattle.clap.specs.declared.builder.value_parser.ValueParser.TheVariants.{Signed}
use Rattle.clap.specs.declared.error.Error.{Error}
use Rattle.clap.specs.declared.error.kind.ErrorKind.{ErrorKind}
use Rattle.clap.specs.declared.error.kind.ErrorKind.TheVariants.{OutOfMemory}
use Rattle.clap.specs.declared.parser.matches.ArgMatches.{ArgMatches}
use Rattle.clap.proofs.CallerLemmas.{required_in_chain}
use Rattle.clap.proofs.OnLiterals.{clap_on_literals}
use Rattle.clap.proofs.WalkLemmas.{first_value-rows, one_text-rows}
use Rattle.program_words.specs.declared.export_words.ExportWords.{ExportWords}
use Rattle.program_words.specs.declared.import_words.ImportWords.{ImportWords}
use Rattle.program_words.specs.DumpOptions.{IsImageArgument, IsExportCommand, IsImportCommand}
use Rattle.program_words.specs.DumpWords.{export_app, import_app, AskExport, AskImport, IsLengthOf, IsRefusedBy}
use Rattle.program_words.proofs.Optional.{second_of_three, length_read}

pub export_is : (c : Command) → IsExportCommand c → app_of c ≡ export_app
export_is c is =
    is.adds_image.shape is.is_image.local
    ∙ ap₂ with_rule (is.adds_option.shape is.is_option.local ∙ ap₂ with_rule is.empty.app is.is_option.rule) is.is_image.rule

pub import_is : (c : Command) → IsImportCommand c → app_of c ≡ import_app
import_is c is =
    is.adds_image.shape is.is_image.local
    ∙ ap₂ with_rule (is.adds_segments.shape is.is_segments.local
    ∙ ap₂ with_rule (is.adds_option.shape is.is_option.local ∙ ap₂ with_rule is.empty.app is.is_option.rule) is.is_segments.rule)
    is.is_image.rule

-- what is asked of both to know their matches and their faults
pub record IsPlainApp (app : App) : Type 0 where
  pub free : is_simple_and_free app ≡ true
  pub simple : is_simple app ≡ true

pub export_plain : IsPlainApp export_app
unfolding clap_on_literals
export_plain = record { free = refl; simple = refl }

pub import_plain : IsPlainApp import_app
unfolding clap_on_literals
import_plain = record { free = refl; simple = refl }

-- ---- the image is there

-- an id that begins with m, s or i is none that `clap` adds
first_letter : (a : Arg) (letter : ℕ) → slice_index a.id.now 0 ≡ letter → 104 < letter → letter < 118 → (a.id.now ≡ [] → ⊥) × (IsAuto a → ⊥)
first_letter a letter e low high = (
  (λ none. let z : slice_index a.id.now 0 ≡ 0 = rw none refl in absurd (omega arith)),
  (λ auto. elim auto [
    | inl h ↦ let z : slice_index a.id.now 0 ≡ 104 = rw h refl in absurd (omega arith)
    | inr h ↦ let z : slice_index a.id.now 0 ≡ 118 = rw h refl in absurd (omega arith)
  ]),
)

-- ids are distinct where their first letters are
distinct_ids : (xs : List Arg) (letters : List ℕ) →
    ((j : ℕ) (d : Arg) → j < length xs → slice_index (slice_index_or xs j d).id.now 0 ≡ slice_index letters j)
    → ((j k : ℕ) → j < length xs → k < length xs → slice_index letters j ≡ slice_index letters k → j ≡ k) → HasDistinctIds xs
distinct_ids xs letters at differ j k d e lj lk same =
    let one : (slice_index_or xs j e).id.now ≡ (slice_index_or xs k d).id.now = (bytes_eq-Decides _ _).0 same in
    differ j k lj lk (sym (at j e lj) ∙ ap (λ (t : List ℕ). slice_index t 0) one ∙ at k d lk)

two_letters : (a b : Arg) → slice_index a.id.now 0 ≡ 109 → slice_index b.id.now 0 ≡ 105 → (j : ℕ) (d : Arg) → j < length (a ∷ b ∷ []) →
    slice_index (slice_index_or (a ∷ b ∷ []) j d).id.now 0 ≡ slice_index (109 ∷ 105 ∷ []) j
two_letters a b m i zero d less = m
two_letters a b m i (suc zero) d less = i
two_letters a b m i (suc (suc j)) d less = absurd (omega arith)

two_differ : (j k : ℕ) → j < 2 → k < 2 → slice_index (109 ∷ 105 ∷ []) j ≡ slice_index (109 ∷ 105 ∷ []) k → j ≡ k
two_differ zero zero lj lk same = refl
two_differ zero (suc zero) lj lk same = absurd (omega arith)
two_differ (suc zero) zero lj lk same = absurd (omega arith)
two_differ (suc zero) (suc zero) lj lk same = refl
two_differ (suc (suc j)) k lj lk same = absurd (omega arith)
two_differ zero (suc (suc k)) lj lk same = absurd (omega arith)
two_differ (suc zero) (suc (suc k)) lj lk same = absurd (omega arith)

three_letters : (a b c : Arg) → slice_index a.id.now 0 ≡ 109 → slice_index b.id.now 0 ≡ 115 → slice_index c.id.now 0 ≡ 105 →
    (j : ℕ) (d : Arg) → j < length (a ∷ b ∷ c ∷ [])
    → slice_index (slice_index_or (a ∷ b ∷ c ∷ []) j d).id.now 0 ≡ slice_index (109 ∷ 115 ∷ 105 ∷ []) j
three_letters a b c m s i zero d less = m
three_letters a b c m s i (suc zero) d less = s
three_letters a b c m s i (suc (suc zero)) d less = i
three_letters a b c m s i (suc (suc (suc j))) d less = absurd (omega arith)

three_differ : (j k : ℕ) → j < 3 → k < 3 → slice_index (109 ∷ 115 ∷ 105 ∷ []) j ≡ slice_index (109 ∷ 115 ∷ 105 ∷ []) k → j ≡ k
three_differ zero zero lj lk same = refl
three_differ zero (suc zero) lj lk same = absurd (omega arith)
three_differ zero (suc (suc zero)) lj lk same = absurd (omega arith)
three_differ (suc zero) zero lj lk same = absurd (omega arith)
three_differ (suc zero) (suc zero) lj lk same = refl
three_differ (suc zero) (suc (suc zero)) lj lk same = absurd (omega arith)
three_differ (suc (suc zero)) zero lj lk same = absurd (omega arith)
three_differ (suc (suc zero)) (suc zero) lj lk same = absurd (omega arith)
three_differ (suc (suc zero)) (suc (suc zero)) lj lk same = refl
three_differ (suc (suc (suc j))) k lj lk same = absurd (omega arith)
three_differ zero (suc (suc (suc k))) lj lk same = absurd (omega arith)
three_differ (suc zero) (suc (suc (suc k))) lj lk same = absurd (omega arith)
three_differ (suc (suc zero)) (suc (suc (suc k))) lj lk same = absurd (omega arith)

takes_image : (a : Arg) → IsImageArgument a → TakesValue a
takes_image a is =
    let least : least_values a ≡ 1 = ap (λ (r : Rule). (unwrap_or_range r.range).start_inclusive) is.rule in
    (ap (λ (r : Rule). r.required) is.rule, ap (λ (r : Rule). r.action) is.rule, is.whole, (omega arith))

letter_of : (a : Arg) (id : List ℕ) → a.id.now ≡ id → slice_index a.id.now 0 ≡ slice_index id 0
letter_of a id is = ap (λ (t : List ℕ). slice_index t 0) is

-- an argument of a chain, by the first letter of its id
fits_chain : (a : Arg) (letter : ℕ) → slice_index a.id.now 0 ≡ letter → 104 < letter → letter < 118 → IsPlainArg a → a.global ≡ false →
    FitsChain a
fits_chain a letter is low high plain local = let fits = first_letter a letter is low high in (plain, local, fits.0, fits.1)

pub exported_image : (c : Command) (m : ArgMatches) → IsExportCommand c → IsParsedFrom c m →
    is_some (first_value (found_of m) (codes "image")) ≡ true
exported_image c m is parsed =
    let image_id : is.image.id.now ≡ codes "image" = ap (λ (r : Rule). r.id) is.is_image.rule in
    let first = letter_of is.option (codes "map") (ap (λ (r : Rule). r.id) is.is_option.rule) in
    let last = letter_of is.image (codes "image") image_id in
    let fits : All FitsChain (is.option ∷ is.image ∷ []) =
    All-cons FitsChain is.option (is.image ∷ [])
    (fits_chain is.option 109 first (omega arith) (omega arith) is.is_option.plain is.is_option.local)
    (All-cons FitsChain is.image [] (fits_chain is.image 105 last (omega arith) (omega arith) is.is_image.plain is.is_image.local)
    (All-nil FitsChain)) in
    let has = required_in_chain is.start c (is.option ∷ is.image ∷ []) 1 is.image m (is.between, is.adds_option, (c, is.adds_image, refl))
    is.empty.args is.empty.groups is.empty.local is.empty.negates fits
    (distinct_ids (is.option ∷ is.image ∷ []) (109 ∷ 105 ∷ []) (two_letters is.option is.image first last) two_differ) (omega arith)
    (takes_image is.image is.is_image) parsed in
    subst (λ (t : List ℕ). is_some (first_value (found_of m) t) ≡ true) image_id has

pub imported_image : (c : Command) (m : ArgMatches) → IsImportCommand c → IsParsedFrom c m →
    is_some (first_value (found_of m) (codes "image")) ≡ true
imported_image c m is parsed =
    let image_id : is.image.id.now ≡ codes "image" = ap (λ (r : Rule). r.id) is.is_image.rule in
    let first = letter_of is.option (codes "map") (ap (λ (r : Rule). r.id) is.is_option.rule) in
    let second = letter_of is.segments (codes "segments") (ap (λ (r : Rule). r.id) is.is_segments.rule) in
    let last = letter_of is.image (codes "image") image_id in
    let fits : All FitsChain (is.option ∷ is.segments ∷ is.image ∷ []) =
    All-cons FitsChain is.option (is.segments ∷ is.image ∷ [])
    (fits_chain is.option 109 first (omega arith) (omega arith) is.is_option.plain is.is_option.local)
    (All-cons FitsChain is.segments (is.image ∷ [])
    (fits_chain is.segments 115 second (omega arith) (omega arith) is.is_segments.plain is.is_segments.local)
    (All-cons FitsChain is.image [] (fits_chain is.image 105 last (omega arith) (omega arith) is.is_image.plain is.is_image.local)
    (All-nil FitsChain))) in
    let has = required_in_chain is.start c (is.option ∷ is.segments ∷ is.image ∷ []) 2 is.image m
    (is.with_map, is.adds_option, (is.with_segments, is.adds_segments, (c, is.adds_image, refl)))
    is.empty.args is.empty.groups is.empty.local is.empty.negates fits
    (distinct_ids (is.option ∷ is.segments ∷ is.image ∷ []) (109 ∷ 115 ∷ 105 ∷ [])
    (three_letters is.option is.segments is.image first second last) three_differ) (omega arith)
    (takes_image is.image is.is_image) parsed in
    subst (λ (t : List ℕ). is_some (first_value (found_of m) t) ≡ true) image_id has

pub none_is_not : {X : Type 0} (o : Option X) → o ≡ None → is_some o ≡ true → ⊥
none_is_not o none some = let e : true ≡ false = sym some ∙ ap is_some none in cc

-- ---- the number of segments

-- the option's text is the number that is read of it, or both lack
pub imported_length : (E : Type 0) (G : List ℕ → Result ℕ E → Type 0) → ((u : List ℕ) (x : Result ℕ E) → G u x → ParsesUnsigned 16 10 u x) →
    (c : Command) (m : ArgMatches) → IsImportCommand c → IsParsedFrom c m →
    (r : Option ℕ) → (one_text (found_of m) (codes "segments") ≡ None → r ≡ None) →
    ((t : List ℕ) → one_text (found_of m) (codes "segments") ≡ Some t → ReadsOne G t r) →
    IsLengthOf (one_text (found_of m) (codes "segments")) r
imported_length E G only c m is p r none reads =
    let first = letter_of is.option (codes "map") (ap (λ (r : Rule). r.id) is.is_option.rule) in
    let id : is.segments.id.now ≡ codes "segments" = ap (λ (r : Rule). r.id) is.is_segments.rule in
    let second = letter_of is.segments (codes "segments") id in
    let last = letter_of is.image (codes "image") (ap (λ (r : Rule). r.id) is.is_image.rule) in
    let fits = first_letter is.segments 115 second (omega arith) (omega arith) in
    let read = second_of_three is.start is.with_map is.with_segments c is.option is.segments is.image m is.adds_option is.adds_segments
    is.adds_image
    is.empty.args is.empty.groups is.empty.local is.is_option.plain is.is_segments.plain is.is_image.plain is.is_option.local
    is.is_segments.local is.is_image.local
    (distinct_ids (is.option ∷ is.segments ∷ is.image ∷ []) (109 ∷ 115 ∷ 105 ∷ [])
    (three_letters is.option is.segments is.image first second last) three_differ) fits.0 fits.1
    (Signed (pos 3) (pos 246)) (ap (λ (r : Rule). r.parser) is.is_segments.rule) p in
    length_read E G only m (codes "segments") is.segments.ignore_case r none reads
    (subst (λ (w : List ℕ). (one_text (found_of m) w ≡ None)
    ⊎ ((t : List ℕ) × (one_text (found_of m) w ≡ Some (read_as (reading_of (Signed (pos 3) (pos 246))) t))
    × Accepts is.segments.ignore_case (Signed (pos 3) (pos 246)) t)) id read)

-- ---- words that are taken

-- the words' matches, and that none of their steps fails
pub record Taken (app : App) (words : List Text) (m : ArgMatches) : Type 0 where
  pub taken : fault_of app words ≡ []
  pub rows : rows_of (found_of m) ≡ matches_of app words

pub words_taken : (app : App) → IsPlainApp app → (c : Command) (m : ArgMatches) (given words : List Text) → app_of c ≡ app → given ≡ words →
    HasMatchesOf (app_of c) given m → (is_simple_and_free (app_of c) ≡ true → fault_of (app_of c) given ≡ []) → Taken app words m
words_taken app plain c m given words is same matches kinds =
    let faults : fault_of (app_of c) given ≡ fault_of app words = ap₂ fault_of is same in
    record {
      taken = sym faults ∙ kinds (ap is_simple_and_free is ∙ plain.free);
      rows = (matches (ap is_simple is ∙ plain.simple)).0 ∙ ap₂ matches_of is same;
    }

first_row : (app : App) (words : List Text) (m : ArgMatches) (id : Text) → Taken app words m → first_value (found_of m) id ≡ first_of id
    (matches_of app words)
first_row app words m id t = first_value-rows (found_of m) id ∙ ap (first_of id) t.rows

pub ask_export : (words : List Text) (m : ArgMatches) (asked : ExportWords) → Taken export_app words m →
    first_value (found_of m) (codes "image") ≡ Some asked.image.now → option_map (λ (s : Bor (List ℕ)). s.now) asked.map ≡ first_value
    (found_of m) (codes "map") → AskExport words asked
ask_export words m asked t image file = record {
  taken = t.taken;
  image = sym (first_row export_app words m (codes "image") t) ∙ image;
  file = sym (first_row export_app words m (codes "map") t) ∙ sym file;
}

pub ask_import : (words : List Text) (m : ArgMatches) (asked : ImportWords) → Taken import_app words m →
    first_value (found_of m) (codes "image") ≡ Some asked.image.now → option_map (λ (s : Bor (List ℕ)). s.now) asked.map ≡ first_value
    (found_of m) (codes "map") →
    IsLengthOf (one_text (found_of m) (codes "segments")) asked.segments_per_track → AskImport words asked
ask_import words m asked t image file size = record {
  taken = t.taken;
  image = sym (first_row import_app words m (codes "image") t) ∙ image;
  file = sym (first_row import_app words m (codes "map") t) ∙ sym file;
  size = subst (λ (o : Option Text). IsLengthOf o asked.segments_per_track)
      (one_text-rows (found_of m) (codes "segments") ∙ ap (one_of (codes "segments")) t.rows) size;
}

-- ---- words that are refused

pub none_among : (k : ErrorKind) (kinds : Kinds) → IsAmong k kinds → kinds ≢ []
none_among k [] among e = among
none_among k (x ∷ xs) among e = cc

pub is_refused : (app : App) → IsPlainApp app → (c : Command) (e : Error) (given words : List Text) → app_of c ≡ app → given ≡ words →
    (is_simple_and_free (app_of c) ≡ true → HasKind (fault_of (app_of c) given) e) →
    (takes (app_of c) given ≡ true → kind_of e ≡ OutOfMemory) → IsRefusedBy app words e
is_refused app plain c e given words is same kinds passes other =
    let kind = kinds (ap is_simple_and_free is ∙ plain.free) in
    let among : IsAmong (kind_of e) (fault_of (app_of c) given) = elim kind [ inl memory ↦ absurd (other memory) | inr among ↦ among ] in
    record {
      fault = λ none. none_among (kind_of e) (fault_of (app_of c) given) among (ap₂ fault_of is same ∙ none);
      not_taken = λ taken. other (passes (ap₂ takes is same ∙ taken));
    }
