-- What a caller reads of an option that may lack, of a command that excludes nothing: no text, or one that passed its parser.
use Rattle.std.proofs.Common.{◌++◌, ◌≡◌, ◌⊎◌, ◌∙◌, ◌<◌, ap, ℕ, zero, suc, Bool, true, false, List, [], ◌∷◌, length, Option, Some, None}
use Rattle.std.proofs.Common.{Result, Ok, refl, sym, subst, inl, inr, arith}
use Rattle.std.specs.Borrow.{Bor}
use Rattle.std.specs.List.{All, slice_index_or}
use Rattle.std.specs.Prelude.{option_map, slice_get, pos}
use Rattle.std.specs.Str.{bytes_eq}
use Rattle.std.specs.Str.Parse.{ParsesUnsigned}
use Rattle.std.proofs.lemmas.List.Elements.{All-nil}
use Rattle.std.proofs.lemmas.Slice.Eq.{bytes_eq-Decides}
use Rattle.clap.specs.Lexer.{without_minus}
use Rattle.clap.specs.Built.{AddsArg, HasDistinctIds, IsAuto, IsParsedFrom, IsPlain, IsPlainArg}
use Rattle.clap.specs.Facts.{EntryPasses, HasReading, PassesArg, args_of, groups_of, parser_of, parser_of_value}
use Rattle.clap.specs.Matches.{ReadsOne, found_of, matched_of, one_text}
use Rattle.clap.specs.Values.{Accepts, read_as, reading_of}
use Rattle.clap.specs.declared.builder.arg.Arg.{Arg}
use Rattle.clap.specs.declared.builder.command.Command.{Command}
use Rattle.clap.specs.declared.builder.command.Command.TheViews.{out-Command}
use Rattle.clap.specs.declared.builder.value_parser.Reading.{Reading}
use Rattle.clap.specs.declared.builder.value_parser.ValueParser.{ValueParser}
use Rattle.clap.specs.declared.builder.value_parser.ValueParser.TheVariants.{Signed}
use Rattle.clap.specs.declared.parser.matches.ArgMatches.{ArgMatches}
use Rattle.clap.specs.declared.parser.matches.MatchedArg.{MatchedArg}
use Rattle.clap.proofs.CallerLemmas.{added_plain, entry_by_id, same_rules_by_id}
use Rattle.clap.proofs.CallerReads.{signed_reads}
use Rattle.program_words.specs.DumpWords.{IsLengthOf}

-- an argument of a command that excludes nothing, whose id no other has
module _ (old : Command) (m : ArgMatches) (p : IsParsedFrom old m) (k : ℕ) (d : Arg) (lt : k < length (args_of old))
    (unique : (j : ℕ) (e : Arg) → j < length (args_of old) → bytes_eq (slice_index_or (args_of old) j e).id.now
    (slice_index_or (args_of old) k d).id.now ≡ true → j ≡ k)
    (own : IsAuto (slice_index_or (args_of old) k d) → ⊥) (q : ValueParser)
    (parser : (slice_index_or (args_of old) k d).value_parser ≡ Some q) where
  -- a value of its id passed its parser
  value_passes : (value : List ℕ) → PassesArg p.built (slice_index_or (args_of old) k d).id.now value →
      Accepts (slice_index_or (args_of old) k d).ignore_case q value
  value_passes value pass =
      let s = same_rules_by_id old m p k d lt unique own pass.0 pass.1 pass.2 pass.3 pass.4.0 in
      let is_q : parser_of pass.1 ≡ q = ap parser_of_value (s.parser q parser) in
      let as_q : Accepts pass.1.ignore_case q value = subst (λ (w : ValueParser). Accepts pass.1.ignore_case w value) is_q pass.4.1 in
      subst (λ (b : Bool). Accepts b q value) s.ignore_case as_q

  -- .. and is read as that says
  reading_is : (r : Reading) → HasReading p.built (slice_index_or (args_of old) k d).id.now r → r ≡ reading_of q
  reading_is r any =
      let s = same_rules_by_id old m p k d lt unique own any.0 any.1 any.2 any.3 any.4.0 in
      sym any.4.1 ∙ ap reading_of (ap parser_of_value (s.parser q parser))

  -- so do all values of its entry
  entry_passes : IsPlain old → (out-Command old).has_globals ≡ false → ((slice_index_or (args_of old) k d).id.now ≡ [] → ⊥) →
      (x : MatchedArg) → matched_of (found_of m) (slice_index_or (args_of old) k d).id.now ≡ Some x
      → (x.reading ≡ reading_of q) × All (λ (v : Bor (List ℕ)). Accepts (slice_index_or (args_of old) k d).ignore_case q v.now) x.vals.items
  entry_passes plain globals named x found =
      let id = (slice_index_or (args_of old) k d).id.now in
      let parsed = p.parsed (p.from.globals ∙ globals) in
      let got = entry_by_id (EntryPasses p.built) (found_of m).entries.items id x parsed.values found in
      let key : got.0.0.now ≡ id = (bytes_eq-Decides got.0.0.now id).0 got.2 in
      let no_groups : groups_of p.built ≡ [] = (p.from.plain plain).1 in
      let no_group : got.0.1.is_group ≡ true → ⊥ = λ g. elim (got.3.3 g) [
        | inl empty ↦ named (sym key ∙ empty)
        | inr lots ↦
            let bad : 0 < 0 = rw no_groups at lots in
            absurd (omega arith)
      ] in (
        elim got.3.4 [
          | inl g ↦ absurd (no_group g)
          | inr has ↦ ap (λ (y : MatchedArg). y.reading) (sym got.1)
              ∙ reading_is got.0.1.reading (subst (λ (w : List ℕ). HasReading p.built w got.0.1.reading) key has)
        ],
        elim got.3.0 [
          | inl g ↦ absurd (no_group g)
          | inr vals ↦
              subst (λ (y : MatchedArg). All (λ (v : Bor (List ℕ)). Accepts (slice_index_or (args_of old) k d).ignore_case q v.now)
              y.vals.items) got.1
              (λ i e less. value_passes (slice_index_or got.0.1.vals.items i e).now
              (subst (λ (w : List ℕ). PassesArg p.built w (slice_index_or got.0.1.vals.items i e).now) key (vals i e less)))
        ],
      )

  first_read : (how : Reading) (b : Bool) (vs : List (Bor (List ℕ))) → All (λ (v : Bor (List ℕ)). Accepts b q v.now) vs
      → (option_map (λ (s : Bor (List ℕ)). read_as how s.now) (slice_get vs 0) ≡ None)
      ⊎ ((t : List ℕ) × (option_map (λ (s : Bor (List ℕ)). read_as how s.now) (slice_get vs 0) ≡ Some (read_as how t)) × Accepts b q t)
  first_read how b [] all = inl refl
  first_read how b (v ∷ vs) all = inr (v.now, refl, all 0 v (omega arith))

  -- it has no text, or one that passed its parser
  pub optional_read : IsPlain old → (out-Command old).has_globals ≡ false → ((slice_index_or (args_of old) k d).id.now ≡ [] → ⊥)
      → (one_text (found_of m) (slice_index_or (args_of old) k d).id.now ≡ None)
      ⊎ ((t : List ℕ) × (one_text (found_of m) (slice_index_or (args_of old) k d).id.now ≡ Some (read_as (reading_of q) t))
      × Accepts (slice_index_or (args_of old) k d).ignore_case q t)
  optional_read plain globals named = go (matched_of (found_of m) (slice_index_or (args_of old) k d).id.now) refl
    where
      text_of : MatchedArg → Option (List ℕ)
      text_of a = option_map (λ (s : Bor (List ℕ)). read_as a.reading s.now) (slice_get a.vals.items 0)

      go : (o : Option MatchedArg) → matched_of (found_of m) (slice_index_or (args_of old) k d).id.now ≡ o
          → (one_text (found_of m) (slice_index_or (args_of old) k d).id.now ≡ None)
          ⊎ ((t : List ℕ) × (one_text (found_of m) (slice_index_or (args_of old) k d).id.now ≡ Some (read_as (reading_of q) t))
          × Accepts (slice_index_or (args_of old) k d).ignore_case q t)
      go None is = inl (rw is refl)
      go (Some x) is =
          let passes = entry_passes plain globals named x is in
          elim (first_read x.reading (slice_index_or (args_of old) k d).ignore_case x.vals.items passes.1) [
            | inl none ↦ inl (rw is none)
            | inr read ↦ inr (read.0, rw is (read.1 ∙ ap (λ (h : Reading). Some (read_as h read.0)) passes.0), read.2)
          ]

-- so is the second of three arguments
pub second_of_three : (start one two cmd : Command) (x a y : Arg) (m : ArgMatches) → AddsArg start x one → AddsArg one a two →
    AddsArg two y cmd
    → args_of start ≡ [] → groups_of start ≡ [] → (out-Command start).has_globals ≡ false → IsPlainArg x → IsPlainArg a → IsPlainArg y →
    x.global ≡ false → a.global ≡ false → y.global ≡ false
    → HasDistinctIds (x ∷ a ∷ y ∷ []) → (a.id.now ≡ [] → ⊥) → (IsAuto a → ⊥) → (q : ValueParser) → a.value_parser ≡ Some q →
    IsParsedFrom cmd m
    → (one_text (found_of m) a.id.now ≡ None)
    ⊎ ((t : List ℕ) × (one_text (found_of m) a.id.now ≡ Some (read_as (reading_of q) t)) × Accepts a.ignore_case q t)
second_of_three start one two cmd x a y m adds_x adds_a adds_y args groups globals plain_x plain_a plain_y local_x local_a local_y distinct
    named own q parser p =
    let list : args_of cmd ≡ adds_x.arg ∷ adds_a.arg ∷ adds_y.arg ∷ [] =
    adds_y.args ∙ ap (λ (l : List Arg). l ++ adds_y.arg ∷ [])
    (adds_a.args ∙ ap (λ (l : List Arg). l ++ adds_a.arg ∷ []) (adds_x.args ∙ ap (λ (l : List Arg). l ++ adds_x.arg ∷ []) args)) in
    let plain0 : IsPlain start = (subst (All IsPlainArg) (sym args) (All-nil IsPlainArg), groups) in
    let plain : IsPlain cmd = added_plain two cmd y adds_y
    (added_plain one two a adds_a (added_plain start one x adds_x plain0 plain_x) plain_a) plain_y in
    let none : (out-Command cmd).has_globals ≡ false =
    rw (adds_y.globals, adds_a.globals, adds_x.globals, globals, local_x, local_a, local_y) refl in
    let elem : slice_index_or (args_of cmd) 1 a ≡ adds_a.arg = ap (λ (l : List Arg). slice_index_or l 1 a) list in
    let same_id : (slice_index_or (args_of cmd) 1 a).id.now ≡ a.id.now = ap (λ (b : Arg). b.id.now) elem
    ∙ ap (λ (t : Bor (List ℕ)). t.now) adds_a.rules.id in
    let same_case : (slice_index_or (args_of cmd) 1 a).ignore_case ≡ a.ignore_case = ap (λ (b : Arg). b.ignore_case) elem
    ∙ adds_a.rules.ignore_case in
    let lt : 1 < length (args_of cmd) = subst (λ (l : List Arg). 1 < length l) (sym list) (omega arith) in
    let unique : (j : ℕ) (e : Arg) → j < length (args_of cmd) → bytes_eq (slice_index_or (args_of cmd) j e).id.now
    (slice_index_or (args_of cmd) 1 a).id.now ≡ true → j ≡ 1 =
    λ j e less same.
    let in_three : j < 3 = subst (λ (l : List Arg). j < length l) list less in
    let there : (slice_index_or (args_of cmd) j e).id.now ≡ (slice_index_or (x ∷ a ∷ y ∷ []) j e).id.now =
    ap (λ (l : List Arg). (slice_index_or l j e).id.now) list ∙ places j e in_three in
    distinct j 1 a e in_three (omega arith) (rw (← there, ← same_id) same) in
    let got = optional_read cmd m p 1 a lt unique
    (λ auto. own (elim auto [ inl h ↦ inl (sym same_id ∙ h) | inr h ↦ inr (sym same_id ∙ h) ])) q
    (ap (λ (b : Arg). b.value_parser) elem ∙ adds_a.rules.parser q parser) plain none (λ empty. named (sym same_id ∙ empty)) in
    let Reads : List ℕ → Bool → Type 0 = λ w b. (one_text (found_of m) w ≡ None)
    ⊎ ((t : List ℕ) × (one_text (found_of m) w ≡ Some (read_as (reading_of q) t)) × Accepts b q t) in
    subst (Reads a.id.now) same_case (subst (λ (w : List ℕ). Reads w (slice_index_or (args_of cmd) 1 a).ignore_case) same_id got)
  where
    places : (j : ℕ) (e : Arg) → j < 3 →
        (slice_index_or (adds_x.arg ∷ adds_a.arg ∷ adds_y.arg ∷ []) j e).id.now ≡ (slice_index_or (x ∷ a ∷ y ∷ []) j e).id.now
    places zero e less = ap (λ (t : Bor (List ℕ)). t.now) adds_x.rules.id
    places (suc zero) e less = ap (λ (t : Bor (List ℕ)). t.now) adds_a.rules.id
    places (suc (suc zero)) e less = ap (λ (t : Bor (List ℕ)). t.now) adds_y.rules.id
    places (suc (suc (suc j))) e less = absurd (omega arith)

-- a text that passed the range of the segments is the number that is read of it
pub length_read : (E : Type 0) (G : List ℕ → Result ℕ E → Type 0) → ((u : List ℕ) (x : Result ℕ E) → G u x → ParsesUnsigned 16 10 u x) →
    (m : ArgMatches) (id : List ℕ) (b : Bool) (r : Option ℕ)
    → (one_text (found_of m) id ≡ None → r ≡ None) → ((t : List ℕ) → one_text (found_of m) id ≡ Some t → ReadsOne G t r)
    → (one_text (found_of m) id ≡ None) ⊎ ((t : List ℕ)
    × (one_text (found_of m) id ≡ Some (read_as (reading_of (Signed (pos 3) (pos 246))) t)) × Accepts b (Signed (pos 3) (pos 246)) t)
    → IsLengthOf (one_text (found_of m) id) r
length_read E G only m id b r none reads (inl lacks) = rw (lacks, none lacks) tt
length_read E G only m id b r none reads (inr has) =
    let read : ReadsOne G (without_minus has.0) r = reads (without_minus has.0) has.1 in
    let got = signed_reads E G 16 3 246 has.0 r read only (omega arith) has.2 in
    let parsed : G (without_minus has.0) (Ok got.0) = subst (λ (o : Option ℕ). ReadsOne G (without_minus has.0) o) got.1 read in
    let Is : Option (List ℕ) → Option ℕ → Type 0 = λ o n. IsLengthOf o n in
    subst (λ (o : Option (List ℕ)). Is o r) (sym has.1)
    (subst (Is (Some (without_minus has.0))) (sym got.1) ((only (without_minus has.0) (Ok got.0) parsed).1, got.2, got.3))
