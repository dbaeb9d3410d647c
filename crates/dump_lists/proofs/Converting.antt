-- A list that is read as bits of a mask.
use Rattle.std.proofs.Common.{◌≡◌, ℕ, ◌+◌, Bool, true, false, List, [], ◌∷◌, map, Option, Some, None, Result, Ok, Err}
use Rattle.std.proofs.Common.{if◌then◌else◌, nat_lt, refl, sym, ap, ◌∙◌, subst}
use Rattle.std.proofs.lemmas.List.{map-append}
use Rattle.std.specs.Option.{option_map, option_and_then}
use Rattle.qic_base.specs.Source.{Meaning}
use Rattle.rescue_map.specs.Lines.{Line, lines_of, content_of}
use Rattle.rescue_map.specs.Map.{most_lines}
use Rattle.dump_spec.specs.Lists.{Reading, Listed, Fault, with_line, reading_from, reading_of, line_numbers, listed_in}
use Rattle.dump_lists.specs.Reads.{ReadsList}
use Rattle.dump_lists.specs.declared.reading.ListError.{ListError}
use Rattle.dump_lists.specs.declared.reading.ListError.TheVariants as error

-- what the names of a reading are turned into
abbrev pub reading_map : {A B : Type 0} → (A → B) → Reading A → Reading B
reading_map f (Listed names) = Listed (map f names)
reading_map f (Fault line) = Fault line

-- ... by each line
abbrev pub named_map : {A B : Type 0} → (A → B) → (List ℕ → Option (List A)) → List ℕ → Option (List B)
named_map f named ns = option_map (map f) (named ns)

with_line-map : {A B : Type 0} (f : A → B) (line : ℕ) (o : Option (List A)) (r : Reading A) →
    with_line line (option_map (map f) o) (reading_map f r) ≡ reading_map f (with_line line o r)
with_line-map f line None r = refl
with_line-map f line (Some names) (Listed more) = ap (λ (xs : List _). Listed xs) (sym (map-append f names more))
with_line-map f line (Some names) (Fault later) = refl

line-map : {A B : Type 0} (f : A → B) (named : List ℕ → Option (List A)) (t : Bool) (o : Option (List ℕ)) →
    (if t then None else option_and_then (named_map f named) o) ≡ option_map (map f) (if t then None else option_and_then named o)
line-map f named true o = refl
line-map f named false None = refl
line-map f named false (Some ns) = refl

reading_from-map : {A B : Type 0} (f : A → B) (named : List ℕ → Option (List A)) (line : ℕ) (lines : List Line) →
    reading_from (named_map f named) line lines ≡ reading_map f (reading_from named line lines)
reading_from-map f named line [] = refl
reading_from-map f named line (text ∷ lines) =
    let many : Bool = nat_lt most_lines line in
    ap (with_line line (if many then None else option_and_then (named_map f named) (line_numbers (content_of text))))
    (reading_from-map f named (line + 1) lines)
    ∙ ap (λ (o : Option (List _)). with_line line o (reading_map f (reading_from named (line + 1) lines)))
    (line-map f named many (line_numbers (content_of text)))
    ∙ with_line-map f line (if many then None else option_and_then named (line_numbers (content_of text)))
    (reading_from named (line + 1) lines)

-- names that are turned into these
record Names {A B : Type 0} (f : A → B) (r : Reading A) (ranges : List B) : Type 0 where
  pub names : List A
  pub reading : r ≡ Listed names
  pub are : map f names ≡ ranges

names_of : {A B : Type 0} (f : A → B) (r : Reading A) (ranges : List B) → reading_map f r ≡ Listed ranges → Names f r ranges
names_of f (Listed names) ranges is = record { names = names; reading = refl; are = ap listed_in is }
names_of f (Fault line) ranges is = absurd (cc)

fault_of : {A B : Type 0} (f : A → B) (r : Reading A) (line : ℕ) → reading_map f r ≡ Fault line → r ≡ Fault line
fault_of f (Listed names) line is = absurd (cc)
fault_of f (Fault other) line is = ap (λ (r : Reading _). same r) is where
  same : {A B : Type 0} → Reading B → Reading A
  same (Listed names) = Listed []
  same (Fault line) = Fault line

pub reads_names : {S A B : Type 0} (f : A → B) (named : List ℕ → Option (List A)) (IsMask : List B → List ℕ → Type 0)
    (IsSet : List A → List ℕ → Type 0) (m : Meaning S) (old new : S) (mask : List ℕ) (result : Result (Unit {0}) ListError) →
    ((names : List A) → IsMask (map f names) mask → IsSet names mask) →
    ReadsList (named_map f named) IsMask m old new mask result → ReadsList named IsSet m old new mask result
reads_names f named IsMask IsSet m old new mask (Ok done) set reads =
    let all = names_of f (reading_of named reads.text) reads.names
    (sym (reading_from-map f named 1 (lines_of reads.text)) ∙ reads.reading) in
    record {
      text = reads.text;
      told = reads.told;
      names = all.names;
      reading = all.reading;
      set = set all.names (subst (λ (xs : List _). IsMask xs mask) (sym all.are) reads.set);
      ended = reads.ended;
    }
reads_names f named IsMask IsSet m old new mask (Err (error.Fault line)) set reads = record {
  text = reads.text;
  told = reads.told;
  reading = fault_of f (reading_of named reads.text) line (sym (reading_from-map f named 1 (lines_of reads.text)) ∙ reads.reading);
}
reads_names f named IsMask IsSet m old new mask (Err error.Source) set reads = tt
