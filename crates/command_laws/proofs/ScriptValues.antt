-- The values that the words of an append's line give.
use Rattle.std.proofs.Common.{ℕ, ◌<◌, List, All, arith, ◌≡◌, ◌+◌, ◌-◌, ◌++◌, length, replicate, sym, ap, ◌∙◌, subst, ◌^◌, [], ◌∷◌, codes}
use Rattle.std.proofs.Common.{inl, inr}
use Rattle.std.specs.List.{AllZip}
use Rattle.std.proofs.lemmas.List.{length-append, length-replicate}
use Rattle.std.proofs.lemmas.List.Elements.{All-append, All-replicate}
use Rattle.cartridge_spec.specs.Formatting.{IsLabel}
use Rattle.command_laws.proofs.TextCommands.{dated_cases, three_words}
use Rattle.command_spec.specs.Command.{IsDateWord, Date, Name, Word, AnyNumber, SpellsPart}
use Rattle.command_laws.specs.Inputs.{words_of}
use Rattle.command_spec.specs.Input.{IsLineText}
use Rattle.qic_base.specs.LineBytes.{IsPrintable}
use Rattle.qic_base.specs.Field.{IsNameText, filled}
use Rattle.command_spec.specs.declared.line.Line.TheVariants as line

-- a name is a label
printable_bytes : (text : List ℕ) → All IsPrintable text → All (λ b. b < 256) text
printable_bytes text all = λ k d within. let most = (all k d within).1 in omega arith

pub name_is_label : (word label : List ℕ) → IsNameText word → label ≡ filled word → IsLabel label
unfolding filled
name_is_label word label text same =
    let n : ℕ = 44 - length word in
    let fits = text.fits in
    let size : length (word ++ replicate n 0x20) ≡ 44 = length-append word (replicate n 0x20)
    ∙ ap (λ m. length word + m) (length-replicate n 0x20) ∙ omega arith in
    subst IsLabel (sym same) (record {
      size = size;
      bytes = All-append (λ b. b < 256) word (replicate n 0x20) (printable_bytes word text.printable)
          (All-replicate (λ b. b < 256) n 0x20 (omega arith));
    })

-- a date word has 32 bits
pub date_is_word : (word : List ℕ) (date : ℕ) → IsDateWord word date → date < 2 ^ 32
date_is_word word date is =
    let d = is.a_date in
    let a = d.first_year in let b = d.last_year in let c = d.first_month in let e = d.last_month in let f = d.first_day in
    let g = d.last_day in
    let h = d.last_hour in let i = d.last_minute in let j = d.last_second in
    let same = is.stamped in
    omega arith

-- the four words of a line with a date
dated_values : (words : List (List ℕ)) (name : List ℕ) (count date : ℕ) →
    AllZip SpellsPart words (Word (codes "append") ∷ Name name ∷ AnyNumber count ∷ Date date ∷ []) →
    IsLabel name × (date < 2 ^ 32)
dated_values [] name count date spelled = absurd spelled
dated_values (a ∷ []) name count date spelled = absurd spelled.1
dated_values (a ∷ b ∷ []) name count date spelled = absurd spelled.1.1
dated_values (a ∷ b ∷ c ∷ []) name count date spelled = absurd spelled.1.1.1
dated_values (a ∷ b ∷ c ∷ d ∷ rest) name count date spelled =
    (name_is_label b name spelled.1.0.0 spelled.1.0.1, date_is_word d date spelled.1.1.1.0)

-- an append's line gives a label of 44 bytes and a date word
pub append_values : (text name : List ℕ) (count date : ℕ) → IsLineText text (line.Append name count date) → IsLabel name × (date < 2 ^ 32)
append_values text name count date is =
    elim (dated_cases (words_of is.before) (Word (codes "append") ∷ Name name ∷ AnyNumber count ∷ []) date is.has) [
      | inl full ↦ dated_values (words_of is.before) name count date full
      | inr bare ↦
          let s = three_words (words_of is.before) (Word (codes "append")) (Name name) (AnyNumber count) bare.0 in
          (name_is_label s.second name s.two.0 s.two.1, let none = bare.1 in omega arith)
    ]
