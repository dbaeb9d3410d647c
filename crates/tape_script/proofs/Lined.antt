-- Lines and their newlines.
use Rattle.std.proofs.Common.{◌≡◌, ℕ, ◌+◌, ◌-◌, List, [], ◌∷◌, ◌++◌, length, take, arith, ap, ◌∙◌, append_assoc, ◌⊎◌, inl, inr, ◌<◌, get_or}
use Rattle.std.proofs.Common.{refl, sym, Option, Some, None, IfSome, codes, lit≤}
use Rattle.std.proofs.Math.Seq.{take-append_seam}
use Rattle.std.proofs.lemmas.List.{length_push, length-append, get_or_append_left, get_or_at}
use Rattle.std.specs.Option.{option_map}
use Rattle.command_laws.proofs.TextLined.{one_before, end_no_newline}
use Rattle.qic_base.specs.LineBytes.{NoNewline}
use Rattle.command_spec.specs.Input.{IsLined}
use Rattle.qic_base.specs.Source.{Meaning}
use Rattle.qic_base.specs.SourceCalls.{Gave, HasEnded}
use Rattle.tape_script.specs.Reading.{BeginsWithNo}

-- bytes and a newline have none before the last
pub one_newline : (before : List ℕ) (n : ℕ) → n ≡ length before + 1 → NoNewline before → NoNewline (take (n - 1) (before ++ 0x0A ∷ []))
one_newline before n long none =
    let k : n - 1 ≡ length before = omega arith in
    let e : take (n - 1) (before ++ 0x0A ∷ []) ≡ before = rw k (take-append_seam before (0x0A ∷ [])) in rw e none

-- a line has one newline, its last byte
pub IsLined-one_newline : (P : List ℕ → Type 0) (text : List ℕ) (n : ℕ) → length text ≡ n → IsLined P text → NoNewline (take (n - 1) text)
IsLined-one_newline P text n long line =
    let l = length_push line.before 0x0A in
    let w = ap length line.whole in
    rw line.whole (one_newline line.before n (omega arith) line.one_line)

-- what a line's bytes are, where it begins bytes with a newline
before_newline : (P : List ℕ → Type 0) (before more text rest : List ℕ) → NoNewline before → before ++ 0x0A ∷ more ≡ text ++ rest →
    IsLined P text → P before
before_newline P before more text rest none e line =
    let same : before ≡ line.before =
    one_before before line.before more rest none line.one_line
    (e ∙ ap (λ xs. xs ++ rest) line.whole ∙ append_assoc line.before (0x0A ∷ []) rest) in
    rw same line.has

-- no line begins bytes that have no newline, where they are all that is left or as many as a line has at most
no_line_in : (P : List ℕ → Type 0) (bytes left text rest : List ℕ) → NoNewline bytes → (length bytes ≡ 128) ⊎ (left ≡ []) →
    bytes ++ left ≡ text ++ rest → IsLined P text → ⊥
no_line_in P bytes left text rest none all e line =
    let at : ℕ = length line.before in
    let parts : bytes ++ left ≡ line.before ++ 0x0A ∷ rest = e ∙ ap (λ xs. xs ++ rest) line.whole
    ∙ append_assoc line.before (0x0A ∷ []) rest in
    let newline : get_or (bytes ++ left) at 0 ≡ 0x0A = ap (λ xs. get_or xs at 0) parts ∙ get_or_at line.before 0x0A rest 0 at refl in
    let within : at < length bytes = inside bytes left line.before rest
    (elim all [ inl full ↦ inl (let s = line.short in omega arith) | inr ended ↦ inr ended ]) parts in
    none at 0 within (sym (get_or_append_left bytes left 0 at within) ∙ newline) where
      inside : (bytes left before rest : List ℕ) → (length before < length bytes) ⊎ (left ≡ []) → bytes ++ left ≡ before ++ 0x0A ∷ rest →
          length before < length bytes
      inside bytes left before rest (inl here) parts = here
      inside bytes left before rest (inr none) parts =
          let l = ap length parts in
          let a = length-append bytes left in
          let b = length-append before (0x0A ∷ rest) in
          let z = ap length none in omega arith

-- ---- over a source

no_begin : (P : List ℕ → Type 0) (o p : Option (List ℕ)) (bytes : List ℕ) → o ≡ option_map (λ rest. bytes ++ rest) p →
    ((left : List ℕ) → p ≡ Some left → (text rest : List ℕ) → bytes ++ left ≡ text ++ rest → ¬ (P text)) →
    IfSome o (λ all. (text rest : List ℕ) → all ≡ text ++ rest → ¬ (P text))
no_begin P o None bytes same none = rw same tt
no_begin P o (Some left) bytes same none = rw same (none left refl)

ended_is : (p : Option (List ℕ)) (left : List ℕ) → p ≡ Some left → IfSome p (λ bytes. bytes ≡ []) → left ≡ []
ended_is p left told ended = rw told at ended

pub BeginsWithNo-open : {S : Type 0} (m : Meaning S) (P : List ℕ → Type 0) (a b : S) (bytes : List ℕ) → NoNewline bytes → Gave m a b bytes →
    (length bytes ≡ 128) ⊎ HasEnded m b → BeginsWithNo m a (λ text. IsLined P text)
BeginsWithNo-open m P a b bytes none gave all =
    no_begin (λ text. IsLined P text) (m.left a) (m.left b) bytes gave
    (λ left told text rest e line. no_line_in P bytes left text rest none
    (elim all [ inl full ↦ inl full | inr ended ↦ inr (ended_is (m.left b) left told ended) ]) e line)

pub BeginsWithNo-line : {S : Type 0} (m : Meaning S) (P : List ℕ → Type 0) (a b : S) (before : List ℕ) → NoNewline before →
    Gave m a b (before ++ 0x0A ∷ []) →
    ¬ (P before) → BeginsWithNo m a (λ text. IsLined P text)
BeginsWithNo-line m P a b before none gave hasnt =
    no_begin (λ text. IsLined P text) (m.left a) (m.left b) (before ++ 0x0A ∷ []) gave
    (λ left told text rest e line. hasnt
    (before_newline P before left text rest none (sym (append_assoc before (0x0A ∷ []) left) ∙ e) line))

by_option : (P Q : List ℕ → Type 0) (o : Option (List ℕ)) → ((text : List ℕ) → Q text → P text) →
    IfSome o (λ all. (text rest : List ℕ) → all ≡ text ++ rest → ¬ (P text)) →
    IfSome o (λ all. (text rest : List ℕ) → all ≡ text ++ rest → ¬ (Q text))
by_option P Q None weaker none = tt
by_option P Q (Some bytes) weaker none = λ text rest e q. none text rest e (weaker text q)

pub BeginsWithNo-by : {S : Type 0} (m : Meaning S) (P Q : List ℕ → Type 0) (a : S) → ((text : List ℕ) → Q text → P text) →
    BeginsWithNo m a P → BeginsWithNo m a Q
BeginsWithNo-by m P Q a weaker none = by_option P Q (m.left a) weaker none

pub end_lined : (text : List ℕ) → text ≡ codes "end\n" → IsLined (λ before. before ≡ codes "end") text
end_lined text e = record { before = codes "end"; short = lit≤ tt; one_line = end_no_newline; whole = e; has = refl }
