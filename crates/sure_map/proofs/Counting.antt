-- Marks are counted.
use Rattle.std.proofs.Common.{◌≡◌, ℕ, ◌+◌, ◌*◌, ◌==◌, ◌&&◌, Bool, true, false, List, [], ◌∷◌, ◌++◌, replicate}
use Rattle.std.proofs.Common.{if◌then◌else◌, refl, sym, ap, ◌∙◌, arith}
use Rattle.std.proofs.lemmas.Bool.{ne_eqb}
use Rattle.std.proofs.lemmas.List.Sums.{sum_by-append, sum_by-cons}
use Rattle.std.proofs.lemmas.List.Folds.{sum_by-replicate}
use Rattle.dump_spec.specs.Output.{mark_byte, marked_bytes, all_are_sure}
use Rattle.dump_spec.specs.declared.mark.Mark.{Mark}
use Rattle.dump_spec.specs.declared.mark.Mark.TheVariants.{Sure, Unchecked, Filled}

-- 1 for a byte with this mark
abbrev one : (m mark : Mark) → ℕ
one m mark = if mark_byte mark == mark_byte m then 1 else 0

times : (n : ℕ) (t : Bool) → n * (if t then 1 else 0) ≡ (if t then n else 0)
times n true = omega arith
times n false = omega arith

pub marked_more : (m mark : Mark) (n : ℕ) (marks : List Mark) → marked_bytes m (marks ++ replicate n mark)
    ≡ marked_bytes m marks + (if mark_byte mark == mark_byte m then n else 0)
marked_more m mark n marks =
    sum_by-append (one m) marks (replicate n mark)
    ∙ ap (λ (k : ℕ). marked_bytes m marks + k) (sum_by-replicate (one m) n mark ∙ times n (mark_byte mark == mark_byte m))

pub and_false : (b : Bool) → false ≡ (b && false)
and_false true = refl
and_false false = refl

-- all bytes are sure where none has another mark
pub all_sure_by : (marks : List Mark) → all_are_sure marks ≡ ((marked_bytes Unchecked marks == 0) && (marked_bytes Filled marks == 0))
all_sure_by [] = refl
all_sure_by (Sure ∷ marks) =
    let u = sum_by-cons (one Unchecked) Sure marks in
    let f = sum_by-cons (one Filled) Sure marks in
    let a : marked_bytes Unchecked (Sure ∷ marks) ≡ marked_bytes Unchecked marks = omega arith in
    let b : marked_bytes Filled (Sure ∷ marks) ≡ marked_bytes Filled marks = omega arith in
    all_sure_by marks ∙ sym (ap (λ (n : ℕ). (n == 0) && (marked_bytes Filled (Sure ∷ marks) == 0)) a
    ∙ ap (λ (n : ℕ). (marked_bytes Unchecked marks == 0) && (n == 0)) b)
all_sure_by (Unchecked ∷ marks) =
    let u = sum_by-cons (one Unchecked) Unchecked marks in
    let some : (marked_bytes Unchecked (Unchecked ∷ marks) == 0) ≡ false =
    ne_eqb (marked_bytes Unchecked (Unchecked ∷ marks)) 0 (λ e. omega arith) in
    sym (ap (λ (t : Bool). t && (marked_bytes Filled (Unchecked ∷ marks) == 0)) some)
all_sure_by (Filled ∷ marks) =
    let f = sum_by-cons (one Filled) Filled marks in
    let some : (marked_bytes Filled (Filled ∷ marks) == 0) ≡ false = ne_eqb (marked_bytes Filled (Filled ∷ marks)) 0 (λ e. omega arith) in
    and_false (marked_bytes Unchecked (Filled ∷ marks) == 0)
    ∙ sym (ap (λ (t : Bool). (marked_bytes Unchecked (Filled ∷ marks) == 0) && t) some)
