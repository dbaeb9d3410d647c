-- The lines of a list.
use Rattle.std.proofs.Common.{ℕ, ◌+◌, List, ◌++◌, Result, Ok, Err, ◌≡◌, [], refl, ◌∷◌, length, sym, ap, ◌∙◌, arith, append_assoc}
use Rattle.std.proofs.Common.{append-nil, take, slice_get, Some, Option, IfSome, subst, drop}
use Rattle.std.proofs.lemmas.List.{take_more, length-take-le, take-append-drop}
use Rattle.std.proofs.lemmas.Option.{slice_get_within, get_or_from_slice_get}
use Rattle.cartridge_spec.specs.Table.{Entry}
use Rattle.cartridge_spec.specs.Volumes.{volume_length}
use Rattle.command_spec.specs.Lines.{volume_lines, volume_line, count_line, list_text}
use Rattle.qic_base.proofs.Writing.{TakesBoth, Wrote-Wrote, Wrote-BrokeOff}
use Rattle.qic_base.specs.Sink.{Meaning, Wrote}
use Rattle.qic_base.specs.SinkCalls.{Writes}

-- a text written behind another
pub Writes-after : {K T E : Type 0} {m : Meaning K} {a b : K} {xs : List ℕ} (c : K) (ys : List ℕ) (r : Result T E) → TakesBoth m →
    Wrote m a b xs → Writes m b c ys r → Writes m a c (xs ++ ys) r
Writes-after c ys (Ok x) both first next = Wrote-Wrote both first next
Writes-after c ys (Err e) both first next = Wrote-BrokeOff both first next

pub volume_lines-none : (words : List ℕ) (n : ℕ) → volume_lines words n [] ≡ []
unfolding volume_lines
volume_lines-none words n = refl

-- the line of the next volume
abbrev line_of : (words : List ℕ) (n : ℕ) → Entry → List ℕ
line_of words n x = volume_line n x (volume_length words x)

-- the lines of two lists of volumes
volume_lines-append : (words : List ℕ) (n : ℕ) (xs ys : List Entry) →
    volume_lines words n (xs ++ ys) ≡ volume_lines words n xs ++ volume_lines words (n + length xs) ys
unfolding volume_lines
volume_lines-append words n [] ys = ap (λ k. volume_lines words k ys) (omega arith)
volume_lines-append words n (x ∷ xs) ys =
    ap (λ rest. line_of words n x ++ rest)
    (volume_lines-append words (n + 1) xs ys ∙ ap (λ k. volume_lines words (n + 1) xs ++ volume_lines words k ys) (omega arith))
    ∙ sym (append_assoc (line_of words n x) (volume_lines words (n + 1) xs) (volume_lines words (n + length (x ∷ xs)) ys))

volume_lines-one : (words : List ℕ) (n : ℕ) (x : Entry) → volume_lines words n (x ∷ []) ≡ line_of words n x
unfolding volume_lines
volume_lines-one words n x = append-nil (line_of words n x)

-- a front, with the next volume
take_next : (xs : List Entry) (i : ℕ) (x : Entry) → slice_get xs i ≡ Some x → take (i + 1) xs ≡ take i xs ++ x ∷ []
take_next xs i x here =
    take_more xs i x (slice_get_within xs i x here) ∙ ap (λ (y : Entry). take i xs ++ y ∷ []) (get_or_from_slice_get xs i x x here)

pub volume_lines-take : (words : List ℕ) (xs : List Entry) (i : ℕ) (x : Entry) (bytes : ℕ) → slice_get xs i ≡ Some x →
    bytes ≡ volume_length words x →
    volume_lines words 1 (take i xs) ++ volume_line (i + 1) x bytes ≡ volume_lines words 1 (take (i + 1) xs)
volume_lines-take words xs i x bytes here same =
    let long : 1 + length (take i xs) ≡ i + 1 = let w = slice_get_within xs i x here in omega (arith, length-take-le i xs) in
    ap (λ n. volume_lines words 1 (take i xs) ++ volume_line (i + 1) x n) same
    ∙ sym (ap (volume_lines words 1) (take_next xs i x here) ∙ volume_lines-append words 1 (take i xs) (x ∷ [])
    ∙ ap (λ k. volume_lines words 1 (take i xs) ++ volume_lines words k (x ∷ [])) long
    ∙ ap (λ line. volume_lines words 1 (take i xs) ++ line) (volume_lines-one words (i + 1) x))

-- a length that was answered for the volume at an index
pub length_at : (words : List ℕ) (xs : List Entry) (i : ℕ) (x : Entry) (bytes : ℕ) → slice_get xs i ≡ Some x →
    IfSome (slice_get xs i) (λ e. bytes ≡ volume_length words e) → bytes ≡ volume_length words x
length_at words xs i x bytes here told = subst (λ (o : Option Entry). IfSome o (λ e. bytes ≡ volume_length words e)) here told

-- the first lines begin the whole text
pub list_text-front : (words : List ℕ) (xs : List Entry) (i : ℕ) →
    volume_lines words 1 (take i xs) ++ (volume_lines words (1 + length (take i xs)) (drop i xs) ++ count_line (length xs)) ≡ list_text
    words xs
unfolding list_text
list_text-front words xs i =
    sym (append_assoc (volume_lines words 1 (take i xs)) (volume_lines words (1 + length (take i xs)) (drop i xs)) (count_line (length xs)))
    ∙ ap (λ lines. lines ++ count_line (length xs))
    (sym (volume_lines-append words 1 (take i xs) (drop i xs)) ∙ ap (volume_lines words 1) (take-append-drop i xs))

pub list_text-all : (words : List ℕ) (xs : List Entry) → volume_lines words 1 xs ++ count_line (length xs) ≡ list_text words xs
unfolding list_text
list_text-all words xs = refl
