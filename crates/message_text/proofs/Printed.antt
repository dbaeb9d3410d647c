-- A text printed character by character: one more, the cut, and the end.
use Rattle.std.proofs.Common.{◌≡◌, ℕ, Bool, ◌+◌, ◌-◌, ◌<◌, ◌≤◌, ◌∙◌, List, ◌∷◌, ◌++◌, codes, length, drop, get_or, nat_le, true, false}
use Rattle.std.proofs.Common.{cond, arith, sym, ap}
use Rattle.std.proofs.lemmas.Bool.Decides.{nat_tests}
use Rattle.std.proofs.lemmas.List.{append_assoc, append-nil, at_drop_all, at_drop_more, length-append}
use Rattle.message_text.specs.Printable.{printed_in, shown_in}

-- this is the character at a place
abbrev pub IsTurn : (cs : List ℕ) (n c : ℕ) → Type 0
IsTurn cs n c = (n < length cs) × (c ≡ get_or cs n c)

next : (lines : Bool) (room : ℕ) (cs : List ℕ) (n c : ℕ) → IsTurn cs n c →
    printed_in lines room (drop n cs) ≡ printed_in lines room (c ∷ drop (n + 1) cs)
next lines room cs n c turn = at_drop_more (printed_in lines room) cs n c turn.0
    ∙ ap (λ x. printed_in lines room (x ∷ drop (n + 1) cs)) (sym turn.1)

has_room : (lines : Bool) (room c : ℕ) (cs : List ℕ) → 10 ≤ room →
    printed_in lines room (c ∷ cs) ≡ shown_in lines c ++ printed_in lines (room - length (shown_in lines c)) cs
has_room lines room c cs long =
    let yes : nat_le 10 room ≡ true = grind (arith, nat_tests) in
    ap (λ b. cond b (shown_in lines c ++ printed_in lines (room - length (shown_in lines c)) cs) (codes "...")) yes

has_none : (lines : Bool) (room c : ℕ) (cs : List ℕ) → room < 10 → printed_in lines room (c ∷ cs) ≡ codes "..."
has_none lines room c cs short =
    let no : nat_le 10 room ≡ false = grind (arith, nat_tests) in
    ap (λ b. cond b (shown_in lines c ++ printed_in lines (room - length (shown_in lines c)) cs) (codes "...")) no

pub cut : (lines : Bool) (line new all : List ℕ) (end n c : ℕ) (cs : List ℕ) → IsTurn cs n c → end < length line + 10 →
    new ≡ line ++ codes "..." →
    line ++ printed_in lines (end - length line) (drop n cs) ≡ all → new ≡ all
cut lines line new all end n c cs turn short is kept =
    is ∙ ap (λ x. line ++ x) (sym (next lines (end - length line) cs n c turn
    ∙ has_none lines (end - length line) c (drop (n + 1) cs) (omega arith))) ∙ kept

pub more : (lines : Bool) (line new all : List ℕ) (end n c : ℕ) (cs : List ℕ) → IsTurn cs n c → length line + 10 ≤ end →
    new ≡ line ++ shown_in lines c →
    line ++ printed_in lines (end - length line) (drop n cs) ≡ all → new ++ printed_in lines (end - length new) (drop (n + 1) cs) ≡ all
more lines line new all end n c cs turn long is kept =
    let left : end - length line - length (shown_in lines c) ≡ end - length new =
    (let same = ap length is ∙ length-append line (shown_in lines c) in omega arith) in
    ap (λ x. x ++ printed_in lines (end - length new) (drop (n + 1) cs)) is
    ∙ append_assoc line (shown_in lines c) (printed_in lines (end - length new) (drop (n + 1) cs))
    ∙ ap (λ k. line ++ (shown_in lines c ++ printed_in lines k (drop (n + 1) cs))) (sym left)
    ∙ ap (λ x. line ++ x) (sym (next lines (end - length line) cs n c turn
    ∙ has_room lines (end - length line) c (drop (n + 1) cs) (omega arith)))
    ∙ kept

pub done : (lines : Bool) (line all : List ℕ) (room n : ℕ) (cs : List ℕ) → length cs ≤ n →
    line ++ printed_in lines room (drop n cs) ≡ all → line ≡ all
done lines line all room n cs end kept = sym (append-nil line)
    ∙ ap (λ x. line ++ x) (sym (at_drop_all (printed_in lines room) cs n end)) ∙ kept
