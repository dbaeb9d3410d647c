-- The formats of the segments, joined.
use Rattle.std.proofs.Common.{◌≡◌, ℕ, zero, suc, ◌+◌, ◌-◌, ◌*◌, ◌≤◌, sym, ◌∙◌, ap, subst, arith, List, [], ◌∷◌, ◌++◌, add-zero}
use Rattle.std.proofs.Common.{append_assoc}
use Rattle.std.proofs.lemmas.List.{append-nil}
use Rattle.std.proofs.lemmas.List.FromFn.{map-range_with_len_more}
use Rattle.qic_base.specs.Step.{Step, FormatSegment, SetReferenced}
use Rattle.qic_base.specs.Tape.{Meaning, Done, Broke}
use Rattle.qic_base.proofs.Steps.{Done-Done, Done-Broke, Broke-front}
use Rattle.formatter.specs.Steps.{track_formats}
use Rattle.cartridge_laws.specs.FormatMarks.{formats_from}

formats_more : (first n : ℕ) → formats_from first (n + 1) ≡ formats_from first n ++ FormatSegment (first + n) ∷ []
formats_more first n = map-range_with_len_more (λ (s : ℕ). FormatSegment s) first n (first + n) (omega arith)

formats_append : (first n more : ℕ) → formats_from first (n + more) ≡ formats_from first n ++ formats_from (first + n) more
formats_append first n zero = ap (formats_from first) (add-zero n) ∙ sym (append-nil (formats_from first n))
formats_append first n (suc more) =
    let next : n + suc more ≡ n + more + 1 = omega arith in
    let here : first + (n + more) ≡ first + n + more = omega arith in
    let one : more + 1 ≡ suc more = omega arith in
    ap (formats_from first) next
    ∙ formats_more first (n + more)
    ∙ ap (λ (l : List Step). l ++ FormatSegment (first + (n + more)) ∷ []) (formats_append first n more)
    ∙ append_assoc (formats_from first n) (formats_from (first + n) more) (FormatSegment (first + (n + more)) ∷ [])
    ∙ ap (λ (s : ℕ). formats_from first n ++ (formats_from (first + n) more ++ FormatSegment s ∷ [])) here
    ∙ ap (λ (l : List Step). formats_from first n ++ l) (sym (formats_more (first + n) more) ∙ ap (formats_from (first + n)) one)

-- the tracks before one, and that one
tracks_more : (n track : ℕ) → formats_from 0 ((track + 1) * n) ≡ formats_from 0 (track * n) ++ track_formats n track
tracks_more n track =
    let all : (track + 1) * n ≡ track * n + n = omega arith in
    let first : 0 + track * n ≡ track * n = omega arith in
    ap (formats_from 0) all ∙ formats_append 0 (track * n) n ∙ ap (λ (s : ℕ). formats_from 0 (track * n) ++ formats_from s n) first

-- a part of the segments was formatted, and the next one broken off, or a part of more
broke_of : {S : Type 0} {m : Meaning S} {a b : S} (first n all : ℕ) → n ≤ all → Broke m a b (formats_from first n) →
    Broke m a b (formats_from first all)
broke_of {m = m} {a = a} {b = b} first n all within broke =
    let whole : n + (all - n) ≡ all = omega arith in
    let parts : formats_from first n ++ formats_from (first + n) (all - n) ≡ formats_from first all =
    sym (formats_append first n (all - n)) ∙ ap (formats_from first) whole in
    subst (λ (steps : List Step). Broke m a b steps) parts
    (Broke-front {xs = formats_from first n} (formats_from (first + n) (all - n)) broke)

pub done_one : {S : Type 0} {m : Meaning S} {a b c : S} (first n : ℕ) → Done m a b (formats_from first n) →
    Done m b c (FormatSegment (first + n) ∷ []) → Done m a c (formats_from first (n + 1))
done_one {m = m} {a = a} {c = c} first n before more =
    subst (λ (steps : List Step). Done m a c steps) (sym (formats_more first n))
    (Done-Done {xs = formats_from first n} {ys = FormatSegment (first + n) ∷ []} before more)

pub broke_one : {S : Type 0} {m : Meaning S} {a b c : S} (first n all : ℕ) → n + 1 ≤ all → Done m a b (formats_from first n) →
    Broke m b c (FormatSegment (first + n) ∷ []) → Broke m a c (formats_from first all)
broke_one {m = m} {a = a} {c = c} first n all within before more =
    broke_of first (n + 1) all within
    (subst (λ (steps : List Step). Broke m a c steps) (sym (formats_more first n))
    (Done-Broke {xs = formats_from first n} {ys = FormatSegment (first + n) ∷ []} before more))

-- the bursts and the tracks before one were done, and then that track
pub done_track : {S : Type 0} {m : Meaning S} {a b c : S} (n track : ℕ) → Done m a b (SetReferenced ∷ formats_from 0 (track * n)) →
    Done m b c (track_formats n track) → Done m a c (SetReferenced ∷ formats_from 0 ((track + 1) * n))
done_track {m = m} {a = a} {c = c} n track before more =
    subst (λ (steps : List Step). Done m a c (SetReferenced ∷ steps)) (sym (tracks_more n track))
    (Done-Done {xs = SetReferenced ∷ formats_from 0 (track * n)} {ys = track_formats n track} before more)

pub broke_track : {S : Type 0} {m : Meaning S} {a b c : S} (n track all : ℕ) → (track + 1) * n ≤ all →
    Done m a b (SetReferenced ∷ formats_from 0 (track * n)) → Broke m b c (track_formats n track) →
    Broke m a c (SetReferenced ∷ formats_from 0 all)
broke_track {m = m} {a = a} {c = c} n track all within before more =
    let left : ℕ = all - (track + 1) * n in
    let whole : (track + 1) * n + left ≡ all = omega arith in
    let parts : (formats_from 0 (track * n) ++ track_formats n track) ++ formats_from (0 + (track + 1) * n) left ≡ formats_from 0 all =
    ap (λ (l : List Step). l ++ formats_from (0 + (track + 1) * n) left) (sym (tracks_more n track))
    ∙ sym (formats_append 0 ((track + 1) * n) left) ∙ ap (formats_from 0) whole in
    subst (λ (steps : List Step). Broke m a c (SetReferenced ∷ steps)) parts
    (Broke-front {xs = SetReferenced ∷ (formats_from 0 (track * n) ++ track_formats n track)} (formats_from (0 + (track + 1) * n) left)
    (Done-Broke {xs = SetReferenced ∷ formats_from 0 (track * n)} {ys = track_formats n track} before more))
