-- The made bytes.
use Rattle.std.proofs.Common.{◌≡◌, ℕ, [], refl, ◌+◌, ◌-◌, ◌%◌, ◌++◌, ◌∷◌, arith, ◌≤◌, take, map, drop, ap, ◌∙◌, ◌<◌, min, List, length, sym}
use Rattle.std.proofs.lemmas.List.FromFn.{map-range_with_len_more, take-map-range_with_len, length-map-range_with_len}
use Rattle.std.proofs.lemmas.List.FromFn.{get_or-map-range_with_len, fill_by_all}
use Rattle.std.specs.List.{range_with_len}
use Rattle.std.proofs.lemmas.List.{length-drop, get_or-drop, take_at}
use Rattle.command_laws.proofs.TextMaking.{length-made_from}
use Rattle.command_laws.specs.TextGenerator.{made_from}
use Rattle.qic_base.specs.SourceCalls.{Gives}

made_from_none : (first : ℕ) → made_from first 0 ≡ []
unfolding made_from
made_from_none first = refl

-- one byte more
pub made_from_more : (first count : ℕ) → made_from first (count + 1) ≡ made_from first count ++ (first + count) % 251 ∷ []
unfolding made_from
made_from_more first count = map-range_with_len_more (λ i. (first + i) % 251) 0 count count (omega arith)

take-made_from : (first count n : ℕ) → n ≤ count → take n (made_from first count) ≡ made_from first n
unfolding made_from
take-made_from first count n few = take-map-range_with_len (λ i. (first + i) % 251) 0 count n few

-- what is left behind the first bytes
pub drop-made_from : (first count n : ℕ) → n ≤ count → drop n (made_from first count) ≡ made_from ((first + n) % 251) (count - n)
unfolding made_from
drop-made_from first count n few =
    let f : ℕ → ℕ = λ i. (first + i) % 251 in
    fill_by_all (λ i. ((first + n) % 251 + i) % 251) (drop n (map f (range_with_len 0 count))) (count - n) 0
    (length-drop n (map f (range_with_len 0 count)) ∙ ap (λ x. x - n) (length-map-range_with_len f 0 count))
    (λ k here. get_or-drop n (map f (range_with_len 0 count)) k 0 ∙ get_or-map-range_with_len f 0 count (n + k) (n + k) 0 (omega arith)
    (omega arith)
    ∙ (let e : (first + (n + k)) % 251 ≡ ((first + n) % 251 + k) % 251 = omega arith in e))

-- what a read gives
pub made_gives : (first left len count : ℕ) (rest : List ℕ) → 0 < len → count ≡ min len left →
    Gives (made_from first left) (made_from first count ++ rest) count
made_gives first left len count rest some amount = record {
  there = rw length-made_from (omega arith);
  front = take_at (made_from first count) rest count (length-made_from first count) ∙ sym (take-made_from first left count (omega arith));
  ended = (
    (λ none. let e : left ≡ 0 = omega arith in ap (made_from first) e ∙ made_from_none first),
    (λ none. let e : left ≡ 0 = sym (length-made_from first left) ∙ ap length none in omega arith),
  );
}
