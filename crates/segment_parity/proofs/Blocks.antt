-- The parity of a block of columns, and the parity sectors that the blocks make.
use Rattle.std.proofs.Common.{◌≡◌, ◌≢◌, ℕ, ◌+◌, ◌<◌, ◌≤◌, sym, ◌∙◌, ap, subst, arith, refl, inl, inr, ◌-◌, List, [], ◌∷◌, ◌++◌, length, All}
use Rattle.std.proofs.Common.{get_or, set, bit_xor, replicate}
use Rattle.std.proofs.lemmas.Bool.{cases_eq, cases_lt}
use Rattle.std.proofs.lemmas.List.{get_or-set_same, get_or-set_other, length-replicate}
use Rattle.std.proofs.lemmas.List.Elements.{All-nil, All-cons, All-get_or, All-from_get_or}
use Rattle.cartridge_spec.specs.Code.{product, parity, parity_sectors, column}
use Rattle.qic_base.specs.Cartridge.{IsSector}
use Rattle.gf256_qic.proofs.Values.{first_byte, other_bytes}
use Rattle.gf256_qic.proofs.Agreement.{same_from_columns, column-one}
use Rattle.gf256_qic.proofs.Parities.{bytes_of_column, column-append, bytes_of_parity, column-parity_sectors, length-parity_sectors}
use Rattle.gf256_qic.proofs.Parities.{parity_sectors-are_sectors}
use Rattle.segment_parity.specs.Register.{AreParity, HasColumns}
use Rattle.segment_parity.proofs.Rows.{shifted, parity_more, column-none, parity_none}
use Rattle.qic_base.specs.Disk.{AreBytes}
use Rattle.qic_base.proofs.Arrays.{zeros_are_zero}

-- three bytes of a column
abbrev pub three : List ℕ → List ℕ → List ℕ → ℕ → List ℕ
three a b c j = get_or a j 0 ∷ get_or b j 0 ∷ get_or c j 0 ∷ []

three_same : (a b c a' b' c' : ℕ) → a ≡ a' → b ≡ b' → c ≡ c' → a ∷ b ∷ c ∷ [] ≡ a' ∷ b' ∷ c' ∷ []
three_same a b c a' b' c' e f g =
    ap (λ (x : ℕ). x ∷ b ∷ c ∷ []) e ∙ ap (λ (x : ℕ). a' ∷ x ∷ c ∷ []) f ∙ ap (λ (x : ℕ). a' ∷ b' ∷ x ∷ []) g

-- a column's register with a byte more is the parity of a sector more
column_more :
    (ss : List (List ℕ)) (s : List ℕ) (j h m l : ℕ) → j < 1024 → All IsSector ss → IsSector s →
    h ∷ m ∷ l ∷ [] ≡ parity (column j ss) → shifted m l (bit_xor h (get_or s j 0)) ≡ parity (column j (ss ++ s ∷ []))
column_more ss s j h m l below all one same =
    let size : length s ≡ 1024 = one.size in
    parity_more (column j ss) (get_or s j 0) h m l (bytes_of_column j ss below all)
    (All-get_or (λ b. b < 256) s j 0 (omega arith) one.each) same
    ∙ ap parity (sym (column-append j ss (s ∷ []) ∙ ap (λ c. column j ss ++ c) (column-one j s)))

-- rows of zeros have the parity of no sector
pub parity_of_none : (n start : ℕ) → AreParity (replicate n 0) (replicate n 0) (replicate n 0) [] start n
parity_of_none n start = λ j h.
    let zero : get_or {A = ℕ} (replicate n 0) j 0 ≡ 0 = zeros_are_zero n j in
    three_same (get_or (replicate n 0) j 0) (get_or (replicate n 0) j 0) (get_or (replicate n 0) j 0) 0 0 0 zero zero zero
    ∙ sym (ap parity (column-none (start + j)) ∙ parity_none)

-- the columns from n on are as they were
pub record Untouched (a b c a' b' c' : List ℕ) (n : ℕ) : Type 0 where
  pub high : (k : ℕ) → n ≤ k → get_or a' k 0 ≡ get_or a k 0
  pub middle : (k : ℕ) → n ≤ k → get_or b' k 0 ≡ get_or b k 0
  pub low : (k : ℕ) → n ≤ k → get_or c' k 0 ≡ get_or c k 0

other : (xs : List ℕ) (j v k : ℕ) → k ≢ j → get_or (set xs j v) k 0 ≡ get_or xs k 0
other xs j v k ne = get_or-set_other xs j k v 0 ne

pub untouched_more : (a b c a' b' c' : List ℕ) (j u v w : ℕ) → Untouched a b c a' b' c' j →
    Untouched a b c (set a' j u) (set b' j v) (set c' j w) (j + 1)
untouched_more a b c a' b' c' j u v w rest = record {
  high = λ k h. other a' j u k (omega arith) ∙ rest.high k (omega arith);
  middle = λ k h. other b' j v k (omega arith) ∙ rest.middle k (omega arith);
  low = λ k h. other c' j w k (omega arith) ∙ rest.low k (omega arith);
}

-- one column more is shifted
pub block_more :
    (a b c a' b' c' : List ℕ) (ss : List (List ℕ)) (s : List ℕ) (start j m : ℕ) →
    length a' ≡ 128 → length b' ≡ 128 → length c' ≡ 128 → start + 128 ≤ 1024 → j < 128 →
    All IsSector ss → IsSector s → m ≡ product (bit_xor (get_or a' j 0) (get_or s (start + j) 0)) 0xC0 →
    Untouched a b c a' b' c' j → AreParity a b c ss start 128 → AreParity a' b' c' (ss ++ s ∷ []) start j →
    AreParity (set a' j (bit_xor (get_or b' j 0) m)) (set b' j (bit_xor (get_or c' j 0) m))
    (set c' j (bit_xor (get_or a' j 0) (get_or s (start + j) 0))) (ss ++ s ∷ []) start (j + 1)
block_more a b c a' b' c' ss s start j m la lb lc room h all one em rest before done = λ k hk.
    let f : ℕ = bit_xor (get_or a' j 0) (get_or s (start + j) 0) in
    let u : ℕ = bit_xor (get_or b' j 0) m in
    let v : ℕ = bit_xor (get_or c' j 0) m in
    let a2 : List ℕ = set a' j u in
    let b2 : List ℕ = set b' j v in
    let c2 : List ℕ = set c' j f in
    let w : ℕ = product f 0xC0 in
    let was : get_or a' j 0 ∷ get_or b' j 0 ∷ get_or c' j 0 ∷ [] ≡ parity (column (start + j) ss) =
    three_same (get_or a' j 0) (get_or b' j 0) (get_or c' j 0) (get_or a j 0) (get_or b j 0) (get_or c j 0)
    (rest.high j (omega arith)) (rest.middle j (omega arith)) (rest.low j (omega arith))
    ∙ before j h in
    let here : three a2 b2 c2 j ≡ parity (column (start + j) (ss ++ s ∷ [])) =
    three_same (get_or a2 j 0) (get_or b2 j 0) (get_or c2 j 0) (bit_xor (get_or b' j 0) w) (bit_xor (get_or c' j 0) w) f
    (get_or-set_same a' j u 0 (omega arith) ∙ ap (bit_xor (get_or b' j 0)) em)
    (get_or-set_same b' j v 0 (omega arith) ∙ ap (bit_xor (get_or c' j 0)) em)
    (get_or-set_same c' j f 0 (omega arith))
    ∙ column_more ss s (start + j) (get_or a' j 0) (get_or b' j 0) (get_or c' j 0) (omega arith) all one was in
    elim (cases_eq k j) [
      | inl e ↦ subst (λ (x : ℕ). three a2 b2 c2 x ≡ parity (column (start + x) (ss ++ s ∷ []))) (sym e) here
      | inr ne ↦
          three_same (get_or a2 k 0) (get_or b2 k 0) (get_or c2 k 0) (get_or a' k 0) (get_or b' k 0) (get_or c' k 0)
          (other a' j u k ne) (other b' j v k ne) (other c' j f k ne)
          ∙ done k (omega (arith, ne))
    ]

-- ---- whole rows

column-rows : (j : ℕ) (a b c : List ℕ) → column j (a ∷ b ∷ c ∷ []) ≡ three a b c j
unfolding column
column-rows j a b c = refl

set_three : (rows : List (List ℕ)) (a b c : List ℕ) → length rows ≡ 3 →
    set (set (set rows 0 a) 1 b) 2 c ≡ a ∷ b ∷ c ∷ []
set_three [] a b c h = absurd (omega arith)
set_three (x ∷ []) a b c h = absurd (omega arith)
set_three (x ∷ y ∷ []) a b c h = absurd (omega arith)
set_three (x ∷ y ∷ z ∷ []) a b c h = refl
set_three (x ∷ y ∷ z ∷ w ∷ rows) a b c h = absurd (omega arith)

-- a block put behind the columns that are done
columns_more :
    (a b c a' b' c' u v w : List ℕ) (ss : List (List ℕ)) (start : ℕ) →
    ((j : ℕ) → j < start → get_or a' j 0 ≡ get_or a j 0) →
    ((j : ℕ) → j < start → get_or b' j 0 ≡ get_or b j 0) →
    ((j : ℕ) → j < start → get_or c' j 0 ≡ get_or c j 0) →
    ((j : ℕ) → j < 128 → get_or a' (start + j) 0 ≡ get_or u j 0) →
    ((j : ℕ) → j < 128 → get_or b' (start + j) 0 ≡ get_or v j 0) →
    ((j : ℕ) → j < 128 → get_or c' (start + j) 0 ≡ get_or w j 0) →
    AreParity u v w ss start 128 → AreParity a b c ss 0 start → AreParity a' b' c' ss 0 (start + 128)
columns_more a b c a' b' c' u v w ss start ea eb ec eu ev ew block before = λ k h.
    elim (cases_lt k start) [
      | inl lt ↦
          three_same (get_or a' k 0) (get_or b' k 0) (get_or c' k 0) (get_or a k 0) (get_or b k 0) (get_or c k 0)
          (ea k lt) (eb k lt) (ec k lt)
          ∙ before k lt
      | inr ge ↦
          let j : ℕ = k - start in
          let at_j : k ≡ start + j = omega (arith, ge) in
          let below : j < 128 = omega (arith, ge) in
          let P : ℕ → Type 0 = λ x. three a' b' c' x ≡ parity (column (0 + x) ss) in
          subst P (sym at_j)
          (three_same (get_or a' (start + j) 0) (get_or b' (start + j) 0) (get_or c' (start + j) 0)
          (get_or u j 0) (get_or v j 0) (get_or w j 0) (eu j below) (ev j below) (ew j below)
          ∙ block j below
          ∙ ap (λ (x : ℕ). parity (column x ss)) (omega arith))
    ]

pub block_put :
    (rows : List (List ℕ)) (a b c u v w : List ℕ) (ss : List (List ℕ)) (start : ℕ) →
    length rows ≡ 3 → length a ≡ 1024 → length b ≡ 1024 → length c ≡ 1024 →
    ((j : ℕ) → j < start → get_or a j 0 ≡ get_or (get_or rows 0 []) j 0) →
    ((j : ℕ) → j < start → get_or b j 0 ≡ get_or (get_or (set rows 0 a) 1 []) j 0) →
    ((j : ℕ) → j < start → get_or c j 0 ≡ get_or (get_or (set (set rows 0 a) 1 b) 2 []) j 0) →
    ((j : ℕ) → j < 128 → get_or a (start + j) 0 ≡ get_or u j 0) →
    ((j : ℕ) → j < 128 → get_or b (start + j) 0 ≡ get_or v j 0) →
    ((j : ℕ) → j < 128 → get_or c (start + j) 0 ≡ get_or w j 0) →
    AreParity u v w ss start 128 → HasColumns rows ss start →
    HasColumns (set (set (set rows 0 a) 1 b) 2 c) ss (start + 128)
block_put rows a b c u v w ss start size la lb lc ea eb ec eu ev ew block before =
    let second : get_or (set rows 0 a) 1 [] ≡ get_or rows 1 [] = get_or-set_other rows 0 1 a [] (omega arith) in
    let third : get_or (set (set rows 0 a) 1 b) 2 [] ≡ get_or rows 2 [] =
    get_or-set_other (set rows 0 a) 1 2 b [] (omega arith) ∙ get_or-set_other rows 0 2 a [] (omega arith) in
    subst (λ (rs : List (List ℕ)). HasColumns rs ss (start + 128)) (sym (set_three rows a b c size))
    (record {
      high = la;
      middle = lb;
      low = lc;
      columns =
          columns_more (get_or rows 0 []) (get_or rows 1 []) (get_or rows 2 []) a b c u v w ss start ea
          (λ j h. eb j h ∙ ap (λ (r : List ℕ). get_or r j 0) second)
          (λ j h. ec j h ∙ ap (λ (r : List ℕ). get_or r j 0) third) eu ev ew block before.columns;
    })

-- rows whose columns are the parity of the sectors' are the parity sectors
rows_of_columns :
    (a b c : List ℕ) (ss : List (List ℕ)) → length a ≡ 1024 → length b ≡ 1024 → length c ≡ 1024 →
    All IsSector ss → AreParity a b c ss 0 1024 → a ∷ b ∷ c ∷ [] ≡ parity_sectors ss
rows_of_columns a b c ss la lb lc all columns =
    let each : (j : ℕ) → j < 1024 → three a b c j ≡ parity (column j ss) =
    λ j h. columns j h ∙ ap (λ (x : ℕ). parity (column x ss)) (omega arith) in
    let bytes : (j : ℕ) → j < 1024 → AreBytes (three a b c j) =
    λ j h. subst AreBytes (sym (each j h)) (bytes_of_parity (column j ss) (bytes_of_column j ss h all)) in
    let row : (xs : List ℕ) → length xs ≡ 1024 → ((j : ℕ) → j < 1024 → get_or xs j 0 < 256) → IsSector xs =
    λ xs size fits. record { size = size; each = All-from_get_or (λ b. b < 256) xs 0 (λ j h. fits j (omega arith)) } in
    let ra : IsSector a = row a la (λ j h. first_byte (get_or a j 0) (get_or b j 0 ∷ get_or c j 0 ∷ []) (bytes j h)) in
    let others : (j : ℕ) → j < 1024 → AreBytes (get_or b j 0 ∷ get_or c j 0 ∷ []) =
    λ j h. other_bytes (get_or a j 0) (get_or b j 0 ∷ get_or c j 0 ∷ []) (bytes j h) in
    let rb : IsSector b = row b lb (λ j h. first_byte (get_or b j 0) (get_or c j 0 ∷ []) (others j h)) in
    let rc : IsSector c =
    row c lc (λ j h. first_byte (get_or c j 0) [] (other_bytes (get_or b j 0) (get_or c j 0 ∷ []) (others j h))) in
    same_from_columns (a ∷ b ∷ c ∷ []) (parity_sectors ss)
    (All-cons IsSector a (b ∷ c ∷ []) ra (All-cons IsSector b (c ∷ []) rb (All-cons IsSector c [] rc (All-nil IsSector))))
    (parity_sectors-are_sectors ss all) (sym (length-parity_sectors ss)) (λ j h.
    column-rows j a b c ∙ each j h ∙ sym (column-parity_sectors j ss h))

three_rows : (rows : List (List ℕ)) → length rows ≡ 3 →
    get_or rows 0 [] ∷ get_or rows 1 [] ∷ get_or rows 2 [] ∷ [] ≡ rows
three_rows [] h = absurd (omega arith)
three_rows (x ∷ []) h = absurd (omega arith)
three_rows (x ∷ y ∷ []) h = absurd (omega arith)
three_rows (x ∷ y ∷ z ∷ []) h = refl
three_rows (x ∷ y ∷ z ∷ w ∷ rows) h = absurd (omega arith)

pub rows_done : (rows ss : List (List ℕ)) → length rows ≡ 3 → All IsSector ss → HasColumns rows ss 1024 →
    rows ≡ parity_sectors ss
rows_done rows ss size all done =
    sym (three_rows rows size)
    ∙ rows_of_columns (get_or rows 0 []) (get_or rows 1 []) (get_or rows 2 []) ss done.high done.middle done.low all
    done.columns

pub no_columns : (ss : List (List ℕ)) → HasColumns (replicate 1024 0 ∷ replicate 1024 0 ∷ replicate 1024 0 ∷ []) ss 0
no_columns ss = record {
  high = length-replicate {A = ℕ} 1024 0;
  middle = length-replicate {A = ℕ} 1024 0;
  low = length-replicate {A = ℕ} 1024 0;
  columns = λ j h. absurd (omega arith);
}
