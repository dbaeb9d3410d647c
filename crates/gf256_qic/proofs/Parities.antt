-- Data followed by its parity is a codeword, and the only one with that data; likewise for sectors.
use Rattle.std.proofs.Common.{◌≡◌, ℕ, ◌+◌, ◌<◌, ◌≤◌, refl, sym, ◌∙◌, ap, subst, arith, bit_xor, List, [], ◌∷◌, ◌++◌, length, All, get_or}
use Rattle.std.proofs.Common.{slice_index, lit<, zero-add}
use Rattle.std.specs.Int.Bits.{xor_self, xor_zero_r}
use Rattle.std.proofs.lemmas.List.{length-map, map-append}
use Rattle.std.proofs.lemmas.List.FromFn.{length-map-range_with_len, get_or-map-range_with_len}
use Rattle.std.proofs.lemmas.List.Elements.{All-get_or, All-from_get_or, All-append, All-nil, All-cons, All-head, All-tail}
use Rattle.std.proofs.Math.ListN.{length-append}
use Rattle.cartridge_spec.specs.Code.{shifted_copies, remainder, product, power, value_at, added, lagrange, parity, parity_sectors, column}
use Rattle.cartridge_spec.specs.Code.{IsCodeword, IsCodeBlock}
use Rattle.gf256_qic.specs.Code.{through, parity_sector, data_sum, scaled, distance}
use Rattle.qic_base.specs.Cartridge.{IsSector}
use Rattle.gf256_qic.proofs.Products.{product_one_right, product_zero_right}
use Rattle.gf256_qic.proofs.Values.{no_bytes, more_bytes, value_at-append, value_at-added, value_at-scaled, length-added, bytes_of_added}
use Rattle.gf256_qic.proofs.Values.{bytes_of_scaled, value_at-zeros, data_sum-value, data_sum-byte}
use Rattle.gf256_qic.proofs.Agreement.{distance-le, near_columns, length-column, same_from_columns}
use Rattle.gf256_qic.proofs.Distance.{AtRoots}
use Rattle.gf256_qic.proofs.Sums.{equal_from_sum}
use Rattle.qic_base.specs.Disk.{AreBytes}

-- the three polynomials are 1 at their own root and 0 at the others, by computation
record Basis (p q r : ℕ) : Type 0 where
  size : length (lagrange p q r) ≡ 3
  bytes : AreBytes (lagrange p q r)
  at_own : value_at p (lagrange p q r) ≡ 1
  at_second : value_at q (lagrange p q r) ≡ 0
  at_third : value_at r (lagrange p q r) ≡ 0

three_bytes : (a b c : ℕ) → a < 256 → b < 256 → c < 256 → AreBytes (a ∷ b ∷ c ∷ [])
three_bytes a b c ha hb hc =
    more_bytes a (b ∷ c ∷ []) ha (more_bytes b (c ∷ []) hb (more_bytes c [] hc no_bytes))

basis_inverse : Basis 0xC3 1 2
unfolding lagrange value_at product shifted_copies remainder power
basis_inverse = record {
  size = refl;
  bytes = three_bytes _ _ _ (lit< tt) (lit< tt) (lit< tt);
  at_own = refl;
  at_second = refl;
  at_third = refl;
}

basis_one : Basis 1 0xC3 2
unfolding lagrange value_at product shifted_copies remainder power
basis_one = record {
  size = refl;
  bytes = three_bytes _ _ _ (lit< tt) (lit< tt) (lit< tt);
  at_own = refl;
  at_second = refl;
  at_third = refl;
}

basis_generator : Basis 2 0xC3 1
unfolding lagrange value_at product shifted_copies remainder power
basis_generator = record {
  size = refl;
  bytes = three_bytes _ _ _ (lit< tt) (lit< tt) (lit< tt);
  at_own = refl;
  at_second = refl;
  at_third = refl;
}

parity_through : (ds : List ℕ) → parity ds ≡ through (data_sum 0xC3 ds) (data_sum 1 ds) (data_sum 2 ds)
unfolding parity through
parity_through ds =
    let longer : List ℕ = ds ++ 0 ∷ 0 ∷ 0 ∷ [] in
    ap (λ v. through v (value_at 1 longer) (value_at 2 longer)) (value_at-zeros 0xC3 ds)
    ∙ ap (λ v. through (data_sum 0xC3 ds) v (value_at 2 longer)) (value_at-zeros 1 ds)
    ∙ ap (through (data_sum 0xC3 ds) (data_sum 1 ds)) (value_at-zeros 2 ds)

length-scaled : (a : ℕ) (xs : List ℕ) → length (scaled a xs) ≡ length xs
length-scaled a xs = length-map xs _

length-through : (a b c : ℕ) → length (through a b c) ≡ 3
unfolding through
length-through a b c =
    let one : length (scaled a (lagrange 0xC3 1 2)) ≡ 3 = length-scaled a (lagrange 0xC3 1 2) ∙ basis_inverse.size in
    let two : length (scaled b (lagrange 1 0xC3 2)) ≡ 3 = length-scaled b (lagrange 1 0xC3 2) ∙ basis_one.size in
    let three : length (scaled c (lagrange 2 0xC3 1)) ≡ 3 = length-scaled c (lagrange 2 0xC3 1) ∙ basis_generator.size in
    let inner : length (added (scaled b (lagrange 1 0xC3 2)) (scaled c (lagrange 2 0xC3 1))) ≡ 3 =
    length-added (scaled b (lagrange 1 0xC3 2)) (scaled c (lagrange 2 0xC3 1)) (two ∙ sym three) ∙ two in
    length-added (scaled a (lagrange 0xC3 1 2)) (added (scaled b (lagrange 1 0xC3 2)) (scaled c (lagrange 2 0xC3 1)))
    (one ∙ sym inner) ∙ one

bytes_of_through : (a b c : ℕ) → a < 256 → b < 256 → c < 256 → AreBytes (through a b c)
unfolding through
bytes_of_through a b c ha hb hc =
    bytes_of_added (scaled a (lagrange 0xC3 1 2)) (added (scaled b (lagrange 1 0xC3 2)) (scaled c (lagrange 2 0xC3 1)))
    (bytes_of_scaled a (lagrange 0xC3 1 2) ha basis_inverse.bytes)
    (bytes_of_added (scaled b (lagrange 1 0xC3 2)) (scaled c (lagrange 2 0xC3 1))
    (bytes_of_scaled b (lagrange 1 0xC3 2) hb basis_one.bytes)
    (bytes_of_scaled c (lagrange 2 0xC3 1) hc basis_generator.bytes))

-- its value at p, by the three polynomials' values there
value_at-through : (p a b c : ℕ) → p < 256 → a < 256 → b < 256 → c < 256 →
    value_at p (through a b c)
    ≡ bit_xor (product a (value_at p (lagrange 0xC3 1 2)))
    (bit_xor (product b (value_at p (lagrange 1 0xC3 2))) (product c (value_at p (lagrange 2 0xC3 1))))
unfolding through
value_at-through p a b c hp ha hb hc =
    let one : length (scaled a (lagrange 0xC3 1 2)) ≡ 3 = length-scaled a (lagrange 0xC3 1 2) ∙ basis_inverse.size in
    let two : length (scaled b (lagrange 1 0xC3 2)) ≡ 3 = length-scaled b (lagrange 1 0xC3 2) ∙ basis_one.size in
    let three : length (scaled c (lagrange 2 0xC3 1)) ≡ 3 = length-scaled c (lagrange 2 0xC3 1) ∙ basis_generator.size in
    let inner : length (added (scaled b (lagrange 1 0xC3 2)) (scaled c (lagrange 2 0xC3 1))) ≡ 3 =
    length-added (scaled b (lagrange 1 0xC3 2)) (scaled c (lagrange 2 0xC3 1)) (two ∙ sym three) ∙ two in
    value_at-added p (scaled a (lagrange 0xC3 1 2)) (added (scaled b (lagrange 1 0xC3 2)) (scaled c (lagrange 2 0xC3 1)))
    (one ∙ sym inner)
    ∙ ap (bit_xor (value_at p (scaled a (lagrange 0xC3 1 2))))
    (value_at-added p (scaled b (lagrange 1 0xC3 2)) (scaled c (lagrange 2 0xC3 1)) (two ∙ sym three)
    ∙ ap (λ v. bit_xor v (value_at p (scaled c (lagrange 2 0xC3 1))))
    (value_at-scaled p b (lagrange 1 0xC3 2) hp hb basis_one.bytes)
    ∙ ap (bit_xor (product b (value_at p (lagrange 1 0xC3 2))))
    (value_at-scaled p c (lagrange 2 0xC3 1) hp hc basis_generator.bytes))
    ∙ ap (λ v. bit_xor v (bit_xor (product b (value_at p (lagrange 1 0xC3 2))) (product c (value_at p (lagrange 2 0xC3 1)))))
    (value_at-scaled p a (lagrange 0xC3 1 2) hp ha basis_inverse.bytes)

through_at_inverse : (a b c : ℕ) → a < 256 → b < 256 → c < 256 → value_at 0xC3 (through a b c) ≡ a
through_at_inverse a b c ha hb hc =
    value_at-through 0xC3 a b c (omega arith) ha hb hc
    ∙ ap (λ x. bit_xor (product a x) (bit_xor (product b (value_at 0xC3 (lagrange 1 0xC3 2)))
    (product c (value_at 0xC3 (lagrange 2 0xC3 1))))) basis_inverse.at_own
    ∙ ap (λ x. bit_xor (product a 1) (bit_xor (product b x) (product c (value_at 0xC3 (lagrange 2 0xC3 1))))) basis_one.at_second
    ∙ ap (λ x. bit_xor (product a 1) (bit_xor (product b 0) (product c x))) basis_generator.at_second
    ∙ ap (λ x. bit_xor x (bit_xor (product b 0) (product c 0))) (product_one_right a ha)
    ∙ ap (λ x. bit_xor a (bit_xor x (product c 0))) (product_zero_right b)
    ∙ ap (bit_xor a) (product_zero_right c)
    ∙ xor_zero_r a

through_at_one : (a b c : ℕ) → a < 256 → b < 256 → c < 256 → value_at 1 (through a b c) ≡ b
through_at_one a b c ha hb hc =
    value_at-through 1 a b c (omega arith) ha hb hc
    ∙ ap (λ x. bit_xor (product a x) (bit_xor (product b (value_at 1 (lagrange 1 0xC3 2))) (product c (value_at 1 (lagrange 2 0xC3 1)))))
    basis_inverse.at_second
    ∙ ap (λ x. bit_xor (product a 0) (bit_xor (product b x) (product c (value_at 1 (lagrange 2 0xC3 1))))) basis_one.at_own
    ∙ ap (λ x. bit_xor (product a 0) (bit_xor (product b 1) (product c x))) basis_generator.at_third
    ∙ ap (λ x. bit_xor x (bit_xor (product b 1) (product c 0))) (product_zero_right a)
    ∙ ap (bit_xor (product b 1)) (product_zero_right c)
    ∙ xor_zero_r (product b 1) ∙ product_one_right b hb

through_at_generator : (a b c : ℕ) → a < 256 → b < 256 → c < 256 → value_at 2 (through a b c) ≡ c
through_at_generator a b c ha hb hc =
    value_at-through 2 a b c (omega arith) ha hb hc
    ∙ ap (λ x. bit_xor (product a x) (bit_xor (product b (value_at 2 (lagrange 1 0xC3 2))) (product c (value_at 2 (lagrange 2 0xC3 1)))))
    basis_inverse.at_third
    ∙ ap (λ x. bit_xor (product a 0) (bit_xor (product b x) (product c (value_at 2 (lagrange 2 0xC3 1))))) basis_one.at_third
    ∙ ap (λ x. bit_xor (product a 0) (bit_xor (product b 0) (product c x))) basis_generator.at_own
    ∙ ap (λ x. bit_xor x (bit_xor (product b 0) (product c 1))) (product_zero_right a)
    ∙ ap (λ x. bit_xor x (product c 1)) (product_zero_right b)
    ∙ product_one_right c hc

-- ---- the parity of a column

pub length-parity : (ds : List ℕ) → length (parity ds) ≡ 3
length-parity ds =
    ap (λ (ps : List ℕ). length ps) (parity_through ds)
    ∙ length-through (data_sum 0xC3 ds) (data_sum 1 ds) (data_sum 2 ds)

-- the data's three sums are bytes
sums_are_bytes : (ds : List ℕ) → AreBytes ds →
    (data_sum 0xC3 ds < 256) × (data_sum 1 ds < 256) × (data_sum 2 ds < 256)
sums_are_bytes ds all =
    (data_sum-byte 0xC3 ds (omega arith) all, data_sum-byte 1 ds (omega arith) all, data_sum-byte 2 ds (omega arith) all)

pub bytes_of_parity : (ds : List ℕ) → AreBytes ds → AreBytes (parity ds)
bytes_of_parity ds all =
    let sums = sums_are_bytes ds all in
    subst AreBytes (sym (parity_through ds))
    (bytes_of_through (data_sum 0xC3 ds) (data_sum 1 ds) (data_sum 2 ds) sums.0 sums.1 sums.2)

-- the parity's value at each root is the data's sum there
pub value_at-parity : (ds : List ℕ) → AreBytes ds → AtRoots (λ p. value_at p (parity ds) ≡ data_sum p ds)
value_at-parity ds all =
    let sums = sums_are_bytes ds all in
    record {
      at_inverse =
          ap (value_at 0xC3) (parity_through ds)
          ∙ through_at_inverse (data_sum 0xC3 ds) (data_sum 1 ds) (data_sum 2 ds) sums.0 sums.1 sums.2;
      at_one =
          ap (value_at 1) (parity_through ds)
          ∙ through_at_one (data_sum 0xC3 ds) (data_sum 1 ds) (data_sum 2 ds) sums.0 sums.1 sums.2;
      at_generator =
          ap (value_at 2) (parity_through ds)
          ∙ through_at_generator (data_sum 0xC3 ds) (data_sum 1 ds) (data_sum 2 ds) sums.0 sums.1 sums.2;
    }

-- a column's value is the sum of its data and the value of its last three bytes
value_at-data : (p : ℕ) (ds ps : List ℕ) → p < 256 → AreBytes ds → length ps ≡ 3 →
    value_at p (ds ++ ps) ≡ bit_xor (data_sum p ds) (value_at p ps)
value_at-data p ds ps h all three =
    value_at-append p ds ps h all
    ∙ ap (λ n. bit_xor (product (value_at p ds) (power p n)) (value_at p ps)) three
    ∙ ap (λ v. bit_xor v (value_at p ps)) (sym (data_sum-value p ds h all))

pub parity_codeword : (ds : List ℕ) → 1 ≤ length ds → length ds ≤ 29 → AreBytes ds → IsCodeword (ds ++ parity ds)
parity_codeword ds least most all =
    let three : length (parity ds) ≡ 3 = length-parity ds in
    let long : length (ds ++ parity ds) ≡ length ds + length (parity ds) = length-append ds (parity ds) in
    let values : AtRoots (λ p. value_at p (parity ds) ≡ data_sum p ds) = value_at-parity ds all in
    let none : (p : ℕ) → p < 256 → value_at p (parity ds) ≡ data_sum p ds → value_at p (ds ++ parity ds) ≡ 0 =
    λ p h e. value_at-data p ds (parity ds) h all three ∙ ap (bit_xor (data_sum p ds)) e ∙ xor_self (data_sum p ds) in
    record {
      least = omega arith;
      most = omega arith;
      bytes = All-append (λ c. c < 256) ds (parity ds) all (bytes_of_parity ds all);
      at_inverse = none 0xC3 (omega arith) values.at_inverse;
      at_one = none 1 (omega arith) values.at_one;
      at_generator = none 2 (omega arith) values.at_generator;
    }

pub all_left : {X : Type 0} (P : X → Type 0) (xs ys : List X) → All P (xs ++ ys) → All P xs
all_left P [] ys all = All-nil P
all_left P (x ∷ xs) ys all =
    All-cons P x xs (All-head P x (xs ++ ys) all) (all_left P xs ys (All-tail P x (xs ++ ys) all))

pub all_right : {X : Type 0} (P : X → Type 0) (xs ys : List X) → All P (xs ++ ys) → All P ys
all_right P [] ys all = all
all_right P (x ∷ xs) ys all = all_right P xs ys (All-tail P x (xs ++ ys) all)

pub parity_only : (ds ps : List ℕ) → length ps ≡ 3 → IsCodeword (ds ++ ps) → ps ≡ parity ds
parity_only ds ps three word =
    let all : AreBytes ds = all_left (λ c. c < 256) ds ps word.bytes in
    let values : AtRoots (λ p. value_at p (parity ds) ≡ data_sum p ds) = value_at-parity ds all in
    let same : (p : ℕ) → p < 256 → value_at p (ds ++ ps) ≡ 0 → value_at p (parity ds) ≡ data_sum p ds →
    value_at p ps ≡ value_at p (parity ds) =
    λ p h none e.
    sym (equal_from_sum (data_sum p ds) (value_at p ps) (sym (value_at-data p ds ps h all three) ∙ none))
    ∙ sym e in
    let near : distance ps (parity ds) ≤ length ps = distance-le ps (parity ds) in
    near_columns ps (parity ds) (all_right (λ c. c < 256) ds ps word.bytes) (bytes_of_parity ds all)
    (three ∙ sym (length-parity ds)) (omega arith) (omega arith)
    (record {
      at_inverse = same 0xC3 (omega arith) word.at_inverse values.at_inverse;
      at_one = same 1 (omega arith) word.at_one values.at_one;
      at_generator = same 2 (omega arith) word.at_generator values.at_generator;
    })

-- ---- parity sectors

pub column-append : (j : ℕ) (ss ts : List (List ℕ)) → column j (ss ++ ts) ≡ column j ss ++ column j ts
unfolding column
column-append j ss ts = map-append (λ s. slice_index s j) ss ts

pub bytes_of_column : (j : ℕ) (ss : List (List ℕ)) → j < 1024 → All IsSector ss → AreBytes (column j ss)
unfolding column
bytes_of_column j [] h all = no_bytes
bytes_of_column j (s ∷ ss) h all =
    let first : IsSector s = All-head IsSector s ss all in
    let size : length s ≡ 1024 = first.size in
    more_bytes (slice_index s j) (column j ss)
    (All-get_or (λ b. b < 256) s j 0 (omega arith) first.each)
    (bytes_of_column j ss h (All-tail IsSector s ss all))

pub get_or-parity_sector : (ss : List (List ℕ)) (k j : ℕ) → j < 1024 →
    get_or (parity_sector ss k) j 0 ≡ get_or (parity (column j ss)) k 0
unfolding parity_sector
get_or-parity_sector ss k j h =
    get_or-map-range_with_len (λ i. slice_index (parity (column i ss)) k) 0 1024 j j 0 h (zero-add j)

pub length-parity_sector : (ss : List (List ℕ)) (k : ℕ) → length (parity_sector ss k) ≡ 1024
unfolding parity_sector
length-parity_sector ss k = length-map-range_with_len (λ j. slice_index (parity (column j ss)) k) 0 1024

parity_sector-is_sector : (ss : List (List ℕ)) (k : ℕ) → All IsSector ss → k < 3 → IsSector (parity_sector ss k)
parity_sector-is_sector ss k all h =
    let size : length (parity_sector ss k) ≡ 1024 = length-parity_sector ss k in
    record {
      size = size;
      each = All-from_get_or (λ b. b < 256) (parity_sector ss k) 0 (λ j lt.
          let within : j < 1024 = omega arith in
          let three : length (parity (column j ss)) ≡ 3 = length-parity (column j ss) in
          let P : ℕ → Type 0 = λ b. b < 256 in
          subst P (sym (get_or-parity_sector ss k j within))
          (All-get_or P (parity (column j ss)) k 0 (omega arith)
          (bytes_of_parity (column j ss) (bytes_of_column j ss within all))));
    }

three_elements : (xs : List ℕ) → length xs ≡ 3 → get_or xs 0 0 ∷ get_or xs 1 0 ∷ get_or xs 2 0 ∷ [] ≡ xs
three_elements [] h = absurd (cc)
three_elements (a ∷ []) h = absurd (omega arith)
three_elements (a ∷ b ∷ []) h = absurd (omega arith)
three_elements (a ∷ b ∷ c ∷ []) h = refl
three_elements (a ∷ b ∷ c ∷ d ∷ xs) h = absurd (omega arith)

pub length-parity_sectors : (ss : List (List ℕ)) → length (parity_sectors ss) ≡ 3
unfolding parity_sectors parity_sector
length-parity_sectors ss = refl

pub parity_sectors-are_sectors : (ss : List (List ℕ)) → All IsSector ss → All IsSector (parity_sectors ss)
unfolding parity_sectors parity_sector
parity_sectors-are_sectors ss all =
    All-cons IsSector (parity_sector ss 0) (parity_sector ss 1 ∷ parity_sector ss 2 ∷ [])
    (parity_sector-is_sector ss 0 all (omega arith))
    (All-cons IsSector (parity_sector ss 1) (parity_sector ss 2 ∷ [])
    (parity_sector-is_sector ss 1 all (omega arith))
    (All-cons IsSector (parity_sector ss 2) []
    (parity_sector-is_sector ss 2 all (omega arith)) (All-nil IsSector)))

-- the parity sectors' columns are the columns' parity
pub column-parity_sectors : (j : ℕ) (ss : List (List ℕ)) → j < 1024 →
    column j (parity_sectors ss) ≡ parity (column j ss)
unfolding parity_sectors parity_sector column
column-parity_sectors j ss h =
    let p : List ℕ = parity (column j ss) in
    ap (λ (x : ℕ). x ∷ get_or (parity_sector ss 1) j 0 ∷ get_or (parity_sector ss 2) j 0 ∷ []) (get_or-parity_sector ss 0 j h)
    ∙ ap (λ (x : ℕ). get_or p 0 0 ∷ x ∷ get_or (parity_sector ss 2) j 0 ∷ []) (get_or-parity_sector ss 1 j h)
    ∙ ap (λ (x : ℕ). get_or p 0 0 ∷ get_or p 1 0 ∷ x ∷ []) (get_or-parity_sector ss 2 j h)
    ∙ three_elements p (length-parity (column j ss))

pub parity_block : (ss : List (List ℕ)) → 1 ≤ length ss → length ss ≤ 29 → All IsSector ss →
    IsCodeBlock (ss ++ parity_sectors ss)
parity_block ss least most all = record {
  sectors = All-append IsSector ss (parity_sectors ss) all (parity_sectors-are_sectors ss all);
  columns = λ j h.
      let count : length (column j ss) ≡ length ss = length-column j ss in
      subst IsCodeword
      (sym (column-append j ss (parity_sectors ss) ∙ ap (λ c. column j ss ++ c) (column-parity_sectors j ss h)))
      (parity_codeword (column j ss) (omega arith) (omega arith) (bytes_of_column j ss h all));
}

pub parity_block_only : (ss ps : List (List ℕ)) → length ps ≡ 3 → IsCodeBlock (ss ++ ps) → ps ≡ parity_sectors ss
parity_block_only ss ps three block =
    let datas : All IsSector ss = all_left IsSector ss ps block.sectors in
    same_from_columns ps (parity_sectors ss) (all_right IsSector ss ps block.sectors)
    (parity_sectors-are_sectors ss datas) (three ∙ sym (length-parity_sectors ss)) (λ j h.
    parity_only (column j ss) (column j ps) (length-column j ps ∙ three)
    (subst IsCodeword (column-append j ss ps) (block.columns j h))
    ∙ sym (column-parity_sectors j ss h))

-- a code block has 4 to 32 sectors
pub block_count : (ss : List (List ℕ)) → IsCodeBlock ss → (4 ≤ length ss) × (length ss ≤ 32)
block_count ss block =
    let word : IsCodeword (column 0 ss) = block.columns 0 (omega arith) in
    let count : length (column 0 ss) ≡ length ss = length-column 0 ss in
    let least : 4 ≤ length (column 0 ss) = word.least in
    let most : length (column 0 ss) ≤ 32 = word.most in
    (omega arith, omega arith)
