-- One column of a register shifted: what stands where, byte by byte.
use Rattle.std.proofs.Common.{◌≡◌, ◌≢◌, ℕ, ◌+◌, ◌<◌, ◌≤◌, sym, ◌∙◌, ap, subst, arith, inl, inr, List, [], length, All, get_or, set, bit_xor}
use Rattle.std.proofs.lemmas.Bool.{cases_eq}
use Rattle.std.proofs.lemmas.List.{get_or-set_same, get_or-set_other}
use Rattle.std.proofs.Math.ListN.{length-set}
use Rattle.std.proofs.lemmas.List.Elements.{All-set, All-get_or}
use Rattle.cartridge_spec.specs.Code.{product}
use Rattle.qic_base.specs.Cartridge.{IsSector}
use Rattle.gf256_qic.proofs.Sums.{sum_byte}
use Rattle.segment_parity.specs.Register.{at, feedback, Shifted}

-- byte j of the row r written
abbrev pub put : List (List ℕ) → ℕ → ℕ → ℕ → List (List ℕ)
put rows r j v = set rows r (set (get_or rows r []) j v)

length-put : (rows : List (List ℕ)) (r j v : ℕ) → length (put rows r j v) ≡ length rows
length-put rows r j v = length-set rows r (set (get_or rows r []) j v)

-- the row is there, and so is its byte j
pub record HasByte (rows : List (List ℕ)) (r j : ℕ) : Type 0 where
  pub row : r < length rows
  pub byte : j < length (get_or rows r [])

at-put_same : (rows : List (List ℕ)) (r j v : ℕ) → HasByte rows r j → at (put rows r j v) r j ≡ v
at-put_same rows r j v h =
    ap (λ (row : List ℕ). get_or row j 0) (get_or-set_same rows r (set (get_or rows r []) j v) [] h.row)
    ∙ get_or-set_same (get_or rows r []) j v 0 h.byte

at-put_row : (rows : List (List ℕ)) (r j v q k : ℕ) → q ≢ r → at (put rows r j v) q k ≡ at rows q k
at-put_row rows r j v q k ne =
    ap (λ (row : List ℕ). get_or row k 0) (get_or-set_other rows r q (set (get_or rows r []) j v) [] ne)

at-put_other : (rows : List (List ℕ)) (r j v q k : ℕ) → r < length rows → k ≢ j → at (put rows r j v) q k ≡ at rows q k
at-put_other rows r j v q k h ne =
    elim (cases_eq q r) [
      | inl e ↦
          ap (λ (x : ℕ). at (put rows r j v) x k) e
          ∙ ap (λ (row : List ℕ). get_or row k 0) (get_or-set_same rows r (set (get_or rows r []) j v) [] h)
          ∙ get_or-set_other (get_or rows r []) j k v 0 ne
          ∙ sym (ap (λ (x : ℕ). at rows x k) e)
      | inr other ↦ at-put_row rows r j v q k other
    ]

has_byte-put : (rows : List (List ℕ)) (r j v q k : ℕ) → q ≢ r → HasByte rows q k → HasByte (put rows r j v) q k
has_byte-put rows r j v q k ne h =
    let long : length (put rows r j v) ≡ length rows = length-put rows r j v in
    let same : get_or (put rows r j v) q [] ≡ get_or rows q [] =
    get_or-set_other rows r q (set (get_or rows r []) j v) [] ne in
    record { row = omega arith; byte = subst (λ (row : List ℕ). k < length row) (sym same) h.byte }

-- ---- the three writes at a column, where w is the multiple of the feedback f

abbrev once : List (List ℕ) → ℕ → ℕ → List (List ℕ)
once rows j w = put rows 0 j (bit_xor (at rows 1 j) w)

abbrev twice : List (List ℕ) → ℕ → ℕ → List (List ℕ)
twice rows j w = put (once rows j w) 1 j (bit_xor (at (once rows j w) 2 j) w)

abbrev pub thrice : List (List ℕ) → ℕ → ℕ → ℕ → List (List ℕ)
thrice rows j w f = put (twice rows j w) 2 j f

pub length-thrice : (rows : List (List ℕ)) (j w f : ℕ) → length (thrice rows j w f) ≡ length rows
length-thrice rows j w f =
    length-put (twice rows j w) 2 j f
    ∙ length-put (once rows j w) 1 j (bit_xor (at (once rows j w) 2 j) w)
    ∙ length-put rows 0 j (bit_xor (at rows 1 j) w)

has_byte : (rows : List (List ℕ)) (r j : ℕ) → r < length rows → j < 1024 → All IsSector rows → HasByte rows r j
has_byte rows r j h hj all =
    let row : IsSector (get_or rows r []) = All-get_or IsSector rows r [] h all in
    let size : length (get_or rows r []) ≡ 1024 = row.size in
    record { row = h; byte = omega arith }

record Written (rows : List (List ℕ)) (j w f : ℕ) : Type 0 where
  high : at (thrice rows j w f) 0 j ≡ bit_xor (at rows 1 j) w
  middle : at (thrice rows j w f) 1 j ≡ bit_xor (at rows 2 j) w
  low : at (thrice rows j w f) 2 j ≡ f

written : (rows : List (List ℕ)) (j w f : ℕ) → length rows ≡ 3 → j < 1024 → All IsSector rows → Written rows j w f
written rows j w f three hj all =
    let a : ℕ = bit_xor (at rows 1 j) w in
    let b : ℕ = bit_xor (at (once rows j w) 2 j) w in
    let middle' : HasByte (once rows j w) 1 j =
    has_byte-put rows 0 j a 1 j (omega arith) (has_byte rows 1 j (omega arith) hj all) in
    let low' : HasByte (once rows j w) 2 j =
    has_byte-put rows 0 j a 2 j (omega arith) (has_byte rows 2 j (omega arith) hj all) in
    let low'' : HasByte (twice rows j w) 2 j = has_byte-put (once rows j w) 1 j b 2 j (omega arith) low' in
    record {
      high =
          at-put_row (twice rows j w) 2 j f 0 j (omega arith)
          ∙ at-put_row (once rows j w) 1 j b 0 j (omega arith)
          ∙ at-put_same rows 0 j a (has_byte rows 0 j (omega arith) hj all);
      middle =
          at-put_row (twice rows j w) 2 j f 1 j (omega arith)
          ∙ at-put_same (once rows j w) 1 j b middle'
          ∙ ap (λ x. bit_xor x w) (at-put_row rows 0 j a 2 j (omega arith));
      low = at-put_same (twice rows j w) 2 j f low'';
    }

unwritten : (rows : List (List ℕ)) (j w f q k : ℕ) → length rows ≡ 3 → k ≢ j →
    at (thrice rows j w f) q k ≡ at rows q k
unwritten rows j w f q k three ne =
    let a : ℕ = bit_xor (at rows 1 j) w in
    let b : ℕ = bit_xor (at (once rows j w) 2 j) w in
    let one : length (once rows j w) ≡ length rows = length-put rows 0 j a in
    let two : length (twice rows j w) ≡ length (once rows j w) = length-put (once rows j w) 1 j b in
    at-put_other (twice rows j w) 2 j f q k (omega arith) ne
    ∙ at-put_other (once rows j w) 1 j b q k (omega arith) ne
    ∙ at-put_other rows 0 j a q k (omega arith) ne

-- ---- a loop's step

-- the columns from n on are as they were
abbrev pub Untouched : List (List ℕ) → List (List ℕ) → ℕ → Type 0
Untouched old rows n = (r k : ℕ) → n ≤ k → at rows r k ≡ at old r k

pub shifted_none : (rows : List (List ℕ)) (s : List ℕ) → Shifted rows s rows 0
shifted_none rows s = record {
  high = λ j h. absurd (omega arith);
  middle = λ j h. absurd (omega arith);
  low = λ j h. absurd (omega arith);
}

pub shifted_more :
    (old rows : List (List ℕ)) (s : List ℕ) (j w : ℕ) → length rows ≡ 3 → j < 1024 → All IsSector rows →
    w ≡ product (feedback rows s j) 0xC0 →
    Untouched old rows j → Shifted old s rows j → Shifted old s (thrice rows j w (feedback rows s j)) (j + 1)
shifted_more old rows s j w three hj all ew rest before =
    let f : ℕ = feedback rows s j in
    let here = written rows j w f three hj all in
    let top : f ≡ feedback old s j = ap (λ x. bit_xor x (get_or s j 0)) (rest 0 j (omega arith)) in
    let multiple : w ≡ product (feedback old s j) 0xC0 = ew ∙ ap (λ x. product x 0xC0) top in
    record {
      high = λ k h. elim (cases_eq k j) [
        | inl e ↦
            let P : ℕ → Type 0 = λ x. at (thrice rows j w f) 0 x ≡ bit_xor (at old 1 x) (product (feedback old s x) 0xC0) in
            subst P (sym e)
            (here.high ∙ ap (λ x. bit_xor x w) (rest 1 j (omega arith)) ∙ ap (bit_xor (at old 1 j)) multiple)
        | inr ne ↦ unwritten rows j w f 0 k three ne ∙ before.high k (omega (arith, ne))
      ];
      middle = λ k h. elim (cases_eq k j) [
        | inl e ↦
            let P : ℕ → Type 0 = λ x. at (thrice rows j w f) 1 x ≡ bit_xor (at old 2 x) (product (feedback old s x) 0xC0) in
            subst P (sym e)
            (here.middle ∙ ap (λ x. bit_xor x w) (rest 2 j (omega arith)) ∙ ap (bit_xor (at old 2 j)) multiple)
        | inr ne ↦ unwritten rows j w f 1 k three ne ∙ before.middle k (omega (arith, ne))
      ];
      low = λ k h. elim (cases_eq k j) [
        | inl e ↦
            let P : ℕ → Type 0 = λ x. at (thrice rows j w f) 2 x ≡ feedback old s x in
            subst P (sym e) (here.low ∙ top)
        | inr ne ↦ unwritten rows j w f 2 k three ne ∙ before.low k (omega (arith, ne))
      ];
    }

pub untouched_more : (old rows : List (List ℕ)) (j w f : ℕ) → length rows ≡ 3 →
    Untouched old rows j → Untouched old (thrice rows j w f) (j + 1)
untouched_more old rows j w f three rest r k h =
    unwritten rows j w f r k three (omega arith) ∙ rest r k (omega arith)

-- ---- the rows stay sectors

sectors-put : (rows : List (List ℕ)) (r j v : ℕ) → r < length rows → v < 256 → All IsSector rows → All IsSector (put rows r j v)
sectors-put rows r j v h hv all =
    let row : IsSector (get_or rows r []) = All-get_or IsSector rows r [] h all in
    All-set IsSector rows r (set (get_or rows r []) j v)
    (record {
      size = length-set (get_or rows r []) j v ∙ row.size;
      each = All-set (λ b. b < 256) (get_or rows r []) j v hv row.each;
    })
    all

byte_at : (rows : List (List ℕ)) (r j : ℕ) → r < length rows → j < 1024 → All IsSector rows → at rows r j < 256
byte_at rows r j h hj all =
    let row : IsSector (get_or rows r []) = All-get_or IsSector rows r [] h all in
    let size : length (get_or rows r []) ≡ 1024 = row.size in
    All-get_or (λ b. b < 256) (get_or rows r []) j 0 (omega arith) row.each

pub sectors_more : (rows : List (List ℕ)) (s : List ℕ) (j w : ℕ) → length rows ≡ 3 → j < 1024 →
    get_or s j 0 < 256 → w < 256 → All IsSector rows → All IsSector (thrice rows j w (feedback rows s j))
sectors_more rows s j w three hj hs hw all =
    let a : ℕ = bit_xor (at rows 1 j) w in
    let b : ℕ = bit_xor (at (once rows j w) 2 j) w in
    let one : length (once rows j w) ≡ length rows = length-put rows 0 j a in
    let two : length (twice rows j w) ≡ length (once rows j w) = length-put (once rows j w) 1 j b in
    let all1 : All IsSector (once rows j w) =
    sectors-put rows 0 j a (omega arith) (sum_byte (at rows 1 j) w (byte_at rows 1 j (omega arith) hj all) hw) all in
    let all2 : All IsSector (twice rows j w) =
    sectors-put (once rows j w) 1 j b (omega arith)
    (sum_byte (at (once rows j w) 2 j) w (byte_at (once rows j w) 2 j (omega arith) hj all1) hw) all1 in
    sectors-put (twice rows j w) 2 j (feedback rows s j) (omega arith)
    (sum_byte (at rows 0 j) (get_or s j 0) (byte_at rows 0 j (omega arith) hj all) hs) all2
