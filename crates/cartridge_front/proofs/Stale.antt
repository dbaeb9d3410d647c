-- The places of the volume table's segment that are to be written, as a set of places, in a workspace and on a cartridge.
use Rattle.std.proofs.Common.{◌≡◌, ◌≢◌, ℕ, zero, suc, ◌+◌, ◌-◌, ◌*◌, ◌%◌, ◌^◌, ◌<◌, ◌++◌, refl, sym, ◌∙◌, ap, subst, arith, inl, inr, Bool}
use Rattle.std.proofs.Common.{true, false, not, List, [], ◌∷◌, length, take, get_or, bit_or}
use Rattle.std.specs.Prelude.{◌==◌, ◌&&◌, ◌||◌}
use Rattle.std.specs.Int.{w32}
use Rattle.std.specs.Str.{bytes_eq}
use Rattle.std.proofs.lemmas.Bool.{cases_lt, cases_eq, eq-eqb, ne_eqb}
use Rattle.std.proofs.lemmas.List.{length-drop, length-take-le, get_or-take, append-nil, nil_from_length}
use Rattle.std.proofs.Math.ListN.{get_or-append}
use borrow.Rule.Slice.PartMut.{put_mid, post_of}
use Rattle.std.proofs.lemmas.Option.{unwrap_or-slice_get}
use Rattle.std.proofs.lemmas.Nat.Bits.{bit_at_set_same, bit_at_set_other}
use Rattle.std.proofs.lemmas.Slice.Eq.{bytes_eq-Decides}
use Rattle.qic_base.specs.CartridgeTerms.{IsLost, is_lost}
use Rattle.erasure_solve.proofs.Places.{is_lost_from}
use Rattle.cartridge_spec.specs.Shape.{sector_at}
use Rattle.cartridge_front.specs.Settling.{is_stale}

-- ---- a set with one place more

is_lost-with_place : (stale place i : ℕ) → place < 32 →
    is_lost (bit_or stale (1 * 2 ^ place % 2 ^ 32)) i ≡ (is_lost stale i || (i == place))
is_lost-with_place stale place i within =
    elim (cases_eq i place) [
      | inl same ↦
          let here : IsLost (bit_or stale (1 * 2 ^ place % 2 ^ 32)) i =
          subst (IsLost (bit_or stale (1 * 2 ^ place % 2 ^ 32))) (sym same) (bit_at_set_same w32 stale place within) in
          is_lost_from (bit_or stale (1 * 2 ^ place % 2 ^ 32)) i here
          ∙ sym (ap (λ (b : Bool). is_lost stale i || b) (eq-eqb i place same) ∙ or_true (is_lost stale i))
      | inr other ↦
          ap (λ (bit : ℕ). bit == 1) (bit_at_set_other w32 stale place within i other)
          ∙ sym (ap (λ (b : Bool). is_lost stale i || b) (ne_eqb i place other) ∙ or_false (is_lost stale i))
    ]
  where
    or_true : (b : Bool) → (b || true) ≡ true
    or_true true = refl
    or_true false = refl

    or_false : (b : Bool) → (b || false) ≡ b
    or_false true = refl
    or_false false = refl

pub stale_with : (stale place i : ℕ) (same : Bool) → same ≡ false → place < 32 →
    is_lost (bit_or stale (1 * 2 ^ place % 2 ^ 32)) i ≡ (is_lost stale i || (i == place && not same))
stale_with stale place i same differs within =
    is_lost-with_place stale place i within
    ∙ ap (λ (b : Bool). is_lost stale i || b) (and_true (i == place) ∙ ap (λ (s : Bool). i == place && not s) (sym differs))
  where
    and_true : (b : Bool) → b ≡ (b && true)
    and_true true = refl
    and_true false = refl

-- ---- the three places of parity

-- a place was looked at
abbrev pub LookedAt : (before after place : ℕ) (same : Bool) → Type 0
LookedAt before after place same = (i : ℕ) → is_lost after i ≡ (is_lost before i || (i == place && not same))

look_other : (before after place i : ℕ) (same : Bool) → LookedAt before after place same → i ≢ place → is_lost after i ≡ is_lost before i
look_other before after place i same looked apart =
    looked i ∙ ap (λ (b : Bool). is_lost before i || (b && not same)) (ne_eqb i place apart) ∙ none (is_lost before i)
  where
    none : (b : Bool) → (b || (false && not same)) ≡ b
    none true = refl
    none false = refl

look_same : (before after place : ℕ) (same : Bool) → LookedAt before after place same →
    is_lost after place ≡ (is_lost before place || not same)
look_same before after place same looked =
    looked place ∙ ap (λ (b : Bool). is_lost before place || (b && not same)) (eq-eqb place place refl)

pub bytes_same : (xs ys : List ℕ) → xs ≡ ys → bytes_eq xs ys ≡ true
bytes_same xs ys same = (bytes_eq-Decides xs ys).1 same

put_stale : (lost one two three : ℕ) (old block : List (List ℕ)) →
    LookedAt lost one 29 (bytes_eq (sector_at old 29) (sector_at block 29)) →
    LookedAt one two 30 (bytes_eq (sector_at old 30) (sector_at block 30)) →
    LookedAt two three 31 (bytes_eq (sector_at old 31) (sector_at block 31)) →
    ((i : ℕ) → i < 29 → sector_at old i ≡ sector_at block i) →
    (i : ℕ) → i < 32 → is_lost three i ≡ is_stale lost old block i
put_stale lost one two three old block first second third kept i within =
    elim (cases_lt i 29) [
      | inl lower ↦
          look_other two three 31 i same31 third (omega arith) ∙ look_other one two 30 i same30 second (omega arith)
          ∙ look_other lost one 29 i same29 first (omega arith)
          ∙ unchanged (is_lost lost i)
          ∙ ap (λ (s : Bool). is_lost lost i || not s) (sym (bytes_same (sector_at old i) (sector_at block i) (kept i lower)))
      | inr upper ↦ elim (cases_eq i 29) [
        | inl at29 ↦ subst Wanted (sym at29)
            (look_other two three 31 29 same31 third (omega arith) ∙ look_other one two 30 29 same30 second (omega arith)
            ∙ look_same lost one 29 same29 first)
        | inr above29 ↦ elim (cases_eq i 30) [
          | inl at30 ↦ subst Wanted (sym at30)
              (look_other two three 31 30 same31 third (omega arith) ∙ look_same one two 30 same30 second
              ∙ ap (λ (b : Bool). b || not same30) (look_other lost one 29 30 same29 first (omega arith)))
          | inr above30 ↦
              let at31 : i ≡ 31 = omega arith in
              subst Wanted (sym at31)
              (look_same two three 31 same31 third
              ∙ ap (λ (b : Bool). b || not same31)
              (look_other one two 30 31 same30 second (omega arith) ∙ look_other lost one 29 31 same29 first (omega arith)))
        ]
      ]
    ]
  where
    same29 : Bool
    same29 = bytes_eq (sector_at old 29) (sector_at block 29)

    same30 : Bool
    same30 = bytes_eq (sector_at old 30) (sector_at block 30)

    same31 : Bool
    same31 = bytes_eq (sector_at old 31) (sector_at block 31)

    Wanted : ℕ → Type 0
    Wanted k = is_lost three k ≡ is_stale lost old block k

    unchanged : (b : Bool) → b ≡ (b || false)
    unchanged true = refl
    unchanged false = refl

get_or-behind : {A : Type 0} (xs ys : List A) (k n : ℕ) (d : A) → length xs ≡ n → get_or (xs ++ ys) (n + k) d ≡ get_or ys k d
get_or-behind [] ys k n d long = ap (λ (i : ℕ). get_or ys i d) (omega arith)
get_or-behind (x ∷ xs) ys k zero d long = absurd (omega arith)
get_or-behind (x ∷ xs) ys k (suc n) d long =
    let at : suc n + k ≡ suc (n + k) = omega arith in
    ap (λ (i : ℕ). get_or (x ∷ (xs ++ ys)) i d) at ∙ get_or-behind xs ys k n d (omega arith)

-- the parity stands behind the data
behind_data : (old parity : List (List ℕ)) (k : ℕ) → length old ≡ 32 → sector_at (take 29 old ++ parity) (29 + k) ≡ get_or parity k []
behind_data old parity k room =
    unwrap_or-slice_get (take 29 old ++ parity) (29 + k) []
    ∙ get_or-behind (take 29 old) parity k 29 [] (length-take-le 29 old (omega arith))

pub within_data : (old parity : List (List ℕ)) (i : ℕ) → length old ≡ 32 → i < 29 → sector_at old i ≡ sector_at (take 29 old ++ parity) i
within_data old parity i room within =
    unwrap_or-slice_get old i []
    ∙ sym (get_or-take 29 old i [] within)
    ∙ sym (get_or-append (take 29 old) parity [] i (omega (arith, length-take-le 29 old (omega arith))))
    ∙ sym (unwrap_or-slice_get (take 29 old ++ parity) i [])

pub put_stale_in : (lost one two three : ℕ) (old parity : List (List ℕ)) → length old ≡ 32 →
    LookedAt lost one 29 (bytes_eq (get_or old 29 []) (get_or parity 0 [])) →
    LookedAt one two 30 (bytes_eq (get_or old 30 []) (get_or parity 1 [])) →
    LookedAt two three 31 (bytes_eq (get_or old 31 []) (get_or parity 2 [])) →
    (i : ℕ) → i < 32 → is_lost three i ≡ is_stale lost old (take 29 old ++ parity) i
put_stale_in lost one two three old parity room first second third =
    put_stale lost one two three old (take 29 old ++ parity)
    (subst (λ (same : Bool). LookedAt lost one 29 same) (at_place 0) first)
    (subst (λ (same : Bool). LookedAt one two 30 same) (at_place 1) second)
    (subst (λ (same : Bool). LookedAt two three 31 same) (at_place 2) third)
    (λ i within. within_data old parity i room within)
  where
    at_place : (k : ℕ) → bytes_eq (get_or old (29 + k) []) (get_or parity k []) ≡ bytes_eq (sector_at old (29 + k))
        (sector_at (take 29 old ++ parity) (29 + k))
    at_place k =
        ap (λ (s : List ℕ). bytes_eq s (get_or parity k [])) (sym (unwrap_or-slice_get old (29 + k) []))
        ∙ ap (λ (s : List ℕ). bytes_eq (sector_at old (29 + k)) s) (sym (behind_data old parity k room))
