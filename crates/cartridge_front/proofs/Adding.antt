-- The writes of an entry into the table's segment, as those of two sets of places.
use Rattle.std.proofs.Common.{◌≡◌, ◌≢◌, ℕ, zero, suc, ◌*◌, ◌%◌, ◌^◌, ◌<◌, ◌++◌, refl, sym, ◌∙◌, ap, arith, inl, inr, Bool, true, false}
use Rattle.std.proofs.Common.{List, [], ◌∷◌, map, bit_or, Result, Err, subst}
use Rattle.std.specs.Prelude.{◌==◌, if◌then◌else◌}
use Rattle.std.specs.Int.{w32, bit_at}
use Rattle.std.specs.Int.Bits.{or_zero_l}
use Rattle.std.proofs.lemmas.Bool.{cases_lt}
use Rattle.std.proofs.lemmas.Nat.Bits.{bit_at-zero, bit_at_set_same, bit_at_set_other}
use Rattle.qic_base.specs.Cartridge.{lost_places}
use Rattle.qic_base.specs.Step.{Step}
use Rattle.qic_base.specs.Tape.{Meaning, Done, Broke}
use Rattle.qic_base.specs.TapeCalls.{Does}
use Rattle.qic_base.proofs.Steps.{Broke-front, Done-Does}
use Rattle.erasure_solve.proofs.Places.{is_lost_from}
use Rattle.cartridge_spec.specs.Shape.{sector_at}
use Rattle.cartridge_spec.specs.Says.{with_parity}
use Rattle.cartridge_laws.specs.Segment.{sectors_of}
use Rattle.cartridge_spec.specs.Settling.{writes_of, block_writes}
use Rattle.cartridge_laws.specs.Writes.{named_writes}
use Rattle.cartridge_spec.specs.Appending.{table_writes}
use Rattle.cartridge_front.proofs.Mending.{index_of}
use Rattle.qic_base.specs.CartridgeTerms.{is_lost}

-- ---- the set of one place

none_below : (mask n : ℕ) → ((i : ℕ) → i < n → is_lost mask i ≡ false) → lost_places mask n ≡ []
unfolding lost_places
none_below mask zero none = refl
none_below mask (suc n) none =
    ap (λ (l : List ℕ). l ++ (if is_lost mask n then n ∷ [] else [])) (none_below mask n (λ i within. none i (omega arith)))
    ∙ ap (λ (b : Bool). if b then n ∷ [] else []) (none n (omega arith))

one_below : (mask place n : ℕ) → place < n → is_lost mask place ≡ true → ((i : ℕ) → i ≢ place → is_lost mask i ≡ false) →
    lost_places mask n ≡ place ∷ []
unfolding lost_places
one_below mask place zero within here others = absurd (omega arith)
one_below mask place (suc n) within here others =
    elim (cases_lt place n) [
      | inl lower ↦
          ap (λ (l : List ℕ). l ++ (if is_lost mask n then n ∷ [] else [])) (one_below mask place n lower here others)
          ∙ ap (λ (b : Bool). place ∷ (if b then n ∷ [] else [])) (others n (λ same. omega arith))
      | inr upper ↦
          let same : n ≡ place = omega arith in
          ap (λ (l : List ℕ). l ++ (if is_lost mask n then n ∷ [] else [])) (none_below mask n (λ i below. others i (λ e. omega arith)))
          ∙ ap (λ (b : Bool). if b then n ∷ [] else []) (ap (is_lost mask) same ∙ here)
          ∙ ap (λ (k : ℕ). k ∷ []) same
    ]

single : (place : ℕ) → place < 32 → sectors_of (1 * 2 ^ place % 2 ^ 32) ≡ place ∷ []
single place within = one_below mask place 32 within here others
  where
    mask : ℕ
    mask = 1 * 2 ^ place % 2 ^ 32

    is : bit_or zero mask ≡ mask
    is = or_zero_l mask

    here : is_lost mask place ≡ true
    here = is_lost_from mask place (sym (ap (λ (m : ℕ). bit_at m place) is) ∙ bit_at_set_same w32 zero place within)

    others : (i : ℕ) → i ≢ place → is_lost mask i ≡ false
    others i apart =
        ap (λ (bit : ℕ). bit == 1) (sym (ap (λ (m : ℕ). bit_at m i) is) ∙ bit_at_set_other w32 zero place within i apart ∙ bit_at-zero i)

parity_places : sectors_of 3758096384 ≡ 29 ∷ 30 ∷ 31 ∷ []
unfolding lost_places
parity_places = refl

-- ---- the writes

pub named_places : (places : ℕ) (block : List (List ℕ)) → named_writes 2 4294967295 places block ≡ block_writes block (sectors_of places)
named_places places block =
    ap (λ (ps : List ℕ). writes_of 2 ps (map (λ place. sector_at block place) (sectors_of places))) (index_of places 32 (omega arith))

-- the sector that has the slot, and the sectors of parity
pub slot_writes : (block new : List (List ℕ)) (changed : ℕ) → block ≡ with_parity new → changed < 32 →
    block_writes block (sectors_of (1 * 2 ^ changed % 2 ^ 32)) ≡ block_writes (with_parity new) (changed ∷ [])
slot_writes block new changed is within =
    ap (block_writes block) (single changed within) ∙ ap (λ (b : List (List ℕ)). block_writes b (changed ∷ [])) is

pub parity_writes : (block new : List (List ℕ)) → block ≡ with_parity new →
    block_writes block (sectors_of 3758096384) ≡ block_writes (with_parity new) (29 ∷ 30 ∷ 31 ∷ [])
parity_writes block new is =
    ap (block_writes block) parity_places ∙ ap (λ (b : List (List ℕ)). block_writes b (29 ∷ 30 ∷ 31 ∷ [])) is

pub both_writes : (new : List (List ℕ)) (changed : ℕ) →
    block_writes (with_parity new) (changed ∷ []) ++ block_writes (with_parity new) (29 ∷ 30 ∷ 31 ∷ []) ≡ table_writes changed new
both_writes new changed = refl

-- ---- calls, one after another

-- a call behind one that was done
pub does_after : {S A E : Type 0} (m : Meaning S) (a b c : S) (xs ys zs : List Step) (r : Result A E) → xs ++ ys ≡ zs → Done m a b xs →
    Does m b c ys r → Does m a c zs r
does_after m a b c xs ys zs r are first next = subst (λ (steps : List Step). Does m a c steps r) are (Done-Does m a b c xs ys r first next)

-- .. and one that broke off, before another
pub broke_front : {S A E : Type 0} (m : Meaning S) (a b : S) (xs ys zs : List Step) (fault : E) (r : Result A E) → r ≡ Err fault →
    xs ++ ys ≡ zs → Broke m a b xs → Does m a b zs r
broke_front {A = A} {E = E} m a b xs ys zs fault r is are broke =
    subst (λ (answer : Result A E). Does m a b zs answer) (sym is) (subst (Broke m a b) are (Broke-front ys broke))
