-- The writes of a settling, as those of a set of places and as those of a cartridge.
use Rattle.std.proofs.Common.{◌≡◌, ℕ, zero, suc, ◌+◌, ◌<◌, ◌≤◌, ◌++◌, refl, sym, ◌∙◌, ap, arith, Bool, true, false, cond, List, [], ◌∷◌}
use Rattle.std.proofs.Common.{length, take, map, get_or, filter, zero-add}
use Rattle.std.specs.Prelude.{slice_index, if◌then◌else◌}
use Rattle.std.specs.List.{range_with_len}
use Rattle.std.proofs.lemmas.List.{map-append, length-take-le, take_at}
use Rattle.cartridge_spec.specs.Code.{parity_sectors}
use Rattle.std.proofs.lemmas.List.FromFn.{get_or-range_with_len}
use Rattle.qic_base.specs.Cartridge.{lost_places}
use Rattle.cartridge_spec.specs.Shape.{sector_at, usable_places}
use Rattle.cartridge_spec.specs.Says.{whole_mask}
use Rattle.cartridge_laws.specs.Segment.{sectors_of, places_where}
use Rattle.cartridge_laws.proofs.Segments.{places_of_whole}
use Rattle.cartridge_spec.specs.Settling.{block_writes}
use Rattle.table_solve.specs.declared.unread.Unread.{Unread}
use Rattle.cartridge_front.specs.Settling.{collected_block, is_stale, mending_steps}
use Rattle.qic_base.specs.Step.{Step, write_sector}
use Rattle.table_solve.proofs.Places.{places_of_set}
use Rattle.qic_base.specs.CartridgeTerms.{is_lost}

-- ---- the places of a set

-- tests that agree have the same places
filter_same : (a n : ℕ) (one other : ℕ → Bool) → ((i : ℕ) → i < a + n → one i ≡ other i) → filter one (range_with_len a n) ≡ filter other
    (range_with_len a n)
filter_same a zero one other same = refl
filter_same a (suc n) one other same =
    ap (λ (b : Bool). cond b (a ∷ filter one (range_with_len (a + 1) n)) (filter one (range_with_len (a + 1) n))) (same a (omega arith))
    ∙ ap (λ (l : List ℕ). cond (other a) (a ∷ l) l) (filter_same (a + 1) n one other (λ i within. same i (omega arith)))

pub places_same : (one other : ℕ → Bool) → ((i : ℕ) → i < 32 → one i ≡ other i) → places_where one ≡ places_where other
places_same one other same = filter_same 0 32 one other (λ i within. same i (omega arith))

-- the place of a whole segment's sector is its index
pub index_of : (mask n : ℕ) → n ≤ 32 → map (λ place. slice_index (usable_places whole_mask) place) (lost_places mask n) ≡ lost_places mask n
unfolding lost_places
index_of mask zero few = refl
index_of mask (suc n) few =
    map-append (λ place. slice_index (usable_places whole_mask) place) (lost_places mask n) (if is_lost mask n then n ∷ [] else [])
    ∙ ap (λ (l : List ℕ). l ++ map (λ place. slice_index (usable_places whole_mask) place) (if is_lost mask n then n ∷ [] else []))
    (index_of mask n (omega arith))
    ∙ ap (λ (l : List ℕ). lost_places mask n ++ l) (last (is_lost mask n))
  where
    here : slice_index (usable_places whole_mask) n ≡ n
    here = ap (λ (places : List ℕ). get_or places n 0) places_of_whole ∙ get_or-range_with_len 0 32 n 0 (omega arith) ∙ zero-add n

    last : (b : Bool) → map (λ place. slice_index (usable_places whole_mask) place) (if b then n ∷ [] else []) ≡ (if b then n ∷ [] else [])
    last true = ap (λ (k : ℕ). k ∷ []) here
    last false = refl

-- the block has the data that were collected
pub data_kept : (old new : List (List ℕ)) → length old ≡ 32 → new ≡ collected_block old → take 29 new ≡ take 29 old
data_kept old new room is =
    ap (take 29) is ∙ take_at (take 29 old) (parity_sectors (take 29 old)) 29 (length-take-le 29 old (omega arith))

-- the writes of some places, and then of others
writes_both : (block : List (List ℕ)) (ps qs : List ℕ) → block_writes block ps ++ block_writes block qs ≡ block_writes block (ps ++ qs)
writes_both block [] qs = refl
writes_both block (p ∷ ps) qs = ap (λ (steps : List Step). write_sector 2 p (sector_at block p) ∷ steps) (writes_both block ps qs)

pub mend_both : (unread : Unread) (stale : ℕ) (old new : List (List ℕ)) → new ≡ collected_block old →
    ((i : ℕ) → i < 32 → is_lost stale i ≡ is_stale unread.lost old new i) →
    block_writes new (sectors_of unread.left_out) ++ block_writes new (sectors_of stale) ≡ mending_steps false unread old
mend_both unread stale old new is same =
    writes_both new (sectors_of unread.left_out) (sectors_of stale)
    ∙ ap (λ (places : List ℕ). block_writes new (places ++ sectors_of stale))
    (places_of_set unread.left_out (is_lost unread.left_out) (λ i within. refl))
    ∙ ap (λ (places : List ℕ). block_writes new (places_where (is_lost unread.left_out) ++ places))
    (places_of_set stale (is_stale unread.lost old new) same)
    ∙ ap (λ (block : List (List ℕ)). block_writes block
    (places_where (is_lost unread.left_out) ++ places_where (is_stale unread.lost old block))) is

pub no_sectors : (block : List (List ℕ)) → block_writes block (sectors_of 0) ≡ []
unfolding lost_places
no_sectors block = refl
