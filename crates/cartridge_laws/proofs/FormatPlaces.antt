-- The writes of a header copy, by the places that they name.
use Rattle.std.proofs.Common.{◌≡◌, ◌-◌, ◌^◌, refl, ℕ, List, map, slice_index, ap, ◌+◌, [], length, drop, sym, ◌∙◌, arith, ◌∷◌, take, ◌++◌}
use Rattle.std.specs.List.{range_with_len}
use Rattle.std.proofs.lemmas.List.{same_lists, get_or-drop, length-drop, get_or_default}
use Rattle.std.proofs.lemmas.List.FromFn.{length-map-range_with_len, get_or-map-range_with_len}
use Rattle.std.proofs.lemmas.Option.{unwrap_or-slice_get}
use Rattle.cartridge_laws.proofs.Segments.{places_of_whole}
use Rattle.cartridge_laws.specs.FormatLaws.{CopyWritesByPlaces}
use Rattle.cartridge_laws.specs.Writes.{named_writes}
use Rattle.cartridge_spec.specs.Says.{whole_mask}
use Rattle.cartridge_spec.specs.Settling.{writes_of}
use Rattle.cartridge_laws.specs.Segment.{sectors_of}
use Rattle.cartridge_spec.specs.Shape.{usable_places, sector_at}
use Rattle.qic_base.specs.Cartridge.{lost_places}
use Rattle.qic_base.specs.Step.{Step}

all_but_the_first : sectors_of (2 ^ 32 - 2) ≡ range_with_len 1 31
unfolding lost_places
all_but_the_first = refl

the_first : sectors_of 1 ≡ range_with_len 0 1
unfolding lost_places
the_first = refl

-- the sector indexes of places are the places, where no sector is bad
indexes_of : List ℕ → List ℕ
indexes_of places = map (λ place. slice_index (usable_places whole_mask) place) places

rear_indexes : indexes_of (range_with_len 1 31) ≡ range_with_len 1 31
unfolding indexes_of
rear_indexes = ap (λ (all : List ℕ). map (λ place. slice_index all place) (range_with_len 1 31)) places_of_whole

front_index : indexes_of (range_with_len 0 1) ≡ range_with_len 0 1
unfolding indexes_of
front_index = ap (λ (all : List ℕ). map (λ place. slice_index all place) (range_with_len 0 1)) places_of_whole

sectors_from : (block : List (List ℕ)) (from n : ℕ) → length block ≡ from + n →
    map (λ place. sector_at block place) (range_with_len from n) ≡ drop from block
sectors_from block from n long =
    let here : length (map (λ place. sector_at block place) (range_with_len from n)) ≡ n =
    length-map-range_with_len (λ place. sector_at block place) from n in
    let there : length (drop from block) ≡ n = length-drop from block ∙ omega arith in
    same_lists (map (λ place. sector_at block place) (range_with_len from n)) (drop from block) (here ∙ sym there) (λ k d h.
    get_or-map-range_with_len (λ place. sector_at block place) from n k (from + k) d (omega arith) refl
    ∙ unwrap_or-slice_get block (from + k) []
    ∙ get_or_default block (from + k) [] d (omega arith)
    ∙ sym (get_or-drop from block k d))

first_sector : (block : List (List ℕ)) → length block ≡ 32 → map (λ place. sector_at block place) (range_with_len 0 1) ≡ take 1 block
first_sector [] long = absurd (omega arith)
first_sector (bytes ∷ block) long = refl

-- the writes to a set of places, by what the set has
writes_by : (copy places : ℕ) (indexes : List ℕ) (sectors block : List (List ℕ)) → sectors_of places ≡ indexes →
    indexes_of indexes ≡ indexes →
    map (λ place. sector_at block place) indexes ≡ sectors → named_writes copy whole_mask places block ≡ writes_of copy indexes sectors
unfolding indexes_of
writes_by copy places indexes sectors block has same held =
    ap (λ (ps : List ℕ). writes_of copy (map (λ place. slice_index (usable_places whole_mask) place) ps)
    (map (λ place. sector_at block place) ps)) has
    ∙ ap (λ (is : List ℕ). writes_of copy is (map (λ place. sector_at block place) indexes)) same
    ∙ ap (λ (ss : List (List ℕ)). writes_of copy indexes ss) held

pub copy_writes_by_places : CopyWritesByPlaces
copy_writes_by_places copy block long =
    let rear = writes_by copy (2 ^ 32 - 2) (range_with_len 1 31) (drop 1 block) block all_but_the_first rear_indexes
    (sectors_from block 1 31 long) in
    let front = writes_by copy 1 (range_with_len 0 1) (take 1 block) block the_first front_index (first_sector block long) in
    sym (ap (λ (ws : List Step). ws ++ named_writes copy whole_mask 1 block) rear
    ∙ ap (λ (ws : List Step). writes_of copy (range_with_len 1 31) (drop 1 block) ++ ws) front)
