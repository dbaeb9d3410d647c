-- The writes in a segment, by the places of the sectors that a reading of it found unreadable.
use Rattle.std.proofs.Common.{ℕ, ◌/◌, ◌%◌, ◌^◌, ◌==◌, Bool, ◌≡◌, zero, suc, ◌+◌, ◌-◌, List, [], ◌∷◌, ◌++◌, sym, ap, ◌∙◌, arith, add-zero}
use Rattle.std.proofs.Common.{filter, zero-add, refl, get_or, map, length, true, false, cond, ◌<◌, ◌≤◌, ◌↔◌, slice_get, IsSomeAnd, Option}
use Rattle.std.proofs.Common.{Some, subst, inl, inr, None, take}
use Rattle.std.specs.List.{range_with_len}
use Rattle.std.specs.Prelude.{if◌then◌else◌, slice_index}
use Rattle.std.proofs.lemmas.List.Elements.{filter-append}
use Rattle.std.proofs.lemmas.Bool.{cases_Bool, eq-eqb, ne_eqb, false≢true, cases_lt}
use Rattle.std.proofs.lemmas.Option.{slice_get_past, unwrap_or-slice_get}
use Rattle.std.proofs.lemmas.List.{length-take-le, get_or-take}
use Rattle.cartridge_laws.proofs.Places.{count_below}
use Rattle.cartridge_laws.proofs.Sayings.{block_from_data}
use Rattle.cartridge_laws.proofs.Segments.{count_of_cells}
use Rattle.cartridge_laws.specs.Segment.{IsUnreadable, data_of, sectors_of}
use Rattle.cartridge_laws.specs.Writes.{named_writes}
use Rattle.cartridge_spec.specs.Says.{with_parity}
use Rattle.cartridge_spec.specs.Settling.{writes_of}
use Rattle.cartridge_spec.specs.Shape.{sector_at, usable_places, is_unreadable, usable_count}
use Rattle.cartridge_laws.proofs.Writing.{cell_at, writes_of_map}
use Rattle.command_laws.specs.ScrubLaws.{CountOfNamed, StepsByPlaces}
use Rattle.command_spec.specs.Scrub.{mending_writes, Looked, cells_at}
use Rattle.qic_base.proofs.LostSetLaws.{lost_places-above}
use Rattle.qic_base.specs.Cartridge.{Cartridge, view_at, lost_places}
use Rattle.qic_base.specs.CartridgeTerms.{IsLost, is_lost}
use Rattle.qic_base.specs.Step.{Step, write_sector}
use Rattle.qic_base.specs.declared.tape.SectorView.{SectorView}

-- ---- the places of a set

pub range_more : (a n : ℕ) → range_with_len a (suc n) ≡ range_with_len a n ++ (a + n) ∷ []
range_more a zero = ap (λ (k : ℕ). k ∷ []) (sym (add-zero a))
range_more a (suc n) =
    let next : a + 1 + n ≡ a + suc n = omega arith in
    ap (λ (l : List ℕ). a ∷ l) (range_more (a + 1) n) ∙ ap (λ (k : ℕ). a ∷ (range_with_len (a + 1) n ++ k ∷ [])) next

pub filter_more : (test : ℕ → Bool) (n : ℕ) →
    filter test (range_with_len 0 (suc n)) ≡ filter test (range_with_len 0 n) ++ (if test n then n ∷ [] else [])
filter_more test n =
    ap (filter test) (range_more 0 n ∙ ap (λ (k : ℕ). range_with_len 0 n ++ k ∷ []) (zero-add n))
    ∙ filter-append test (range_with_len 0 n) (n ∷ [])

places_filter : (set n : ℕ) → lost_places set n ≡ filter (is_lost set) (range_with_len 0 n)
unfolding lost_places
places_filter set zero = refl
places_filter set (suc n) =
    ap (λ (l : List ℕ). l ++ (if set / 2 ^ n % 2 == 1 then n ∷ [] else [])) (places_filter set n)
    ∙ sym (filter_more (is_lost set) n)

-- ---- the writes, place by place

abbrev write_at : (segment : ℕ) → (all : List ℕ) → (sectors : List (List ℕ)) → ℕ → Step
write_at segment all sectors place = write_sector segment (get_or all place 0) (sector_at sectors place)

length-writes_of_map : (segment : ℕ) (f : ℕ → ℕ) (g : ℕ → List ℕ) (places : List ℕ) →
    length (writes_of segment (map f places) (map g places)) ≡ length places
length-writes_of_map segment f g [] = refl
length-writes_of_map segment f g (p ∷ places) = ap suc (length-writes_of_map segment f g places)

pub count_of_named : CountOfNamed
count_of_named segment usable places sectors =
    length-writes_of_map segment (λ place. slice_index (usable_places usable) place) (λ place. sector_at sectors place) (sectors_of places)

by_test : (b c : Bool) (w : ℕ → Step) (from : ℕ) (rest : List ℕ) (first : Step) (more : List Step) → b ≡ c → w from ≡ first →
    map w rest ≡ more →
    map w (cond b (from ∷ rest) rest) ≡ cond c (first ∷ more) more
by_test true true w from rest first more same here there = ap (λ (s : Step). s ∷ map w rest) here
    ∙ ap (λ (ss : List Step). first ∷ ss) there
by_test true false w from rest first more same here there = absurd (cc)
by_test false true w from rest first more same here there = absurd (cc)
by_test false false w from rest first more same here there = there

-- the places from one on are those of the rest of the usable sectors, and of the block
record Follows (c : Cartridge) (segment from : ℕ) (all : List ℕ) (sectors : List (List ℕ)) (test : ℕ → Bool) (us : List ℕ)
    (block : List (List ℕ)) : Type 0 where
  room : length us ≤ length block
  index : (k : ℕ) → k < length us → get_or all (from + k) 0 ≡ get_or us k 0
  bytes : (k : ℕ) → k < length us → sector_at sectors (from + k) ≡ get_or block k []
  tells : (k : ℕ) → k < length us → test (from + k) ≡ is_unreadable (view_at c segment (get_or us k 0))

later : {c : Cartridge} {segment from : ℕ} {all : List ℕ} {sectors : List (List ℕ)} {test : ℕ → Bool} {u : ℕ} {us : List ℕ} {b : List ℕ}
    {block : List (List ℕ)} →
    Follows c segment from all sectors test (u ∷ us) (b ∷ block) → Follows c segment (from + 1) all sectors test us block
later {c = c} {segment = segment} {from = from} {all = all} {sectors = sectors} {test = test} {us = us} {block = block} follows =
    let room = follows.room in
    let next : (k : ℕ) → from + suc k ≡ from + 1 + k = λ k. omega arith in
    record {
      room = omega arith;
      index = λ k h. ap (λ (p : ℕ). get_or all p 0) (sym (next k)) ∙ follows.index (suc k) (omega arith);
      bytes = λ k h. ap (sector_at sectors) (sym (next k)) ∙ follows.bytes (suc k) (omega arith);
      tells = λ k h. ap test (sym (next k)) ∙ follows.tells (suc k) (omega arith);
    }

writes_follow : (c : Cartridge) (segment from : ℕ) (all : List ℕ) (sectors : List (List ℕ)) (test : ℕ → Bool) (us : List ℕ)
    (block : List (List ℕ)) →
    Follows c segment from all sectors test us block →
    map (write_at segment all sectors) (filter test (range_with_len from (length us))) ≡ mending_writes c segment us block
writes_follow c segment from all sectors test [] block follows = refl
writes_follow c segment from all sectors test (u ∷ us) [] follows = let room = follows.room in absurd (omega arith)
writes_follow c segment from all sectors test (u ∷ us) (b ∷ block) follows =
    let here : from + 0 ≡ from = add-zero from in
    let index : get_or all from 0 ≡ u = ap (λ (p : ℕ). get_or all p 0) (sym here) ∙ follows.index 0 (omega arith) in
    let bytes : sector_at sectors from ≡ b = ap (sector_at sectors) (sym here) ∙ follows.bytes 0 (omega arith) in
    by_test (test from) (is_unreadable (view_at c segment u)) (write_at segment all sectors) from
    (filter test (range_with_len (from + 1) (length us)))
    (write_sector segment u b) (mending_writes c segment us block) (ap test (sym here) ∙ follows.tells 0 (omega arith))
    (ap (λ (i : ℕ). write_sector segment i (sector_at sectors from)) index ∙ ap (λ (s : List ℕ). write_sector segment u s) bytes)
    (writes_follow c segment (from + 1) all sectors test us block (later follows))

-- ---- the unreadable places

abbrev Names : List SectorView → (lost : ℕ) → Type 0
Names cells lost = (i : ℕ) → IsLost lost i ↔ IsSomeAnd (slice_get cells i) IsUnreadable

some_view : (o : Option SectorView) (view : SectorView) → o ≡ Some view → IsUnreadable view → IsSomeAnd o IsUnreadable
some_view o view is unread = subst (λ (p : Option SectorView). IsSomeAnd p IsUnreadable) (sym is) unread

view_some : (o : Option SectorView) (view : SectorView) → o ≡ Some view → IsSomeAnd o IsUnreadable → IsUnreadable view
view_some o view is some = subst (λ (p : Option SectorView). IsSomeAnd p IsUnreadable) is some

names_tell : (c : Cartridge) (l : Looked) (lost k : ℕ) → Names (cells_at c l) lost → k < usable_count l.mask →
    is_lost lost k ≡ is_unreadable (view_at c l.segment (get_or (usable_places l.mask) k 0))
names_tell c l lost k names h =
    let view : SectorView = view_at c l.segment (get_or (usable_places l.mask) k 0) in
    let at : slice_get (cells_at c l) k ≡ Some view = cell_at c l.segment l.mask k h in
    elim (cases_Bool (is_unreadable view)) [
      | inl unread ↦ eq-eqb (lost / 2 ^ k % 2) 1 ((names k).1 (some_view (slice_get (cells_at c l) k) view at unread)) ∙ sym unread
      | inr readable ↦
          ne_eqb (lost / 2 ^ k % 2) 1 (λ is. false≢true (sym readable ∙ view_some (slice_get (cells_at c l) k) view at ((names k).0 is)))
          ∙ sym readable
    ]

named_within : (c : Cartridge) (l : Looked) (lost place : ℕ) → Names (cells_at c l) lost → IsLost lost place → place < usable_count l.mask
named_within c l lost place names is =
    elim (cases_lt place (usable_count l.mask)) [
      | inl within ↦ within
      | inr past ↦
          let none : slice_get (cells_at c l) place ≡ None = slice_get_past (cells_at c l) place
          (omega (arith, count_of_cells c l.segment l.mask)) in
          absurd (subst (λ (o : Option SectorView). IsSomeAnd o IsUnreadable) none ((names place).0 is))
    ]

places_below : (c : Cartridge) (l : Looked) (lost : ℕ) → Names (cells_at c l) lost →
    sectors_of lost ≡ lost_places lost (usable_count l.mask)
places_below c l lost names =
    let n : ℕ = usable_count l.mask in
    let most : n ≤ 32 = count_below l.mask 32 in
    let whole : 32 ≡ n + (32 - n) = omega arith in
    ap (lost_places lost) whole ∙ lost_places-above lost n (32 - n) (λ place is. named_within c l lost place names is)

mending_named : (c : Cartridge) (l : Looked) (lost : ℕ) (sectors block : List (List ℕ)) → Names (cells_at c l) lost →
    usable_count l.mask ≤ length sectors →
    take (usable_count l.mask) sectors ≡ block →
    mending_writes c l.segment (usable_places l.mask) block ≡ named_writes l.segment l.mask lost sectors
mending_named c l lost sectors block names room are =
    let n : ℕ = usable_count l.mask in
    let all : List ℕ = usable_places l.mask in
    let size : length (take n sectors) ≡ n = length-take-le n sectors room in
    let long : length block ≡ n = ap (λ (ss : List (List ℕ)). length ss) (sym are) ∙ size in
    sym (ap (λ (ps : List ℕ). writes_of l.segment (map (λ place. slice_index all place) ps) (map (λ place. sector_at sectors place) ps))
    (places_below c l lost names ∙ places_filter lost n)
    ∙ writes_of_map l.segment (λ place. slice_index all place) (λ place. sector_at sectors place)
    (filter (is_lost lost) (range_with_len 0 n))
    ∙ writes_follow c l.segment 0 all sectors (is_lost lost) all block (record {
      room = omega arith;
      index = λ k h. ap (λ (p : ℕ). get_or all p 0) (zero-add k);
      bytes = λ k h.
          ap (sector_at sectors) (zero-add k) ∙ unwrap_or-slice_get sectors k [] ∙ sym (get_or-take n sectors k [] h)
          ∙ ap (λ (ss : List (List ℕ)). get_or ss k []) are;
      tells = λ k h. ap (is_lost lost) (zero-add k) ∙ names_tell c l lost k names h;
    }))

pub steps_by_places : StepsByPlaces
steps_by_places c l lost sectors code room can names =
    let block : List (List ℕ) = take (usable_count l.mask) sectors in
    let writes : List Step = mending_writes c l.segment (usable_places l.mask) (with_parity (data_of block)) in
    ap (λ (b : Bool). cond b writes []) can
    ∙ mending_named c l lost sectors (with_parity (data_of block)) names room (sym (block_from_data block code))
