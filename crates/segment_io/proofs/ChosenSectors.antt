-- Sectors at their indexes, and the same sectors at the first places.
use Rattle.std.proofs.Common.{◌≡◌, ℕ, zero, suc, ◌+◌, ◌-◌, ◌/◌, ◌%◌, ◌^◌, ◌<◌, ◌≤◌, refl, sym, ◌∙◌, ap, subst, arith, inl, inr}
use Rattle.std.proofs.Common.{List, [], ◌∷◌, ◌++◌, length, map, take, set, get_or, add-one}
use Rattle.std.proofs.lemmas.Bool.{cases_eq}
use Rattle.std.proofs.lemmas.Nat.Bits.{bit_at_ones}
use Rattle.std.proofs.lemmas.List.{map_push, take_more, length-take-le, length-set, get_or-set_other, get_or-set_same}
use Rattle.cartridge_laws.proofs.Places.{none_below, count_front}
use Rattle.cartridge_spec.specs.Appending.{new_sectors}
use Rattle.cartridge_spec.specs.Shape.{usable_count}
use Rattle.qic_base.proofs.LostSetLaws.{lost_places-lost, lost_places-kept, count_more, count_same}
use Rattle.qic_base.specs.Cartridge.{lost_places}
use Rattle.qic_base.specs.CartridgeTerms.{IsLost}
use Rattle.qic_base.specs.Step.{NewSector}
use Rattle.qic_base.specs.TapeCalls.{chosen}
use Rattle.segment_io.specs.Writes.{first_sectors}

new_sectors_push : (places : List ℕ) (sectors : List (List ℕ)) (place : ℕ) (bytes : List ℕ) → length places ≡ length sectors →
    new_sectors (places ++ place ∷ []) (sectors ++ bytes ∷ [])
    ≡ new_sectors places sectors ++ record { sector = place; bytes = bytes } ∷ []
new_sectors_push [] [] place bytes same = refl
new_sectors_push [] (s ∷ sectors) place bytes same = absurd (omega arith)
new_sectors_push (p ∷ places) [] place bytes same = absurd (omega arith)
new_sectors_push (p ∷ places) (s ∷ sectors) place bytes same =
    ap (λ (news : List NewSector). record { sector = p; bytes = s } ∷ news) (new_sectors_push places sectors place bytes (omega arith))

-- the entry of each usable sector below an index has the sector at its place
abbrev pub AreSpread : (usable index : ℕ) → (sectors entries : List (List ℕ)) → Type 0
AreSpread usable index sectors entries =
    (i : ℕ) → i < index → IsLost usable i → get_or entries i [] ≡ get_or sectors (length (lost_places usable i)) []

abbrev chosen_at : List (List ℕ) → ℕ → NewSector
chosen_at entries i = record { sector = i; bytes = get_or entries i [] }

chosen_below : (usable index : ℕ) (sectors entries : List (List ℕ)) → index ≤ 32 → usable_count usable ≤ length sectors →
    AreSpread usable index sectors entries →
    map (chosen_at entries) (lost_places usable index)
    ≡ new_sectors (lost_places usable index) (take (length (lost_places usable index)) sectors)
chosen_below usable zero sectors entries h room are =
    let none : lost_places usable 0 ≡ [] = none_below usable in
    ap (map (chosen_at entries)) none
    ∙ sym (ap (λ (l : List ℕ). new_sectors l (take (length l) sectors)) none)
chosen_below usable (suc n) sectors entries h room are =
    let next : lost_places usable (n + 1) ≡ lost_places usable (suc n) = ap (lost_places usable) (add-one n) in
    let places : List ℕ = lost_places usable n in
    let k : ℕ = length places in
    let before : map (chosen_at entries) places ≡ new_sectors places (take k sectors) =
    chosen_below usable n sectors entries (omega arith) room (λ i l. are i (omega arith)) in
    let most : length (lost_places usable (n + 1)) ≤ usable_count usable = count_front usable (n + 1) (omega arith) in
    elim (cases_eq ((usable / 2 ^ n) % 2) 1) [
      | inl is ↦
          let more : lost_places usable (suc n) ≡ places ++ n ∷ [] = sym next ∙ lost_places-lost usable n is in
          let one : length (lost_places usable (n + 1)) ≡ k + 1 = count_more usable n is in
          let count : length (lost_places usable (suc n)) ≡ k + 1 = sym (ap (λ (l : List ℕ). length l) next) ∙ one in
          let bytes : List ℕ = get_or sectors k [] in
          let shown : take (k + 1) sectors ≡ take k sectors ++ bytes ∷ [] = take_more sectors k [] (omega arith) in
          let long : k ≡ length (take k sectors) = sym (length-take-le k sectors (omega arith)) in
          ap (map (chosen_at entries)) more
          ∙ map_push (chosen_at entries) places n
          ∙ ap (λ (news : List NewSector). news ++ chosen_at entries n ∷ []) before
          ∙ ap (λ (bs : List ℕ). new_sectors places (take k sectors) ++ record { sector = n; bytes = bs } ∷ []) (are n (omega arith) is)
          ∙ sym (new_sectors_push places (take k sectors) n bytes long)
          ∙ ap (new_sectors (places ++ n ∷ [])) (sym shown)
          ∙ ap (λ (l : List ℕ). new_sectors l (take (k + 1) sectors)) (sym more)
          ∙ ap (λ (m : ℕ). new_sectors (lost_places usable (suc n)) (take m sectors)) (sym count)
      | inr kept ↦
          let same : lost_places usable (suc n) ≡ places = sym next ∙ lost_places-kept usable n kept in
          ap (map (chosen_at entries)) same ∙ before
          ∙ sym (ap (λ (l : List ℕ). new_sectors l (take (length l) sectors)) same)
    ]

-- so the chosen ones are those at the first places
pub chosen_of_first : (usable : ℕ) (sectors entries : List (List ℕ)) → usable_count usable ≤ length sectors →
    AreSpread usable 32 sectors entries → chosen usable entries ≡ first_sectors usable sectors
chosen_of_first usable sectors entries room are = chosen_below usable 32 sectors entries (omega arith) room are

-- ---- where all 32 are usable

count_of_ones : (k : ℕ) → k ≤ 32 → length (lost_places (2 ^ 32 - 1) k) ≡ k
count_of_ones zero h = ap (λ (l : List ℕ). length l) (none_below (2 ^ 32 - 1))
count_of_ones (suc k) h =
    ap (λ (n : ℕ). length (lost_places (2 ^ 32 - 1) n)) (sym (add-one k))
    ∙ count_more (2 ^ 32 - 1) k (bit_at_ones 32 k (omega arith))
    ∙ ap (λ (n : ℕ). n + 1) (count_of_ones k (omega arith))
    ∙ add-one k

-- each stands at its index
pub chosen_of_whole : (sectors : List (List ℕ)) → length sectors ≡ 32 → chosen (2 ^ 32 - 1) sectors ≡ first_sectors (2 ^ 32 - 1) sectors
chosen_of_whole sectors size =
    chosen_of_first (2 ^ 32 - 1) sectors sectors (omega (arith, count_of_ones 32 (omega arith)))
    (λ i h is. sym (ap (λ (k : ℕ). get_or sectors k []) (count_of_ones i (omega arith))))

-- ---- one by one

pub record IsSpread (usable place index : ℕ) (sectors entries : List (List ℕ)) : Type 0 where
  pub size : length entries ≡ 32
  pub count : place ≡ length (lost_places usable index)
  pub stand : AreSpread usable index sectors entries

pub begun : (usable : ℕ) (sectors entries : List (List ℕ)) → length entries ≡ 32 → IsSpread usable 0 0 sectors entries
begun usable sectors entries size = record {
  size = size;
  count = sym (ap (λ (l : List ℕ). length l) (none_below usable));
  stand = λ i h is. absurd (omega arith);
}

pub passed_by : (usable place index : ℕ) (sectors entries : List (List ℕ)) → (IsLost usable index → ⊥) →
    IsSpread usable place index sectors entries → IsSpread usable place (index + 1) sectors entries
passed_by usable place index sectors entries kept s = record {
  size = s.size;
  count = s.count ∙ sym (count_same usable index kept);
  stand = λ i h is. elim (cases_eq i index) [
    | inl last ↦ absurd (kept (subst (IsLost usable) last is))
    | inr other ↦ s.stand i (omega (arith, other)) is
  ];
}

pub moved : (usable place index : ℕ) (sectors entries : List (List ℕ)) → IsLost usable index → index < 32 →
    IsSpread usable place index sectors entries →
    IsSpread usable (place + 1) (index + 1) sectors (set entries index (get_or sectors place []))
moved usable place index sectors entries used within s =
    let bytes : List ℕ = get_or sectors place [] in
    record {
      size = length-set entries index bytes ∙ s.size;
      count = ap (λ (k : ℕ). k + 1) s.count ∙ sym (count_more usable index used);
      stand = λ i h is. elim (cases_eq i index) [
        | inl last ↦
            ap (λ (k : ℕ). get_or (set entries index bytes) k []) last
            ∙ get_or-set_same entries index bytes [] (omega (arith, s.size))
            ∙ ap (λ (k : ℕ). get_or sectors k []) s.count
            ∙ ap (λ (k : ℕ). get_or sectors (length (lost_places usable k)) []) (sym last)
        | inr other ↦ get_or-set_other entries index i bytes [] other ∙ s.stand i (omega (arith, other)) is
      ];
    }

pub spread_as : (usable place after index : ℕ) (sectors entries left : List (List ℕ)) → IsSpread usable place index sectors entries →
    after ≡ place → left ≡ entries → IsSpread usable after index sectors left
spread_as usable place after index sectors entries left s place_is entries_are =
    subst (λ (p : ℕ). IsSpread usable p index sectors left) (sym place_is)
    (subst (λ (e : List (List ℕ)). IsSpread usable place index sectors e) (sym entries_are) s)
