-- Several sectors of a segment: what loops over them have found, read, written and lost so far.
use Rattle.std.proofs.Common.{◌≡◌, ◌≢◌, ℕ, zero, suc, ◌+◌, ◌<◌, ◌≤◌, Bool, true, false, List, [], ◌∷◌, ◌++◌, length, map, refl, sym}
use Rattle.std.proofs.Common.{◌∙◌, ap, arith, add-one, subst, below_more, get_or-set_other, get_or-set_same, Option, Some, None, IsSomeAnd}
use Rattle.std.proofs.Common.{if◌then◌else◌}
use Rattle.std.specs.Prelude.{slice_index_or, slice_set, ◌&&◌}
use Rattle.std.proofs.lemmas.List.{length-set, map-append, append-nil}
use Rattle.qic_base.specs.declared.tape.SectorView.{SectorView}
use Rattle.qic_base.specs.Cartridge.{Cartridge, IsPlace, lost_places}
use Rattle.qic_base.specs.CartridgeTerms.{is_lost}
use Rattle.qic_base.specs.Step.{NewSector, WriteSectors, write_sector, Wear, effect, with_sector, with_sectors, with_worn}
use Rattle.qic_base.specs.TapeCalls.{bytes_read, chosen}
use Rattle.qic_mem.specs.Holder.{HolderState, made}
use Rattle.qic_mem.specs.TapeChange.{IsReached, AreInSegment}
use Rattle.qic_mem.specs.Outcome.{with_all_worn, lost_by}

-- ---- words of sectors

-- of the first sectors those in the set whose views are so
pub record Chose (f : SectorView → Bool) (set so_far : ℕ) (view : ℕ → SectorView) (count : ℕ) : Type 0 where
  pub found : (i : ℕ) → i < count → is_lost so_far i ≡ (is_lost set i && f (view i))
  pub later : (i : ℕ) → count ≤ i → is_lost so_far i ≡ false

pub chose-more : (f : SectorView → Bool) (set so_far now : ℕ) (view : ℕ → SectorView) (count : ℕ) → is_lost now count ≡
    (is_lost set count && f (view count)) → ((i : ℕ) → i ≢ count → is_lost now i ≡ is_lost so_far i) →
    Chose f set so_far view count → Chose f set now view (count + 1)
chose-more f set so_far now view count here others so = record {
  found = below_more _ _ (λ i less. others i (λ e. omega arith) ∙ so.found i less) here;
  later = λ i more. others i (λ e. omega arith) ∙ so.later i (omega arith);
}

-- .. as a test of the bit and of the view says
pub chose-next : (f : SectorView → Bool) (set so_far now : ℕ) (view : ℕ → SectorView) (count : ℕ) (bit more : Bool) (here : SectorView) →
    bit ≡ is_lost set count → is_lost now count ≡ more → more ≡ (bit && f here) → here ≡ view count →
    ((i : ℕ) → i ≢ count → is_lost now i ≡ is_lost so_far i) → Chose f set so_far view count → Chose f set now view (count + 1)
chose-next f set so_far now view count bit more here is same test at others so =
    chose-more f set so_far now view count (same ∙ test ∙ ap (λ b. b && f here) is ∙ ap (λ v. is_lost set count && f v) at) others so

-- ---- reads

-- the first sectors are read
pub record ReadSo (wanted : ℕ) (view : ℕ → SectorView) (old new : List (List ℕ)) (count : ℕ) : Type 0 where
  pub long : length new ≡ 32
  pub bytes : (i : ℕ) → i < count → slice_index_or new i [] ≡ bytes_read (is_lost wanted i) (view i) (slice_index_or old i [])
  pub rest : (i : ℕ) → count ≤ i → slice_index_or new i [] ≡ slice_index_or old i []

pub read-more : (wanted : ℕ) (view : ℕ → SectorView) (old new : List (List ℕ)) (row : List ℕ) (count : ℕ) → count < 32 →
    row ≡ bytes_read (is_lost wanted count) (view count) (slice_index_or new count []) → ReadSo wanted view old new count →
    ReadSo wanted view old (slice_set new count row) (count + 1)
read-more wanted view old new row count less is so = record {
  long = length-set _ _ _ ∙ so.long;
  bytes = below_more _ _
      (λ i h. get_or-set_other new count i row [] (omega arith) ∙ so.bytes i h)
      (get_or-set_same new count row [] (let n = so.long in omega arith) ∙ is
      ∙ ap (bytes_read (is_lost wanted count) (view count)) (so.rest count (omega arith)));
  rest = λ i more. get_or-set_other new count i row [] (omega arith) ∙ so.rest i (omega arith);
}

pub read-next : (wanted : ℕ) (view : ℕ → SectorView) (old new : List (List ℕ)) (row : List ℕ) (count : ℕ) (bit : Bool) (here : SectorView)
    (was : List ℕ) → count < 32 → bit ≡ is_lost wanted count → row ≡ bytes_read bit here was → here ≡ view count →
    was ≡ slice_index_or new count [] → ReadSo wanted view old new count → ReadSo wanted view old (slice_set new count row) (count + 1)
read-next wanted view old new row count bit here was less is got at from so =
    read-more wanted view old new row count less (got ∙ ap (λ b. bytes_read b here was) is
    ∙ ap (λ v. bytes_read (is_lost wanted count) v was) at ∙ ap (bytes_read (is_lost wanted count) (view count)) from) so

-- ---- writes

-- one of them, with its entry
abbrev pub entry_of : (sectors : List (List ℕ)) (i : ℕ) → NewSector
entry_of sectors i = record { sector = i; bytes = slice_index_or sectors i [] }

-- those of the first sectors that are written
abbrev pub chosen_to : (written : ℕ) (sectors : List (List ℕ)) (count : ℕ) → List NewSector
chosen_to written sectors count = map (entry_of sectors) (lost_places written count)

-- none so far
pub chosen-none : (written : ℕ) (sectors : List (List ℕ)) → chosen_to written sectors 0 ≡ []
unfolding lost_places
chosen-none written sectors = refl

-- one that is written comes behind the others, ..
pub chosen-in : (written : ℕ) (sectors : List (List ℕ)) (i : ℕ) → is_lost written i ≡ true →
    chosen_to written sectors (i + 1) ≡ chosen_to written sectors i ++ entry_of sectors i ∷ []
unfolding lost_places
chosen-in written sectors i is = rw (add-one, is) (map-append (entry_of sectors) (lost_places written i) (i ∷ []))

-- .. and another adds none
pub chosen-out : (written : ℕ) (sectors : List (List ℕ)) (i : ℕ) → is_lost written i ≡ false →
    chosen_to written sectors (i + 1) ≡ chosen_to written sectors i
unfolding lost_places
chosen-out written sectors i is = rw (add-one, is) (ap (map (entry_of sectors)) (append-nil (lost_places written i)))

-- each of them is a sector of a segment
in_segment-push : (new : List NewSector) (last : NewSector) → AreInSegment new → last.sector < 32 → AreInSegment (new ++ last ∷ [])
in_segment-push [] last are is = (is, tt)
in_segment-push (first ∷ more) last are is = (are.0, in_segment-push more last are.1 is)

in_segment-more : (written : ℕ) (sectors : List (List ℕ)) (i : ℕ) (bit : Bool) → is_lost written i ≡ bit → i < 32 →
    AreInSegment (chosen_to written sectors i) → AreInSegment (chosen_to written sectors (i + 1))
in_segment-more written sectors i true is less so_far =
    rw (chosen-in written sectors i is) (in_segment-push (chosen_to written sectors i) (entry_of sectors i) so_far less)
in_segment-more written sectors i false is less so_far = rw (chosen-out written sectors i is) so_far

chosen-in_segment : (written : ℕ) (sectors : List (List ℕ)) (count : ℕ) → count ≤ 32 → AreInSegment (chosen_to written sectors count)
chosen-in_segment written sectors zero less = rw (chosen-none written sectors) tt
chosen-in_segment written sectors (suc i) less =
    subst (λ (n : ℕ). AreInSegment (chosen_to written sectors n)) (omega arith)
    (in_segment-more written sectors i (is_lost written i) refl (omega arith) (chosen-in_segment written sectors i (omega arith)))

pub chosen-reached : (size : Option ℕ) (segment written : ℕ) (sectors : List (List ℕ)) → IsSomeAnd size (λ n. IsPlace n segment 0) →
    IsReached size (WriteSectors segment (chosen written sectors))
chosen-reached size segment written sectors on = record { on_tape = on; in_segment = chosen-in_segment written sectors 32 (omega arith) }

-- what one more makes of the cartridge
with_sectors-push : (segment : ℕ) (new : List NewSector) (last : NewSector) (c : Cartridge) →
    with_sectors segment (new ++ last ∷ []) c ≡ with_sector segment last (with_sectors segment new c)
with_sectors-push segment [] last c = refl
with_sectors-push segment (first ∷ more) last c = with_sectors-push segment more last (with_sector segment first c)

pub effect-push : (segment : ℕ) (new : List NewSector) (last : NewSector) (held : Option Cartridge) →
    effect (WriteSectors segment (new ++ last ∷ [])) held ≡ effect (write_sector segment last.sector last.bytes)
    (effect (WriteSectors segment new) held)
effect-push segment new last None = refl
effect-push segment new last (Some c) = ap Some (with_sectors-push segment new last c)

pub effect-none : (segment : ℕ) (held : Option Cartridge) → effect (WriteSectors segment []) held ≡ held
effect-none segment None = refl
effect-none segment (Some c) = refl

with_all_worn-push : (segment : ℕ) (new : List NewSector) (last : NewSector) (c : Cartridge) →
    with_all_worn segment (new ++ last ∷ []) c ≡ with_worn segment last.sector (with_all_worn segment new c)
with_all_worn-push segment [] last c = refl
with_all_worn-push segment (first ∷ more) last c = with_all_worn-push segment more last (with_worn segment first.sector c)

pub lost-push : (segment : ℕ) (new : List NewSector) (last : NewSector) (held : Option Cartridge) →
    lost_by (WriteSectors segment (new ++ last ∷ [])) held ≡ effect (Wear segment last.sector) (lost_by (WriteSectors segment new) held)
lost-push segment new last None = refl
lost-push segment new last (Some c) = ap Some (with_all_worn-push segment new last c)

pub lost-none : (segment : ℕ) (held : Option Cartridge) → lost_by (WriteSectors segment []) held ≡ held
lost-none segment None = refl
lost-none segment (Some c) = refl

-- ---- what a tape in memory holds, with the first of them written, ..

pub write-none : (before : HolderState) (segment written : ℕ) (sectors : List (List ℕ)) →
    before ≡ made before (WriteSectors segment (chosen_to written sectors 0))
write-none before segment written sectors =
    rw (chosen-none written sectors) (ap (λ held. record before { cartridge = held }) (sym (effect-none segment before.cartridge)))

pub write-more : (before so_far now : HolderState) (segment written i sector : ℕ) (sectors : List (List ℕ)) (bit : Bool) (bytes : List ℕ) →
    sector ≡ i → bit ≡ is_lost written i → bytes ≡ slice_index_or sectors i [] →
    so_far ≡ made before (WriteSectors segment (chosen_to written sectors i)) →
    now ≡ (if bit then made so_far (write_sector segment sector bytes) else so_far) →
    now ≡ made before (WriteSectors segment (chosen_to written sectors (i + 1)))
write-more before so_far now segment written i sector sectors true bytes at bit is was becomes =
    becomes ∙ rw (was, is, at, chosen-in written sectors i (sym bit)) (ap (λ held. record before { cartridge = held })
    (sym (effect-push segment (chosen_to written sectors i) (entry_of sectors i) before.cartridge)))
write-more before so_far now segment written i sector sectors false bytes at bit is was becomes =
    becomes ∙ was ∙ ap (λ new. made before (WriteSectors segment new)) (sym (chosen-out written sectors i (sym bit)))

-- .. or lost
abbrev pub with_lost : HolderState → (segment : ℕ) → List NewSector → HolderState
with_lost before segment new = record before { cartridge = lost_by (WriteSectors segment new) before.cartridge }

pub lose-none : (before : HolderState) (segment written : ℕ) (sectors : List (List ℕ)) →
    before ≡ with_lost before segment (chosen_to written sectors 0)
lose-none before segment written sectors =
    rw (chosen-none written sectors) (ap (λ held. record before { cartridge = held }) (sym (lost-none segment before.cartridge)))

pub lose-more : (before so_far now : HolderState) (segment written i sector : ℕ) (sectors : List (List ℕ)) (bit : Bool) →
    sector ≡ i → bit ≡ is_lost written i →
    so_far ≡ with_lost before segment (chosen_to written sectors i) →
    now ≡ (if bit then made so_far (Wear segment sector) else so_far) →
    now ≡ with_lost before segment (chosen_to written sectors (i + 1))
lose-more before so_far now segment written i sector sectors true at bit was becomes =
    becomes ∙ rw (was, at, chosen-in written sectors i (sym bit)) (ap (λ held. record before { cartridge = held })
    (sym (lost-push segment (chosen_to written sectors i) (entry_of sectors i) before.cartridge)))
lose-more before so_far now segment written i sector sectors false at bit was becomes =
    becomes ∙ was ∙ ap (with_lost before segment) (sym (chosen-out written sectors i (sym bit)))
