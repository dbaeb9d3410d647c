-- The writes of the places of a set, place by place, and those of all places.
use Rattle.std.proofs.Common.{◌≡◌, ℕ, ◌+◌, ◌^◌, ◌<◌, ◌≤◌, refl, sym, ◌∙◌, ap, subst, arith, List, [], ◌∷◌, ◌++◌, length}
use Rattle.std.proofs.Common.{map, get_or}
use Rattle.std.proofs.lemmas.Option.{unwrap_or-slice_get}
use Rattle.std.proofs.lemmas.List.{map-append, map_push}
use Rattle.qic_base.specs.CartridgeTerms.{IsLost}
use Rattle.qic_base.specs.Cartridge.{lost_places}
use Rattle.qic_base.specs.Step.{Step, write_sector}
use Rattle.qic_base.proofs.LostSetLaws.{lost_places-lost, lost_places-kept, count_more, count_same}
use Rattle.cartridge_spec.specs.Shape.{sector_at, usable_places, usable_count}
use Rattle.cartridge_laws.specs.Writes.{named_writes}
use Rattle.qic_base.specs.Tape.{Meaning, Done, Broke}
use Rattle.qic_base.proofs.Steps.{Done-Done, Done-Broke, Broke-front}
use Rattle.drive_states.specs.Reach.{IsUnder}
use Rattle.drive_states.specs.Unit.{UnitView}
use Rattle.host_driver.specs.declared.host.Host.{Host}
use Rattle.host_driver.specs.Calls.{MayWrite, Keeps}
use Rattle.host_driver.proofs.Keeping.{keeps_both, may_write_kept}
use Rattle.segment_io.proofs.Going.{under_next}
use Rattle.cartridge_laws.proofs.Places.{place_of_sector, Front, places_within, front_of_all, count_below}
use Rattle.cartridge_laws.proofs.Writing.{writes_of_map}

-- ---- the writes of named places

-- the write of a place
abbrev pub write_at : (segment usable : ℕ) → List (List ℕ) → ℕ → Step
write_at segment usable sectors place = write_sector segment (get_or (usable_places usable) place 0) (sector_at sectors place)

-- those of the places below a number
abbrev pub writes_below : (segment usable places : ℕ) → List (List ℕ) → ℕ → List Step
writes_below segment usable places sectors n = map (write_at segment usable sectors) (lost_places places n)

named_writes_are : (segment usable places : ℕ) (sectors : List (List ℕ)) →
    named_writes segment usable places sectors ≡ writes_below segment usable places sectors 32
named_writes_are segment usable places sectors =
    writes_of_map segment (λ p. get_or (usable_places usable) p 0) (λ p. sector_at sectors p) (lost_places places 32)

-- no place yet
pub writes_below_none : (segment usable places : ℕ) (sectors : List (List ℕ)) → writes_below segment usable places sectors 0 ≡ []
unfolding lost_places
writes_below_none segment usable places sectors = refl

-- one place more, that of a usable sector, where the set has it, ..
pub writes_below_named : (segment usable places : ℕ) (sectors : List (List ℕ)) (index place : ℕ) →
    IsLost usable index → index < 32 → place ≡ length (lost_places usable index) → IsLost places place →
    writes_below segment usable places sectors (place + 1)
    ≡ writes_below segment usable places sectors place ++ write_sector segment index (get_or sectors place []) ∷ []
writes_below_named segment usable places sectors index place is h at named =
    let here : get_or (usable_places usable) place 0 ≡ index =
    ap (λ (k : ℕ). get_or (lost_places usable 32) k 0) at ∙ place_of_sector usable index is h in
    ap (map (write_at segment usable sectors)) (lost_places-lost places place named)
    ∙ map_push (write_at segment usable sectors) (lost_places places place) place
    ∙ ap (λ (i : ℕ). writes_below segment usable places sectors place ++ write_sector segment i (sector_at sectors place) ∷ []) here
    ∙ ap (λ (bytes : List ℕ). writes_below segment usable places sectors place ++ write_sector segment index bytes ∷ [])
    (unwrap_or-slice_get sectors place [])

-- .. and where it doesn't
pub writes_below_kept : (segment usable places : ℕ) (sectors : List (List ℕ)) (place : ℕ) → (IsLost places place → ⊥) →
    writes_below segment usable places sectors (place + 1) ≡ writes_below segment usable places sectors place
writes_below_kept segment usable places sectors place kept =
    ap (map (write_at segment usable sectors)) (lost_places-kept places place kept)

-- those below a number come first
pub front_of_writes : (segment usable places : ℕ) (sectors : List (List ℕ)) (n : ℕ) → n ≤ 32 →
    Front (writes_below segment usable places sectors n) (named_writes segment usable places sectors)
front_of_writes segment usable places sectors n h =
    let front : Front (lost_places places n) (lost_places places 32) = front_of_all places n h in
    record {
      rest = map (write_at segment usable sectors) front.rest;
      parts = named_writes_are segment usable places sectors
          ∙ ap (map (write_at segment usable sectors)) front.parts
          ∙ map-append (write_at segment usable sectors) (lost_places places n) front.rest;
    }

-- and those below the number of usable sectors are all, where no place is past these
pub writes_below_all : (segment usable places : ℕ) (sectors : List (List ℕ)) → places < 2 ^ usable_count usable →
    writes_below segment usable places sectors (usable_count usable) ≡ named_writes segment usable places sectors
writes_below_all segment usable places sectors low =
    ap (map (write_at segment usable sectors)) (sym (places_within places (usable_count usable) (count_below usable 32) low))
    ∙ sym (named_writes_are segment usable places sectors)

-- ---- sector by sector

-- the named ones below an index are written
pub record AreWritten {T : Type 0} (m : Meaning T) (segment usable places : ℕ) (sectors : List (List ℕ)) (place index : ℕ) (host : Host)
    (old new : UnitView T) : Type 0 where
  pub count : place ≡ length (lost_places usable index)
  pub size : length sectors ≡ 32
  pub written : Done m old.tape new.tape (writes_below segment usable places sectors place)
  pub under : IsUnder new.drive.deck segment index
  pub writable : MayWrite new.drive.deck
  pub keeps : Keeps m host old new

-- the head passes a sector that isn't usable, ..
pub passed_by : {T : Type 0} {m : Meaning T} (segment usable places : ℕ) (sectors : List (List ℕ)) (place index : ℕ) (host : Host)
    (old new : UnitView T) → (IsLost usable index → ⊥) →
    AreWritten m segment usable places sectors place index host old new →
    AreWritten m segment usable places sectors place (index + 1) host old new
passed_by segment usable places sectors place index host old new kept w = record {
  count = w.count ∙ sym (count_same usable index kept);
  size = w.size;
  written = w.written;
  under = under_next segment index new.drive.deck w.under;
  writable = w.writable;
  keeps = w.keeps;
}

-- .. one whose place isn't named, ..
pub left_out : {T : Type 0} {m : Meaning T} (segment usable places : ℕ) (sectors : List (List ℕ)) (place index : ℕ) (host : Host)
    (old new : UnitView T) → IsLost usable index → (IsLost places place → ⊥) →
    AreWritten m segment usable places sectors place index host old new →
    AreWritten m segment usable places sectors (place + 1) (index + 1) host old new
left_out {m = m} segment usable places sectors place index host old new is kept w = record {
  count = ap (λ (n : ℕ). n + 1) w.count ∙ sym (count_more usable index is);
  size = w.size;
  written = subst (Done m old.tape new.tape) (sym (writes_below_kept segment usable places sectors place kept)) w.written;
  under = under_next segment index new.drive.deck w.under;
  writable = w.writable;
  keeps = w.keeps;
}

-- .. or is written
pub wrote : {T : Type 0} {m : Meaning T} (segment usable places : ℕ) (sectors : List (List ℕ)) (place index : ℕ) (before host : Host)
    (old new after : UnitView T) → IsLost usable index → index < 32 → IsLost places place →
    Done m new.tape after.tape (write_sector segment index (get_or sectors place []) ∷ []) →
    IsUnder after.drive.deck segment (index + 1) → Keeps m host new after →
    AreWritten m segment usable places sectors place index before old new →
    AreWritten m segment usable places sectors (place + 1) (index + 1) host old after
wrote {m = m} segment usable places sectors place index before host old new after is within named did under keeps w = record {
  count = ap (λ (n : ℕ). n + 1) w.count ∙ sym (count_more usable index is);
  size = w.size;
  written = subst (Done m old.tape after.tape) (sym (writes_below_named segment usable places sectors index place is within w.count named))
      (Done-Done {xs = writes_below segment usable places sectors place} {ys = write_sector segment index (get_or sectors place []) ∷ []}
      w.written did);
  under = under;
  writable = may_write_kept new.drive.deck after.drive.deck keeps.same w.writable;
  keeps = keeps_both w.keeps keeps;
}

-- a write that broke off leaves a front of them
pub broke_off : {T : Type 0} {m : Meaning T} (segment usable places : ℕ) (sectors : List (List ℕ)) (place index : ℕ) (host : Host)
    (old new after : UnitView T) → IsLost usable index → index < 32 → IsLost places place →
    Broke m new.tape after.tape (write_sector segment index (get_or sectors place []) ∷ []) →
    AreWritten m segment usable places sectors place index host old new →
    Broke m old.tape after.tape (named_writes segment usable places sectors)
broke_off {m = m} segment usable places sectors place index host old new after is within named broke w =
    let below : List Step = writes_below segment usable places sectors (place + 1) in
    let low : place + 1 ≤ 32 = omega (arith, w.count, count_below usable index) in
    let front : Front below (named_writes segment usable places sectors) = front_of_writes segment usable places sectors (place + 1) low in
    let so_far : Broke m old.tape after.tape below =
    subst (Broke m old.tape after.tape) (sym (writes_below_named segment usable places sectors index place is within w.count named))
    (Done-Broke {xs = writes_below segment usable places sectors place} {ys = write_sector segment index (get_or sectors place []) ∷ []}
    w.written broke) in
    subst (Broke m old.tape after.tape) (sym front.parts) (Broke-front {xs = below} front.rest so_far)
