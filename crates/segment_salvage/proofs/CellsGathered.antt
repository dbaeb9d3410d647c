-- The cells of a mask's sectors, gathered one by one.
use Rattle.std.proofs.Common.{◌≡◌, ◌≢◌, ℕ, suc, ◌+◌, ◌/◌, ◌%◌, ◌^◌, ◌<◌, ◌≤◌, ◌↔◌, Bool, false, List, [], ◌∷◌, ◌++◌, length, map, take, set}
use Rattle.std.proofs.Common.{get_or, refl, sym, ap, subst, ◌∙◌, arith, zero-add}
use Rattle.std.proofs.lemmas.List.{take_more_set, length-set, length-take-le, get_or-set_other, map-append}
use Rattle.std.proofs.Math.Pow.{pow-lt}
use Rattle.std.proofs.lemmas.Bool.{ne_eqb}
use Rattle.std.proofs.lemmas.Option.{unwrap_or-slice_get}
use Rattle.cartridge_laws.proofs.Places.{count_below, none_below}
use Rattle.cartridge_spec.specs.Shape.{sector_at, usable_count, usable_places}
use Rattle.qic_base.proofs.LostSetLaws.{lost_places-lost, lost_places-kept, count_more, count_same}
use Rattle.qic_base.specs.Cartridge.{lost_places}
use Rattle.qic_base.specs.CartridgeTerms.{IsLost, is_lost}
use Rattle.qic_base.specs.declared.tape.SectorView.{SectorView}
use Rattle.segment_salvage.proofs.Sets.{lost_within}
use Rattle.segment_salvage.specs.Buffer.{buffer_view}
use Rattle.silent_locate.proofs.Sectors.{IsAmong, cells_among}
use Rattle.silent_locate.specs.Deep.{cell_of, cells_from, cells_without}

-- the cells of the sectors of a mask below an index stand at the front, and the others are as they were
pub record IsGathered (usable unread lost place index : ℕ) (old now : List (List ℕ)) : Type 0 where
  pub size : length now ≡ 32
  pub count : place ≡ length (lost_places usable index)
  pub cells : cells_without lost (take place now) ≡ map (buffer_view unread old) (lost_places usable index)
  pub rest : (k : ℕ) → index ≤ k → get_or now k [] ≡ get_or old k []
  pub within : lost < 2 ^ place

pub gathered_none : (usable unread : ℕ) (old : List (List ℕ)) → length old ≡ 32 → IsGathered usable unread 0 0 0 old old
unfolding cells_from
gathered_none usable unread old size = record {
  size = size;
  count = sym (ap length (none_below usable));
  cells = sym (ap (map (buffer_view unread old)) (none_below usable));
  rest = λ k h. refl;
  within = omega arith;
}

pub gathered_kept : (usable unread lost place index : ℕ) (old now : List (List ℕ)) → (IsLost usable index → ⊥) →
    IsGathered usable unread lost place index old now → IsGathered usable unread lost place (index + 1) old now
gathered_kept usable unread lost place index old now kept g = record {
  size = g.size;
  count = g.count ∙ sym (count_same usable index kept);
  cells = g.cells ∙ ap (map (buffer_view unread old)) (sym (lost_places-kept usable index kept));
  rest = λ k h. g.rest k (omega arith);
  within = g.within;
}

-- ---- one cell more

cells_from-more : (lost k : ℕ) (front : List (List ℕ)) (bytes : List ℕ) (at : ℕ) → at ≡ k + length front →
    cells_from lost k (front ++ bytes ∷ []) ≡ cells_from lost k front ++ cell_of (is_lost lost at) bytes ∷ []
unfolding cells_from
cells_from-more lost k [] bytes at e =
    let here : k ≡ at = omega arith in ap (λ (p : ℕ). cell_of (is_lost lost p) bytes ∷ []) here
cells_from-more lost k (first ∷ front) bytes at e =
    ap (λ (t : List SectorView). cell_of (is_lost lost k) first ∷ t) (cells_from-more lost (suc k) front bytes at (omega arith))

-- the set with a place more, or without it
pub record IsMore (lost more place : ℕ) (there : Bool) : Type 0 where
  pub others : (other : ℕ) → other ≢ place → IsLost more other ↔ IsLost lost other
  pub here : is_lost more place ≡ there
  pub within : more < 2 ^ (place + 1)

among_more : (lost more place : ℕ) (there : Bool) → lost < 2 ^ place → IsMore lost more place there → IsAmong lost more place
among_more lost more place there low m = λ other. (
  λ on.
      let below : other < place = lost_within lost other place on low in
      let apart : other ≢ place = λ e. absurd (omega arith) in
      ((m.others other apart).1 on, below),
  λ on.
      let below : other < place = on.1 in
      let apart : other ≢ place = λ e. absurd (omega arith) in
      (m.others other apart).0 on.0,
)

pub gathered_more : (usable unread lost more place index : ℕ) (old now : List (List ℕ)) (bytes : List ℕ) → IsLost usable index →
    index < 32 → IsGathered usable unread lost place index old now → bytes ≡ get_or now index [] →
    IsMore lost more place (is_lost unread index) →
    IsGathered usable unread more (place + 1) (index + 1) old (set now place bytes)
gathered_more usable unread lost more place index old now bytes used within g read m =
    let count : place ≡ length (lost_places usable index) = g.count in
    let low : length (lost_places usable index) ≤ index = count_below usable index in
    let size : length now ≡ 32 = g.size in
    let front : List (List ℕ) = take place now in
    let long : length front ≡ place = length-take-le place now (omega arith) in
    let view : ℕ → SectorView = buffer_view unread old in
    let among : IsAmong lost more (length front) =
    subst (λ (n : ℕ). IsAmong lost more n) (sym long) (among_more lost more place (is_lost unread index) g.within m) in
    let held : bytes ≡ sector_at old index = read ∙ g.rest index (omega arith) ∙ sym (unwrap_or-slice_get old index []) in
    let now_is : take (place + 1) (set now place bytes) ≡ front ++ bytes ∷ [] = take_more_set now place bytes (omega arith) in
    record {
      size = length-set now place bytes ∙ size;
      count = ap (λ (k : ℕ). k + 1) count ∙ sym (count_more usable index used);
      cells =
          ap (cells_without more) now_is
          ∙ cells_from-more more 0 front bytes place (sym long ∙ sym (zero-add (length front)))
          ∙ ap (λ (t : List SectorView). t ++ cell_of (is_lost more place) bytes ∷ []) (sym (cells_among lost more front among) ∙ g.cells)
          ∙ ap (λ (b : Bool). map view (lost_places usable index) ++ cell_of b bytes ∷ []) m.here
          ∙ ap (λ (s : List ℕ). map view (lost_places usable index) ++ cell_of (is_lost unread index) s ∷ []) held
          ∙ sym (map-append view (lost_places usable index) (index ∷ []))
          ∙ ap (map view) (sym (lost_places-lost usable index used));
      rest = λ k h.
          let apart : k ≢ place = λ e. absurd (omega arith) in
          get_or-set_other now place k bytes [] apart ∙ g.rest k (omega arith);
      within = m.within;
    }

pub gathered_as : (usable unread lost next place after index : ℕ) (old now left : List (List ℕ)) →
    IsGathered usable unread lost place index old now → next ≡ lost → after ≡ place → left ≡ now →
    IsGathered usable unread next after index old left
gathered_as usable unread lost next place after index old now left g set_is place_is sectors_are =
    subst (λ (s : List (List ℕ)). IsGathered usable unread next after index old s) (sym sectors_are)
    (subst (λ (p : ℕ). IsGathered usable unread next p index old now) (sym place_is)
    (subst (λ (set : ℕ). IsGathered usable unread set place index old now) (sym set_is) g))

-- a set whose place is not there already
pub more_same : (lost place : ℕ) → lost < 2 ^ place → IsMore lost lost place false
more_same lost place low = record {
  others = λ other apart. (λ on. on, λ on. on);
  here = ne_eqb (lost / 2 ^ place % 2) 1 (λ on. absurd (omega (arith, lost_within lost place place on low)));
  within = omega (arith, pow-lt {i = place} {j = place + 1} (omega arith));
}

-- ---- all of them

pub record AllGathered (usable unread lost : ℕ) (old now : List (List ℕ)) : Type 0 where
  pub cells : cells_without lost (take (usable_count usable) now) ≡ map (buffer_view unread old) (usable_places usable)
  pub within : lost < 2 ^ usable_count usable

pub gathered_all : (usable unread lost place index : ℕ) (old now : List (List ℕ)) → index ≡ 32 →
    IsGathered usable unread lost place index old now → AllGathered usable unread lost old now
gathered_all usable unread lost place index old now end g =
    let count : place ≡ usable_count usable = g.count ∙ ap (λ (i : ℕ). length (lost_places usable i)) end in
    record {
      cells = ap (λ (k : ℕ). cells_without lost (take k now)) (sym count) ∙ g.cells
          ∙ ap (λ (i : ℕ). map (buffer_view unread old) (lost_places usable i)) end;
      within = subst (λ (k : ℕ). lost < 2 ^ k) count g.within;
    }
