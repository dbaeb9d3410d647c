-- The last sector of data with a used slot.
use Rattle.std.proofs.Common.{◌≡◌, ◌↔◌, ℕ, zero, suc, ◌+◌, ◌/◌, ◌%◌, ◌^◌, ◌<◌, inl, inr, refl, sym, ◌∙◌, ap, subst, arith, Bool, true}
use Rattle.std.proofs.Common.{false, List, [], ◌∷◌, length, map, Option, Some, None, slice_get, unwrap_or}
use Rattle.std.specs.Prelude.{◌==◌, if◌then◌else◌}
use Rattle.std.proofs.lemmas.Bool.{cases_eq, cases_lt, cases_Bool, ne_eqb, eq-eqb, false≢true}
use Rattle.qic_base.specs.CartridgeTerms.{IsLost}
use Rattle.qic_base.specs.declared.tape.SectorView.{SectorView}
use Rattle.qic_base.specs.declared.tape.SectorView.TheVariants.{Lost, Holds}
use Rattle.cartridge_spec.specs.Shape.{sector_at}
use Rattle.cartridge_laws.specs.TableCells.{last_used}
use Rattle.cartridge_laws.specs.Slots.{has_used_slot}
use Rattle.cartridge_laws.specs.Segment.{hidden}
use Rattle.cartridge_spec.specs.Says.{hidden_from, some_used_below, shows_used_slot, last_used_below}
use Rattle.cartridge_spec.specs.Table.{slot, is_used}
use Rattle.volume_table.specs.Trials.{ShowsUsed, IsLastUsed}

-- ---- the slots of a sector

pub none_below : (bytes : List ℕ) → some_used_below bytes 0 ≡ false
unfolding some_used_below
none_below bytes = refl

pub none_more : (bytes : List ℕ) (n : ℕ) → some_used_below bytes n ≡ false → is_used (slot (bytes ∷ []) n) ≡ false →
    some_used_below bytes (suc n) ≡ false
unfolding some_used_below
none_more bytes n before here = rw (here, before) refl

-- ---- the sectors that are not lost

-- the cell at a place of the sectors of which these are lost
cell_at : (area : List (List ℕ)) (lost place i : ℕ) → i < length area →
    unwrap_or (slice_get (hidden_from lost place (map Holds area)) i) Lost ≡ (if lost / 2 ^ (place + i) % 2 == 1 then Lost else Holds
    (sector_at area i))
unfolding hidden_from
cell_at [] lost place i within = absurd (omega arith)
cell_at (bytes ∷ area) lost place zero within = ap (λ (k : ℕ). if lost / 2 ^ k % 2 == 1 then Lost else Holds bytes) (omega arith)
cell_at (bytes ∷ area) lost place (suc i) within =
    cell_at area lost (suc place) i (omega arith)
    ∙ ap (λ (k : ℕ). if lost / 2 ^ k % 2 == 1 then Lost else Holds (sector_at area i)) (omega arith)

cell : (area : List (List ℕ)) (lost i : ℕ) → i < length area →
    unwrap_or (slice_get (hidden lost (map Holds area)) i) Lost ≡ (if lost / 2 ^ i % 2 == 1 then Lost else Holds (sector_at area i))
cell area lost i within =
    cell_at area lost 0 i within ∙ ap (λ (k : ℕ). if lost / 2 ^ k % 2 == 1 then Lost else Holds (sector_at area i)) (omega arith)

-- it shows a used slot where it is not lost and its sector has one
pub shows_lost : (area : List (List ℕ)) (lost i : ℕ) → i < length area → IsLost lost i →
    shows_used_slot (unwrap_or (slice_get (hidden lost (map Holds area)) i) Lost) ≡ false
shows_lost area lost i within is_lost =
    ap shows_used_slot (cell area lost i within)
    ∙ ap (λ (b : Bool). shows_used_slot (if b then Lost else Holds (sector_at area i))) (eq-eqb (lost / 2 ^ i % 2) 1 is_lost)

pub shows_kept : (area : List (List ℕ)) (lost i : ℕ) → i < length area → ¬ (IsLost lost i) →
    shows_used_slot (unwrap_or (slice_get (hidden lost (map Holds area)) i) Lost) ≡ has_used_slot (sector_at area i)
shows_kept area lost i within kept =
    ap shows_used_slot (cell area lost i within)
    ∙ ap (λ (b : Bool). shows_used_slot (if b then Lost else Holds (sector_at area i))) (ne_eqb (lost / 2 ^ i % 2) 1 kept)

-- ---- the last one

pub last_none : (cells : List SectorView) → last_used_below cells 0 ≡ None
unfolding last_used_below
last_none cells = refl

pub last_here : (cells : List SectorView) (i : ℕ) → shows_used_slot (unwrap_or (slice_get cells i) Lost) ≡ true →
    last_used_below cells (suc i) ≡ Some i
unfolding last_used_below
last_here cells i shows = rw shows refl

pub last_before : (cells : List SectorView) (i : ℕ) → shows_used_slot (unwrap_or (slice_get cells i) Lost) ≡ false →
    last_used_below cells (suc i) ≡ last_used_below cells i
unfolding last_used_below
last_before cells i shows = rw shows refl

-- what the last of the first n cells is
abbrev Shows : List SectorView → ℕ → Bool
Shows cells i = shows_used_slot (unwrap_or (slice_get cells i) Lost)

abbrev IsLast : (cells : List SectorView) → (n : ℕ) → Option ℕ → Type 0
IsLast cells n None = (i : ℕ) → i < n → Shows cells i ≡ false
IsLast cells n (Some k) = (k < n) × (Shows cells k ≡ true) × ((i : ℕ) → k < i → i < n → Shows cells i ≡ false)

last_more : (cells : List SectorView) (n : ℕ) (last : Option ℕ) → Shows cells n ≡ false → IsLast cells n last → IsLast cells (suc n) last
last_more cells n None shows is = λ i within.
    elim (cases_eq i n) [
      | inl here ↦ ap (Shows cells) here ∙ shows
      | inr other ↦ is i (omega arith)
    ]
last_more cells n (Some k) shows is = (
  omega (arith, is.0),
  is.1,
  λ i past within.
      elim (cases_eq i n) [
        | inl here ↦ ap (Shows cells) here ∙ shows
        | inr other ↦ is.2 i past (omega arith)
      ],
)

last_is : (cells : List SectorView) (n : ℕ) → IsLast cells n (last_used_below cells n)
unfolding last_used_below
last_is cells zero = λ i within. absurd (omega arith)
last_is cells (suc n) =
    elim (cases_Bool (Shows cells n)) [
      | inl shows ↦ subst (IsLast cells (suc n)) (sym (last_here cells n shows)) (omega arith, shows, λ i past within. absurd (omega arith))
      | inr none ↦ subst (IsLast cells (suc n)) (sym (last_before cells n none))
          (last_more cells n (last_used_below cells n) none (last_is cells n))
    ]

-- a sector that shows a used slot, by the cells
cell_shows : (area : List (List ℕ)) (lost i : ℕ) → length area ≡ 29 → ShowsUsed area lost i → Shows (hidden lost (map Holds area)) i ≡ true
cell_shows area lost i size shows = shows_kept area lost i (omega (arith, shows.data_sector)) shows.kept ∙ shows.used

shown_by_cell : (area : List (List ℕ)) (lost i : ℕ) → length area ≡ 29 → i < 29 → Shows (hidden lost (map Holds area)) i ≡ true →
    ShowsUsed area lost i
shown_by_cell area lost i size within shows =
    let kept : ¬ (IsLost lost i) = λ is_lost. false≢true (sym (shows_lost area lost i (omega arith) is_lost) ∙ shows) in
    record { data_sector = within; kept = kept; used = sym (shows_kept area lost i (omega arith) kept) ∙ shows }

-- the answer is the last one that shows a used slot
abbrev pub IsAnswer : (area : List (List ℕ)) (lost : ℕ) → Option ℕ → Type 0
IsAnswer area lost answer = ((k : ℕ) → (answer ≡ Some k) ↔ IsLastUsed area lost k)
    × ((answer ≡ None) ↔ ((i : ℕ) → ¬ (ShowsUsed area lost i)))

answer_of : (area : List (List ℕ)) (lost : ℕ) (answer : Option ℕ) → length area ≡ 29 → IsLast (hidden lost (map Holds area)) 29 answer →
    IsAnswer area lost answer
answer_of area lost None size is =
    let none : (i : ℕ) → ¬ (ShowsUsed area lost i) =
    λ i shows. false≢true (sym (is i shows.data_sector) ∙ cell_shows area lost i size shows) in
    (λ k. (λ e. absurd (cc), λ last. absurd (none k last.shows)), (λ e. none, λ e. refl))
answer_of area lost (Some k) size is =
    let here : IsLastUsed area lost k = record {
      shows = shown_by_cell area lost k size is.0 is.1;
      behind = λ i past shows. false≢true (sym (is.2 i past shows.data_sector) ∙ cell_shows area lost i size shows);
    } in (
      λ j. (
        λ e. let same : k ≡ j = cc in subst (IsLastUsed area lost) same here,
        λ last. ap Some (one k j here last),
      ),
      (λ e. absurd (cc), λ none. absurd (none k here.shows)),
    )
  where
    one : (k j : ℕ) → IsLastUsed area lost k → IsLastUsed area lost j → k ≡ j
    one k j first second =
        elim (cases_lt k j) [
          | inl below ↦ absurd (first.behind j below second.shows)
          | inr above ↦ elim (cases_eq k j) [
            | inl same ↦ same
            | inr other ↦ absurd (second.behind k (omega arith) first.shows)
          ]
        ]

pub is_answer : (area : List (List ℕ)) (lost : ℕ) → length area ≡ 29 → IsAnswer area lost (last_used (hidden lost (map Holds area)))
is_answer area lost size = answer_of area lost (last_used (hidden lost (map Holds area))) size (last_is (hidden lost (map Holds area)) 29)
