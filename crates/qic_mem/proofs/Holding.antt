-- What a change of the kept views does to the cartridge that stands in them.
use Rattle.std.proofs.Common.{◌≡◌, ℕ, ◌+◌, ◌*◌, ◌-◌, ◌<◌, ◌≤◌, List, ◌++◌, length, take, drop, map, Bool, true, false, Option, Some, None}
use Rattle.std.proofs.Common.{refl, sym, ap, ◌∙◌, arith, IsSomeAnd}
use Rattle.std.specs.Prelude.{slice_set}
use Rattle.std.specs.Option.{option_map, ForSome}
use Rattle.std.proofs.Math.Seq.{take-set-lt, take-append-add}
use Rattle.std.proofs.lemmas.List.{get_or-take, take-take, drop-take, length-take, length-drop, length-append, length-map}
use Rattle.std.proofs.lemmas.Option.{unwrap_or-slice_get}
use Rattle.qic_base.specs.declared.tape.SectorView.{SectorView}
use Rattle.qic_base.specs.declared.tape.SectorView.TheVariants.{Blank}
use Rattle.qic_base.specs.declared.tape.TapeInfo.{TapeInfo}
use Rattle.qic_base.specs.Cartridge.{Cartridge, IsPlace, new_version}
use Rattle.qic_base.specs.CartridgeTerms.{place_of, with_segment}
use Rattle.qic_base.specs.Step.{write_sector, FormatSegment, Wear, Spoil, effect, written_view, formatted_view, worn_view, spoiled_view}
use Rattle.qic_mem.specs.Held.{held, size_told, FitsRoom}
use Rattle.qic_mem.specs.Sectors.{view_in, changed_at, changed_from}

-- the place is told to lie on the cartridge
abbrev pub IsOn : Bool → Option TapeInfo → ℕ → ℕ → Type 0
IsOn told info segment sector = IsSomeAnd (size_told told info) (λ n. IsPlace n segment sector)

-- the first n views have the same view at a place below n
view_in-take : (views : List SectorView) (n place : ℕ) → place < n → view_in (take n views) place ≡ view_in views place
view_in-take views n place below =
    unwrap_or-slice_get (take n views) place Blank ∙ get_or-take n views place Blank below ∙ sym (unwrap_or-slice_get views place Blank)

changed_at-take : (views : List SectorView) (n place : ℕ) (change : SectorView → SectorView) → place < n →
    take n (changed_at views place change) ≡ changed_at (take n views) place change
changed_at-take views n place change below =
    take-set-lt n views place (change (view_in views place)) below
    ∙ ap (λ view. slice_set (take n views) place (change view)) (sym (view_in-take views n place below))

-- a place on the cartridge is below its number of sectors
place_below : (n segment sector : ℕ) → IsPlace n segment sector → place_of segment sector < 896 * n
place_below n segment sector on = let a = on.on_tape in let b = on.in_segment in omega arith

change-held : (told : Bool) (info : Option TapeInfo) (views : List SectorView) (segment sector : ℕ) (change : SectorView → SectorView) →
    IsOn told info segment sector → held info (changed_at views (place_of segment sector) change) ≡ option_map
    (λ (c : Cartridge). record c { views = changed_at c.views (place_of segment sector) change }) (held info views)
change-held false info views segment sector change on = absurd on
change-held true None views segment sector change on = absurd on
change-held true (Some i) views segment sector change on =
    ap (λ vs. Some (record { info = i; version = new_version; views = vs }))
    (changed_at-take views (896 * i.segments_per_track) (place_of segment sector) change
    (place_below i.segments_per_track segment sector on))

option_map-write : (segment sector : ℕ) (bytes : List ℕ) (h : Option Cartridge) →
    option_map (λ (c : Cartridge). record c { views = changed_at c.views (place_of segment sector) (written_view bytes) }) h ≡ effect
    (write_sector segment sector bytes) h
option_map-write segment sector bytes None = refl
option_map-write segment sector bytes (Some c) = refl

option_map-wear : (segment sector : ℕ) (h : Option Cartridge) →
    option_map (λ (c : Cartridge). record c { views = changed_at c.views (place_of segment sector) worn_view }) h ≡ effect
    (Wear segment sector) h
option_map-wear segment sector None = refl
option_map-wear segment sector (Some c) = refl

option_map-spoil : (segment sector : ℕ) (h : Option Cartridge) →
    option_map (λ (c : Cartridge). record c { views = changed_at c.views (place_of segment sector) spoiled_view }) h ≡ effect
    (Spoil segment sector) h
option_map-spoil segment sector None = refl
option_map-spoil segment sector (Some c) = refl

pub write-held : (told : Bool) (info : Option TapeInfo) (views after : List SectorView) (segment sector place : ℕ) (bytes : List ℕ) →
    IsOn told info segment sector → place ≡ place_of segment sector → after ≡ changed_at views place (written_view bytes) →
    held info after ≡ effect (write_sector segment sector bytes) (held info views)
write-held told info views after segment sector place bytes on at written =
    rw (written, at) (change-held told info views segment sector (written_view bytes) on ∙ option_map-write segment sector bytes
    (held info views))

pub wear-held : (told : Bool) (info : Option TapeInfo) (views after : List SectorView) (segment sector place : ℕ) →
    IsOn told info segment sector → place ≡ place_of segment sector → after ≡ changed_at views place worn_view →
    held info after ≡ effect (Wear segment sector) (held info views)
wear-held told info views after segment sector place on at worn =
    rw (worn, at) (change-held told info views segment sector worn_view on ∙ option_map-wear segment sector (held info views))

pub spoil-held : (told : Bool) (info : Option TapeInfo) (views after : List SectorView) (segment sector place : ℕ) →
    IsOn told info segment sector → place ≡ place_of segment sector → after ≡ changed_at views place spoiled_view →
    held info after ≡ effect (Spoil segment sector) (held info views)
spoil-held told info views after segment sector place on at spoiled =
    rw (spoiled, at) (change-held told info views segment sector spoiled_view on ∙ option_map-spoil segment sector (held info views))

take-append-at : {A : Type 0} (xs ys : List A) (k n : ℕ) → length xs ≡ k → take (k + n) (xs ++ ys) ≡ xs ++ take n ys
take-append-at xs ys k n long = rw (← long) (take-append-add xs ys n)

length-front : (views : List SectorView) (first : ℕ) (change : SectorView → SectorView) → first + 32 ≤ length views →
    length (take first views ++ map change (take 32 (drop first views))) ≡ first + 32
length-front views first change within = simp (length-append, length-map, length-take, length-drop) (omega arith)

-- the first views of a changed list are those of the first views, changed
changed_from-take : (views : List SectorView) (first more : ℕ) (change : SectorView → SectorView) → first + 32 ≤ length views →
    take (first + 32 + more) (changed_from views first change) ≡ changed_from (take (first + 32 + more) views) first change
changed_from-take views first more change within =
    let front : List SectorView = take first views ++ map change (take 32 (drop first views)) in
    let rest : List SectorView = drop (first + 32) views in
    let long : length front ≡ first + 32 = length-front views first change within in
    let left : take (first + 32 + more) (front ++ rest) ≡ front ++ take more rest = take-append-at front rest (first + 32) more long in
    let begins : take first (take (first + 32 + more) views) ≡ take first views = take-take first (first + 32 + more) views (omega arith) in
    let ends : drop (first + 32) (take (first + 32 + more) views) ≡ take more rest = drop-take (first + 32) more views in
    let sum : first + 32 + more ≡ first + (32 + more) = omega arith in
    let dropped : drop first (take (first + (32 + more)) views) ≡ take (32 + more) (drop first views) = drop-take first (32 + more) views in
    let middle : take 32 (drop first (take (first + 32 + more) views)) ≡ take 32 (drop first views) =
    rw (sum, dropped) (take-take 32 (32 + more) (drop first views) (omega arith)) in
    left ∙ sym (ap (λ vs. vs ++ map change (take 32 (drop first (take (first + 32 + more) views))) ++ drop (first + 32)
    (take (first + 32 + more) views)) begins
    ∙ ap (λ vs. take first views ++ map change vs ++ drop (first + 32) (take (first + 32 + more) views)) middle
    ∙ ap (λ vs. front ++ vs) ends)

segment-held-at : (i : TapeInfo) (views : List SectorView) (segment : ℕ) (change : SectorView → SectorView) →
    IsPlace i.segments_per_track segment 0 → 896 * i.segments_per_track ≤ length views →
    held (Some i) (changed_from views (place_of segment 0) change) ≡ option_map (λ c. with_segment c segment change) (held (Some i) views)
segment-held-at i views segment change on within =
    let a = on.on_tape in
    let n : ℕ = 896 * i.segments_per_track in
    let first : ℕ = 32 * segment in
    let more : ℕ = n - (first + 32) in
    let split : first + 32 + more ≡ n = omega arith in
    let start : place_of segment 0 ≡ first = omega arith in
    let next : 32 * (segment + 1) ≡ first + 32 = omega arith in
    let changes : take n (changed_from views first change) ≡ changed_from (take n views) first change =
    rw (← split) (changed_from-take views first more change (omega arith)) in
    ap (λ vs. Some (record { info = i; version = new_version; views = vs })) (rw (start, next) changes)

-- the cartridge with one segment changed stands in the changed views
pub segment-held : (told : Bool) (info : Option TapeInfo) (room : ℕ) (views after : List SectorView) (segment place : ℕ)
    (change : SectorView → SectorView) → ForSome info (FitsRoom room) → length views ≡ 896 * room → IsOn told info segment 0 →
    place ≡ place_of segment 0 → after ≡ changed_from views place change → held info after ≡ option_map (λ c. with_segment c segment change)
    (held info views)
segment-held false info room views after segment place change fits long on at changes = absurd on
segment-held true None room views after segment place change fits long on at changes = absurd on
segment-held true (Some i) room views after segment place change fits long on at changes =
    rw (changes, at) (segment-held-at i views segment change on (let within = (fits i refl).within in omega arith))

option_map-format : (segment : ℕ) (h : Option Cartridge) → option_map (λ c. with_segment c segment formatted_view) h ≡ effect
    (FormatSegment segment) h
option_map-format segment None = refl
option_map-format segment (Some c) = refl

pub format-held : (told : Bool) (info : Option TapeInfo) (room : ℕ) (views after : List SectorView) (segment place : ℕ) →
    ForSome info (FitsRoom room) → length views ≡ 896 * room → IsOn told info segment 0 → place ≡ place_of segment 0 →
    after ≡ changed_from views place formatted_view → held info after ≡ effect (FormatSegment segment) (held info views)
format-held told info room views after segment place fits long on at formatted =
    segment-held told info room views after segment place formatted_view fits long on at formatted
    ∙ option_map-format segment (held info views)
