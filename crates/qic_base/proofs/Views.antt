-- The views of a cartridge of which those of one segment were changed.
use Rattle.std.proofs.Common.{◌≡◌, ℕ, ◌+◌, ◌*◌, List, ◌++◌, take, drop, map, ◌≤◌, length, arith, length-append, length-take, length-drop}
use Rattle.std.proofs.Common.{get_or, ◌<◌, ◌∙◌, ◌-◌, ap}
use Rattle.std.proofs.lemmas.List.{length-map, get_or-take, get_or_append_left, get_or-drop, get_or-append_right, get_or-map}
use Rattle.qic_base.specs.declared.tape.SectorView.{SectorView}
use Rattle.qic_base.specs.CartridgeTerms.{changed_views}
use Rattle.qic_base.specs.declared.tape.SectorView.TheVariants.{Blank}

-- as many as stand before the segment behind it
pub length-part : (views : List SectorView) (segment : ℕ) (change : SectorView → SectorView) → 32 * (segment + 1) ≤ length views →
    length (take (32 * segment) views ++ map change (take 32 (drop (32 * segment) views))) ≡ 32 * (segment + 1)
length-part views segment change within = simp (length-append, length-map, length-take, length-drop) (omega arith)

-- the views before the segment are as they were
pub get-below : (views : List SectorView) (segment place : ℕ) (change : SectorView → SectorView) →
    32 * (segment + 1) ≤ length views → place < 32 * segment →
    get_or (changed_views views segment change) place Blank ≡ get_or views place Blank
get-below views segment place change within below =
    let front : List SectorView = take (32 * segment) views in
    let long : length front ≡ 32 * segment = simp length-take (omega arith) in
    let middle : List SectorView = map change (take 32 (drop (32 * segment) views)) in
    get_or_append_left (front ++ middle) (drop (32 * (segment + 1)) views) Blank place
    (omega (arith, length-part views segment change within))
    ∙ get_or_append_left front middle Blank place (omega arith)
    ∙ get_or-take (32 * segment) views place Blank below

-- and those behind it
pub get-above : (views : List SectorView) (segment place : ℕ) (change : SectorView → SectorView) →
    32 * (segment + 1) ≤ length views → 32 * (segment + 1) ≤ place →
    get_or (changed_views views segment change) place Blank ≡ get_or views place Blank
get-above views segment place change within above =
    let sum : 32 * (segment + 1) + (place - 32 * (segment + 1)) ≡ place = omega arith in
    get_or-append_right (take (32 * segment) views ++ map change (take 32 (drop (32 * segment) views)))
    (drop (32 * (segment + 1)) views) (32 * (segment + 1)) place Blank (length-part views segment change within) above
    ∙ get_or-drop (32 * (segment + 1)) views (place - 32 * (segment + 1)) Blank
    ∙ ap (λ p. get_or views p Blank) sum

-- and those of the segment are changed
pub get-within : (views : List SectorView) (segment sector : ℕ) (change : SectorView → SectorView) →
    32 * (segment + 1) ≤ length views → sector < 32 →
    get_or (changed_views views segment change) (32 * segment + sector) Blank
    ≡ change (get_or views (32 * segment + sector) Blank)
get-within views segment sector change within in_segment =
    let front : List SectorView = take (32 * segment) views in
    let part : List SectorView = take 32 (drop (32 * segment) views) in
    let long : length front ≡ 32 * segment = simp length-take (omega arith) in
    let some : length part ≡ 32 = simp (length-take, length-drop) (omega arith) in
    let left : 32 * segment + sector - 32 * segment ≡ sector = omega arith in
    get_or_append_left (front ++ map change part) (drop (32 * (segment + 1)) views) Blank (32 * segment + sector)
    (omega (arith, length-part views segment change within))
    ∙ get_or-append_right front (map change part) (32 * segment) (32 * segment + sector) Blank long (omega arith)
    ∙ ap (λ p. get_or (map change part) p Blank) left
    ∙ get_or-map change part sector Blank Blank (omega arith)
    ∙ ap change (get_or-take 32 (drop (32 * segment) views) sector Blank in_segment
    ∙ get_or-drop (32 * segment) views sector Blank)
