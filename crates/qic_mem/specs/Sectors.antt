-- The views of sectors, one after another, and a change of one of them or of 32 (this project's profile).
use Rattle.std.specs.Prelude.{ℕ, ◌+◌, List, ◌++◌, take, drop, map, All, slice_get, slice_set, unwrap_or}
use Rattle.std.specs.Coded.{Unit-prop, le_prop}
use Rattle.std.proofs.Math.Nat.{ℕ_set}
use Rattle.qic_base.specs.declared.tape.SectorView.{SectorView}
use Rattle.qic_base.specs.declared.tape.SectorView.TheVariants.{Blank, Defect, Lost, Holds}
use Rattle.qic_base.specs.CartridgeTerms.{IsView}

-- the view at a place
abbrev pub view_in : List SectorView → ℕ → SectorView
view_in views place = unwrap_or (slice_get views place) Blank

-- the view at a place is changed
abbrev pub changed_at : List SectorView → ℕ → (SectorView → SectorView) → List SectorView
changed_at views place change = slice_set views place (change (view_in views place))

-- the 32 views from a place on are changed
abbrev pub changed_from : List SectorView → ℕ → (SectorView → SectorView) → List SectorView
changed_from views first change = take first views ++ map change (take 32 (drop first views)) ++ drop (first + 32) views

-- that a view is one has one proof at most
IsView-prop : (view : SectorView) → IsProp (IsView view)
IsView-prop Blank = Unit-prop
IsView-prop Defect = Unit-prop
IsView-prop Lost = Unit-prop
IsView-prop (Holds bytes) = hlevel (le_prop, ℕ_set)

pub views_prop : (views : List SectorView) → IsProp (All IsView views)
views_prop views = hlevel IsView-prop
