-- Writes to some sectors change no others, done or stopped.
use Rattle.std.proofs.Common.{ℕ, ◌<◌, List, [], ◌∷◌, ◌++◌, ◌≡◌, refl, ◌∙◌, sym, subst, Option, Some, IsSomeAnd, suc, length}
use Rattle.std.proofs.Common.{get_or, arith, Contains, take, drop, All}
use Rattle.std.proofs.lemmas.List.Elements.{All-head, All-tail, Contains-get_or, All-weaker}
use Rattle.cartridge_laws.proofs.FormatViews.{view_of_other_sector}
use Rattle.cartridge_laws.proofs.Places.{AreSmall, usable_small}
use Rattle.cartridge_laws.proofs.WritesKeep.{KeepsEach, writes_keep, torn_writes_keep}
use Rattle.cartridge_laws.specs.AppendSteps.{parts_writes}
use Rattle.cartridge_laws.specs.AppendWrites.{EachIs, IsWrite, AreWrites}
use Rattle.cartridge_spec.specs.Appending.{part_writes, new_sectors}
use Rattle.cartridge_spec.specs.Says.{with_parity}
use Rattle.cartridge_spec.specs.Settling.{changed_by}
use Rattle.cartridge_spec.specs.Shape.{mask_at, usable_places, data_count}
use Rattle.cartridge_spec.specs.Volumes.{Part, parts_of}
use Rattle.qic_base.specs.Cartridge.{Cartridge, view_at, with_view}
use Rattle.qic_base.specs.Step.{Step, NewSector, written_view, worn_view, Torn}
use Rattle.qic_base.specs.declared.tape.SectorView.{SectorView}

-- ---- steps

-- a sector that may be written
abbrev pub IsAllowed : (allowed : ℕ → ℕ → Type 0) → (segment sector : ℕ) → List ℕ → Type 0
IsAllowed allowed segment sector bytes = allowed segment sector × (sector < 32)

-- some of a segment
abbrev pub EachIn : (allowed : ℕ → ℕ → Type 0) → (segment : ℕ) → List NewSector → Type 0
EachIn allowed segment new = EachIs (IsAllowed allowed) segment new

-- a write to such sectors
abbrev pub IsIn : (allowed : ℕ → ℕ → Type 0) → Step → Type 0
IsIn allowed s = IsWrite (IsAllowed allowed) s

abbrev pub AreIn : (allowed : ℕ → ℕ → Type 0) → List Step → Type 0
AreIn allowed ss = AreWrites (IsAllowed allowed) ss

pub in_append : (allowed : ℕ → ℕ → Type 0) (xs ys : List Step) → AreIn allowed xs → AreIn allowed ys → AreIn allowed (xs ++ ys)
in_append allowed [] ys front rear = rear
in_append allowed (x ∷ xs) ys front rear = (front.0, in_append allowed xs ys front.1 rear)

-- nothing but such sectors changed
pub record IsKeptBut (allowed : ℕ → ℕ → Type 0) (c d : Cartridge) : Type 0 where
  pub info : d.info ≡ c.info
  pub others : (s i : ℕ) → i < 32 → (allowed s i → ⊥) → view_at d s i ≡ view_at c s i

pub kept_begun : (allowed : ℕ → ℕ → Type 0) (c : Cartridge) → IsKeptBut allowed c c
kept_begun allowed c = record { info = refl; others = λ s i h other. refl }

pub kept_then : {allowed : ℕ → ℕ → Type 0} {c d e : Cartridge} → IsKeptBut allowed c d → IsKeptBut allowed d e → IsKeptBut allowed c e
kept_then first next = record {
  info = next.info ∙ first.info;
  others = λ s i h other. next.others s i h other ∙ first.others s i h other;
}

view_kept : (allowed : ℕ → ℕ → Type 0) (c : Cartridge) (segment sector : ℕ) (view : SectorView) → allowed segment sector → sector < 32 →
    IsKeptBut allowed c (with_view c segment sector view)
view_kept allowed c segment sector view is small = record {
  info = refl;
  others = λ s i h other.
      view_of_other_sector c segment sector s i view small h
      (λ same e. other (subst (λ (t : ℕ). allowed t i) (sym same) (subst (allowed segment) e is)));
}

-- that stays so where one of them is written, or lost
pub kept_by_each : (allowed : ℕ → ℕ → Type 0) (c : Cartridge) → KeepsEach (IsAllowed allowed) (IsKeptBut allowed c)
kept_by_each allowed c segment new is = record {
  worn = λ d kept. kept_then kept (view_kept allowed d segment new.sector (worn_view (view_at d segment new.sector)) is.0 is.1);
  written = λ d kept.
      kept_then kept (view_kept allowed d segment new.sector (written_view new.bytes (view_at d segment new.sector)) is.0 is.1);
}

pub steps_kept : (allowed : ℕ → ℕ → Type 0) (ss : List Step) (c : Cartridge) → AreIn allowed ss → IsKeptBut allowed c (changed_by ss c)
steps_kept allowed ss c are =
    writes_keep (IsAllowed allowed) (IsKeptBut allowed c) ss c (kept_by_each allowed c) are (kept_begun allowed c)

pub steps_stopped : (allowed : ℕ → ℕ → Type 0) (ss : List Step) (c : Cartridge) (left : Option Cartridge) → AreIn allowed ss →
    Torn ss (Some c) left → IsSomeAnd left (IsKeptBut allowed c)
steps_stopped allowed ss c left are torn =
    torn_writes_keep (IsAllowed allowed) (IsKeptBut allowed c) ss c left (kept_by_each allowed c) are (kept_begun allowed c) torn

-- ---- the writes of segments

-- new sectors at such places
pub each_in : (allowed : ℕ → ℕ → Type 0) (segment : ℕ) (places : List ℕ) (sectors : List (List ℕ)) →
    ((k : ℕ) → k < length places → allowed segment (get_or places k 0)) → AreSmall places →
    EachIn allowed segment (new_sectors places sectors)
each_in allowed segment [] sectors are small = tt
each_in allowed segment (place ∷ places) [] are small = tt
each_in allowed segment (place ∷ places) (bytes ∷ sectors) are small = (
  (are 0 (omega arith), small 0 (omega arith)),
  each_in allowed segment places sectors (λ k h. are (suc k) (omega arith)) (λ k h. small (suc k) (omega arith)),
)

-- each usable sector of the segment is one
abbrev pub AllowsUsable : (allowed : ℕ → ℕ → Type 0) → (words : List ℕ) → (segment : ℕ) → Type 0
AllowsUsable allowed words segment = (i : ℕ) → Contains (usable_places (mask_at words segment)) i → allowed segment i

pub parts_in : (allowed : ℕ → ℕ → Type 0) (words segments : List ℕ) (area : List (List ℕ)) → All (AllowsUsable allowed words) segments →
    AreIn allowed (parts_writes words (parts_of words segments area))
parts_in allowed words [] area are = tt
parts_in allowed words (s ∷ ss) area are =
    let places : List ℕ = usable_places (mask_at words s) in
    let part : Part = record { segment = s; sectors = take (data_count (mask_at words s)) area } in
    let rest : List Part = parts_of words ss (drop (data_count (mask_at words s)) area) in
    in_append allowed (part_writes words part) (parts_writes words rest) (
      each_in allowed s places (with_parity part.sectors)
          (λ k h. All-head (AllowsUsable allowed words) s ss are (get_or places k 0) (Contains-get_or places k 0 h))
          (usable_small (mask_at words s)),
      tt,
    )
    (parts_in allowed words ss (drop (data_count (mask_at words s)) area) (All-tail (AllowsUsable allowed words) s ss are))

-- whole segments
pub parts_of_segments : (P : ℕ → Type 0) (words segments : List ℕ) (area : List (List ℕ)) → All P segments →
    AreIn (λ s i. P s) (parts_writes words (parts_of words segments area))
parts_of_segments P words segments area are =
    parts_in (λ s i. P s) words segments area (All-weaker P (AllowsUsable (λ s i. P s) words) (λ s is i usable. is) segments are)
