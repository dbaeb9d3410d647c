-- The formats of segments that follow each other; a cartridge that was cleared, and one that was formatted (Linux ftape
-- headers: two header copies; the rest is this project's profile).
use Rattle.std.specs.Prelude.{◌≡◌, ℕ, ◌*◌, ◌<◌, true, ◌≤◌, List, map}
use Rattle.cartridge_spec.specs.Says.{with_parity}
use Rattle.cartridge_spec.specs.Shape.{sector_at}
use Rattle.qic_base.specs.Cartridge.{Cartridge, view_at}
use Rattle.qic_base.specs.Step.{formatted_view, Step, FormatSegment}
use Rattle.qic_base.specs.declared.tape.SectorView.TheVariants.{Holds}
use Rattle.std.specs.List.{range_with_len}

-- so many segments from one on, ascending
abbrev pub formats_from : (first count : ℕ) → List Step
formats_from first count = map (λ s. FormatSegment s) (range_with_len first count)

-- the first segments, ascending
abbrev pub segment_formats : (count : ℕ) → List Step
segment_formats count = formats_from 0 count

-- ---- what the steps make of a cartridge

-- it has its reference bursts, and each sector but the defects holds zero bytes
pub record IsClearedFrom (old new : Cartridge) : Type 0 where
  pub info : new.info ≡ record old.info { referenced = true }
  pub sectors : (segment index : ℕ) → segment < 28 * old.info.segments_per_track → index < 32 →
      view_at new segment index ≡ formatted_view (view_at old segment index)

-- it has its reference bursts; both header copies can be read throughout, and hold these data and their parity; each
-- other sector but the defects holds zero bytes
pub record IsFormattedFrom (old new : Cartridge) (area : List (List ℕ)) : Type 0 where
  pub info : new.info ≡ record old.info { referenced = true }
  pub copies : (copy index : ℕ) → copy < 2 → index < 32 → view_at new copy index ≡ Holds (sector_at (with_parity area) index)
  pub others : (segment index : ℕ) → 2 ≤ segment → segment < 28 * old.info.segments_per_track → index < 32 →
      view_at new segment index ≡ formatted_view (view_at old segment index)
