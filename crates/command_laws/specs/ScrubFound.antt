-- A cartridge while it is scrubbed in either form, by what is found on it before the first write (this project's profile).
use Rattle.std.specs.Prelude.{◌≡◌, ℕ, ◌<◌, List, [], ◌∷◌, ◌⊎◌}
use Rattle.cartridge_spec.specs.Shape.{IsLive}
use Rattle.command_laws.specs.ScrubMended.{IsMended}
use Rattle.command_spec.specs.Scrub.{Looked, Finding, without}
use Rattle.command_laws.specs.ScrubTerms.{Finds, find_act}
use Rattle.command_spec.specs.declared.depth.Depth.{Depth}
use Rattle.qic_base.specs.Acts.{Act}
use Rattle.qic_base.specs.Cartridge.{Cartridge, view_at}
use Rattle.qic_base.specs.declared.tape.SectorView.TheVariants.{Lost, Holds}

-- this is found of each of these segments
abbrev pub FindAtOnce : Depth → Cartridge → List Looked → List Finding → Type 0
FindAtOnce depth c [] [] = Unit {0}
FindAtOnce depth c [] (f ∷ fs) = ⊥
FindAtOnce depth c (l ∷ ls) [] = ⊥
FindAtOnce depth c (l ∷ ls) (f ∷ fs) = Finds depth c l f × FindAtOnce depth c ls fs

-- and the acts that follow from that
abbrev pub finds_at_once : Cartridge → List Looked → List Finding → List Act
finds_at_once c [] fs = []
finds_at_once c (l ∷ ls) [] = []
finds_at_once c (l ∷ ls) (f ∷ fs) = find_act c l f ∷ finds_at_once c ls fs

-- the cartridge with all wrong sectors lost
abbrev pub without_all : Cartridge → List Looked → List Finding → Cartridge
without_all c [] fs = c
without_all c (l ∷ ls) [] = c
without_all c (l ∷ ls) (f ∷ fs) = without_all (without f.wrong l c) ls fs

-- A sector that is written: one to be mended where the wrong sectors are lost, which takes what is written to it. It is lost,
-- or holds its sector of the block.
pub record HasBeenWritten (looked : List Looked) (seen c d : Cartridge) (segment sector : ℕ) : Type 0 where
  pub bytes : List ℕ
  pub mended : IsMended seen looked segment sector bytes
  pub live : IsLive (view_at c segment sector)
  pub became : (view_at d segment sector ≡ Lost) ⊎ (view_at d segment sector ≡ Holds bytes)

-- the marks are as they were, and so is each sector, but for such ones
pub record IsBeingScrubbed (looked : List Looked) (seen c d : Cartridge) : Type 0 where
  pub info : d.info ≡ c.info
  pub each : (segment sector : ℕ) → sector < 32 →
      (view_at d segment sector ≡ view_at c segment sector) ⊎ HasBeenWritten looked seen c d segment sector
