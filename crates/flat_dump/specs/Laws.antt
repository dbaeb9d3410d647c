-- The laws of flat dumps (this project's own).
use Rattle.std.specs.Prelude.{◌≡◌, ◌↔◌, ℕ, ◌*◌, ◌/◌, ◌<◌, ◌≤◌, List, length, All, Option, Some, None}
use Rattle.qic_base.specs.Cartridge.{Cartridge, IsLength}
use Rattle.qic_base.specs.CartridgeTerms.{IsCartridge}
use Rattle.cartridge_spec.specs.Volumes.{Plain, Stands}
use Rattle.rescue_map.specs.declared.form.Block.{Block}
use Rattle.rescue_map.specs.Map.{Blocks, Rescued, reading_of}
use Rattle.rescue_map.specs.Mask.{IsMarked, IsMaskOf}
use Rattle.flat_dump.specs.Dump.{dump_of}
use Rattle.flat_dump.specs.Held.{IsHeld, map_of}
use Rattle.flat_dump.specs.Imported.{IsImported, imported_by, brought_back}

-- a dump has 917,504 bytes for each segment per track
abbrev pub DumpIsWhole : Type 0
DumpIsWhole = (c : Cartridge) → IsCartridge c → length (dump_of c) ≡ 917504 * c.info.segments_per_track

-- the map of a cartridge reads, and rescues just the bytes of the sectors that hold some
pub record MapTells (c : Cartridge) : Type 0 where
  pub blocks : List Block
  pub reading : reading_of (map_of c) ≡ Blocks blocks
  pub rescued : (byte : ℕ) → byte < 917504 * c.info.segments_per_track → (Rescued blocks byte ↔ IsHeld c (byte / 1024))

abbrev pub EachMapTells : Type 0
EachMapTells = (c : Cartridge) → IsCartridge c → MapTells c

-- a dump and a map are imported as one cartridge
abbrev pub ImportsOne : Type 0
ImportsOne =
    (dump : List ℕ) (blocks : Option (List Block)) (n : ℕ) (c d : Cartridge) →
    IsImported dump blocks n c → IsImported dump blocks n d → c ≡ d

-- it is a whole one, and each mask of the sectors that were rescued tells it
abbrev pub ImportIsWhole : Type 0
ImportIsWhole =
    (dump : List ℕ) (blocks : Option (List Block)) (n : ℕ) (c : Cartridge) → All (λ b. b < 256) dump → IsLength n →
    IsImported dump blocks n c → IsCartridge c

abbrev pub MaskImports : Type 0
MaskImports =
    (dump mask : List ℕ) (blocks : List Block) (n : ℕ) → 28 * n ≤ length mask → IsMaskOf blocks mask →
    IsImported dump (Some blocks) n (imported_by dump mask n)

-- without a map a mask of all sectors tells it
abbrev pub FullMaskImports : Type 0
FullMaskImports =
    (dump mask : List ℕ) (n : ℕ) → 28 * n ≤ length mask → ((sector : ℕ) → sector < 32 * length mask → IsMarked mask sector) →
    IsImported dump None n (imported_by dump mask n)

-- the dump and the map of a cartridge bring it back, each sector that held nothing as a lost one
abbrev pub BringsBack : Type 0
BringsBack =
    (c : Cartridge) (blocks : List Block) → IsCartridge c → reading_of (map_of c) ≡ Blocks blocks →
    IsImported (dump_of c) (Some blocks) c.info.segments_per_track (brought_back c)

-- what comes back stands for what the cartridge stood for
abbrev pub StandsAgain : Type 0
StandsAgain =
    (c d : Cartridge) (blocks : List Block) (plain : Plain) → IsCartridge c → reading_of (map_of c) ≡ Blocks blocks → Stands c plain →
    IsImported (dump_of c) (Some blocks) c.info.segments_per_track d → Stands d plain
