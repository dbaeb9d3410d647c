-- The laws of maps (this project's own).
use Rattle.std.specs.Prelude.{◌≡◌, ◌≢◌, ◌↔◌, ℕ, ◌*◌, ◌/◌, ◌≤◌, ◌<◌, List, [], ◌∷◌, length}
use Rattle.rescue_map.specs.declared.form.Block.{Block}
use Rattle.rescue_map.specs.Map.{Blocks, reading_of, Rescued}
use Rattle.rescue_map.specs.Mask.{IsMarked}
use Rattle.rescue_map.specs.Text.{runs_of, map_text}

-- a mask has a word for each segment of the longest cartridge at most
abbrev pub most_words : ℕ
most_words = 6888

-- what is written of a mask reads as its runs
abbrev pub ReadsBack : Type 0
ReadsBack = (mask : List ℕ) → length mask ≤ most_words → reading_of (map_text mask) ≡ Blocks (runs_of mask)

-- the runs rescue just the bytes of the sectors in the mask
abbrev pub RescuesMarked : Type 0
RescuesMarked =
    (mask : List ℕ) (byte : ℕ) → length mask ≤ most_words → byte < 32768 * length mask →
    (Rescued (runs_of mask) byte ↔ IsMarked mask (byte / 1024))

-- no two neighbours have one mark
abbrev pub Alternate : List Block → Type 0
Alternate [] = Unit {0}
Alternate (first ∷ []) = Unit {0}
Alternate (first ∷ second ∷ blocks) = (first.mark ≢ second.mark) × Alternate (second ∷ blocks)

-- so each run is as long as it can be
abbrev pub RunsAlternate : Type 0
RunsAlternate = (mask : List ℕ) → Alternate (runs_of mask)
