-- The sectors of a cartridge that hold bytes, as a mask, and the map that is written of it (this project's own).
use Rattle.std.specs.Prelude.{◌≡◌, ℕ, zero, suc, ◌+◌, ◌*◌, List, [], ◌∷◌, take, drop, slice_index_or}
use Rattle.qic_base.specs.Cartridge.{Cartridge}
use Rattle.qic_base.specs.declared.tape.SectorView.{SectorView}
use Rattle.qic_base.specs.declared.tape.SectorView.TheVariants.{Blank, Defect, Lost, Holds}
use Rattle.rescue_map.specs.Text.{map_text}

-- the sector with this number holds bytes
abbrev pub IsHeld : Cartridge → (sector : ℕ) → Type 0
IsHeld c sector = (bytes : List ℕ) × (slice_index_or c.views sector Blank ≡ Holds bytes)

abbrev pub held_bit : SectorView → ℕ
held_bit Blank = 0
held_bit Defect = 0
held_bit Lost = 0
held_bit (Holds bytes) = 1

-- a bit for each sector, the lowest for the first: 1 where it holds bytes
abbrev pub held_word : List SectorView → ℕ
held_word [] = 0
held_word (view ∷ views) = held_bit view + 2 * held_word views

-- a word for each of so many segments
abbrev pub held_words : (segments : ℕ) → List SectorView → List ℕ
held_words zero views = []
held_words (suc segments) views = held_word (take 32 views) ∷ held_words segments (drop 32 views)

-- 28 tracks of segments (QIC-80-MC)
abbrev pub held_mask : Cartridge → List ℕ
held_mask c = held_words (28 * c.info.segments_per_track) c.views

-- the map of the cartridge
abbrev pub map_of : Cartridge → List ℕ
map_of c = map_text (held_mask c)
