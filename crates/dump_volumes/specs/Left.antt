-- The volumes that a walk over a table has before it (this project's own).
use Rattle.std.specs.Prelude.{ℕ, ◌≡◌, ◌≤◌, ◌<◌, ◌+◌, ◌*◌, List, [], ◌∷◌, drop, length, Option, Some, None}
use Rattle.cartridge_spec.specs.Table.{slot}
use Rattle.dump_spec.specs.Volumes.{slots, volume_slots}
use Rattle.dump_spec.specs.Volumes as volumes
use Rattle.dump_volumes.specs.Volume.{volume_of, told_volumes}
use Rattle.dump_volumes.specs.declared.volume.Volume.{Volume}
use Rattle.dump_volumes.specs.declared.walk.VolumeWalk.{VolumeWalk}

-- the first slot of a volume from one on is at this place
pub record IsNextSlot (area : List (List ℕ)) (from at : ℕ) : Type 0 where
  pub behind : from ≤ at
  pub within : at < 8 * length area
  pub here : volume_slots (drop from (slots area)) ≡ slot area at ∷ volume_slots (drop (at + 1) (slots area))

-- the volumes that were not given yet
abbrev pub left_of : VolumeWalk → (area : List (List ℕ)) → List volumes.Volume
left_of walk area = told_volumes walk.counts walk.first (volume_slots (drop walk.slot (slots area)))

-- how many were given
abbrev pub given_by : VolumeWalk → ℕ
given_by walk = walk.given

-- the next one is given, if one is left
abbrev pub Steps : (area : List (List ℕ)) → (old new : VolumeWalk) → Option Volume → Type 0
Steps area old new None = (left_of old area ≡ []) × (new ≡ old)
Steps area old new (Some volume) = (left_of old area ≡ volume_of volume ∷ left_of new area) × (given_by new ≡ given_by old + 1)
