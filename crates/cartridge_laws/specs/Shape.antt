-- A segment that carries data, and its places of data and of parity, by the mask of its usable sectors (QIC-80-MC).
use Rattle.std.specs.Prelude.{ℕ, ◌≤◌, List, take, [], drop, nat_le, if◌then◌else◌}
use Rattle.cartridge_spec.specs.Shape.{usable_count, usable_places, data_count}

-- the fewest usable sectors that carry data are four
abbrev pub Carries : ℕ → Type 0
Carries mask = 4 ≤ usable_count mask

-- the sectors that hold data
abbrev pub data_places : ℕ → List ℕ
data_places mask = take (data_count mask) (usable_places mask)

-- the sectors that hold parity: the last three, and none where there is no data
abbrev pub parity_places : ℕ → List ℕ
parity_places mask = if nat_le 4 (usable_count mask) then drop (data_count mask) (usable_places mask) else []
