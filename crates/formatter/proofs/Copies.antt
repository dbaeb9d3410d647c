-- The writes of a header copy, as parts of the block.
use Rattle.std.proofs.Common.{◌≡◌, ℕ, refl, sym, ◌∙◌, ap, List, ◌++◌, length, take, drop}
use Rattle.std.specs.List.{range_with_len}
use Rattle.std.proofs.lemmas.List.{take_at}
use Rattle.cartridge_spec.specs.Code.{parity_sectors}
use Rattle.qic_base.specs.Cartridge.{lost_places}
use Rattle.cartridge_spec.specs.Shape.{usable_places, usable_count}
use Rattle.cartridge_laws.proofs.FormatPlaces.{copy_writes_by_places}
use Rattle.cartridge_spec.specs.Formatting.{copy_writes}
use Rattle.cartridge_spec.specs.Says.{with_parity}
use Rattle.cartridge_laws.specs.Writes.{named_writes}
use Rattle.qic_base.proofs.Arrays.{lent}

-- all 32 sectors are usable
all_places : usable_places 4294967295 ≡ range_with_len 0 32
unfolding lost_places
all_places = refl

pub all_count : usable_count 4294967295 ≡ 32
all_count = ap (λ (l : List ℕ). length l) all_places

pub copy_is : (copy : ℕ) (sectors : List (List ℕ)) → length sectors ≡ 32 →
    named_writes copy 4294967295 4294967294 sectors ++ named_writes copy 4294967295 1 sectors ≡ copy_writes copy sectors
copy_is copy sectors size = sym (copy_writes_by_places copy sectors size)

-- ---- the block

-- the data sectors are the first 29 of the block
pub block_data : (area : List (List ℕ)) → length area ≡ 29 → take 29 (with_parity area) ≡ area
block_data area size = take_at area (parity_sectors area) 29 size

pub lent_room : (left old : List (List ℕ)) → length left ≡ 32 → length (take 32 (left ++ drop (length left) old)) ≡ 32
lent_room left old size = ap (λ (l : List (List ℕ)). length l) (lent left old size) ∙ size
