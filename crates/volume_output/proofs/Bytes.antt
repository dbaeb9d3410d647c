-- The first bytes of a segment's sectors are those of its data.
use Rattle.std.proofs.Common.{◌≡◌, ℕ, ◌-◌, ◌*◌, ◌≤◌, nat_le, Bool, true, false, cond, List, ◌++◌, length, take, drop, All, sym, ap, ◌∙◌}
use Rattle.std.proofs.Common.{arith, append_assoc}
use Rattle.std.proofs.lemmas.Bool.{le-leb}
use Rattle.std.proofs.lemmas.List.{length-take-le, take-append-le, take-append-drop}
use Rattle.std.proofs.lemmas.List.Elements.{All-take}
use Rattle.qic_base.specs.Cartridge.{IsSector}
use Rattle.cartridge_spec.specs.Code.{IsCodeBlock}
use Rattle.cartridge_laws.specs.Segment.{data_of}
use Rattle.cartridge_laws.specs.Shape.{Carries}
use Rattle.cartridge_spec.specs.Shape.{usable_count, data_count, capacity}
use Rattle.cartridge_laws.proofs.Places.{count_below}
use Rattle.cartridge_spec.specs.Volumes.{bytes_in}
use Rattle.command_laws.proofs.RestoreCounts.{length-bytes_in}
use Rattle.command_laws.proofs.RestoreStanding.{bytes_in-append}

-- a segment's sectors begin with a code block, of which so many bytes are asked
pub record Holds (mask count : ℕ) (sectors : List (List ℕ)) : Type 0 where
  pub carries : Carries mask
  pub within : count ≤ capacity mask
  pub room : length sectors ≡ 32
  pub block : IsCodeBlock (take (usable_count mask) sectors)

module _ (mask count : ℕ) (sectors : List (List ℕ)) (holds : Holds mask count sectors) where
  -- the data of the block
  abbrev pub block_data : List (List ℕ)
  block_data = data_of (take (usable_count mask) sectors)

  -- what stands behind them
  behind : List (List ℕ)
  behind = drop (length (take (usable_count mask) sectors) - 3) (take (usable_count mask) sectors) ++ drop (usable_count mask) sectors

  parted : block_data ++ behind ≡ sectors
  unfolding behind
  parted =
      let block : List (List ℕ) = take (usable_count mask) sectors in
      sym (append_assoc block_data (drop (length block - 3) block) (drop (usable_count mask) sectors))
      ∙ ap (λ (front : List (List ℕ)). front ++ drop (usable_count mask) sectors) (take-append-drop (length block - 3) block)
      ∙ take-append-drop (usable_count mask) sectors

  bytes_parted : bytes_in sectors ≡ bytes_in block_data ++ bytes_in behind
  bytes_parted = ap bytes_in (sym parted) ∙ bytes_in-append block_data behind

  -- they are as many as the segment carries
  enough : count ≤ length (bytes_in block_data)
  enough =
      let n : ℕ = usable_count mask in
      let block : List (List ℕ) = take n sectors in
      let few : n ≤ 32 = count_below mask 32 in
      let room : length sectors ≡ 32 = holds.room in
      let size : length block ≡ n = length-take-le n sectors (omega arith) in
      let data_size : length block_data ≡ length block - 3 = length-take-le (length block - 3) block (omega arith) in
      let are : All IsSector block_data =
      (All-take IsSector (length block - 3) block holds.block.sectors) in
      let long : length (bytes_in block_data) ≡ 1024 * length block_data = length-bytes_in block_data are in
      let carries : 4 ≤ n = holds.carries in
      let all : capacity mask ≡ 1024 * data_count mask =
      ap (λ (b : Bool). cond b (1024 * data_count mask) 0) (le-leb 4 n carries) in
      let within : count ≤ capacity mask = holds.within in
      omega arith

  pub data_bytes : take count (bytes_in sectors) ≡ take count (bytes_in block_data)
  data_bytes = ap (take count) bytes_parted ∙ take-append-le count (bytes_in block_data) (bytes_in behind) enough

  pub count_of_bytes : length (take count (bytes_in sectors)) ≡ count
  count_of_bytes = ap (λ (bytes : List ℕ). length bytes) data_bytes ∙ length-take-le count (bytes_in block_data) enough

-- a segment carries no more bytes than its sectors have
pub count_within : (mask count : ℕ) → count ≤ capacity mask → count ≤ 1024 * 32
count_within mask count within =
    let few : usable_count mask ≤ 32 = count_below mask 32 in
    let most : capacity mask ≤ 1024 * data_count mask = at_most (nat_le 4 (usable_count mask)) (1024 * data_count mask) in omega arith
  where
    at_most : (b : Bool) (n : ℕ) → cond b n 0 ≤ n
    at_most true n = omega arith
    at_most false n = omega arith
