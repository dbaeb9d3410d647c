-- What the calls that read a segment find, by their answers (this project's own). Its sectors stand at the first places.
use Rattle.std.specs.Prelude.{◌≡◌, ◌<◌, ◌≤◌, ◌^◌, ◌↔◌, ℕ, List, length, take, Result, Ok, Err, IfOk, OnOk, OnErr}
use Rattle.qic_base.specs.CartridgeTerms.{is_lost}
use Rattle.qic_base.specs.declared.tape.SectorView.{SectorView}
use Rattle.cartridge_spec.specs.Code.{IsCodeBlock}
use Rattle.cartridge_spec.specs.Shape.{usable_count}
use Rattle.gf256_qic.specs.Code.{AgreesOutside, IsSolvable}
use Rattle.erasure_solve.specs.Lost.{lost_count}
use Rattle.cartridge_spec.specs.Says.{Data, LostSectors, Says, Agrees}
use Rattle.cartridge_laws.specs.Segment.{data_of}
use Rattle.cartridge_spec.specs.Says as saying
use Rattle.segment_solve.specs.declared.fault.SegFault.{SegFault}
use Rattle.segment_solve.specs.declared.fault.SegFault.TheVariants.{Lost, Mismatch}

-- the first sectors are the code block of the cells, and the cells say its data
pub record HasSolved (cells : List SectorView) (sectors : List (List ℕ)) : Type 0 where
  pub says : Says cells (Data (data_of (take (length cells) sectors)))
  pub agrees : Agrees cells (take (length cells) sectors)

-- The answer is what the cells of a segment say: their data, which the sectors have, or why they have none.
abbrev pub Solves : {A : Type 0} (segment : ℕ) (cells : List SectorView) (sectors : List (List ℕ)) → Result A SegFault → Type 0
Solves segment cells sectors (Ok answer) = HasSolved cells sectors
Solves segment cells sectors (Err (Lost named lost)) = (named ≡ segment) × Says cells (LostSectors lost)
Solves segment cells sectors (Err (Mismatch named)) = (named ≡ segment) × Says cells saying.Mismatch

-- ---- where nothing is known of the cells

-- what a reading may answer
pub record IsRead (segment usable : ℕ) (sectors : List (List ℕ)) (answer : Result ℕ SegFault) : Type 0 where
  -- the lost places lie below the number of usable sectors
  pub within : IfOk answer (λ lost. lost < 2 ^ usable_count usable)
  pub block : OnOk answer (IsCodeBlock (take (usable_count usable) sectors))
  pub many : (named n : ℕ) → answer ≡ Err (Lost named n) → (named ≡ segment) × (3 < n) × (n ≤ 32)
  pub mismatch : (named : ℕ) → answer ≡ Err (Mismatch named) → named ≡ segment

-- how many sectors were lost, and whether a code block agrees with the others, decides what solving them answers
pub record IsSolved (segment usable lost : ℕ) (old new : List (List ℕ)) (answer : Result (Unit {0}) SegFault) : Type 0 where
  pub block : OnOk answer (IsCodeBlock (take (usable_count usable) new))
  pub others : OnOk answer (AgreesOutside (is_lost lost) (take (usable_count usable) old) (take (usable_count usable) new))
  pub many : (named n : ℕ) → (answer ≡ Err (Lost named n)) ↔ ((named ≡ segment) × (lost_count lost ≡ n) × (3 < n))
  pub mismatch : (named : ℕ) → (answer ≡ Err (Mismatch named))
      ↔ ((named ≡ segment) × (lost_count lost ≤ 3) × ¬ (IsSolvable (is_lost lost) (take (usable_count usable) old)))
  pub unchanged : OnErr answer (new ≡ old)
