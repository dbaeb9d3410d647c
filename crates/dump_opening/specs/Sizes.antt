-- The length of a dump, and the segment of its first piece, by the answer (this project's own).
use Rattle.std.specs.Prelude.{ℕ, ◌≡◌, ◌≤◌, ◌<◌, List, length, Result, Ok, Err}
use Rattle.dump_spec.specs.Lists.{Span}
use Rattle.dump_spec.specs.Pieces.{first_segment, most_bytes}
use Rattle.dump_spec.specs.declared.asked.Asked.{Asked}
use Rattle.dump_spec.specs.declared.status.Status.TheVariants as ends
use Rattle.dump_opening.specs.declared.opened.OpenError.{OpenError}
use Rattle.dump_opening.specs.declared.opened.OpenError.TheVariants as error
use Rattle.dump_opening.specs.declared.size.DumpSize.{DumpSize}

-- the most bytes that are taken
abbrev pub most_of : Asked → (bytes : List ℕ) → List Span → ℕ
most_of asked bytes spans = most_bytes asked.form (first_segment asked.form asked.first bytes) spans

-- the dump has so many bytes, and begins there
pub record IsSize (asked : Asked) (bytes : List ℕ) (spans : List Span) (size : DumpSize) : Type 0 where
  pub bytes_are : size.bytes ≡ length bytes
  pub first : size.first ≡ first_segment asked.form asked.first bytes
  pub few : length bytes ≤ most_of asked bytes spans

-- it has too many
pub record IsTooLong (asked : Asked) (bytes : List ℕ) (spans : List Span) : Type 0 where
  pub many : most_of asked bytes spans < length bytes

abbrev pub Measures : Asked → (bytes : List ℕ) → List Span → Result DumpSize OpenError → Type 0
Measures asked bytes spans (Ok size) = IsSize asked bytes spans size
Measures asked bytes spans (Err (error.Refused status)) = IsTooLong asked bytes spans × (status ≡ ends.TooLong (length bytes))
Measures asked bytes spans (Err error.Input) = Unit {0}
