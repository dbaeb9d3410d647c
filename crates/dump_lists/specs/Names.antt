-- What a line of a list names, as bits of a mask: a bit a segment that the dump lacks, and 32 bits a segment with bad sectors
-- (this project's own).
use Rattle.std.specs.Prelude.{ℕ, ◌+◌, ◌*◌, ◌&&◌, nat_le, nat_lt, min, List, [], ◌∷◌, map, if◌then◌else◌, Option, Some, None}
use Rattle.std.specs.Option.{option_map}
use Rattle.dump_spec.specs.Lists.{Span, BadSectors, missing_named, bad_named}
use Rattle.dump_lists.specs.declared.names.ListKind.{ListKind}
use Rattle.dump_lists.specs.declared.names.ListKind.TheVariants as kinds
use Rattle.dump_lists.specs.declared.names.Named.{Named}
use Rattle.dump_lists.specs.declared.names.Named.TheVariants.{Nothing, Bits, Fault}
use Rattle.dump_lists.specs.declared.numbers.Numbers.{Numbers}
use Rattle.dump_lists.specs.declared.numbers.Numbers.TheVariants as numbers

-- the bits from one up to another
pub record BitRange : Type 0 where
  pub first : ℕ
  pub end : ℕ

abbrev pub bit_range : (first end : ℕ) → BitRange
bit_range first end = record { first = first; end = end }

-- ---- those that the definitions name

abbrev pub span_bits : Span → BitRange
span_bits span = bit_range span.from (span.to + 1)

-- a segment has 32 sectors
abbrev pub bad_bits : BadSectors → BitRange
bad_bits bad = bit_range (32 * bad.segment + bad.from) (32 * bad.segment + min bad.to 31 + 1)

abbrev pub bits_named : ListKind → List ℕ → Option (List BitRange)
bits_named kinds.Missing ns = option_map (map span_bits) (missing_named ns)
bits_named kinds.Bad ns = option_map (map bad_bits) (bad_named ns)

-- ---- those of the numbers that are kept

abbrev pub missing_by : Numbers → Named
missing_by numbers.Nothing = Nothing
missing_by (numbers.One s) = if nat_lt s 65536 then Bits s (s + 1) else Fault
missing_by (numbers.Two s t) = if nat_le s t && nat_lt t 65536 then Bits s (t + 1) else Fault
missing_by numbers.Bad = Fault

abbrev pub bad_by : Numbers → Named
bad_by numbers.Nothing = Nothing
bad_by (numbers.One s) = if nat_lt s 65536 then Bits (32 * s) (32 * s + 32) else Fault
bad_by (numbers.Two s i) = if nat_lt s 65536 && nat_lt i 32 then Bits (32 * s + i) (32 * s + i + 1) else Fault
bad_by numbers.Bad = Fault

abbrev pub named_by : ListKind → Numbers → Named
named_by kinds.Missing numbers = missing_by numbers
named_by kinds.Bad numbers = bad_by numbers

-- what a line names, as a list
abbrev pub bits_of : Named → Option (List BitRange)
bits_of Nothing = Some []
bits_of (Bits first end) = Some (bit_range first end ∷ [])
bits_of Fault = None
