-- Why data are refused as a header (this project's profile).
use Rattle.std.specs.Prelude.{◌≡◌, ℕ, ◌<◌, List, Option, Some, if◌then◌else◌}
use Rattle.std.specs.Option.{option_map}
use Rattle.cartridge_spec.specs.Header as spec
use Rattle.cartridge_spec.specs.Header.{has_signature, header_fault}
use Rattle.header_segments.specs.declared.fault.HeaderFault.{HeaderFault}
use Rattle.header_segments.specs.declared.fault.HeaderFault.TheVariants.{NoSignature, Foreign}
use Rattle.qic_base.specs.declared.foreign.ForeignField.{ForeignField}
use Rattle.qic_base.specs.declared.foreign.ForeignField.TheVariants.{FormatCode, Tracks, TrackMaximum, SectorMaximum}

-- a field's fault as a refusal
abbrev pub foreign : spec.HeaderFault → HeaderFault
foreign fault = Foreign fault.field fault.value

-- the first reason, for a drive that reports this many segments per track: the signature, then the table's tests
abbrev pub refusal : List (List ℕ) → ℕ → Option HeaderFault
refusal area n = if has_signature area then option_map foreign (header_fault area n) else Some NoSignature

-- ---- the values that can stand there

-- a field of one byte, or one of two
abbrev pub FitsField : ForeignField → (value : ℕ) → Type 0
FitsField FormatCode value = value < 256
FitsField Tracks value = value < 256
FitsField TrackMaximum value = value < 256
FitsField SectorMaximum value = value < 256
FitsField field value = value < 65536

-- a refusal names one
abbrev pub IsFitting : HeaderFault → Type 0
IsFitting NoSignature = Unit {0}
IsFitting (Foreign field value) = FitsField field value

-- it is of this field, and names a value below so many
abbrev pub IsBelow : ForeignField → (values : ℕ) → HeaderFault → Type 0
IsBelow field values NoSignature = ⊥
IsBelow field values (Foreign named value) = (named ≡ field) × (value < values)
