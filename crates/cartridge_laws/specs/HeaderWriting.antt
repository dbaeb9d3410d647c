-- Fields written into a sector (this project's profile).
use Rattle.std.specs.Prelude.{ℕ, List, ◌≡◌, ◌<◌, ◌^◌, length, [], ◌∷◌}
use Rattle.cartridge_spec.specs.Header.{Value, Number, Text, Field, Header, number}
use Rattle.cartridge_laws.specs.HeaderTerms.{text}
use Rattle.qic_base.specs.Field.{little_endian_bytes, overwritten}

-- the bytes that a value has in a field
abbrev pub value_bytes : ℕ → Value → List ℕ
value_bytes width (Number value) = little_endian_bytes width value
value_bytes width (Text bytes) = bytes

-- the value has its place in a field of this width
abbrev pub HasRoom : ℕ → Value → Type 0
HasRoom width (Number value) = value < 256 ^ width
HasRoom width (Text bytes) = length bytes ≡ width

-- the field's value has its place in it
abbrev pub FieldFits : Field → Type 0
FieldFits field = HasRoom field.width field.value

-- the sector with the fields written over one after the other
abbrev pub with_fields : List Field → List ℕ → List ℕ
with_fields [] sector = sector
with_fields (field ∷ fields) sector = with_fields fields (overwritten sector field.offset (value_bytes field.width field.value))

-- the fields that a header tells beside the segments per track, which the profile's fields have
abbrev pub told_fields : Header → List Field
told_fields h =
    number 14 4 h.format_date
    ∷ number 18 4 h.write_date
    ∷ text 30 44 h.label
    ∷ number 74 4 h.label_date
    ∷ []
