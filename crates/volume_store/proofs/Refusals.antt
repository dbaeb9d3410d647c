-- What a mounting refuses of a header or a table is refused with a value that is none of the profile's.
use Rattle.std.proofs.Common.{◌≡◌, ◌≢◌, ◌<◌, ◌==◌, ℕ, true, nat_lt, not, ap}
use Rattle.std.proofs.lemmas.Bool.{lt-ltb, ne_eqb}
use Rattle.command_laws.proofs.StoreTaking.{both_true}
use Rattle.command_spec.specs.Outcome.{is_other, is_refused}
use Rattle.qic_base.specs.declared.foreign.ForeignField.{ForeignField}
use Rattle.cartridge_front.specs.Finding.{IsForeign}
use Rattle.header_segments.specs.Refusal.{FitsField}
use Rattle.qic_base.specs.declared.foreign.ForeignField.TheVariants as foreign_field

other_is : (values right value : ℕ) → value ≢ right → value < values → is_other values right value ≡ true
other_is values right value other fits =
    both_true (nat_lt value values) (not (value == right)) (lt-ltb value values fits) (ap not (ne_eqb value right other))

pub foreign_is_refused : (n : ℕ) (field : ForeignField) (value : ℕ) → IsForeign n field value × FitsField field value →
    is_refused field value ≡ true
foreign_is_refused n foreign_field.FormatCode value is = other_is 256 2 value is.0 is.1
foreign_is_refused n foreign_field.FirstHeader value is = other_is 65536 0 value is.0 is.1
foreign_is_refused n foreign_field.SecondHeader value is = other_is 65536 1 value is.0 is.1
foreign_is_refused n foreign_field.FirstData value is = other_is 65536 2 value is.0 is.1
foreign_is_refused n foreign_field.LastData value is = lt-ltb value 65536 is.1
foreign_is_refused n foreign_field.SegmentsPerTrack value is = lt-ltb value 65536 is.1
foreign_is_refused n foreign_field.Tracks value is = other_is 256 28 value is.0 is.1
foreign_is_refused n foreign_field.TrackMaximum value is = other_is 256 149 value is.0 is.1
foreign_is_refused n foreign_field.SectorMaximum value is = other_is 256 128 value is.0 is.1
foreign_is_refused n foreign_field.Map value is = lt-ltb value 3 is.0
foreign_is_refused n foreign_field.Slot value is = lt-ltb value 232 is.0
foreign_is_refused n foreign_field.Range value is = lt-ltb value 232 is.0
