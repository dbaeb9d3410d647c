-- The values that a test of a header's field may name.
use Rattle.std.proofs.Common.{◌≡◌, ◌<◌, ℕ, Option, Some, None, IfSome, subst, sym}
use Rattle.std.specs.Option.{option_or}
use Rattle.header_segments.specs.Refusal.{FitsField, IsBelow, IsFitting}
use Rattle.header_segments.specs.declared.fault.HeaderFault.{HeaderFault}
use Rattle.header_segments.specs.declared.fault.HeaderFault.TheVariants.{NoSignature, Foreign}
use Rattle.qic_base.specs.declared.foreign.ForeignField.{ForeignField}

-- the first of two refusals
pub or_fits : (a b r : Option HeaderFault) → r ≡ option_or a b → IfSome a IsFitting → IfSome b IsFitting → IfSome r IsFitting
or_fits None b r is first second = subst (λ (o : Option HeaderFault). IfSome o IsFitting) (sym is) second
or_fits (Some fault) b r is first second = subst (λ (o : Option HeaderFault). IfSome o IsFitting) (sym is) first

-- one of a field
pub field_fits : (field : ForeignField) (values : ℕ) → ((value : ℕ) → value < values → FitsField field value) → (o : Option HeaderFault) →
    IfSome o (IsBelow field values) → IfSome o IsFitting
field_fits field values fits None below = tt
field_fits field values fits (Some NoSignature) below = absurd below
field_fits field values fits (Some (Foreign named value)) below =
    subst (λ (f : ForeignField). FitsField f value) (sym below.0) (fits value below.1)
