use Rattle.std.proofs.Common.{◌≡◌, ◌+◌, ℕ, List, length, ◌∙◌, ap, arith}
use Rattle.std.proofs.lemmas.List.Edits.{length-between}
use Rattle.std.specs.List.{slice_range}
use Rattle.qic_base.specs.Field.{number_at}
use Rattle.qic_base.proofs.FieldLaws.{put_mid-field, number_at-overwritten}
use Rattle.qic_base.proofs.field.write_u16.Goals as goal

-- the slice with the field written over
pub returns-clause-whole : goal.returns-clause-whole
returns-clause-whole c =
    let field : List ℕ = slice_range c.args.bytes.now c.args.at (c.args.at + 2) in
    let there : length field ≡ 2 = omega (arith, length-between c.args.bytes.now c.args.at (c.args.at + 2) c.requires) in
    put_mid-field c.args.bytes.now c.write_u16.new.buf field c.args.at 2 c.args.value c.requires there c.write_u16.ensures

pub returns-clause-value : goal.returns-clause-value
returns-clause-value c =
    ap (λ (xs : List ℕ). number_at xs c.args.at 2) (returns-clause-whole c)
    ∙ number_at-overwritten c.args.bytes.now c.args.at 2 c.args.value (omega arith) (omega arith)
