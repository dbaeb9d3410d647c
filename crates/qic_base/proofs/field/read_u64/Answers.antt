use Rattle.std.proofs.Common.{◌∙◌}
use Rattle.qic_base.proofs.FieldLaws.{little_from-field}
use Rattle.qic_base.proofs.field.read_u64.Goals as goal

pub returns : goal.returns
returns c = c.read_u64.ensures ∙ little_from-field c.args.bytes.now c.args.at 8 c.requires
