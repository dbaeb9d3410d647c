use Rattle.std.proofs.Common.{◌∙◌}
use Rattle.qic_base.proofs.FieldLaws.{little_from-field}
use Rattle.qic_base.proofs.field.read_u32.Goals as goal

pub returns : goal.returns
returns c = c.read_u32.ensures ∙ little_from-field c.args.bytes.now c.args.at 4 c.requires
