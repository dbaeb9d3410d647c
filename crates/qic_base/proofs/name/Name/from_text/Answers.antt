use Rattle.std.proofs.Common.{◌++◌, length, ap}
use Rattle.std.proofs.lemmas.List.{drop-replicate}
use Rattle.qic_base.specs.Field.{filled}
use Rattle.qic_base.proofs.name.Name.from_text.Goals as goal

pub returns-clause-bytes : goal.returns-clause-bytes
unfolding filled
returns-clause-bytes c =
    rw c.copy_from_slice.ensures.after (ap (λ rest. c.args.text.now ++ rest) (drop-replicate (length c.args.text.now) 44 0x20))
