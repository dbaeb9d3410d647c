use Rattle.salvage_laws.proofs.Flags.{append_adds_none, empty_has_none}
use Rattle.salvage_laws.proofs.uncompressed.appends_are_uncompressed.Goals as goal

pub returns : goal.returns
returns c = record { empty = empty_has_none; appended = append_adds_none }
