use Rattle.flat_dump.proofs.Coming.{imports_one}
use Rattle.flat_dump.proofs.Masked.{full_mask_imports, import_is_whole, mask_imports}
use Rattle.flat_dump.proofs.laws.imports_are_one.Goals as goal

pub returns : goal.returns
returns c = record { one = imports_one; whole = import_is_whole; by_mask = mask_imports; unmasked = full_mask_imports }
