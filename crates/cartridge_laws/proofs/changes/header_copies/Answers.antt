use Rattle.cartridge_laws.proofs.ChangeClean.{worn_is_clean, worn_is_bare, spoiled_is_clean, spoiled_is_bare, protected_is_clean}
use Rattle.cartridge_laws.proofs.ChangeClean.{protected_is_bare, referenced_is_clean, referenced_is_bare}
use Rattle.cartridge_laws.proofs.changes.header_copies.Goals as goal

pub returns-clause-worn_is_clean : goal.returns-clause-worn_is_clean
returns-clause-worn_is_clean c = worn_is_clean

pub returns-clause-worn_is_bare : goal.returns-clause-worn_is_bare
returns-clause-worn_is_bare c = worn_is_bare

pub returns-clause-spoiled_is_clean : goal.returns-clause-spoiled_is_clean
returns-clause-spoiled_is_clean c = spoiled_is_clean

pub returns-clause-spoiled_is_bare : goal.returns-clause-spoiled_is_bare
returns-clause-spoiled_is_bare c = spoiled_is_bare

pub returns-clause-protected_is_clean : goal.returns-clause-protected_is_clean
returns-clause-protected_is_clean c = protected_is_clean

pub returns-clause-protected_is_bare : goal.returns-clause-protected_is_bare
returns-clause-protected_is_bare c = protected_is_bare

pub returns-clause-referenced_is_clean : goal.returns-clause-referenced_is_clean
returns-clause-referenced_is_clean c = referenced_is_clean

pub returns-clause-referenced_is_bare : goal.returns-clause-referenced_is_bare
returns-clause-referenced_is_bare c = referenced_is_bare
