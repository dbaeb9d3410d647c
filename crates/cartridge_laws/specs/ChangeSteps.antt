-- Steps that put in no new cartridge.
use Rattle.std.specs.Prelude.{List, [], ◌∷◌}
use Rattle.qic_base.specs.Step.{Step, WriteSectors, FormatSegment, SetReferenced, SetProtected, Renew, Wear, Spoil, Upgrade}

abbrev pub IsNoRenew : Step → Type 0
IsNoRenew (WriteSectors segment new) = Unit {0}
IsNoRenew (FormatSegment segment) = Unit {0}
IsNoRenew SetReferenced = Unit {0}
IsNoRenew (SetProtected on) = Unit {0}
IsNoRenew (Renew n) = ⊥
IsNoRenew (Wear segment sector) = Unit {0}
IsNoRenew (Spoil segment sector) = Unit {0}
IsNoRenew Upgrade = Unit {0}

abbrev pub HasNoRenew : List Step → Type 0
HasNoRenew [] = Unit {0}
HasNoRenew (s ∷ ss) = IsNoRenew s × HasNoRenew ss
