-- What a call of a tape in memory leaves, by how it ended (this project's profile).
use Rattle.std.specs.Prelude.{ℕ, Bool, List, [], ◌∷◌, Option, Some, None, if◌then◌else◌}
use Rattle.std.specs.Option.{option_map}
use Rattle.qic_base.specs.Cartridge.{Cartridge}
use Rattle.qic_base.specs.CartridgeTerms.{with_segment}
use Rattle.qic_base.specs.Step.{Step, NewSector, WriteSectors, FormatSegment, Renew, Upgrade, effect, with_worn, worn_view}
use Rattle.qic_mem.specs.declared.tape.outcome.Outcome.{Outcome}
use Rattle.qic_mem.specs.declared.tape.outcome.Outcome.TheVariants.{Old, Lost, New}
use Rattle.qic_mem.specs.declared.tape.outcome.End.{End}
use Rattle.qic_mem.specs.declared.tape.outcome.End.TheVariants.{Done, Failed}

-- the cartridge with each of these sectors lost
abbrev pub with_all_worn : (segment : ℕ) → List NewSector → Cartridge → Cartridge
with_all_worn segment [] c = c
with_all_worn segment (new ∷ more) c = with_all_worn segment more (with_worn segment new.sector c)

-- something is lost: each written sector, each readable sector of the segment, or the cartridge; any other call leaves all
-- as it was
abbrev pub lost_by : Step → Option Cartridge → Option Cartridge
lost_by (WriteSectors segment new) held = option_map (with_all_worn segment new) held
lost_by (FormatSegment segment) held = option_map (λ c. with_segment c segment worn_view) held
lost_by (Renew n) held = None
lost_by s held = held

-- what a failing call leaves: all as it was, something lost, or the step done
abbrev pub left_by : Outcome → Step → Option Cartridge → Option Cartridge
left_by Old s held = held
left_by Lost s held = lost_by s held
left_by New s held = effect s held

-- what a call leaves that ended so
abbrev pub ended : End → Step → Option Cartridge → Option Cartridge
ended Done s held = effect s held
ended (Failed outcome) s held = left_by outcome s held

-- the size told after a call: a new cartridge tells its own; that, or an upgrade, that failed leaves none
abbrev pub size_ended : Step → Bool → Option ℕ → Option ℕ
size_ended (Renew n) failed size = if failed then None else Some n
size_ended Upgrade failed size = if failed then None else size
size_ended s failed size = size
