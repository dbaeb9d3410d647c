-- The texts beside a dump, by what was read of them.
use Rattle.std.proofs.Common.{◌*◌, ◌<◌, ℕ, List, [], length, refl}
use Rattle.std.specs.Prelude.{Option, Some, None, Ok}
use Rattle.qic_base.specs.Source.{Meaning}
use Rattle.rescue_map.specs.Mask.{IsMarked}
use Rattle.dump_lists.proofs.Naming.{bad_set}
use Rattle.dump_opening.specs.Inputs.{TellsText}
use Rattle.dump_opening.specs.Texts.{ReadsMap, ReadsBad}

-- ---- the map

pub no_map : {S : Type 0} (m : Meaning S) (text : Option (List ℕ)) (rescued : List ℕ) → TellsText m None text →
    ((q : ℕ) → q < 32 * length rescued → IsMarked rescued q) → ReadsMap text rescued (Ok tt)
no_map m None rescued tells all = (refl, all)
no_map m (Some text) rescued tells all = absurd tells

-- ---- the bad sectors

pub no_bad : {S : Type 0} (m : Meaning S) (text : Option (List ℕ)) (words : List ℕ) → TellsText m None text →
    ((q : ℕ) → IsMarked words q → ⊥) → ReadsBad text words (Ok tt)
no_bad m None words tells none =
    (refl, bad_set [] words (λ bit within. ((λ marked. absurd (none bit marked)), (λ is. absurd (cc (is))))))
no_bad m (Some text) words tells none = absurd tells
