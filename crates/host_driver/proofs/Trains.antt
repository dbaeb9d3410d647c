-- Units of which the drive alone changed, and answers of gaps.
use Rattle.std.proofs.Common.{◌≡◌, List, [], ◌∷◌, refl, ap, ◌∙◌, Result, Ok, Err, IsOk, OnErr}
use Rattle.qic_base.specs.Step.{Step}
use Rattle.drive_spec.specs.Record.{Record}
use Rattle.drive_states.specs.Unit.{UnitView}

pub OnErr-second : {T E : Type 0} (r : Result T E) (P Q : Type 0) → OnErr r (P × Q) → OnErr r Q
OnErr-second (Ok x) P Q h = tt
OnErr-second (Err e) P Q h = h.1

-- a unit of which the drive alone changed
pub same_tape : {T : Type 0} (old new : UnitView T) (d : Record) → new.drive ≡ d → new.tape ≡ old.tape → new ≡ record old { drive = d }
same_tape {T = T} old new d drive tape =
    ap (λ (r : Record). record new { drive = r }) drive ∙ ap (λ (t : T). record new { drive = d; tape = t }) tape

-- a gap that does nothing to the cartridge doesn't fail
pub IsOk-reads : {E : Type 0} (r : Result (Unit {0}) E) (steps : List Step) (s : Step) (P : Type 0) → steps ≡ [] →
    OnErr r ((steps ≡ s ∷ []) × P) → IsOk r
IsOk-reads (Ok x) steps s P none h = refl
IsOk-reads (Err e) steps s P none h = let some = h.0 in cc
