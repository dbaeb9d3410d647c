-- How the bytes of a volume went from its segments to a sink (this project's own).
use Rattle.std.specs.Prelude.{Bool, true, false, List, ◌≡◌, [], ◌∷◌, length}
use Rattle.command_spec.specs.Restore.{Piece, framed}
use Rattle.qic_base.specs.Acts.{Act}

-- the acts as they are printed: each behind a line with its number of bytes, or alone
abbrev pub printed : (lined : Bool) → List Piece → List Act → List Act
printed true needed acts = framed needed acts
printed false needed acts = acts

-- acts of the first of some pieces, one for each: no step, and as many bytes as the piece holds
abbrev pub AreOf : List Piece → List Act → Type 0
AreOf needed [] = Unit {0}
AreOf [] (act ∷ acts) = ⊥
AreOf (piece ∷ needed) (act ∷ acts) = (act.steps ≡ []) × (length act.text ≡ piece.count) × AreOf needed acts
