-- How one segment's part joins those behind it.
use Rattle.std.proofs.Common.{ℕ, suc, List, ◌∷◌, ap}
use Rattle.command_spec.specs.Restore.{Piece, GivingEnd, Restored, LostIn, MismatchIn}
use Rattle.command_laws.specs.RestoreTerms.{EndsAt}

-- ---- an end

pub EndsAt-more : (piece : Piece) (needed : List Piece) (done : ℕ) (ending : GivingEnd) → EndsAt needed done ending →
    EndsAt (piece ∷ needed) (suc done) ending
EndsAt-more piece needed done Restored ends = ap suc ends
EndsAt-more piece needed done (LostIn segment lost) ends = ends
EndsAt-more piece needed done (MismatchIn segment) ends = ends
