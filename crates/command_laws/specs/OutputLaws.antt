-- What follows of the acts of a volume that was given, as facts.
use Rattle.std.specs.Prelude.{ℕ, List, length, ◌≡◌, Bool, [], ◌≤◌, take}
use Rattle.cartridge_spec.specs.Volumes.{carrying}
use Rattle.command_laws.specs.OutputText.{AreOf, printed}
use Rattle.command_spec.specs.Restore.{Piece, pieces_of, GivingEnd, Restores}
use Rattle.command_laws.specs.RestoreTerms.{EndsAt, bytes_held}
use Rattle.qic_base.specs.Acts.{Act, steps_of, text_of}
use Rattle.qic_base.specs.Cartridge.{Cartridge}

-- the pieces of so many bytes in the segments from one to another
abbrev pub pieces_between : (words : List ℕ) → (start end bytes : ℕ) → List Piece
pieces_between words start end bytes = pieces_of words (carrying words start end) bytes

-- what is said of the acts over any tape follows where the tape tells that they are those of a restore
abbrev pub RestoredAreOf : Type 0
RestoredAreOf =
    (c : Cartridge) (words : List ℕ) (start end bytes : ℕ) (acts : List Act) (ending : GivingEnd) →
    Restores c words (pieces_between words start end bytes) acts ending →
    AreOf (pieces_between words start end bytes) acts × EndsAt (pieces_between words start end bytes) (length acts) ending

-- such acts take no step as they are printed, and are as many
abbrev pub PrintedInNoStep : Type 0
PrintedInNoStep =
    (needed : List Piece) (lined : Bool) (acts : List Act) → AreOf needed acts →
    (steps_of (printed lined needed acts) ≡ []) × (length (printed lined needed acts) ≡ length acts)

-- there is one for each of the first pieces, and their text is as long as these pieces
abbrev pub TextOfFirst : Type 0
TextOfFirst =
    (needed : List Piece) (acts : List Act) → AreOf needed acts →
    (length acts ≤ length needed) × (length (text_of acts) ≡ bytes_held (take (length acts) needed))
