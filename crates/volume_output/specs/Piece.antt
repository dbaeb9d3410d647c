-- One segment's part of a volume: what is read of it and written (this project's own).
use Rattle.std.specs.Prelude.{ℕ, Bool, true, false, List, ◌++◌, codes, decimal}
use Rattle.qic_base.specs.Acts.{Act}
use Rattle.command_spec.specs.Restore.{Piece}
use Rattle.command_laws.specs.RestoreTerms.{act_of}

-- a segment, and how many bytes it holds
abbrev pub piece_of : (segment count : ℕ) → Piece
piece_of segment count = record { segment = segment; count = count }

-- an act with the line `part K` before its text, where K is the count of its piece
abbrev pub framed_act : Piece → Act → Act
framed_act piece act = record { steps = act.steps; text = codes "part " ++ decimal piece.count ++ codes "\n" ++ act.text }

-- an act as it is printed: behind a line with the number of its bytes, or alone
abbrev pub printed_act : (lined : Bool) → Piece → Act → Act
printed_act true piece act = framed_act piece act
printed_act false piece act = act

-- the text of the act of a piece
abbrev pub part_text : (lined : Bool) → Piece → (sectors : List (List ℕ)) → List ℕ
part_text lined piece sectors = (printed_act lined piece (act_of piece sectors)).text
