-- Parts of a restore: its pieces, and where it ends (this project's own).
use Rattle.std.specs.Prelude.{ℕ, List, [], length, take, ◌≡◌, slice_get, IsSomeAnd, sum_by}
use Rattle.cartridge_spec.specs.Volumes.{bytes_in}
use Rattle.cartridge_spec.specs.Table.{Entry}
use Rattle.command_spec.specs.Numbers.{AreTooMany}
use Rattle.command_spec.specs.Restore.{GivingEnd, Restored, LostIn, MismatchIn, Piece, RestoresVolume, framed, pieces}
use Rattle.command_spec.specs.Script.{Did, given_as}
use Rattle.qic_base.specs.Acts.{Act}
use Rattle.qic_base.specs.Cartridge.{Cartridge}

-- the bytes that some pieces hold
abbrev pub bytes_held : List Piece → ℕ
bytes_held needed = sum_by (λ piece. piece.count) needed

-- the act of a piece whose segment says these data
abbrev pub act_of : Piece → (sectors : List (List ℕ)) → Act
act_of piece sectors = record { steps = []; text = take piece.count (bytes_in sectors) }

-- the volume with this number, as a line of a script gives it
abbrev pub RestoreDoes : Cartridge → (words : List ℕ) → List Entry → (number : ℕ) → Did → Type 0
RestoreDoes c words entries number did =
    RestoresVolume c words entries number
    (λ entry acts ending. did ≡ given_as words entries number entry (framed (pieces words entry) acts) ending)

-- with so many pieces read: all of them, or the next one's segment is the one that says no data
abbrev pub EndsAt : List Piece → (done : ℕ) → GivingEnd → Type 0
EndsAt needed done Restored = done ≡ length needed
EndsAt needed done (LostIn segment lost) = AreTooMany lost × IsSomeAnd (slice_get needed done) (λ piece. piece.segment ≡ segment)
EndsAt needed done (MismatchIn segment) = IsSomeAnd (slice_get needed done) (λ piece. piece.segment ≡ segment)
