-- The bytes that the source of a copy gives of a volume, whatever its sectors hold: they can be appended to another cartridge.
use Rattle.std.proofs.Common.{◌≡◌, ℕ, ◌-◌, ◌<◌, List, [], ◌∷◌, ◌++◌, All, length, refl, sym, ap, ◌∙◌, subst, append-nil, arith}
use Rattle.std.proofs.lemmas.List.Elements.{All-append, All-nil, All-replicate, All-take}
use Rattle.cartridge_spec.specs.Appending.{Content}
use Rattle.cartridge_spec.specs.Says.{Data, LostSectors, Mismatch, Saying, Says}
use Rattle.cartridge_spec.specs.Table.{Entry}
use Rattle.cartridge_spec.specs.Volumes.{Plain, bytes_in}
use Rattle.command_laws.proofs.CopyValues.{HasValues, sectors_bytes}
use Rattle.command_laws.proofs.RestoreGiven.{given_always, given_begins_restored, given_is_function, given_is_long}
use Rattle.command_spec.specs.CopyGiven.{GivenBack}
use Rattle.command_spec.specs.Copying.{GivenBytes, Side, bytes_said, length_on}
use Rattle.command_spec.specs.Restore.{Piece, Restored, Restores, piece_cells, pieces}
use Rattle.qic_base.specs.Acts.{Act, text_of}
use Rattle.qic_base.specs.Cartridge.{Cartridge, IsSector}
use Rattle.qic_base.specs.Disk.{AreBytes}
use Rattle.cartridge_laws.specs.AppendLaws.{with_content, IsAppendable}
use Rattle.command_laws.specs.AppendTerms.{content_with}

-- ---- what is given

-- with zero bytes in the place of what doesn't read
unfoldable pub given_of : Side → Entry → List ℕ
given_of from e = (given_always from.cartridge from.words (pieces from.words e)).0

pub given_so : (from : Side) (e : Entry) → GivenBytes from.cartridge from.words (pieces from.words e) (given_of from e)
unfolding given_of
given_so from e = (given_always from.cartridge from.words (pieces from.words e)).1

pub given_only : (from : Side) (e : Entry) (bytes : List ℕ) → GivenBytes from.cartridge from.words (pieces from.words e) bytes →
    bytes ≡ given_of from e
given_only from e bytes given =
    given_is_function from.cartridge from.words (pieces from.words e) bytes (given_of from e) given (given_so from e)

pub given_long : (from : Side) (e : Entry) → length (given_of from e) ≡ length_on from e
given_long from e = given_is_long from.cartridge from.words e (given_of from e) (given_so from e)

-- ---- they are bytes

said_small : (piece : Piece) (saying : Saying) (c : Cartridge) (words : List ℕ) → Says (piece_cells c words piece) saying →
    AreBytes (bytes_said piece saying)
said_small piece (Data sectors) c words (few, has) =
    All-take (λ b. b < 256) piece.count (bytes_in sectors)
    (sectors_bytes sectors (subst (All IsSector) (sym has.shown) (All-take IsSector (length has.block - 3) has.block has.code.sectors)))
said_small piece (LostSectors lost) c words says = All-replicate (λ b. b < 256) piece.count 0 (omega arith)
said_small piece Mismatch c words says = All-replicate (λ b. b < 256) piece.count 0 (omega arith)

given_small : (c : Cartridge) (words : List ℕ) (needed : List Piece) (bytes : List ℕ) → GivenBytes c words needed bytes → AreBytes bytes
given_small c words [] bytes is = subst AreBytes (sym is) (All-nil (λ b. b < 256))
given_small c words (piece ∷ needed) bytes (saying, rest, says, given, is) =
    subst AreBytes (sym is) (All-append (λ b. b < 256) (bytes_said piece saying) rest (said_small piece saying c words says)
    (given_small c words needed rest given))

-- ---- a volume

abbrev pub content_of : Side → Entry → Content
content_of from e = content_with e.name e.date (given_of from e)

pub given_may : (from : Side) (e : Entry) → HasValues e → IsAppendable (content_of from e)
given_may from e values = record {
  label = values.label;
  word = values.word;
  bytes = given_small from.cartridge from.words (pieces from.words e) (given_of from e) (given_so from e);
}

-- a plain cartridge with it
abbrev pub with_entry : (from : Side) → Plain → Entry → Plain
with_entry from p e = with_content p (content_of from e)

-- all of it reads
abbrev pub GivesAll : Side → Entry → Type 0
GivesAll from e = (read : List Act) × Restores from.cartridge from.words (pieces from.words e) read Restored

-- then a restore gives just these bytes
pub read_text : (from : Side) (e : Entry) (read : List Act) → Restores from.cartridge from.words (pieces from.words e) read Restored →
    given_of from e ≡ text_of read
read_text from e read restores =
    let front = given_begins_restored from.cartridge from.words (pieces from.words e) read Restored (given_of from e) restores
    (given_so from e) in
    front.1 ∙ ap (λ (rest : List ℕ). text_of read ++ rest) (front.2 refl) ∙ append-nil (text_of read)

pub given_back : (from : Side) (e : Entry) → GivesAll from e → GivenBack from e (content_of from e)
given_back from e (read, restores) = record {
  name = refl;
  date = refl;
  size = given_long from e;
  read = read;
  restores = restores;
  bytes = read_text from e read restores;
}
