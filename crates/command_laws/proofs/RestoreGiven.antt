-- The bytes that pieces give where zero bytes stand in the place of what doesn't read.
use Rattle.std.proofs.Common.{◌≡◌, ℕ, ◌+◌, List, [], ◌∷◌, ◌++◌, length, All, refl, sym, ap, ◌∙◌, subst, arith, append_assoc, length-append}
use Rattle.std.proofs.lemmas.List.{length-replicate}
use Rattle.std.proofs.lemmas.List.Elements.{All-head, All-tail}
use Rattle.std.proofs.lemmas.List.Sums.{sum_by-cons}
use Rattle.cartridge_laws.proofs.AppendSegments.{carrying_carry}
use Rattle.cartridge_laws.proofs.Sayings.{says_is_function}
use Rattle.cartridge_spec.specs.Says.{Saying, Data, LostSectors, Mismatch, Says}
use Rattle.cartridge_spec.specs.Volumes.{carrying_segments, volume_length}
use Rattle.command_laws.proofs.MountedSaying.{says_anyway}
use Rattle.command_laws.proofs.RestoreCounts.{FitsIn, pieces_fit, read_count, pieces_hold_all}
use Rattle.command_laws.specs.RestoreLaws.{GivenIsFunction, GivenAlways, GivenBeginsRestored, GivenIsLong}
use Rattle.command_spec.specs.Restore.{Piece, IsRead, PieceEnds, piece_cells, pieces}
use Rattle.command_spec.specs.Copying.{GivenBytes, bytes_said}
use Rattle.command_laws.specs.RestoreTerms.{act_of, bytes_held}
use Rattle.qic_base.specs.Acts.{Act, text_of}
use Rattle.qic_base.specs.Cartridge.{Cartridge}

pub given_is_function : GivenIsFunction
given_is_function c words [] xs ys hx hy = hx ∙ sym hy
given_is_function c words (piece ∷ needed) xs ys (sx, rx, says_x, given_x, is_x) (sy, ry, says_y, given_y, is_y) =
    let same : sx ≡ sy = says_is_function (piece_cells c words piece) sx sy says_x says_y in
    let rest : rx ≡ ry = given_is_function c words needed rx ry given_x given_y in
    is_x ∙ ap (λ (s : Saying). bytes_said piece s ++ rx) same ∙ ap (λ (r : List ℕ). bytes_said piece sy ++ r) rest ∙ sym is_y

pub given_always : GivenAlways
given_always c words [] = ([], refl)
given_always c words (piece ∷ needed) =
    let said = says_anyway (piece_cells c words piece) in
    let rest = given_always c words needed in
    (bytes_said piece said.0 ++ rest.0, (said.0, rest.0, said.1, rest.1, refl))

-- what is said of a piece that is read
said_is_read : (c : Cartridge) (words : List ℕ) (piece : Piece) (act : Act) (saying : Saying) → IsRead c words piece act →
    Says (piece_cells c words piece) saying → bytes_said piece saying ≡ act.text
said_is_read c words piece act saying read says =
    let same : saying ≡ Data read.sectors =
    says_is_function (piece_cells c words piece) saying (Data read.sectors) says read.says in
    ap (bytes_said piece) same ∙ sym (ap (λ (a : Act). a.text) read.shown)

pub given_begins_restored : GivenBeginsRestored
given_begins_restored c words [] acts ending bytes h given =
    ([], given ∙ sym (ap (λ (xs : List Act). text_of xs ++ []) h.0), λ all. refl)
given_begins_restored c words (piece ∷ needed) [] ending bytes h given =
    (bytes, refl, λ all. absurd (subst (PieceEnds c words piece) all h))
given_begins_restored c words (piece ∷ needed) (act ∷ acts) ending bytes h (saying, front, says, given, is) =
    let behind = given_begins_restored c words needed acts ending front h.1 given in
    let here : bytes_said piece saying ≡ act.text = said_is_read c words piece act saying h.0 says in
    let parted : front ≡ text_of acts ++ behind.0 = behind.1 in (
      behind.0,
      is ∙ ap (λ (xs : List ℕ). xs ++ front) here ∙ ap (λ (xs : List ℕ). act.text ++ xs) parted
          ∙ sym (append_assoc act.text (text_of acts) behind.0),
      behind.2,
    )

-- ---- how many

length-said : (c : Cartridge) (words : List ℕ) (piece : Piece) (saying : Saying) → FitsIn words piece →
    Says (piece_cells c words piece) saying →
    length (bytes_said piece saying) ≡ piece.count
length-said c words piece (Data sectors) fits says =
    read_count c words piece (act_of piece sectors) fits (record { sectors = sectors; says = says; shown = refl })
length-said c words piece (LostSectors lost) fits says = length-replicate piece.count 0
length-said c words piece Mismatch fits says = length-replicate piece.count 0

pub length-given : (c : Cartridge) (words : List ℕ) (needed : List Piece) (bytes : List ℕ) → All (FitsIn words) needed →
    GivenBytes c words needed bytes →
    length bytes ≡ bytes_held needed
length-given c words [] bytes fit given = ap (λ (xs : List ℕ). length xs) given
length-given c words (piece ∷ needed) bytes fit (saying, rest, says, given, is) =
    let here : length (bytes_said piece saying) ≡ piece.count =
    length-said c words piece saying (All-head (FitsIn words) piece needed fit) says in
    let behind : length rest ≡ bytes_held needed = length-given c words needed rest (All-tail (FitsIn words) piece needed fit) given in
    let both : length (bytes_said piece saying ++ rest) ≡ length (bytes_said piece saying) + length rest =
    length-append (bytes_said piece saying) rest in
    let first : bytes_held (piece ∷ needed) ≡ piece.count + bytes_held needed = sum_by-cons (λ (p : Piece). p.count) piece needed in
    ap (λ (xs : List ℕ). length xs) is ∙ omega arith

pub given_is_long : GivenIsLong
given_is_long c words e bytes given =
    length-given c words (pieces words e) bytes
    (pieces_fit words (carrying_segments words e) (volume_length words e) (carrying_carry words e.start e.end)) given
    ∙ (pieces_hold_all words e).0
