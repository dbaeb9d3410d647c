-- A restore gives one thing.
use Rattle.std.proofs.Common.{ℕ, List, arith, ◌≡◌, sym, ap, ◌∙◌, [], ◌∷◌, refl}
use Rattle.cartridge_laws.proofs.Blocks.{says_always}
use Rattle.cartridge_laws.proofs.Sayings.{says_is_function}
use Rattle.cartridge_laws.proofs.Segments.{cells_are_views}
use Rattle.cartridge_spec.specs.Says.{Data, LostSectors, Says, Mismatch, Saying}
use Rattle.cartridge_spec.specs.Shape.{mask_at}
use Rattle.command_laws.specs.RestoreLaws.{RestoresIsFunction, RestoresAlways}
use Rattle.command_spec.specs.Restore.{Piece, GivingEnd, Restored, LostIn, MismatchIn, IsRead, PieceEnds, piece_cells, Restores}
use Rattle.command_laws.specs.RestoreTerms.{act_of}
use Rattle.qic_base.specs.Acts.{Act}
use Rattle.qic_base.specs.Cartridge.{Cartridge}
use Rattle.qic_base.specs.declared.tape.SectorView.{SectorView}

-- ---- at most one

-- data and something else are not said at once
not_lost : (cells : List SectorView) (sectors : List (List ℕ)) (n : ℕ) → Says cells (Data sectors) → Says cells (LostSectors n) → ⊥
not_lost cells sectors n data_said lost = absurd (omega (arith, data_said.0, lost.0, lost.1))

not_mismatch : (cells : List SectorView) (sectors : List (List ℕ)) → Says cells (Data sectors) → Says cells Mismatch → ⊥
not_mismatch cells sectors data_said none = none.1 data_said.1.block data_said.1.code data_said.1.agrees

-- a piece that is read ends nothing
pub read_goes_on : (c : Cartridge) (words : List ℕ) (piece : Piece) (act : Act) (ending : GivingEnd) → IsRead c words piece act →
    PieceEnds c words piece ending → ⊥
read_goes_on c words piece act Restored read ends = ends
read_goes_on c words piece act (LostIn s n) read ends = not_lost (piece_cells c words piece) read.sectors n read.says ends.1
read_goes_on c words piece act (MismatchIn s) read ends = not_mismatch (piece_cells c words piece) read.sectors read.says ends.1

-- it ends in one way
one_ending : (c : Cartridge) (words : List ℕ) (piece : Piece) (x y : GivingEnd) → PieceEnds c words piece x → PieceEnds c words piece y →
    x ≡ y
one_ending c words piece Restored y hx hy = absurd hx
one_ending c words piece (LostIn s m) Restored hx hy = absurd hy
one_ending c words piece (LostIn s m) (LostIn t n) hx hy = ap (λ (segment : ℕ). LostIn segment m) (hx.0 ∙ sym hy.0)
    ∙ ap (LostIn t) (sym hx.1.0 ∙ hy.1.0)
one_ending c words piece (LostIn s m) (MismatchIn t) hx hy = absurd (omega (arith, hx.1.0, hx.1.1, hy.1.0))
one_ending c words piece (MismatchIn s) Restored hx hy = absurd hy
one_ending c words piece (MismatchIn s) (LostIn t n) hx hy = absurd (omega (arith, hy.1.0, hy.1.1, hx.1.0))
one_ending c words piece (MismatchIn s) (MismatchIn t) hx hy = ap MismatchIn (hx.0 ∙ sym hy.0)

-- it has one act
data_of_saying : Saying → List (List ℕ)
data_of_saying (Data sectors) = sectors
data_of_saying (LostSectors n) = []
data_of_saying Mismatch = []

pub one_act : (c : Cartridge) (words : List ℕ) (piece : Piece) (x y : Act) → IsRead c words piece x → IsRead c words piece y → x ≡ y
unfolding data_of_saying
one_act c words piece x y hx hy =
    let same : Data hx.sectors ≡ Data hy.sectors =
    says_is_function (piece_cells c words piece) (Data hx.sectors) (Data hy.sectors) hx.says hy.says in
    hx.shown ∙ ap (λ (saying : Saying). act_of piece (data_of_saying saying)) same ∙ sym hy.shown

pub restores_is_function : RestoresIsFunction
restores_is_function c words [] xs ys x y hx hy = (hx.0 ∙ sym hy.0, hx.1 ∙ sym hy.1)
restores_is_function c words (piece ∷ needed) [] [] x y hx hy = (refl, one_ending c words piece x y hx hy)
restores_is_function c words (piece ∷ needed) [] (b ∷ rest_b) x y hx hy = absurd (read_goes_on c words piece b x hy.0 hx)
restores_is_function c words (piece ∷ needed) (a ∷ rest_a) [] x y hx hy = absurd (read_goes_on c words piece a y hx.0 hy)
restores_is_function c words (piece ∷ needed) (a ∷ rest_a) (b ∷ rest_b) x y hx hy =
    let others = restores_is_function c words needed rest_a rest_b x y hx.1 hy.1 in
    (ap (λ (act : Act). act ∷ rest_a) (one_act c words piece a b hx.0 hy.0) ∙ ap (λ (acts : List Act). b ∷ acts) others.0, others.1)

-- ---- at least one

abbrev pub GivesSome : (c : Cartridge) (words : List ℕ) (needed : List Piece) → Type 0
GivesSome c words needed = (acts : List Act) × (ending : GivingEnd) × Restores c words needed acts ending

pub by_saying : (c : Cartridge) (words : List ℕ) (piece : Piece) (needed : List Piece) (saying : Saying) →
    Says (piece_cells c words piece) saying → GivesSome c words needed → GivesSome c words (piece ∷ needed)
by_saying c words piece needed (Data sectors) says rest =
    (act_of piece sectors ∷ rest.0, rest.1, (record { sectors = sectors; says = says; shown = refl }, rest.2))
by_saying c words piece needed (LostSectors n) says rest = ([], LostIn piece.segment n, (refl, says))
by_saying c words piece needed Mismatch says rest = ([], MismatchIn piece.segment, (refl, says))

pub restores_always : RestoresAlways
restores_always c words [] whole = ([], Restored, (refl, refl))
restores_always c words (piece ∷ needed) whole =
    let said = says_always (piece_cells c words piece) (cells_are_views c piece.segment (mask_at words piece.segment) whole) in
    by_saying c words piece needed said.0 said.1 (restores_always c words needed whole)
