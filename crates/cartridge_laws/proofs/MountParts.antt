-- The sectors of a table's block, and code blocks with the same sectors outside three places at most.
use Rattle.std.proofs.Common.{◌≡◌, ℕ, List, length, arith, length-append, ◌<◌, [], get_or, ◌∙◌, Some, sym, ap, false, ◌∷◌, refl, slice_get}
use Rattle.std.proofs.Common.{◌≤◌}
use Rattle.std.proofs.lemmas.List.{get_or_append_left}
use Rattle.std.proofs.lemmas.Option.{unwrap_or-slice_get, slice_get-get_or}
use Rattle.cartridge_laws.proofs.Cells.{IsReadable}
use Rattle.cartridge_laws.proofs.FormatCopies.{view_held}
use Rattle.cartridge_laws.proofs.Sets.{named_is_one, few_lost, IsNoneOf, unnamed_is_none}
use Rattle.cartridge_laws.specs.MountBlocks.{HoldsPart}
use Rattle.cartridge_spec.specs.Code.{parity_sectors, IsCodeBlock}
use Rattle.cartridge_spec.specs.Shape.{IsArea, sector_at, is_unreadable}
use Rattle.cartridge_spec.specs.TableSegment.{table_cells}
use Rattle.cartridge_spec.specs.Says.{with_parity, ReadsAll, set_of}
use Rattle.gf256_qic.proofs.Agreement.{one_block}
use Rattle.gf256_qic.proofs.Parities.{length-parity_sectors, parity_block}
use Rattle.gf256_qic.specs.Code.{lost_below}
use Rattle.qic_base.specs.Cartridge.{Cartridge}
use Rattle.qic_base.specs.declared.tape.SectorView.{SectorView}
use Rattle.qic_base.specs.declared.tape.SectorView.TheVariants.{Blank, Defect, Lost, Holds}
use Rattle.qic_base.specs.CartridgeTerms.{is_lost}

-- ---- the sectors of a table's block

pub length-block : (area : List (List ℕ)) → IsArea area → length (with_parity area) ≡ 32
length-block area is =
    let size : length area ≡ 29 = is.size in
    omega (arith, length-append area (parity_sectors area), length-parity_sectors area)

-- the first ones are those of data
pub data_sector : (area : List (List ℕ)) (i : ℕ) → i < length area → sector_at (with_parity area) i ≡ get_or area i []
data_sector area i h =
    unwrap_or-slice_get (with_parity area) i [] ∙ get_or_append_left area (parity_sectors area) [] i h

-- data sectors that hold their parts are read
pub data_read : (c : Cartridge) (area : List (List ℕ)) → IsArea area → ((i : ℕ) → i < 29 → HoldsPart c area i) →
    ReadsAll (table_cells c) area
data_read c area is holds =
    let size : length area ≡ 29 = is.size in
    record {
      size = size;
      each = λ i h. (
        sector_at (with_parity area) i,
        view_held c 2 i (sector_at (with_parity area) i) (omega arith) (holds i h),
        slice_get-get_or area i [] (omega arith) ∙ ap Some (sym (data_sector area i (omega arith))),
      );
    }

-- a cell that can be read is not unreadable
pub readable_front : (cell : SectorView) (cells : List SectorView) → IsReadable (cell ∷ cells) 0 → is_unreadable cell ≡ false
readable_front Blank cells held = let first = held.1 in absurd (cc)
readable_front Defect cells held = let first = held.1 in absurd (cc)
readable_front Lost cells held = let first = held.1 in absurd (cc)
readable_front (Holds bytes) cells held = refl

-- ---- sectors at their places

pub sector_there : (xs : List (List ℕ)) (i : ℕ) → i < length xs → slice_get xs i ≡ Some (sector_at xs i)
sector_there xs i h = slice_get-get_or xs i [] h ∙ ap (λ (x : List ℕ). Some x) (sym (unwrap_or-slice_get xs i []))

-- a table's sectors of data are the first of its block
pub front_sector : (area : List (List ℕ)) → IsArea area → (i : ℕ) → i < 29 → sector_at (with_parity area) i ≡ sector_at area i
front_sector area is i h =
    let size : length area ≡ 29 = is.size in
    data_sector area i (omega arith) ∙ sym (unwrap_or-slice_get area i [])

pub code_block : (area : List (List ℕ)) → IsArea area → IsCodeBlock (with_parity area)
code_block area is =
    let size : length area ≡ 29 = is.size in
    parity_block area (omega arith) (omega arith) is.sectors

-- ---- blocks that differ at few places

pub few_named : (ps : List ℕ) (n : ℕ) → length ps ≤ 3 → lost_below (is_lost (set_of ps)) n ≤ 3
few_named ps n few =
    let most : lost_below (is_lost (set_of ps)) n ≤ length ps = few_lost ps (is_lost (set_of ps)) n (named_is_one ps) in
    omega arith

-- code blocks with the same sectors outside three places at most are the same
pub near_blocks : (xs ys : List (List ℕ)) (ps : List ℕ) → IsCodeBlock xs → IsCodeBlock ys → length xs ≡ 32 → length ys ≡ 32 →
    length ps ≤ 3 →
    ((i : ℕ) → i < 32 → IsNoneOf ps i → sector_at xs i ≡ sector_at ys i) → xs ≡ ys
near_blocks xs ys ps hx hy nx ny few same =
    one_block (is_lost (set_of ps)) xs ys hx hy
    (record {
      size = nx ∙ sym ny;
      others = λ i h unnamed.
          sector_there xs i h
          ∙ ap (λ (x : List ℕ). Some x) (same i (omega arith) (unnamed_is_none ps i unnamed))
          ∙ sym (sector_there ys i (omega arith));
    })
    (few_named ps (length xs) few)
