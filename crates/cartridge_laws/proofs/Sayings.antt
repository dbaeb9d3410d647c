-- A segment says at most one thing, and what was written is said.
use Rattle.std.proofs.Common.{◌≡◌, ℕ, ◌≤◌, sym, ◌∙◌, ap, List, refl, arith, ◌+◌, ◌-◌, length, take, drop, ◌++◌, All, subst}
use Rattle.std.proofs.Math.ListN.{drop_of_length-le}
use Rattle.std.proofs.lemmas.List.{append-nil, length-append, take_at, length-drop, take-append-drop, length-take-le}
use Rattle.std.proofs.lemmas.List.Elements.{All-take}
use Rattle.cartridge_laws.proofs.Cells.{one_agreeing_block}
use Rattle.cartridge_laws.specs.SayingLaws.{SaysIsFunction, WrittenIsSaid, WrittenIsLost, SaidIsWritten, SaidAreSectors}
use Rattle.cartridge_spec.specs.Code.{parity_sectors, IsCodeBlock}
use Rattle.qic_base.specs.Cartridge.{IsSector}
use Rattle.cartridge_spec.specs.Says.{HasBlock, unreadable_count, Data, LostSectors, Mismatch, with_parity, Agrees}
use Rattle.cartridge_laws.specs.Segment.{data_of}
use Rattle.gf256_qic.proofs.Parities.{length-parity_sectors, parity_block, block_count, parity_block_only}
use Rattle.qic_base.specs.declared.tape.SectorView.{SectorView}

-- ---- a segment says at most one thing

-- two blocks of the cells have the same data
one_data : (cells : List SectorView) (xs ys : List (List ℕ)) → HasBlock cells xs → HasBlock cells ys →
    unreadable_count cells ≤ 3 → xs ≡ ys
one_data cells xs ys hx hy few =
    hx.shown
    ∙ ap (λ (block : List (List ℕ)). data_of block)
    (one_agreeing_block cells hx.block hy.block hx.code hy.code hx.agrees hy.agrees few)
    ∙ sym hy.shown

pub says_is_function : SaysIsFunction
says_is_function cells (Data xs) (Data ys) ha hb = ap Data (one_data cells xs ys ha.1 hb.1 ha.0)
says_is_function cells (Data xs) (LostSectors n) ha hb = absurd (omega (arith, ha.0, hb.0, hb.1))
says_is_function cells (Data xs) Mismatch ha hb = absurd (hb.1 ha.1.block ha.1.code ha.1.agrees)
says_is_function cells (LostSectors m) (Data ys) ha hb = absurd (omega (arith, hb.0, ha.0, ha.1))
says_is_function cells (LostSectors m) (LostSectors n) ha hb = ap LostSectors (sym ha.0 ∙ hb.0)
says_is_function cells (LostSectors m) Mismatch ha hb = absurd (omega (arith, hb.0, ha.0, ha.1))
says_is_function cells Mismatch (Data ys) ha hb = absurd (ha.1 hb.1.block hb.1.code hb.1.agrees)
says_is_function cells Mismatch (LostSectors n) ha hb = absurd (omega (arith, ha.0, hb.0, hb.1))
says_is_function cells Mismatch Mismatch ha hb = refl

-- ---- the parity put behind the data of a whole segment

pub parity_put : (old new : List (List ℕ)) → length old ≡ 32 →
    new ≡ take 29 old ++ parity_sectors (take 29 old) ++ drop 32 old → new ≡ with_parity (take 29 old)
parity_put old new long is =
    is
    ∙ ap (λ (l : List (List ℕ)). take 29 old ++ parity_sectors (take 29 old) ++ l) (drop_of_length-le old {i = 32} (omega (arith, long)))
    ∙ append-nil (take 29 old ++ parity_sectors (take 29 old))

-- ---- what was written is said

-- the data of data sectors followed by their parity
pub data_of-parity : (sectors : List (List ℕ)) → data_of (sectors ++ parity_sectors sectors) ≡ sectors
data_of-parity sectors =
    let three : length (parity_sectors sectors) ≡ 3 = length-parity_sectors sectors in
    let long : length (sectors ++ parity_sectors sectors) ≡ length sectors + length (parity_sectors sectors) =
    length-append sectors (parity_sectors sectors) in
    take_at sectors (parity_sectors sectors) (length (sectors ++ parity_sectors sectors) - 3) (omega arith)

pub written_is_said : WrittenIsSaid
written_is_said cells sectors least most all written few = (
  few,
  record {
    block = sectors ++ parity_sectors sectors;
    code = parity_block sectors least most all;
    agrees = written;
    shown = sym (data_of-parity sectors);
  },
)

pub written_is_lost : WrittenIsLost
written_is_lost cells many = (refl, many)

-- ---- and what is said is as if it were written

-- a code block is its data followed by their parity
pub block_from_data : (block : List (List ℕ)) → IsCodeBlock block → data_of block ++ parity_sectors (data_of block) ≡ block
block_from_data block code =
    let n : ℕ = length block - 3 in
    let least : 4 ≤ length block = (block_count block code).0 in
    let whole : data_of block ++ drop n block ≡ block = take-append-drop n block in
    let three : length (drop n block) ≡ 3 = length-drop n block ∙ omega arith in
    let only : drop n block ≡ parity_sectors (data_of block) =
    parity_block_only (data_of block) (drop n block) three (subst IsCodeBlock (sym whole) code) in
    ap (λ (ps : List (List ℕ)). data_of block ++ ps) (sym only) ∙ whole

pub said_is_written : SaidIsWritten
said_is_written cells sectors says =
    let has : HasBlock cells sectors = says.1 in
    let same : has.block ≡ sectors ++ parity_sectors sectors =
    sym (block_from_data has.block has.code)
    ∙ ap (λ (ss : List (List ℕ)). ss ++ parity_sectors ss) (sym has.shown) in
    subst (Agrees cells) same has.agrees

pub said_are_sectors : SaidAreSectors
said_are_sectors cells sectors says =
    let has : HasBlock cells sectors = says.1 in
    let least : 4 ≤ length has.block = (block_count has.block has.code).0 in
    let size : length has.block ≡ length cells = has.agrees.size in
    let data_size : length (data_of has.block) ≡ length has.block - 3 =
    length-take-le (length has.block - 3) has.block (omega arith) in
    let same : length sectors ≡ length (data_of has.block) = ap (λ (ss : List (List ℕ)). length ss) has.shown in
    record {
      size = omega arith;
      each = subst (All IsSector) (sym has.shown)
          (All-take IsSector (length has.block - 3) has.block has.code.sectors);
    }
