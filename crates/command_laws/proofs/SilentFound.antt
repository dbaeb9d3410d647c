-- What `scrub deep` finds of a segment that was written, of which sectors may be lost, and one may silently hold other bytes.
use Rattle.std.proofs.Common.{◌≡◌, ◌≢◌, inl, inr, ℕ, List, ◌+◌, ◌<◌, ◌≤◌, arith, ap, sym, ◌∙◌, refl, subst, length, get_or, slice_get}
use Rattle.std.proofs.Common.{Option, Some, None}
use Rattle.std.proofs.lemmas.Bool.{cases_eq}
use Rattle.std.proofs.lemmas.List.{length-append}
use Rattle.std.proofs.lemmas.Option.{slice_get_within}
use Rattle.cartridge_laws.proofs.Cells.{one_agreeing_block}
use Rattle.cartridge_laws.proofs.ChangeViews.{held_before, worn_reads_no_more}
use Rattle.cartridge_laws.proofs.Places.{count_below}
use Rattle.cartridge_laws.proofs.Sayings.{written_is_said}
use Rattle.cartridge_laws.proofs.Segments.{count_of_cells}
use Rattle.cartridge_laws.proofs.Writing.{cell_at}
use Rattle.cartridge_spec.specs.Code.{IsCodeBlock, parity_sectors}
use Rattle.cartridge_spec.specs.Says.{Agrees, Data, LostSectors, Mismatch, Saying, Says, Written, unreadable_count, with_parity}
use Rattle.cartridge_spec.specs.Shape.{usable_count, usable_places}
use Rattle.cartridge_spec.specs.Volumes.{worn}
use Rattle.command_laws.proofs.ScrubBeside.{written_not_wrong}
use Rattle.command_laws.proofs.ScrubOneWrong.{IsPlace, agrees_less, cell_worn, one_wrong, worn_count}
use Rattle.command_laws.specs.SilentSegments.{AreDataOf, HoldsAllButOne, HoldsEnough, IsMendable}
use Rattle.command_spec.specs.Scrub.{HasFound, IsWrong, Looked, cells_at, without}
use Rattle.command_spec.specs.declared.depth.Depth.TheVariants.{Deep}
use Rattle.gf256_qic.proofs.Parities.{length-parity_sectors, parity_block}
use Rattle.qic_base.specs.Cartridge.{Cartridge, view_at}
use Rattle.qic_base.specs.declared.tape.SectorView.{SectorView}
use Rattle.qic_base.specs.declared.tape.SectorView.TheVariants.{Holds}

-- ---- cells and views

-- the sector at a place among the usable ones
abbrev pub sector_of : Looked → (place : ℕ) → ℕ
sector_of l place = get_or (usable_places l.mask) place 0

-- a cell that holds bytes is a usable sector that does
pub record IsCell (c : Cartridge) (l : Looked) (place : ℕ) (bytes : List ℕ) : Type 0 where
  pub within : place < usable_count l.mask
  pub view : view_at c l.segment (sector_of l place) ≡ Holds bytes

pub cell_view : (c : Cartridge) (l : Looked) (place : ℕ) (bytes : List ℕ) → slice_get (cells_at c l) place ≡ Some (Holds bytes) →
    IsCell c l place bytes
cell_view c l place bytes at =
    let here : place < length (cells_at c l) = slice_get_within (cells_at c l) place (Holds bytes) at in
    let within : place < usable_count l.mask = omega (arith, count_of_cells c l.segment l.mask) in
    let both : Some (Holds bytes) ≡ Some (view_at c l.segment (sector_of l place)) = sym at ∙ cell_at c l.segment l.mask place within in
    record { within = within; view = cc }

pub view_cell : (c : Cartridge) (l : Looked) (place : ℕ) (bytes : List ℕ) → place < usable_count l.mask →
    view_at c l.segment (sector_of l place) ≡ Holds bytes → slice_get (cells_at c l) place ≡ Some (Holds bytes)
view_cell c l place bytes within view = cell_at c l.segment l.mask place within ∙ ap (λ (v : SectorView). Some v) view

-- ---- the data

pub code_of : (l : Looked) (xs : List (List ℕ)) → AreDataOf l xs → IsCodeBlock (with_parity xs)
code_of l xs data_of =
    let some : 1 ≤ length xs = data_of.some in
    let size : length xs + 3 ≡ usable_count l.mask = data_of.size in
    let most : usable_count l.mask ≤ 32 = count_below l.mask 32 in
    parity_block xs (omega arith) (omega arith) data_of.are

pub long_of : (l : Looked) (xs : List (List ℕ)) → AreDataOf l xs → length (with_parity xs) ≡ usable_count l.mask
long_of l xs data_of =
    let size : length xs + 3 ≡ usable_count l.mask = data_of.size in
    omega (arith, length-append xs (parity_sectors xs), length-parity_sectors xs)

-- what was written is said, where at most three sectors can't be read
pub said_of : (c : Cartridge) (l : Looked) (xs : List (List ℕ)) → AreDataOf l xs → Written (cells_at c l) xs →
    unreadable_count (cells_at c l) ≤ 3 →
    Says (cells_at c l) (Data xs)
said_of c l xs data_of written few =
    let some : 1 ≤ length xs = data_of.some in
    let size : length xs + 3 ≡ usable_count l.mask = data_of.size in
    let most : usable_count l.mask ≤ 32 = count_below l.mask 32 in
    written_is_said (cells_at c l) xs (omega arith) (omega arith) data_of.are written few

-- ---- all but one

module _ (c : Cartridge) (l : Looked) (xs : List (List ℕ)) (data_of : AreDataOf l xs) (one : HoldsAllButOne c l xs) where
  abbrev pub its_sector : ℕ
  its_sector = sector_of l one.place

  pub its_place : IsPlace l one.place its_sector
  its_place = record { within = one.within; index = refl }

  -- with that one lost all hold theirs
  pub one_worn : Written (cells_at (worn l.segment its_sector c) l) xs
  one_worn = record {
    size = long_of l xs data_of ∙ sym (count_of_cells (worn l.segment its_sector c) l.segment l.mask);
    each = λ i bytes at. elim (cases_eq i one.place) [
      | inl same ↦
          absurd (cell_worn c l one.place its_sector bytes its_place
          (subst (λ (p : ℕ). slice_get (cells_at (worn l.segment its_sector c) l) p ≡ Some (Holds bytes)) same at))
      | inr apart ↦
          one.others i bytes apart
          (held_before c (worn l.segment its_sector c) l.segment l.mask i bytes (worn_reads_no_more c l.segment its_sector) at)
    ];
  }

  pub few_worn : unreadable_count (cells_at (worn l.segment its_sector c) l) ≤ 2
  few_worn =
      let count : unreadable_count (cells_at (worn l.segment its_sector c) l) ≤ unreadable_count (cells_at c l) + 1 =
      worn_count c l one.place its_sector its_place in
      let few : unreadable_count (cells_at c l) ≤ 1 = one.few in
      omega arith

  pub said_worn : Says (cells_at (worn l.segment its_sector c) l) (Data xs)
  said_worn =
      let few : unreadable_count (cells_at (worn l.segment its_sector c) l) ≤ 2 = few_worn in
      said_of (worn l.segment its_sector c) l xs data_of one_worn (omega arith)

  -- where no block agrees with all it is wrong
  pub it_is_wrong : Says (cells_at c l) Mismatch → IsWrong c l its_sector xs
  it_is_wrong mismatch = record {
    place = one.place;
    within = one.within;
    index = refl;
    mismatch = mismatch;
    few = one.few;
    says = said_worn;
    can_be_read = data_of.can_be_read;
  }

  -- where one does, it is that of the data, so all hold theirs
  pub all_written : (ys : List (List ℕ)) → Says (cells_at c l) (Data ys) → Written (cells_at c l) xs
  all_written ys says =
      let has = says.1 in
      let d : Cartridge = worn l.segment its_sector c in
      let few : unreadable_count (cells_at d l) ≤ 2 = few_worn in
      let less : Agrees (cells_at d l) has.block =
      agrees_less (cells_at c l) (cells_at d l) has.block (count_of_cells c l.segment l.mask ∙ sym (count_of_cells d l.segment l.mask))
      (λ i bytes at. held_before c d l.segment l.mask i bytes (worn_reads_no_more c l.segment its_sector) at) has.agrees in
      let same : has.block ≡ with_parity xs =
      one_agreeing_block (cells_at d l) has.block (with_parity xs) has.code (code_of l xs data_of) less one_worn (omega arith) in
      subst (λ (block : List (List ℕ)). Agrees (cells_at c l) block) same has.agrees

-- ---- what is found

-- the one that doesn't hold its own is found to be wrong
pub record FoundWrong (c : Cartridge) (l : Looked) (xs : List (List ℕ)) (sector : ℕ) : Type 0 where
  pub other : l.segment ≢ 2
  pub one : HoldsAllButOne c l xs
  pub is : sector ≡ sector_of l one.place

-- no sector is, and all hold theirs; or that one
abbrev pub FoundSo : Cartridge → Looked → (xs : List (List ℕ)) → (wrong : Option ℕ) → Type 0
FoundSo c l xs None = Written (cells_at c l) xs × (unreadable_count (cells_at c l) ≤ 3)
FoundSo c l xs (Some sector) = FoundWrong c l xs sector

found_by : (c : Cartridge) (l : Looked) (xs : List (List ℕ)) (s : Saying) (w : Option ℕ) → AreDataOf l xs → HoldsEnough c l xs →
    HasFound Deep c l s w → FoundSo c l xs w
found_by c l xs s None data_of (inl all) found = all
found_by c l xs s (Some sector) data_of (inl all) found = absurd (written_not_wrong c l xs sector found.1 data_of.are all.0 found.3)
found_by c l xs (Data ys) None data_of (inr (other, one)) found =
    let few : unreadable_count (cells_at c l) ≤ 1 = one.few in
    (all_written c l xs data_of one ys found.0, omega arith)
found_by c l xs (LostSectors n) None data_of (inr (other, one)) found =
    let few : unreadable_count (cells_at c l) ≤ 1 = one.few in
    absurd (omega (arith, found.0.0, found.0.1))
found_by c l xs Mismatch None data_of (inr (other, one)) found =
    absurd (found.1 other (its_sector c l xs data_of one) xs (it_is_wrong c l xs data_of one found.0))
found_by c l xs s (Some sector) data_of (inr (other, one)) found = record {
  other = other;
  one = one;
  is = one_wrong c l sector (its_sector c l xs data_of one) found.1 xs found.3 (it_is_wrong c l xs data_of one found.3.mismatch);
}

pub found_so : (c : Cartridge) (l : Looked) (xs : List (List ℕ)) (s : Saying) (w : Option ℕ) → IsMendable c l xs → HasFound Deep c l s w →
    FoundSo c l xs w
found_so c l xs s w mendable found = found_by c l xs s w mendable.data_of mendable.holds found

-- with that one lost the segment says the data
pub so_says : (c : Cartridge) (l : Looked) (xs : List (List ℕ)) (w : Option ℕ) → AreDataOf l xs → FoundSo c l xs w →
    Says (cells_at (without w l c) l) (Data xs)
so_says c l xs None data_of so = said_of c l xs data_of so.0 so.1
so_says c l xs (Some sector) data_of so =
    subst (λ (i : ℕ). Says (cells_at (worn l.segment i c) l) (Data xs)) (sym so.is) (said_worn c l xs data_of so.one)
