-- The table's segment says at most one thing, and it says something.
use Rattle.std.proofs.Common.{◌≡◌, ℕ, List, ◌<◌, sym, ◌∙◌, arith, length, Some, subst, inl, refl, ap, [], zero, suc, ◌∷◌, take, slice_get}
use Rattle.std.proofs.Common.{◌≤◌, map, inr}
use Rattle.std.proofs.lemmas.List.{same_lists, length-map, length-take-le}
use Rattle.std.proofs.lemmas.Option.{get_or_from_slice_get, slice_get-map}
use Rattle.std.specs.Option.{option_map}
use Rattle.std.proofs.lemmas.Bool.{cases_lt}
use Rattle.std.proofs.lemmas.List.Elements.{All-from_get_or}
use Rattle.cartridge_laws.proofs.Blocks.{held_sector}
use Rattle.cartridge_laws.proofs.Cells.{count_of_readable, IsReadable, readable_from_count}
use Rattle.cartridge_laws.proofs.Hiding.{nothing_is_hidden}
use Rattle.cartridge_laws.proofs.Readings.{table_sets_are_small, one_answer, code_always}
use Rattle.cartridge_laws.specs.SayingLaws.{SaidIsTable, TableSaysIsFunction, TableSaysAlways, ReadAreSectors}
use Rattle.qic_base.specs.Cartridge.{IsSector}
use Rattle.cartridge_laws.specs.TableCells.{table_sets}
use Rattle.cartridge_laws.specs.Segment.{unreadable_data}
use Rattle.cartridge_spec.specs.Says.{ReadsAll, Says, Data, HasBlock, ByCode, TableSays, LostSectors, Mismatch, Saying, AsRead}
use Rattle.qic_base.specs.declared.tape.SectorView.{SectorView}
use Rattle.qic_base.specs.declared.tape.SectorView.TheVariants.{Holds, Blank, Defect, Lost}

-- ---- at most one thing

-- data sectors that are all read are all readable
none_unreadable : (cells : List SectorView) (xs : List (List ℕ)) → ReadsAll cells xs → unreadable_data cells ≡ 0
none_unreadable cells xs reads = count_of_readable 29 cells (λ i h. ((reads.each i h).0, (reads.each i h).1))

-- the data that are read are one
one_reading : (cells : List SectorView) (xs ys : List (List ℕ)) → ReadsAll cells xs → ReadsAll cells ys → xs ≡ ys
one_reading cells xs ys hx hy =
    let size : length xs ≡ 29 = hx.size in
    same_lists xs ys (hx.size ∙ sym hy.size) (λ k d lt.
    let within : k < 29 = omega arith in
    let rx = hx.each k within in
    let ry = hy.each k within in
    let held : Some (Holds rx.0) ≡ Some (Holds ry.0) = sym rx.1 ∙ ry.1 in
    let same : rx.0 ≡ ry.0 = cc in
    get_or_from_slice_get xs k rx.0 d rx.2 ∙ same ∙ sym (get_or_from_slice_get ys k ry.0 d ry.2))

-- data that are all read leave nothing to the code
no_code : {P : Type 0} (cells : List SectorView) (xs : List (List ℕ)) → ReadsAll cells xs → 0 < unreadable_data cells → P
no_code cells xs reads some =
    let none : unreadable_data cells ≡ 0 = none_unreadable cells xs reads in
    absurd (omega arith)

-- data that the code finds where no sector is left out of account are those of the table
pub says_data : (cells : List SectorView) (xs : List (List ℕ)) → 0 < unreadable_data cells → Says cells (Data xs) →
    TableSays cells (ByCode (Data xs))
says_data cells xs some says =
    (some, (says.0, inl (subst (λ (cs : List SectorView). HasBlock cs xs) (sym (nothing_is_hidden cells)) says.1)))

pub said_is_table : SaidIsTable
said_is_table cells (Data xs) some says other = says_data cells xs some says
said_is_table cells (LostSectors n) some says other = (some, says)
said_is_table cells Mismatch some says other = absurd (other refl)

pub table_says_is_function : TableSaysIsFunction
table_says_is_function cells (AsRead xs) (AsRead ys) ha hb = ap AsRead (one_reading cells xs ys ha hb)
table_says_is_function cells (AsRead xs) (ByCode b) ha hb = no_code cells xs ha hb.0
table_says_is_function cells (ByCode a) (AsRead ys) ha hb = no_code cells ys hb ha.0
table_says_is_function cells (ByCode a) (ByCode b) ha hb =
    ap (λ (saying : Saying). ByCode saying) (one_answer (table_sets cells) cells a b (table_sets_are_small cells) ha.1 hb.1)

-- ---- something

-- the bytes of a cell that holds some
abbrev contents : SectorView → List ℕ
contents Blank = []
contents Defect = []
contents Lost = []
contents (Holds bytes) = bytes

slice_get-take : (n : ℕ) (cells : List SectorView) (i : ℕ) → i < n → slice_get (take n cells) i ≡ slice_get cells i
slice_get-take zero cells i h = absurd (omega arith)
slice_get-take (suc n) [] i h = refl
slice_get-take (suc n) (cell ∷ cells) zero h = refl
slice_get-take (suc n) (cell ∷ cells) (suc i) h = slice_get-take n cells i (omega arith)

-- data sectors that are all readable are all read
reads_all : (cells : List SectorView) → 29 ≤ length cells → unreadable_data cells ≡ 0 →
    ReadsAll cells (map contents (take 29 cells))
reads_all cells long none = record {
  size = length-map (take 29 cells) contents ∙ length-take-le 29 cells long;
  each = λ i h.
      let held : IsReadable cells i = readable_from_count 29 cells long none i h in (
        held.0,
        held.1,
        slice_get-map contents (take 29 cells) i
            ∙ ap (option_map contents) (slice_get-take 29 cells i h ∙ held.1),
      );
}

pub table_says_always : TableSaysAlways
table_says_always cells long views =
    let code = code_always (table_sets cells) cells views (table_sets_are_small cells) in
    elim (cases_lt 0 (unreadable_data cells)) [
      | inl some ↦ (ByCode code.0, (some, code.1))
      | inr few ↦ (AsRead (map contents (take 29 cells)), reads_all cells long (omega arith))
    ]

-- ---- sectors

pub read_are_sectors : ReadAreSectors
read_are_sectors cells sectors views reads = All-from_get_or IsSector sectors [] (λ i lt.
    let size : length sectors ≡ 29 = reads.size in
    let within : i < 29 = omega arith in
    let here = reads.each i within in
    subst IsSector (sym (get_or_from_slice_get sectors i here.0 [] here.2))
    (held_sector cells i here.0 views here.1))
