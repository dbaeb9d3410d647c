-- A segment that holds a list has data that show it.
use Rattle.std.proofs.Common.{◌≡◌, ℕ, inl, inr, List, ◌-◌, ◌<◌, sym, ◌∙◌, ap, arith, length, take, refl, subst}
use Rattle.std.proofs.lemmas.List.{same_lists, length-take-le, get_or-take}
use Rattle.std.proofs.lemmas.Option.{get_or_from_slice_get}
use Rattle.cartridge_laws.proofs.Segments.{length-whole_cells}
use Rattle.cartridge_laws.proofs.TableSayings.{table_says_is_function, said_is_table}
use Rattle.cartridge_spec.specs.TableSegment.{table_cells, TableIs}
use Rattle.cartridge_laws.specs.TableCells.{HasList}
use Rattle.cartridge_laws.specs.Segment.{data_of}
use Rattle.cartridge_spec.specs.Says.{Data, ByCode, ReadsAll, Agrees, TableSays, HasBlock}
use Rattle.cartridge_spec.specs.Table.{Entry, Shows}
use Rattle.qic_base.specs.Cartridge.{Cartridge}

-- data that are all read are those of a block that agrees
read_block : (c : Cartridge) (area block : List (List ℕ)) → ReadsAll (table_cells c) area → Agrees (table_cells c) block →
    area ≡ data_of block
read_block c area block reads agrees =
    let size : length area ≡ 29 = reads.size in
    let long : length block ≡ 32 = agrees.size ∙ length-whole_cells c 2 in
    let short : length block - 3 ≡ 29 = omega arith in
    let data_size : length (take 29 block) ≡ 29 = length-take-le 29 block (omega arith) in
    same_lists area (take 29 block) (size ∙ sym data_size) (λ k d lt.
    let within : k < 29 = omega arith in
    let here = reads.each k within in
    get_or_from_slice_get area k here.0 d here.2
    ∙ sym (get_or_from_slice_get block k here.0 d (agrees.each k here.0 here.1))
    ∙ sym (get_or-take 29 block k d within))
    ∙ ap (λ (n : ℕ). take n block) (sym short)

-- a segment that shows a list has data that show it
pub list_shown : (c : Cartridge) (area : List (List ℕ)) (entries : List Entry) → HasList c entries → TableIs c area → Shows area entries
list_shown c area entries has (inl reads) =
    subst (λ (a : List (List ℕ)). Shows a entries) (sym (read_block c area has.block reads has.agrees)) has.shown
list_shown c area entries has (inr solved) =
    let block : HasBlock (table_cells c) (data_of has.block) =
    record { block = has.block; code = has.code; agrees = has.agrees; shown = refl } in
    let says : TableSays (table_cells c) (ByCode (Data (data_of has.block))) =
    said_is_table (table_cells c) (Data (data_of has.block)) solved.0 (solved.1.0, block) (λ same. cc) in
    let same : ByCode (Data area) ≡ ByCode (Data (data_of has.block)) = table_says_is_function (table_cells c) (ByCode (Data area))
    (ByCode (Data (data_of has.block))) solved says in
    let one : area ≡ data_of has.block = cc in
    subst (λ (a : List (List ℕ)). Shows a entries) (sym one) has.shown
