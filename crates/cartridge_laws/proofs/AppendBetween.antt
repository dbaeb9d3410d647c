-- What the table's segment says while an append writes it.
use Rattle.std.proofs.Common.{◌≤◌, Bool, true, false, cond, arith, ◌≡◌, ℕ, ◌<◌, List, length, sym, ap, ◌∙◌, ◌≢◌, zero, suc, [], ◌∷◌, refl}
use Rattle.std.proofs.Common.{inl, inr}
use Rattle.std.proofs.lemmas.List.{take_all}
use Rattle.std.proofs.lemmas.Bool.{cases_eq}
use Rattle.cartridge_laws.proofs.Cells.{IsReadable, count_of_readable, unreadable_count-first, one_if_any}
use Rattle.cartridge_laws.proofs.FormatCopies.{view_held}
use Rattle.cartridge_laws.proofs.MountParts.{readable_front, length-block, data_read}
use Rattle.cartridge_laws.proofs.MountStanding.{written_table}
use Rattle.cartridge_laws.proofs.MountStops.{block_written}
use Rattle.cartridge_laws.proofs.Segments.{length-whole_cells}
use Rattle.cartridge_laws.specs.AppendBetween.{IsBegun}
use Rattle.cartridge_laws.specs.AppendLaws.{BeforeReadsOld, TurnedReadsNew}
use Rattle.cartridge_spec.specs.Shape.{IsArea, is_unreadable, sector_at}
use Rattle.cartridge_spec.specs.TableSegment.{table_cells}
use Rattle.cartridge_spec.specs.Says.{unreadable_count, Written, with_parity}
use Rattle.qic_base.specs.Cartridge.{Cartridge, view_at}
use Rattle.qic_base.specs.declared.tape.SectorView.{SectorView}
use Rattle.qic_base.specs.declared.tape.SectorView.TheVariants.{Lost, Holds}

-- ---- one sector lost

pub none_if_readable : (b : Bool) → b ≡ false → cond b 1 0 ≤ 0
none_if_readable true is = absurd (cc)
none_if_readable false is = omega arith

none_of_readable : (cells : List SectorView) → ((i : ℕ) → i < length cells → IsReadable cells i) → unreadable_count cells ≡ 0
none_of_readable cells each =
    ap unreadable_count (sym (take_all (length cells) cells (omega arith))) ∙ count_of_readable (length cells) cells each

-- cells of which each but one can be read
one_at_most : (cells : List SectorView) (k : ℕ) → ((i : ℕ) → i < length cells → i ≢ k → IsReadable cells i) → unreadable_count cells ≤ 1
one_at_most [] k each = let none : unreadable_count [] ≡ 0 = refl in omega arith
one_at_most (cell ∷ cells) zero each =
    let rest : unreadable_count cells ≡ 0 = none_of_readable cells (λ i h. each (suc i) (omega arith) (λ e. omega arith)) in
    let first = one_if_any (is_unreadable cell) in
    omega (arith, unreadable_count-first cell cells)
one_at_most (cell ∷ cells) (suc k) each =
    let rest : unreadable_count cells ≤ 1 = one_at_most cells k (λ i h apart. each (suc i) (omega arith) (λ e. apart (omega arith))) in
    let first = none_if_readable (is_unreadable cell) (readable_front cell cells (each 0 (omega arith) (λ e. omega arith))) in
    omega (arith, unreadable_count-first cell cells)

pub begun_written : (c : Cartridge) (old : List (List ℕ)) (changed : ℕ) → IsArea old → IsBegun c old changed → Written (table_cells c) old
begun_written c old changed is begun =
    block_written c old (length-block old is) (λ i held h view.
    elim (cases_eq i changed) [
      | inl same ↦
          let lost : view_at c 2 i ≡ Lost = ap (view_at c 2) same ∙ begun.lost in
          absurd (cc)
      | inr apart ↦
          let there : Holds held ≡ Holds (sector_at (with_parity old) i) = sym view ∙ begun.others i h apart in
          cc
    ])

begun_few : (c : Cartridge) (old : List (List ℕ)) (changed : ℕ) → IsBegun c old changed → unreadable_count (table_cells c) ≤ 3
begun_few c old changed begun =
    let long : length (table_cells c) ≡ 32 = length-whole_cells c 2 in
    let few : unreadable_count (table_cells c) ≤ 1 =
    one_at_most (table_cells c) changed (λ i h apart.
    (sector_at (with_parity old) i, view_held c 2 i (sector_at (with_parity old) i) (omega arith) (begun.others i (omega arith) apart))) in
    omega arith

-- ---- between two tables

pub before_reads_old : BeforeReadsOld
before_reads_old c old changed is small (inl whole) = inl (data_read c old is (λ i h. whole i (omega arith)))
before_reads_old c old changed is small (inr begun) =
    written_table c old is (begun_written c old changed is begun) (inr (begun_few c old changed begun))

pub turned_reads_new : TurnedReadsNew
turned_reads_new c old new is turned =
    let from : 29 ≤ turned.turn = turned.from in
    inl (data_read c new is (λ i h. turned.before i (omega arith)))
