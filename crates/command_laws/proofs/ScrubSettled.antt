-- The table's segment of a settled cartridge reads, and stays settled.
use Rattle.std.proofs.Common.{◌≤◌, cond, arith, List, [], ◌∷◌, length, ◌≡◌, ℕ, ◌<◌, Some, sym, ap, ◌∙◌, subst, ◌⊎◌, ◌+◌, inl, inr, take}
use Rattle.std.proofs.Common.{drop}
use Rattle.std.proofs.lemmas.Option.{slice_get-get_or, unwrap_or-slice_get}
use Rattle.std.proofs.lemmas.List.{take-append-drop, length-drop}
use Rattle.std.proofs.lemmas.List.Sums.{sum_by-append}
use Rattle.cartridge_laws.proofs.Cells.{unreadable_count-first, one_if_any}
use Rattle.cartridge_laws.proofs.FormatCopies.{held_view}
use Rattle.cartridge_laws.proofs.FormatWriting.{some_weaker}
use Rattle.cartridge_laws.proofs.MountParts.{length-block}
use Rattle.cartridge_laws.proofs.MountStanding.{can_be_read}
use Rattle.cartridge_laws.proofs.Sayings.{written_is_said}
use Rattle.cartridge_laws.proofs.Segments.{length-whole_cells}
use Rattle.cartridge_laws.specs.AppendSettled.{IsSettledFor}
use Rattle.cartridge_spec.specs.Shape.{IsArea, is_unreadable, sector_at, IsLive}
use Rattle.cartridge_spec.specs.TableSegment.{table_cells}
use Rattle.cartridge_spec.specs.Says.{unreadable_count, Written, with_parity}
use Rattle.cartridge_laws.specs.Segment.{unreadable_data}
use Rattle.cartridge_spec.specs.Settling.{changed_by}
use Rattle.command_laws.proofs.ScrubApart.{looked_rise}
use Rattle.command_laws.proofs.ScrubDone.{done_being_mended}
use Rattle.command_laws.proofs.ScrubMending.{stopped_scrub}
use Rattle.command_laws.proofs.ScrubStanding.{LooksInFront, table_kept, looks_in_front}
use Rattle.command_laws.specs.ScrubLaws.{SettledTableReads, DoneScrubIsSettled, StoppedScrubIsSettled}
use Rattle.command_laws.specs.ScrubMended.{IsBeingMended}
use Rattle.command_spec.specs.Scrub.{Looked, looked_at}
use Rattle.qic_base.specs.Acts.{steps_of}
use Rattle.qic_base.specs.Cartridge.{Cartridge, view_at}
use Rattle.qic_base.specs.declared.tape.SectorView.{SectorView}
use Rattle.qic_base.specs.declared.tape.SectorView.TheVariants.{Holds, Lost}

-- ---- it reads

-- at most as many are unreadable as there are
count_most : (cells : List SectorView) → unreadable_count cells ≤ length cells
count_most [] = omega arith
count_most (cell ∷ cells) =
    let rest = count_most cells in
    omega (arith, unreadable_count-first cell cells, one_if_any (is_unreadable cell))

settled_written : (c : Cartridge) (area : List (List ℕ)) → IsArea area → IsSettledFor c area → Written (table_cells c) area
settled_written c area is_area known = record {
  size = length-block area is_area ∙ sym (length-whole_cells c 2);
  each = λ i held at.
      let is = held_view c 2 i held at in
      let within : i < 32 = is.within in
      let part : view_at c 2 i ≡ Holds (sector_at (with_parity area) i) = known.live i within (subst IsLive (sym is.view) tt) in
      let both : Holds held ≡ Holds (sector_at (with_parity area) i) = sym is.view ∙ part in
      let same : held ≡ sector_at (with_parity area) i = cc in
      slice_get-get_or (with_parity area) i [] (omega (arith, length-block area is_area))
      ∙ ap (λ (b : List ℕ). Some b) (sym (unwrap_or-slice_get (with_parity area) i []) ∙ sym same);
}

few_unreadable : (c : Cartridge) → (unreadable_data (table_cells c) ≡ 0) ⊎ (unreadable_count (table_cells c) ≤ 3) →
    unreadable_count (table_cells c) ≤ 3
few_unreadable c (inl none) =
    let cells : List SectorView = table_cells c in
    let parts : unreadable_count cells ≡ unreadable_count (take 29 cells) + unreadable_count (drop 29 cells) =
    ap (λ (xs : List SectorView). unreadable_count xs) (sym (take-append-drop 29 cells)) ∙ sum_by-append (λ v. cond (is_unreadable v) 1 0)
    (take 29 cells) (drop 29 cells) in
    let rest = count_most (drop 29 cells) in
    omega (arith, length-drop 29 cells, length-whole_cells c 2)
few_unreadable c (inr few) = few

pub settled_table_reads : SettledTableReads
settled_table_reads c area is_area known =
    let size : length area ≡ 29 = is_area.size in
    written_is_said (table_cells c) area (omega arith) (omega arith) is_area.sectors (settled_written c area is_area known)
    (few_unreadable c (can_be_read c area known.table))

-- ---- it stays settled

pub mending_settled : (c d : Cartridge) (area : List (List ℕ)) (looked : List Looked) → LooksInFront looked → IsBeingMended looked c d →
    IsSettledFor c area → IsSettledFor d area
mending_settled c d area looked front way known = record {
  table = table_kept looked c d area front way known.table;
  live = λ i h live.
      elim (way.each 2 i h) [
        | inl same ↦ same ∙ known.live i h (subst IsLive same live)
        | inr has ↦
            let held : view_at c 2 i ≡ Holds (sector_at (with_parity area) i) = known.live i h (subst IsLive (sym has.2) tt) in
            let both : Lost ≡ Holds (sector_at (with_parity area) i) = sym has.2 ∙ held in
            absurd (cc)
      ];
}

pub done_scrub_is_settled : DoneScrubIsSettled
done_scrub_is_settled c words entries last acts area order scrubs known =
    mending_settled c (changed_by (steps_of acts) c) area (looked_at words entries)
    (looks_in_front words entries (looked_rise words last entries order))
    (done_being_mended c words entries last acts order scrubs) known

pub stopped_scrub_is_settled : StoppedScrubIsSettled
stopped_scrub_is_settled c words entries last acts area left order scrubs known torn =
    some_weaker left (λ d way. mending_settled c d area (looked_at words entries)
    (looks_in_front words entries (looked_rise words last entries order)) way known)
    (stopped_scrub c words entries last acts left order scrubs torn)
