-- While it is scrubbed in either form a cartridge's table reads the same, and stays settled: no wrong sector is looked for in it.
use Rattle.std.proofs.Common.{◌⊎◌, ℕ, inl, inr, List, sym, ◌∙◌, subst, Option, Some, IsSomeAnd}
use Rattle.cartridge_laws.proofs.FormatStanding.{same_cells}
use Rattle.cartridge_laws.proofs.FormatWriting.{some_weaker, effects-some}
use Rattle.cartridge_laws.specs.AppendSettled.{IsSettledFor}
use Rattle.cartridge_spec.specs.TableSegment.{TableIs}
use Rattle.cartridge_spec.specs.Says.{Data, TableSays, AsRead, ByCode}
use Rattle.cartridge_spec.specs.Shape.{IsLive}
use Rattle.command_laws.proofs.ScrubBeside.{not_the_table}
use Rattle.command_laws.proofs.ScrubForms.{as_seen, IsLeft, stopped_left}
use Rattle.command_laws.proofs.ScrubSeen.{IsSeen}
use Rattle.command_laws.proofs.ScrubSettled.{mending_settled}
use Rattle.command_laws.proofs.ScrubStanding.{table_kept, looks_in_front}
use Rattle.command_laws.specs.DeepScrubLaws.{StoppedFormTable, DoneFormTable, StoppedFormIsSettled, DoneFormIsSettled}
use Rattle.command_laws.specs.ScrubFound.{without_all}
use Rattle.command_spec.specs.Scrub.{Looked, looked_at, whole_segment, Finding}
use Rattle.command_spec.specs.declared.depth.Depth.{Depth}
use Rattle.qic_base.proofs.Steps.{Torn-all}
use Rattle.qic_base.specs.Acts.{steps_of}
use Rattle.qic_base.specs.Cartridge.{Cartridge}
use Rattle.qic_base.specs.Step.{effects}
use Rattle.qic_base.specs.declared.tape.SectorView.{SectorView}
use Rattle.command_laws.specs.SilentSectors.{IsSameIn}

-- ---- the same views of the table's segment

pub table_same : (c d : Cartridge) (area : List (List ℕ)) → IsSameIn c d 2 → TableIs c area → TableIs d area
table_same c d area same reads =
    subst (λ (cells : List SectorView). TableSays cells (AsRead area) ⊎ TableSays cells (ByCode (Data area)))
    (sym (same_cells c d 2 (whole_segment 2).mask same)) reads

settled_same : (c d : Cartridge) (area : List (List ℕ)) → IsSameIn c d 2 → IsSettledFor c area → IsSettledFor d area
settled_same c d area same known = record {
  table = table_same c d area same known.table;
  live = λ i h live. same i h ∙ known.live i h (subst IsLive (same i h) live);
}

pub seen_table : (depth : Depth) (c e : Cartridge) (looked : List Looked) (fs : List Finding) → IsSeen depth c e looked fs → IsSameIn c e 2
seen_table depth c e looked fs seen i h =
    elim (seen.each 2 i h) [
      | inl same ↦ same
      | inr lost ↦ absurd (not_the_table depth lost.found.at lost.found.searched lost.found.here)
    ]

pub left_table : (looked : List Looked) (c e d : Cartridge) → IsSameIn c e 2 → (left : IsLeft looked c e d) → IsSameIn left.other d 2
left_table looked c e d same left i h =
    elim (left.behind.each 2 i h) [
      | inl is ↦ is
      | inr kept ↦ kept.0 ∙ sym (same i h) ∙ sym kept.1
    ]

-- ---- what is left of it

pub stopped_form_table : StoppedFormTable
stopped_form_table depth c words entries last acts area left order scrubs reads torn =
    let looked : List Looked = looked_at words entries in
    let fs : List Finding = scrubs.findings in
    let e : Cartridge = without_all c looked fs in
    let run = as_seen depth c words entries last acts order scrubs in
    let same : IsSameIn c e 2 = seen_table depth c e looked fs run.seen in
    some_weaker left (λ d is.
    table_same is.other d area (left_table looked c e d same is)
    (table_kept looked e is.other area (looks_in_front words entries run.rise) is.way (table_same c e area same reads)))
    (stopped_left depth c words entries acts fs left run torn)

pub done_form_table : DoneFormTable
done_form_table depth c words entries last acts area order scrubs reads =
    subst (λ (o : Option Cartridge). IsSomeAnd o (λ d. TableIs d area)) (effects-some (steps_of acts) c)
    (stopped_form_table depth c words entries last acts area (effects (steps_of acts) (Some c)) order scrubs reads
    (Torn-all (steps_of acts) (Some c)))

pub stopped_form_is_settled : StoppedFormIsSettled
stopped_form_is_settled depth c words entries last acts area left order scrubs known torn =
    let looked : List Looked = looked_at words entries in
    let fs : List Finding = scrubs.findings in
    let e : Cartridge = without_all c looked fs in
    let run = as_seen depth c words entries last acts order scrubs in
    let same : IsSameIn c e 2 = seen_table depth c e looked fs run.seen in
    some_weaker left (λ d is.
    settled_same is.other d area (left_table looked c e d same is)
    (mending_settled e is.other area looked (looks_in_front words entries run.rise) is.way (settled_same c e area same known)))
    (stopped_left depth c words entries acts fs left run torn)

pub done_form_is_settled : DoneFormIsSettled
done_form_is_settled depth c words entries last acts area order scrubs known =
    subst (λ (o : Option Cartridge). IsSomeAnd o (λ d. IsSettledFor d area)) (effects-some (steps_of acts) c)
    (stopped_form_is_settled depth c words entries last acts area (effects (steps_of acts) (Some c)) order scrubs known
    (Torn-all (steps_of acts) (Some c)))
