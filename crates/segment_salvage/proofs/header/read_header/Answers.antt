use Rattle.std.proofs.Common.{◌≡◌, List, ℕ, true, take, sym, ap, ◌∙◌}
use Rattle.std.proofs.lemmas.Bool.{OnFalse_from, false≢true}
use Rattle.cartridge_spec.specs.Header.{has_signature}
use Rattle.cartridge_spec.specs.Says.{whole_mask}
use Rattle.qic_base.specs.declared.tape.SectorView.{SectorView}
use Rattle.segment_salvage.specs.Buffer.{buffer_cells}
use Rattle.segment_salvage.specs.HeaderData.{IsHeaderData}
use Rattle.segment_salvage.proofs.ReadingWhole.{one_reads}
use Rattle.segment_salvage.proofs.header.read_header.Goals as goal

pub returns-then-reads_whole-clause-none : goal.returns-then-reads_whole-clause-none
returns-then-reads_whole-clause-none c =
    let cells : List SectorView = buffer_cells c.args.form whole_mask c.args.unread c.args.sectors.now in
    let now : List (List ℕ) = take 29 c.reads_whole.new.sectors in
    OnFalse_from c.has_signature.result ((area : List (List ℕ)) → IsHeaderData c.args.form c.args.zero_lost cells area → ⊥)
    (λ off area header.
    let same : area ≡ now = one_reads c.args.form c.args.zero_lost cells area now header.reads c.if-reads_whole.ensures.reads in
    let on : c.has_signature.result ≡ true = c.has_signature.ensures ∙ ap has_signature (sym same) ∙ header.signature in
    false≢true (sym off ∙ on))
