-- What is told of a dump is the text of its answer.
use Rattle.std.proofs.Common.{◌≡◌, ℕ, length, Option, sym, ap, ◌∙◌}
use Rattle.dump_spec.specs.Answers.{Known, info_answer, volume_count}
use Rattle.dump_spec.specs.Lines.{bad_count, info_text}
use Rattle.dump_spec.specs.Pieces.{pieces}
use Rattle.dump_spec.specs.Table.{FoundTable}
use Rattle.dump_spec.specs.declared.form.Form.{Form}
use Rattle.dump_answers.specs.Pieces.{HasPieces}
use Rattle.dump_answers.specs.declared.pieces.PieceCounts.{PieceCounts}

pub info_same : (known : Known) (table : Option FoundTable) (form : Form) (bytes volumes : ℕ) (counts : PieceCounts) →
    known.layout.form ≡ form → length known.dump.bytes ≡ bytes → HasPieces known.dump known.layout counts →
    volumes ≡ volume_count known table →
    info_text form bytes counts.pieces known.header counts.bad volumes ≡ (info_answer known table).printed
info_same known table form bytes volumes counts form_is bytes_are has volumes_are =
    ap (λ (f : Form). info_text f bytes counts.pieces known.header counts.bad volumes) (sym form_is)
    ∙ ap (λ (b : ℕ). info_text known.layout.form b counts.pieces known.header counts.bad volumes) (sym bytes_are)
    ∙ ap (λ (p : ℕ). info_text known.layout.form (length known.dump.bytes) p known.header counts.bad volumes) has.pieces_are
    ∙ ap (λ (b : ℕ). info_text known.layout.form (length known.dump.bytes) (length (pieces known.dump known.layout)) known.header b volumes)
    has.bad
    ∙ ap (λ (v : ℕ). info_text known.layout.form (length known.dump.bytes) (length (pieces known.dump known.layout)) known.header
    (bad_count known.layout.masks (pieces known.dump known.layout)) v) volumes_are
