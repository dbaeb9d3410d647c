use Rattle.std.proofs.Common.{◌≡◌, ◌++◌, List, ℕ, codes, ap, ◌∙◌}
use Rattle.command_spec.specs.Lines.{number_line}
use Rattle.dump_volumes.proofs.info.track_text.Goals as goal

pub returns : goal.returns
returns c =
    let one : c.push_line.new.lines ≡ number_line (codes "format-code") c.args.fields.now.format_code =
    c.push_line.ensures.line ∙ ap (λ (l : List ℕ). l ++ number_line (codes "format-code") c.from.result) c.new-lines.ensures
    ∙ ap (number_line (codes "format-code")) c.from.ensures in
    cc (one, c.push_line-2.ensures.line, c.push_line-3.ensures.line, c.from-2.ensures, c.from-3.ensures)
