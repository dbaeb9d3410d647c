use Rattle.std.proofs.Common.{◌∙◌, sym, ap, arith}
use Rattle.qic117_commands.specs.Left.{levels_left}
use Rattle.qic117_commands.proofs.ReportFacts.{levels_left-zero, levels_left-one, levels_left-more}
use Rattle.qic117_commands.proofs.shift.Shifter.next.Goals as goal

pub returns-in-0 : goal.returns-in-0
returns-in-0 c =
    let digits = c.self.inside.digits in
    let none = sym c.self.view_is ∙ ap (λ n. levels_left n digits) c.in-0.is ∙ levels_left-zero digits in
    (none, none)

pub returns-in-1 : goal.returns-in-1
returns-in-1 c =
    let digits = c.self.inside.digits in
    (sym c.self.view_is ∙ ap (λ n. levels_left n digits) c.in-1.is ∙ levels_left-one digits, levels_left-zero digits)

pub returns-in_default : goal.returns-in_default
returns-in_default c =
    let more = levels_left-more c.self.inside.left c.self.inside.digits (omega arith) in
    (sym c.self.view_is ∙ more.0, more.1)
