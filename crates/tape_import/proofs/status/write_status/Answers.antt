use Rattle.std.proofs.Common.{◌++◌, ◌≡◌, ◌∙◌, ℕ, List, ap, codes, decimal, sym, subst}
use Rattle.qic_base.specs.SinkCalls.{Writes}
use Rattle.tape_import.specs.Texts.{status_text}
use Rattle.tape_import.proofs.status.write_status.Goals as goal

pub returns-in-MapFault : goal.returns-in-MapFault
returns-in-MapFault g c =
    let text : codes "tape_import: fault in line " ++ (decimal c.from.result ++ codes " of the map\n") ≡ status_text c.args.status =
    ap (λ (n : ℕ). codes "tape_import: fault in line " ++ (decimal n ++ codes " of the map\n")) c.from.ensures ∙
    ap status_text (sym c.in-MapFault.is) in
    subst (λ (t : List ℕ). Writes g.K.Sink.means c.args.sink.now c.write_between.new.sink t c.write_between.result) text
    c.write_between.ensures

pub returns-in-Length : goal.returns-in-Length
returns-in-Length g c =
    subst (λ (t : List ℕ). Writes g.K.Sink.means c.args.sink.now c.write_between-in-Length.new.sink t c.write_between-in-Length.result)
    (ap status_text (sym c.in-Length.is)) c.write_between-in-Length.ensures
