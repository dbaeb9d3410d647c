use Rattle.std.proofs.Common.{ℕ, List, take, Result, Err, sym, subst}
use Rattle.cartridge_laws.specs.TableCells.{HasList}
use Rattle.qic_base.proofs.Steps.{Tells-map}
use Rattle.qic_base.specs.TapeCalls.{Tells}
use Rattle.cartridge_spec.specs.TableSegment.{TableIs}
use Rattle.cartridge_spec.specs.Table.{Entry, Shows}
use Rattle.segment_solve.specs.declared.fault.SegFault.{SegFault}
use Rattle.qic_base.specs.declared.store_fault.StoreFault.{StoreFault}
use Rattle.table_solve.specs.declared.unread.Unread.{Unread}
use Rattle.cartridge_front.specs.Again.{FindsList}
use Rattle.cartridge_front.specs.Finding.{FindsTable, refusal_of}
use Rattle.cartridge_front.proofs.Again.{list_missing, finds_fault}
use Rattle.cartridge_front.proofs.refreshing.read_list.Goals as goal

pub returns-else-is_shown_by-clause-found : goal.returns-else-is_shown_by-clause-found
returns-else-is_shown_by-clause-found g c = λ sound.
    let sectors : List (List ℕ) = c.read_table.new.work in
    let entries : List Entry = c.args.table.now in
    let none : ¬ (Shows (take 29 sectors) entries) =
    λ shown. let e = c.if-is_shown_by.ensures.1
    (subst (λ (area : List (List ℕ)). Shows area entries) (sym c.data_sectors.ensures.value) shown) in cc in
    Tells-map g.T.Tape.means c.args.unit.now.tape (λ c'. TableIs c' (take 29 sectors)) (λ c'. ¬ (HasList c' entries))
    (λ c' table. list_missing c' (take 29 sectors) entries none table)
    (subst (λ (read : Result Unread SegFault). Tells g.T.Tape.means c.args.unit.now.tape (λ c'. FindsTable c' sectors read)) c.in-Ok.is
    c.in_ok-unread.ensures.found)

pub returns-in-Err-clause-found : goal.returns-in-Err-clause-found
returns-in-Err-clause-found g c = λ sound.
    let m = g.T.Tape.means in
    let sectors : List (List ℕ) = c.read_table.new.work in
    let entries : List Entry = c.args.table.now in
    let fault : SegFault = c.in-Err.fault in
    subst (λ (f : StoreFault). Tells m c.args.unit.now.tape (λ c'. FindsList c' sectors entries (Err f))) (sym c.table_fault.ensures)
    (Tells-map m c.args.unit.now.tape (λ c'. FindsTable {A = Unread} c' sectors (Err fault))
    (λ c'. FindsList c' sectors entries (Err (refusal_of fault)))
    (λ c' found. finds_fault c' sectors entries fault found)
    (subst (λ (read : Result Unread SegFault). Tells m c.args.unit.now.tape (λ c'. FindsTable c' sectors read)) c.in-Err.is
    c.in_ok-unread.ensures.found))

pub returns-else-is_shown_by-clause-shown : goal.returns-else-is_shown_by-clause-shown
returns-else-is_shown_by-clause-shown g c = tt
