use Rattle.std.proofs.Common.{◌≡◌, ℕ, ◌-◌, ◌*◌, List, take, Result, Err, subst, sym, ap, ◌∙◌}
use Rattle.host_driver.specs.Fits.{segments_of}
use Rattle.qic_base.specs.declared.store_fault.StoreFault.{StoreFault}
use Rattle.qic_base.proofs.Steps.{Tells-map}
use Rattle.qic_base.specs.TapeCalls.{Tells}
use Rattle.segment_solve.specs.declared.fault.SegFault.{SegFault}
use Rattle.table_solve.specs.declared.unread.Unread.{Unread}
use Rattle.cartridge_spec.specs.TableSegment.{TableIs}
use Rattle.cartridge_front.specs.Finding.{NamesCause, FindsTable, FindsVolumes}
use Rattle.command_laws.proofs.Passing.{passed}
use Rattle.cartridge_front.proofs.TableSegment.{finds_bad}
use Rattle.cartridge_front.proofs.volume_reader.read_volumes.Goals as goal

pub returns-in_err-decode_table-in-Ok-clause-cause : goal.returns-in_err-decode_table-in-Ok-clause-cause
returns-in_err-decode_table-in-Ok-clause-cause g c =
    let fault : StoreFault = c.in_err-decode_table-in-Ok.field-0.0 in
    let answer : Result Unread StoreFault = c.from_residual-in_err-decode_table-in-Ok.result in
    let is : answer ≡ Err fault = passed answer fault c.from_residual-in_err-decode_table-in-Ok.ensures.1 in
    subst (λ r. NamesCause (segments_of c.args.host.now) r) (sym is)
    (c.in_err-decode_table-in-Ok.ensures.cause (segments_of c.args.host.now))

pub returns-in_err-decode_table-in-Ok-clause-found : goal.returns-in_err-decode_table-in-Ok-clause-found
returns-in_err-decode_table-in-Ok-clause-found g c = λ sound.
    let fault : StoreFault = c.in_err-decode_table-in-Ok.field-0.0 in
    let answer : Result Unread StoreFault = c.from_residual-in_err-decode_table-in-Ok.result in
    let is : answer ≡ Err fault = passed answer fault c.from_residual-in_err-decode_table-in-Ok.ensures.1 in
    let sectors : List (List ℕ) = c.read_table.new.work in
    let last : 28 * c.from.result - 1 ≡ 28 * segments_of c.args.host.now - 1 =
    ap (λ (n : ℕ). 28 * n - 1) (c.from.ensures ∙ c.segments_per_track.ensures.value ∙ c.geometry.ensures) in
    Tells-map g.T.Tape.means c.args.unit.now.tape (λ c'. TableIs c' (take 29 sectors))
    (λ c'. FindsVolumes c' (28 * segments_of c.args.host.now - 1) sectors c.decode_table.new.table answer)
    (λ c' table. finds_bad c' (28 * segments_of c.args.host.now - 1) (28 * c.from.result - 1) sectors c.data_sectors.result.now
    c.decode_table.new.table fault answer is last
    c.data_sectors.ensures.value table c.in_err-decode_table-in-Ok.ensures.shown)
    (subst (λ (read : Result Unread SegFault). Tells g.T.Tape.means c.args.unit.now.tape (λ c'. FindsTable c' sectors read)) c.in-Ok.is
    c.in_ok-unread.ensures.found)
