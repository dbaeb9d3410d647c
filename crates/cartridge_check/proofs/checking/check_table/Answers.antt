use Rattle.std.proofs.Common.{◌≡◌, ◌∷◌, [], ℕ, ◌-◌, ◌*◌, true, Err, ap, sym, subst, arith}
use Rattle.cartridge_check.proofs.Ending.{line_failed, table_failed, table_read}
use Rattle.cartridge_check.proofs.Parts.{few_after, few_more, zip_length}
use Rattle.cartridge_check.specs.Checking.{TableEnds, as_check}
use Rattle.cartridge_check.specs.declared.fault.CheckFault.{CheckFault}
use Rattle.command_spec.specs.Check.{MayBeTold}
use Rattle.command_spec.specs.Scrub.{whole_segment}
use Rattle.drive_states.specs.Reach.{reads_in}
use Rattle.host_driver.proofs.Keeping.{mode_kept}
use Rattle.host_driver.specs.Fits.{segments_of}
use Rattle.qic_base.specs.Alone.{around}
use Rattle.command_laws.proofs.Passing.{passed}
use Rattle.volume_store.proofs.Storing.{one_length, still_referenced}
use Rattle.cartridge_check.proofs.checking.check_table.Goals as goal

pub tell_table-requires-clause-few : goal.tell_table-requires-clause-few
tell_table-requires-clause-few g c = few_more 2 67108864 c.args.tally.now (omega arith) c.requires.few

pub returns-in_err-tell_table-clause-ends : goal.returns-in_err-tell_table-clause-ends
returns-in_err-tell_table-clause-ends g c =
    let a = around c.args.unit.now.tape c.args.sink.now in
    let b = around c.tell_table.new.unit.tape c.tell_table.new.sink in
    let fault : CheckFault = c.in_err-tell_table.field-0.0 in
    let is : c.from_residual.result ≡ Err fault = passed c.from_residual.result fault c.from_residual.ensures.1 in
    rw is (line_failed g.T.Tape.means g.K.Sink.means _ _ _ a b c.args.tally.now c.tell_table.new.tally fault
    c.in_err-tell_table.ensures.tells)

pub read_volumes-requires-clause-mode : goal.read_volumes-requires-clause-mode
read_volumes-requires-clause-mode g c =
    mode_kept reads_in true c.args.unit.now.drive.deck c.tell_table.new.unit.drive.deck c.in_ok-tell_table.ensures.keeps.same
    c.requires.mode

pub read_volumes-requires-clause-referenced : goal.read_volumes-requires-clause-referenced
read_volumes-requires-clause-referenced g c =
    still_referenced c.args.unit.now.drive.deck c.tell_table.new.unit.drive.deck c.in_ok-tell_table.ensures.keeps.same c.requires.referenced

pub returns-in-Ok-clause-ends : goal.returns-in-Ok-clause-ends
returns-in-Ok-clause-ends g c =
    let m = g.T.Tape.means in
    let keeps = c.in_ok-tell_table.ensures.keeps in
    let same : segments_of c.args.host.now ≡ segments_of c.tell_table.new.host =
    one_length m c.args.host.now c.tell_table.new.host c.args.unit.now c.tell_table.new.unit c.requires.ready.fits keeps.ready.fits
    keeps.same.cartridge in
    rw same (table_read m g.K.Sink.means 0 (28 * segments_of c.tell_table.new.host - 1) c.read_volumes.new.work c.read_volumes.new.table
    (around c.args.unit.now.tape c.args.sink.now) c.tell_table.new.unit.tape c.read_volumes.new.unit.tape c.tell_table.new.sink
    c.args.tally.now c.tell_table.new.tally c.in_ok-tell_table.ensures.tells c.in-Ok.field-0 c.in-Ok.ensures.did
    (c.in-Ok.ensures.found (λ same. cc)))

pub returns-in-Ok-clause-shown : goal.returns-in-Ok-clause-shown
returns-in-Ok-clause-shown g c =
    let keeps = c.in_ok-tell_table.ensures.keeps in
    let same : segments_of c.args.host.now ≡ segments_of c.tell_table.new.host =
    one_length g.T.Tape.means c.args.host.now c.tell_table.new.host c.args.unit.now c.tell_table.new.unit c.requires.ready.fits
    keeps.ready.fits keeps.same.cartridge in
    rw same c.in-Ok.ensures.shown

pub returns-in-Ok-clause-few : goal.returns-in-Ok-clause-few
returns-in-Ok-clause-few g c =
    let told = c.in_ok-tell_table.ensures.tells in
    let each = zip_length MayBeTold (whole_segment 2 ∷ []) told.verdicts told.may in
    rw each at (few_after told.verdicts 2 c.args.tally.now c.tell_table.new.tally told.counted c.requires.few)

pub returns-in-Err-clause-ends : goal.returns-in-Err-clause-ends
returns-in-Err-clause-ends g c =
    let m = g.T.Tape.means in
    let keeps = c.in_ok-tell_table.ensures.keeps in
    let same : segments_of c.args.host.now ≡ segments_of c.tell_table.new.host =
    one_length m c.args.host.now c.tell_table.new.host c.args.unit.now c.tell_table.new.unit c.requires.ready.fits keeps.ready.fits
    keeps.same.cartridge in
    let a = around c.args.unit.now.tape c.args.sink.now in
    rw c.check_fault.ensures (subst (λ (n : ℕ). TableEnds m g.K.Sink.means (28 * n - 1) c.read_volumes.new.work c.read_volumes.new.table a
    (around c.read_volumes.new.unit.tape c.tell_table.new.sink) c.args.tally.now c.tell_table.new.tally (Err (as_check c.in-Err.fault)))
    (sym same) (table_failed m g.K.Sink.means _ (28 * segments_of c.tell_table.new.host - 1) c.read_volumes.new.work
    c.read_volumes.new.table a c.tell_table.new.unit.tape c.read_volumes.new.unit.tape c.tell_table.new.sink c.args.tally.now
    c.tell_table.new.tally c.in_ok-tell_table.ensures.tells c.in-Err.fault g.met.K.Sink.took_both g.met.K.Sink.took_nothing
    c.in-Err.ensures.did (λ other. c.in-Err.ensures.found (λ is. other (cc))) c.in-Err.ensures.kind
    (λ is. c.in-Err.ensures.formatted (ap Err is)) c.in-Err.ensures.cause))
