use Rattle.std.proofs.Common.{◌≡◌, ◌-◌, true, length, Err, ◌∙◌, subst, arith}
use Rattle.cartridge_laws.specs.Table.{IsSoundList}
use Rattle.drive_states.specs.Reach.{reads_in}
use Rattle.host_driver.proofs.Keeping.{mode_kept}
use Rattle.qic_base.specs.Alone.{around}
use Rattle.qic_base.specs.Sink as sinks
use Rattle.qic_base.specs.SinkCalls as sink_calls
use Rattle.command_laws.proofs.Passing.{passed}
use Rattle.cartridge_check.specs.declared.fault.CheckFault.{CheckFault}
use Rattle.cartridge_check.specs.declared.fault.CheckFault.TheVariants.{Sink}
use Rattle.cartridge_check.proofs.Ending.{begun, counts_cut, counts_written, front_failed, front_read, volumes_failed}
use Rattle.cartridge_check.proofs.Looked.{list_sound, looked_few}
use Rattle.cartridge_check.proofs.checking.check_segments.Goals as goal

pub returns-in_err-check_header : goal.returns-in_err-check_header
returns-in_err-check_header g c =
    let fault : CheckFault = c.in_err-check_header.field-0.0 in
    let is : c.from_residual.result ≡ Err fault = passed c.from_residual.result fault c.from_residual.ensures.1 in
    rw is c.in_err-check_header.ensures.ends

pub check_table-requires-clause-mode : goal.check_table-requires-clause-mode
check_table-requires-clause-mode g c =
    mode_kept reads_in true c.args.unit.now.drive.deck c.check_header.new.unit.drive.deck c.in_ok-check_header.ensures.keeps.same
    c.requires.mode

pub tell_volumes-requires-clause-mode : goal.tell_volumes-requires-clause-mode
tell_volumes-requires-clause-mode g c =
    mode_kept reads_in true c.check_header.new.unit.drive.deck c.check_table.new.unit.drive.deck c.in_ok-check_table.ensures.keeps.same
    (mode_kept reads_in true c.args.unit.now.drive.deck c.check_header.new.unit.drive.deck c.in_ok-check_header.ensures.keeps.same
    c.requires.mode)

pub tell_volumes-requires-clause-list : goal.tell_volumes-requires-clause-list
tell_volumes-requires-clause-list g c =
    list_sound g.T.Tape.means c.check_header.new.map c.requires.ready.fits c.in_ok-check_header.ensures.keeps
    c.in_ok-check_header.ensures.map c.in_ok-check_table.ensures.shown

pub returns-in_err-check_table : goal.returns-in_err-check_table
returns-in_err-check_table g c =
    let m = g.T.Tape.means in
    let k = g.K.Sink.means in
    let first = begun m k c.requires.ready.fits c.requires.agrees c.requires.referenced c.in_ok-check_header.ensures.keeps
    c.in_ok-check_header.ensures.ends in
    let fault : CheckFault = c.in_err-check_table.field-0.0 in
    let is : c.from_residual-in_err-check_table.result ≡ Err fault =
    passed c.from_residual-in_err-check_table.result fault c.from_residual-in_err-check_table.ensures.1 in
    rw is (front_failed m k c.check_header.new.host c.check_header.new.map c.check_table.new.work c.check_table.new.table
    (around c.args.unit.now.tape c.args.sink.now) (around c.check_header.new.unit.tape c.check_header.new.sink)
    (around c.check_table.new.unit.tape c.check_table.new.sink) _ _ c.check_table.new.tally first fault g.met.K.Sink.took_both
    c.in_err-check_table.ensures.ends)

pub returns-in_err-tell_volumes : goal.returns-in_err-tell_volumes
returns-in_err-tell_volumes g c =
    let m = g.T.Tape.means in
    let k = g.K.Sink.means in
    let d = around c.check_table.new.unit.tape c.check_table.new.sink in
    let e = around c.tell_volumes.new.unit.tape c.tell_volumes.new.sink in
    let front = front_read m k d c.requires.ready.fits c.requires.agrees c.requires.referenced c.in_ok-check_header.ensures.keeps
    c.in_ok-check_header.ensures.ends g.met.K.Sink.took_both c.in_ok-check_table.ensures.ends in
    let fault : CheckFault = c.in_err-tell_volumes.field-0.0 in
    let is : c.from_residual-in_err-tell_volumes.result ≡ Err fault =
    passed c.from_residual-in_err-tell_volumes.result fault c.from_residual-in_err-tell_volumes.ensures.1 in
    rw is (volumes_failed m k d e front c.tell_volumes.new.tally fault g.met.K.Sink.took_both
    c.in_err-tell_volumes.ensures.tells)

pub returns : goal.returns
returns g c =
    let m = g.T.Tape.means in
    let k = g.K.Sink.means in
    let d = around c.check_table.new.unit.tape c.check_table.new.sink in
    let e = around c.tell_volumes.new.unit.tape c.tell_volumes.new.sink in
    let front = front_read m k d c.requires.ready.fits c.requires.agrees c.requires.referenced c.in_ok-check_header.ensures.keeps
    c.in_ok-check_header.ensures.ends g.met.K.Sink.took_both c.in_ok-check_table.ensures.ends in
    let order : IsSoundList (length c.check_header.new.map - 1) c.check_table.new.table =
    list_sound m c.check_header.new.map c.requires.ready.fits c.in_ok-check_header.ensures.keeps c.in_ok-check_header.ensures.map
    c.in_ok-check_table.ensures.shown in
    counts_written m k d e front c.tell_volumes.new.tally
    (record { segments = omega arith; mendable = omega arith; bad = omega arith }) g.met.K.Sink.took_both
    c.in_ok-tell_volumes.ensures.tells
    (looked_few m c.args.host.now c.args.unit.now c.check_header.new.map c.check_table.new.table c.requires.ready.fits
    c.in_ok-check_header.ensures.map order)
    c.write_text.new.sink
    (subst (sinks.Wrote k c.tell_volumes.new.sink c.write_text.new.sink) (c.bytes.ensures ∙ c.counts_text.ensures)
    c.in_ok-write_text.ensures)

pub returns-in_err-write_text : goal.returns-in_err-write_text
returns-in_err-write_text g c =
    let m = g.T.Tape.means in
    let k = g.K.Sink.means in
    let d = around c.check_table.new.unit.tape c.check_table.new.sink in
    let e = around c.tell_volumes.new.unit.tape c.tell_volumes.new.sink in
    let front = front_read m k d c.requires.ready.fits c.requires.agrees c.requires.referenced c.in_ok-check_header.ensures.keeps
    c.in_ok-check_header.ensures.ends g.met.K.Sink.took_both c.in_ok-check_table.ensures.ends in
    let is : c.from_residual-in_err-write_text.result ≡ Err Sink =
    passed c.from_residual-in_err-write_text.result Sink c.from_residual-in_err-write_text.ensures.1 in
    rw is (counts_cut m k d e front c.tell_volumes.new.tally
    (record { segments = omega arith; mendable = omega arith; bad = omega arith }) g.met.K.Sink.took_both
    c.in_ok-tell_volumes.ensures.tells c.write_text.new.sink
    (subst (sink_calls.BrokeOff k c.tell_volumes.new.sink c.write_text.new.sink) (c.bytes.ensures ∙ c.counts_text.ensures)
    c.in_err-write_text.ensures))
