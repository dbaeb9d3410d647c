use Rattle.std.proofs.Common.{◌≡◌, true, Err}
use Rattle.command_spec.specs.Check.{MayBeTold, header_copies}
use Rattle.drive_states.specs.Reach.{reads_in}
use Rattle.host_driver.proofs.Keeping.{mode_kept}
use Rattle.qic_base.specs.Alone.{around}
use Rattle.command_laws.proofs.Passing.{passed}
use Rattle.cartridge_check.specs.declared.fault.CheckFault.{CheckFault}
use Rattle.cartridge_check.proofs.Ending.{IsHeld, copies_failed, header_failed, header_read, is_held}
use Rattle.cartridge_check.proofs.Parts.{few_after, zip_length}
use Rattle.cartridge_check.proofs.checking.check_header.Goals as goal

pub returns-in_err-tell_copies-clause-ends : goal.returns-in_err-tell_copies-clause-ends
returns-in_err-tell_copies-clause-ends g c =
    let a = around c.args.unit.now.tape c.args.sink.now in
    let b = around c.tell_copies.new.unit.tape c.tell_copies.new.sink in
    let there : IsHeld g.T.Tape.means c.args.unit.now.tape true =
    is_held g.T.Tape.means c.args.host.now c.args.unit.now true c.requires.ready.fits c.requires.agrees c.requires.referenced in
    let why : CheckFault = c.in_err-tell_copies.field-0.0 in
    let is : c.from_residual.result ≡ Err why = passed c.from_residual.result why c.from_residual.ensures.1 in
    rw is (copies_failed g.T.Tape.means g.K.Sink.means a b c.args.tally.now c.tell_copies.new.tally why there
    c.in_err-tell_copies.ensures.tells)

pub read_header-requires-clause-mode : goal.read_header-requires-clause-mode
read_header-requires-clause-mode g c =
    mode_kept reads_in true c.args.unit.now.drive.deck c.tell_copies.new.unit.drive.deck c.in_ok-tell_copies.ensures.keeps.same
    c.requires.mode

pub read_header-requires-clause-agrees : goal.read_header-requires-clause-agrees
read_header-requires-clause-agrees g c = c.in_ok-tell_copies.ensures.keeps.agrees c.requires.agrees

pub returns-in-Ok-clause-ends : goal.returns-in-Ok-clause-ends
returns-in-Ok-clause-ends g c =
    header_read g.T.Tape.means g.K.Sink.means 0 c.read_header.new.map (around c.args.unit.now.tape c.args.sink.now)
    c.tell_copies.new.unit.tape c.read_header.new.unit.tape c.tell_copies.new.sink c.args.tally.now c.tell_copies.new.tally
    (is_held g.T.Tape.means c.args.host.now c.args.unit.now true c.requires.ready.fits c.requires.agrees c.requires.referenced)
    c.in_ok-tell_copies.ensures.tells c.in-Ok.field-0 c.in-Ok.ensures.did (c.in-Ok.ensures.found (λ same. cc))

pub returns-in-Ok-clause-few : goal.returns-in-Ok-clause-few
returns-in-Ok-clause-few g c =
    let told = c.in_ok-tell_copies.ensures.tells in
    let each = zip_length MayBeTold header_copies told.verdicts told.may in
    rw each at (few_after told.verdicts 0 c.args.tally.now c.tell_copies.new.tally told.counted c.requires.few)

pub returns-in-Err-clause-ends : goal.returns-in-Err-clause-ends
returns-in-Err-clause-ends g c =
    let there : IsHeld g.T.Tape.means c.args.unit.now.tape true =
    is_held g.T.Tape.means c.args.host.now c.args.unit.now true c.requires.ready.fits c.requires.agrees c.requires.referenced in
    rw c.check_fault.ensures (header_failed g.T.Tape.means g.K.Sink.means _ c.read_header.new.map
    (around c.args.unit.now.tape c.args.sink.now) c.tell_copies.new.unit.tape c.read_header.new.unit.tape c.tell_copies.new.sink
    c.args.tally.now c.tell_copies.new.tally there c.in_ok-tell_copies.ensures.tells c.in-Err.fault g.met.K.Sink.took_both
    g.met.K.Sink.took_nothing c.in-Err.ensures.did (λ other. c.in-Err.ensures.found (λ same. other (cc))) c.in-Err.ensures.kind
    c.in-Err.ensures.cause)
