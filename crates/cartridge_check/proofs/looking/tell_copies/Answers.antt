use Rattle.std.proofs.Common.{◌≡◌, ◌+◌, ◌∷◌, [], true, Err, arith, length}
use Rattle.command_spec.specs.Check.{MayBeTold}
use Rattle.command_spec.specs.Scrub.{whole_segment}
use Rattle.drive_states.specs.Reach.{reads_in}
use Rattle.host_driver.proofs.Keeping.{cartridge_kept, mode_kept}
use Rattle.qic_base.specs.Alone.{around}
use Rattle.command_laws.proofs.Passing.{passed}
use Rattle.cartridge_check.specs.declared.fault.CheckFault.{CheckFault}
use Rattle.cartridge_check.proofs.Front.{reads_front}
use Rattle.cartridge_check.proofs.Joining.{tells_longer, tells_then}
use Rattle.cartridge_check.proofs.Parts.{few_after, few_more, zip_length}
use Rattle.cartridge_check.proofs.looking.tell_copies.Goals as goal

pub tell_segment-requires-clause-can : goal.tell_segment-requires-clause-can
tell_segment-requires-clause-can g c = reads_front 0 c.requires.ready c.requires.referenced c.requires.mode (omega arith)

pub tell_segment-requires-clause-few : goal.tell_segment-requires-clause-few
tell_segment-requires-clause-few g c = few_more 0 67108864 c.args.tally.now (omega arith) c.requires.few

pub tell_segment-requires-2-clause-can : goal.tell_segment-requires-2-clause-can
tell_segment-requires-2-clause-can g c =
    let keeps = c.in_ok-tell_segment.ensures.keeps in
    reads_front 1 keeps.ready
    (cartridge_kept (λ info. info.referenced) true c.args.unit.now.drive.deck c.tell_segment.new.unit.drive.deck keeps.same
    c.requires.referenced)
    (mode_kept reads_in true c.args.unit.now.drive.deck c.tell_segment.new.unit.drive.deck keeps.same c.requires.mode) (omega arith)

pub tell_segment-requires-2-clause-few : goal.tell_segment-requires-2-clause-few
tell_segment-requires-2-clause-few g c =
    let first = c.in_ok-tell_segment.ensures.tells in
    let each = zip_length MayBeTold (whole_segment 0 ∷ []) first.verdicts first.may in
    few_more (0 + length first.verdicts) 67108864 c.tell_segment.new.tally (omega arith)
    (few_after first.verdicts 0 c.args.tally.now c.tell_segment.new.tally first.counted c.requires.few)

pub returns-in_err-tell_segment-clause-tells : goal.returns-in_err-tell_segment-clause-tells
returns-in_err-tell_segment-clause-tells g c =
    let a = around c.args.unit.now.tape c.args.sink.now in
    let b = around c.tell_segment.new.unit.tape c.tell_segment.new.sink in
    let after = c.tell_segment.new.tally in
    let fault : CheckFault = c.in_err-tell_segment.field-0.0 in
    let is : c.from_residual.result ≡ Err fault = passed c.from_residual.result fault c.from_residual.ensures.1 in
    rw is (tells_longer g.T.Tape.means g.K.Sink.means (whole_segment 0 ∷ []) (whole_segment 1 ∷ []) a b c.args.tally.now after after fault
    c.in_err-tell_segment.ensures.tells)

pub returns-clause-tells : goal.returns-clause-tells
returns-clause-tells g c =
    let a = around c.args.unit.now.tape c.args.sink.now in
    let b = around c.tell_segment.new.unit.tape c.tell_segment.new.sink in
    let d = around c.tell_segment-2.new.unit.tape c.tell_segment-2.new.sink in
    tells_then g.T.Tape.means g.K.Sink.means g.met.K.Sink.took_both (whole_segment 0 ∷ []) (whole_segment 1 ∷ []) a b d c.args.tally.now
    c.tell_segment.new.tally c.tell_segment-2.new.tally c.tell_segment-2.result c.in_ok-tell_segment.ensures.tells
    c.tell_segment-2.ensures.tells
