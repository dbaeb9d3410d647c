use Rattle.std.proofs.Common.{◌≡◌, ◌∷◌, [], Err}
use Rattle.command_spec.specs.Scrub.{Looked}
use Rattle.command_laws.proofs.Passing.{passed}
use Rattle.cartridge_check.specs.declared.fault.CheckFault.TheVariants.{Sink, Tape}
use Rattle.cartridge_check.proofs.Joining.{line_cut, line_written, none_told}
use Rattle.cartridge_check.proofs.looking.tell_segment.Goals as goal

pub returns-in_err-verdict-clause-tells : goal.returns-in_err-verdict-clause-tells
returns-in_err-verdict-clause-tells g c =
    let l : Looked = record { segment = c.args.segment; mask = c.args.usable } in
    let is : c.from_residual.result ≡ Err Tape = passed c.from_residual.result Tape c.from_residual.ensures.1 in
    rw is (none_told g.T.Tape.means g.K.Sink.means g.met.K.Sink.took_nothing (l ∷ []) c.args.unit.now.tape
    c.look_at_segment.new.unit.tape c.args.sink.now c.in_err-verdict.ensures.did)

pub returns-in_err-tell_verdict-clause-tells : goal.returns-in_err-tell_verdict-clause-tells
returns-in_err-tell_verdict-clause-tells g c =
    let l : Looked = record { segment = c.args.segment; mask = c.args.usable } in
    let is : c.from_residual-in_err-tell_verdict.result ≡ Err Sink =
    passed c.from_residual-in_err-tell_verdict.result Sink c.from_residual-in_err-tell_verdict.ensures.1 in
    rw is (line_cut g.T.Tape.means g.K.Sink.means l c.args.unit.now.tape c.look_at_segment.new.unit.tape c.args.sink.now
    c.tell_verdict.new.sink c.in_ok-verdict.verdict c.in_ok-verdict.ensures.told c.in_ok-verdict.ensures.may c.in_ok-verdict.ensures.did
    c.in_err-tell_verdict.ensures.wrote)

pub returns-clause-tells : goal.returns-clause-tells
returns-clause-tells g c =
    let l : Looked = record { segment = c.args.segment; mask = c.args.usable } in
    line_written g.T.Tape.means g.K.Sink.means l c.args.unit.now.tape c.look_at_segment.new.unit.tape c.args.sink.now
    c.tell_verdict.new.sink c.in_ok-verdict.verdict c.in_ok-verdict.ensures.told c.in_ok-verdict.ensures.may c.in_ok-verdict.ensures.did
    c.args.tally.now c.tell_verdict.new.tally c.in_ok-tell_verdict.ensures.wrote c.in_ok-tell_verdict.ensures.counted
