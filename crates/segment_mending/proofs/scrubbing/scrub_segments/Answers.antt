use Rattle.std.proofs.Common.{◌≡◌, ℕ, List, [], ◌∷◌, subst, Err, ◌∙◌, arith}
use Rattle.qic_base.specs.Alone.{around}
use Rattle.qic_base.specs.Sink as sinks
use Rattle.qic_base.specs.SinkCalls as sink_calls
use Rattle.cartridge_spec.specs.Table.{Entry}
use Rattle.command_laws.proofs.Passing.{passed}
use Rattle.command_spec.specs.Scrub.{whole_segment, looked_volumes, looked_at}
use Rattle.qic_base.specs.declared.store_fault.StoreFault.{StoreFault}
use Rattle.qic_base.specs.declared.store_fault.StoreFault.TheVariants.{Sink}
use Rattle.segment_mending.specs.Looking.{HasLooked}
use Rattle.segment_mending.specs.Mending.{reported}
use Rattle.segment_mending.proofs.Joining.{few_after, looks_then, looks_longer}
use Rattle.segment_mending.proofs.Scrubbed.{not_begun, all_looked, line_written, line_cut, ends_cut}
use Rattle.segment_mending.proofs.scrubbing.scrub_segments.Goals as goal
use Rattle.segment_mending.proofs.scrubbing.scrub_segments.Goals.{After-write_text}

pub look_at_volumes-requires-clause-few : goal.look_at_volumes-requires-clause-few
look_at_volumes-requires-clause-few g c =
    let front = c.in_ok-look_at_front.ensures.looks in
    few_after (whole_segment 0 ∷ whole_segment 1 ∷ whole_segment 2 ∷ []) front.findings front.acts 0
    (reported (not_begun c.args.depth).report)
    (reported c.look_at_front.new.progress.report) front.counted
    (record { segments = omega arith; mended = omega arith; unreadable = omega arith })

pub returns-in_err-look_at_front-clause-ends : goal.returns-in_err-look_at_front-clause-ends
returns-in_err-look_at_front-clause-ends g c =
    let words : List ℕ = c.args.map.now in
    let entries : List Entry = c.args.table.now in
    let a = around c.args.unit.now.tape c.args.sink.now in
    let b = around c.look_at_front.new.unit.tape c.look_at_front.new.sink in
    let after = c.look_at_front.new.progress in
    let fault : StoreFault = c.in_err-look_at_front.field-0.0 in
    let is : c.from_residual.result ≡ Err fault = passed c.from_residual.result fault c.from_residual.ensures.1 in
    rw is (ends_cut g.T.Tape.means g.K.Sink.means c.args.depth words entries a b after fault
    (looks_longer g.T.Tape.means g.K.Sink.means (whole_segment 0 ∷ whole_segment 1 ∷ whole_segment 2 ∷ []) (looked_volumes words entries)
    a b (not_begun c.args.depth) after after fault c.in_err-look_at_front.ensures.looks))

pub returns-in_err-look_at_volumes-clause-ends : goal.returns-in_err-look_at_volumes-clause-ends
returns-in_err-look_at_volumes-clause-ends g c =
    let words : List ℕ = c.args.map.now in
    let entries : List Entry = c.args.table.now in
    let a = around c.args.unit.now.tape c.args.sink.now in
    let b = around c.look_at_front.new.unit.tape c.look_at_front.new.sink in
    let d = around c.look_at_volumes.new.unit.tape c.look_at_volumes.new.sink in
    let after = c.look_at_volumes.new.progress in
    let fault : StoreFault = c.in_err-look_at_volumes.field-0.0 in
    let is : c.from_residual-in_err-look_at_volumes.result ≡ Err fault =
    passed c.from_residual-in_err-look_at_volumes.result fault c.from_residual-in_err-look_at_volumes.ensures.1 in
    rw is (ends_cut g.T.Tape.means g.K.Sink.means c.args.depth words entries a d after fault
    (looks_then g.T.Tape.means g.K.Sink.means g.met.K.Sink.took_both (whole_segment 0 ∷ whole_segment 1 ∷ whole_segment 2 ∷ [])
    (looked_volumes words entries) a b d (not_begun c.args.depth) c.look_at_front.new.progress after (Err fault)
    c.in_ok-look_at_front.ensures.looks c.in_err-look_at_volumes.ensures.looks))

-- the front and the volumes were looked at
looked : (g : _) (c : After-write_text g) → HasLooked g.T.Tape.means g.K.Sink.means (looked_at c.args.map.now c.args.table.now)
    (around c.args.unit.now.tape c.args.sink.now) (around c.look_at_volumes.new.unit.tape c.look_at_volumes.new.sink)
    (not_begun c.args.depth) c.look_at_volumes.new.progress
looked g c =
    all_looked g.met.K.Sink.took_both c.args.map.now c.args.table.now
    c.in_ok-look_at_front.ensures.looks c.in_ok-look_at_volumes.ensures.looks

pub returns-in_err-write_text-clause-ends : goal.returns-in_err-write_text-clause-ends
returns-in_err-write_text-clause-ends g c =
    let is : c.from_residual-in_err-write_text.result ≡ Err Sink =
    passed c.from_residual-in_err-write_text.result Sink c.from_residual-in_err-write_text.ensures.1 in
    rw is (line_cut c.args.map.now c.args.table.now (looked g (goal.at.returns-in_err-write_text-clause-ends g c).After-write_text)
    g.met.K.Sink.took_both c.write_text.new.sink
    (subst (sink_calls.BrokeOff g.K.Sink.means c.look_at_volumes.new.sink c.write_text.new.sink)
    (c.bytes.ensures ∙ c.counts_text.ensures) c.in_err-write_text.ensures))

pub returns-clause-ends : goal.returns-clause-ends
returns-clause-ends g c =
    line_written c.args.map.now c.args.table.now (looked g (goal.at.returns-clause-ends g c).After-write_text)
    g.met.K.Sink.took_both c.write_text.new.sink
    (subst (sinks.Wrote g.K.Sink.means c.look_at_volumes.new.sink c.write_text.new.sink)
    (c.bytes.ensures ∙ c.counts_text.ensures) c.in_ok-write_text.ensures)
