use Rattle.std.proofs.Common.{ℕ, ◌+◌, ◌-◌, List, take, drop, length, sym, subst, arith, Err}
use Rattle.qic_base.specs.Alone.{around}
use Rattle.cartridge_spec.specs.Table.{Entry}
use Rattle.cartridge_spec.specs.Volumes.{carrying_segments}
use Rattle.command_spec.specs.Scrub.{Looked, looked_volumes}
use Rattle.command_laws.proofs.Passing.{passed}
use Rattle.command_laws.specs.ScrubTerms.{looked_segments}
use Rattle.host_driver.proofs.Keeping.{keeps_none, keeps_both}
use Rattle.volume_table.specs.Entry.{entry_of}
use Rattle.qic_base.specs.declared.store_fault.StoreFault.{StoreFault}
use Rattle.segment_mending.specs.Looking.{Looks, HasFew}
use Rattle.segment_mending.specs.Mending.{reported}
use Rattle.segment_mending.proofs.Joining.{looked_none, looks_then, looks_longer, few_after}
use Rattle.segment_mending.proofs.Looked.{volumes_more, volumes_part, LiesOn, lies_on}
use Rattle.segment_mending.proofs.volumes.look_at_volumes.Goals as goal
use Rattle.segment_mending.proofs.volumes.look_at_volumes.Goals.{After-look_at_volume}

pub loop-index-init : goal.loop-index-init
loop-index-init g c = record {
  looked = looked_none g.met.K.Sink.took_nothing (around c.args.unit.now.tape c.args.sink.now) c.args.progress.now;
  few = c.requires.few.segments;
  keeps = keeps_none c.requires.ready;
}

pub look_at_volume-requires-clause-behind : goal.look_at_volume-requires-clause-behind
look_at_volume-requires-clause-behind g c =
    (lies_on (length c.args.map.now - 1) c.args.table.now c.loop-index.index
    (entry_of c.entry-entry.result.now) c.requires.list c.entry-entry.ensures).behind

pub look_at_volume-requires-clause-forwards : goal.look_at_volume-requires-clause-forwards
look_at_volume-requires-clause-forwards g c =
    (lies_on (length c.args.map.now - 1) c.args.table.now c.loop-index.index
    (entry_of c.entry-entry.result.now) c.requires.list c.entry-entry.ensures).forwards

pub look_at_volume-requires-clause-on_tape : goal.look_at_volume-requires-clause-on_tape
look_at_volume-requires-clause-on_tape g c =
    let lies : LiesOn (length c.args.map.now - 1) (entry_of c.entry-entry.result.now) =
    lies_on (length c.args.map.now - 1) c.args.table.now c.loop-index.index
    (entry_of c.entry-entry.result.now) c.requires.list c.entry-entry.ensures in
    let behind = lies.behind in let forwards = lies.forwards in let within = lies.within in omega arith

pub look_at_volume-requires-clause-few : goal.look_at_volume-requires-clause-few
look_at_volume-requires-clause-few g c =
    let before = c.loop-index.invariant.looked in
    let looked : List Looked = looked_volumes c.args.map.now (take c.loop-index.index c.args.table.now) in
    let few : HasFew (3 + length looked) (reported c.loop-index.progress.report) =
    few_after looked before.findings before.acts 3 (reported c.args.progress.now.report)
    (reported c.loop-index.progress.report) before.counted c.requires.few in
    record {
      segments = (let most = c.loop-index.invariant.few in omega arith);
      mended = few.mended;
      unreadable = few.unreadable;
    }

-- the volumes up to this one were looked at, or a fault cut that off
up_to_here : (g : _) (c : After-look_at_volume g) → Looks g.T.Tape.means g.K.Sink.means
    (looked_volumes c.args.map.now (take (c.loop-index.index + 1) c.args.table.now))
    (around c.args.unit.now.tape c.args.sink.now) (around c.look_at_volume.new.unit.tape c.look_at_volume.new.sink)
    c.args.progress.now c.look_at_volume.new.progress c.look_at_volume.result
up_to_here g c =
    let words : List ℕ = c.args.map.now in
    let i : ℕ = c.loop-index.index in
    let e : Entry = entry_of c.entry-entry.result.now in
    let a = around c.args.unit.now.tape c.args.sink.now in
    let d = around c.look_at_volume.new.unit.tape c.look_at_volume.new.sink in
    subst (λ (ls : List Looked). Looks g.T.Tape.means g.K.Sink.means ls a d
    c.args.progress.now c.look_at_volume.new.progress c.look_at_volume.result)
    (sym (volumes_more words c.args.table.now i e c.entry-entry.ensures))
    (looks_then g.T.Tape.means g.K.Sink.means g.met.K.Sink.took_both (looked_volumes words (take i c.args.table.now))
    (looked_segments words (carrying_segments words e)) a (around c.loop-index.unit.tape c.loop-index.sink) d
    c.args.progress.now c.loop-index.progress c.look_at_volume.new.progress c.look_at_volume.result
    c.loop-index.invariant.looked c.look_at_volume.ensures.looks)

-- a fault in one of the volumes
pub returns-in_err-look_at_volume-clause-looks : goal.returns-in_err-look_at_volume-clause-looks
returns-in_err-look_at_volume-clause-looks g c =
    let words : List ℕ = c.args.map.now in
    let entries : List Entry = c.args.table.now in
    let next : ℕ = c.loop-index.index + 1 in
    let a = around c.args.unit.now.tape c.args.sink.now in
    let d = around c.look_at_volume.new.unit.tape c.look_at_volume.new.sink in
    let after = c.look_at_volume.new.progress in
    let fault : StoreFault = c.in_err-look_at_volume.field-0.0 in
    rw (passed c.from_residual.result fault c.from_residual.ensures.1)
    (subst (λ (ls : List Looked). Looks g.T.Tape.means g.K.Sink.means ls a d c.args.progress.now after (Err fault))
    (volumes_part words entries next)
    (looks_longer g.T.Tape.means g.K.Sink.means (looked_volumes words (take next entries)) (looked_volumes words (drop next entries))
    a d c.args.progress.now after after fault (rw c.in_err-look_at_volume.was at
    (up_to_here g (goal.at.returns-in_err-look_at_volume-clause-looks g c).After-look_at_volume))))

pub loop-index-preserved : goal.loop-index-preserved
loop-index-preserved g c = record {
  looked = rw c.in_ok-look_at_volume.was at (up_to_here g (goal.at.loop-index-preserved g c).After-look_at_volume);
  few = (let most = c.loop-index.invariant.few in let next = c.in_ok-look_at_volume.ensures.few in omega arith);
  keeps = keeps_both c.loop-index.invariant.keeps c.in_ok-look_at_volume.ensures.keeps;
}
