use Rattle.std.proofs.Common.{◌≡◌, true, ℕ, ◌+◌, ◌-◌, ◌++◌, List, take, drop, length, sym, ap, subst, ◌∙◌, arith, Err}
use Rattle.qic_base.specs.Alone.{around}
use Rattle.cartridge_spec.specs.Table.{Entry}
use Rattle.cartridge_spec.specs.Volumes.{carrying_segments}
use Rattle.command_laws.specs.ScrubTerms.{looked_segments}
use Rattle.command_spec.specs.Scrub.{Looked, looked_volumes}
use Rattle.drive_states.specs.Reach.{reads_in}
use Rattle.host_driver.proofs.Keeping.{keeps_none, keeps_both, mode_kept}
use Rattle.segment_mending.proofs.Looked.{volumes_more, volumes_part, LiesOn, lies_on}
use Rattle.command_laws.proofs.Passing.{passed}
use Rattle.volume_table.specs.Entry.{entry_of}
use Rattle.cartridge_check.specs.Telling.{HasFew, HasTold, TellsAll}
use Rattle.cartridge_check.specs.declared.fault.CheckFault.{CheckFault}
use Rattle.cartridge_check.proofs.Joining.{told_none, told_both, tells_then, tells_longer}
use Rattle.cartridge_check.proofs.Parts.{few_after}
use Rattle.cartridge_check.proofs.volumes.tell_volumes.Goals as goal

pub loop-index-init : goal.loop-index-init
loop-index-init g c = record {
  told = told_none g.T.Tape.means g.K.Sink.means g.met.K.Sink.took_nothing (around c.args.unit.now.tape c.args.sink.now) c.args.tally.now;
  few = c.requires.few.segments;
  keeps = keeps_none c.requires.ready;
}

pub tell_volume-requires-clause-mode : goal.tell_volume-requires-clause-mode
tell_volume-requires-clause-mode g c =
    mode_kept reads_in true c.args.unit.now.drive.deck c.loop-index.unit.drive.deck c.loop-index.invariant.keeps.same c.requires.mode

pub tell_volume-requires-clause-behind : goal.tell_volume-requires-clause-behind
tell_volume-requires-clause-behind g c =
    (lies_on (length c.args.map.now - 1) c.args.table.now c.loop-index.index
    (entry_of c.entry-entry.result.now) c.requires.list c.entry-entry.ensures).behind

pub tell_volume-requires-clause-forwards : goal.tell_volume-requires-clause-forwards
tell_volume-requires-clause-forwards g c =
    (lies_on (length c.args.map.now - 1) c.args.table.now c.loop-index.index
    (entry_of c.entry-entry.result.now) c.requires.list c.entry-entry.ensures).forwards

pub tell_volume-requires-clause-on_tape : goal.tell_volume-requires-clause-on_tape
tell_volume-requires-clause-on_tape g c =
    let lies : LiesOn (length c.args.map.now - 1) (entry_of c.entry-entry.result.now) =
    lies_on (length c.args.map.now - 1) c.args.table.now c.loop-index.index
    (entry_of c.entry-entry.result.now) c.requires.list c.entry-entry.ensures in
    let behind = lies.behind in let forwards = lies.forwards in let within = lies.within in omega arith

pub tell_volume-requires-clause-few : goal.tell_volume-requires-clause-few
tell_volume-requires-clause-few g c =
    let before = c.loop-index.invariant.told in
    let few : HasFew (3 + length before.verdicts) c.loop-index.tally =
    few_after before.verdicts 3 c.args.tally.now c.loop-index.tally before.counted c.requires.few in
    record {
      segments = (let most = c.loop-index.invariant.few in omega arith);
      mendable = few.mendable;
      bad = few.bad;
    }

-- a fault in one of the volumes
pub returns-in_err-tell_volume-clause-tells : goal.returns-in_err-tell_volume-clause-tells
returns-in_err-tell_volume-clause-tells g c =
    let words : List ℕ = c.args.map.now in
    let entries : List Entry = c.args.table.now in
    let i : ℕ = c.loop-index.index in
    let e : Entry = entry_of c.entry-entry.result.now in
    let a = around c.args.unit.now.tape c.args.sink.now in
    let b = around c.loop-index.unit.tape c.loop-index.sink in
    let d = around c.tell_volume.new.unit.tape c.tell_volume.new.sink in
    let after = c.tell_volume.new.tally in
    let fault : CheckFault = c.in_err-tell_volume.field-0.0 in
    let is : c.from_residual.result ≡ Err fault = passed c.from_residual.result fault c.from_residual.ensures.1 in
    let xs : List Looked = looked_volumes words (take i entries) in
    let ys : List Looked = looked_segments words (carrying_segments words e) in
    let zs : List Looked = looked_volumes words (drop (i + 1) entries) in
    let whole : (xs ++ ys) ++ zs ≡ looked_volumes words entries =
    ap (λ (ls : List Looked). ls ++ zs) (sym (volumes_more words entries i e c.entry-entry.ensures)) ∙ volumes_part words entries (i + 1) in
    let front : TellsAll g.T.Tape.means g.K.Sink.means (xs ++ ys) a d c.args.tally.now after (Err fault) =
    tells_then g.T.Tape.means g.K.Sink.means g.met.K.Sink.took_both xs ys a b d c.args.tally.now c.loop-index.tally after (Err fault)
    c.loop-index.invariant.told c.in_err-tell_volume.ensures.tells in
    let all : TellsAll g.T.Tape.means g.K.Sink.means ((xs ++ ys) ++ zs) a d c.args.tally.now after (Err fault) =
    tells_longer g.T.Tape.means g.K.Sink.means (xs ++ ys) zs a d c.args.tally.now after after fault front in
    rw is (subst (λ (ls : List Looked). TellsAll g.T.Tape.means g.K.Sink.means ls a d c.args.tally.now after (Err fault)) whole all)

pub loop-index-preserved : goal.loop-index-preserved
loop-index-preserved g c =
    let words : List ℕ = c.args.map.now in
    let entries : List Entry = c.args.table.now in
    let i : ℕ = c.loop-index.index in
    let e : Entry = entry_of c.entry-entry.result.now in
    let a = around c.args.unit.now.tape c.args.sink.now in
    let b = around c.loop-index.unit.tape c.loop-index.sink in
    let d = around c.tell_volume.new.unit.tape c.tell_volume.new.sink in
    let after = c.tell_volume.new.tally in
    let xs : List Looked = looked_volumes words (take i entries) in
    let ys : List Looked = looked_segments words (carrying_segments words e) in
    let all : HasTold g.T.Tape.means g.K.Sink.means (xs ++ ys) a d c.args.tally.now after =
    told_both g.T.Tape.means g.K.Sink.means g.met.K.Sink.took_both xs ys a b d c.args.tally.now c.loop-index.tally after
    c.loop-index.invariant.told c.in_ok-tell_volume.ensures.tells in
    record {
      told = subst (λ (ls : List Looked). HasTold g.T.Tape.means g.K.Sink.means ls a d c.args.tally.now after)
          (sym (volumes_more words entries i e c.entry-entry.ensures)) all;
      few = (let most = c.loop-index.invariant.few in let more = c.in_ok-tell_volume.ensures.few in omega arith);
      keeps = keeps_both c.loop-index.invariant.keeps c.in_ok-tell_volume.ensures.keeps;
    }
