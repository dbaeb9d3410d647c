use Rattle.std.proofs.Common.{◌≡◌, true, ℕ, ◌+◌, ◌-◌, ◌≤◌, ◌++◌, List, [], length, sym, ap, subst, ◌∙◌, arith, Err}
use Rattle.qic_base.specs.Alone.{around}
use Rattle.cartridge_spec.specs.Volumes.{carrying}
use Rattle.command_laws.specs.ScrubTerms.{looked_segments}
use Rattle.command_spec.specs.Check.{MayBeTold}
use Rattle.command_spec.specs.Scrub.{Looked}
use Rattle.drive_states.specs.Reach.{reads_in}
use Rattle.host_driver.proofs.Keeping.{keeps_none, keeps_both, mode_kept}
use Rattle.segment_mending.proofs.Looked.{carrying_below, below_none, segments_next, segments_whole, length-below}
use Rattle.command_laws.proofs.Passing.{passed}
use Rattle.cartridge_check.specs.Telling.{HasTold, TellsAll}
use Rattle.cartridge_check.specs.declared.fault.CheckFault.{CheckFault}
use Rattle.cartridge_check.proofs.Joining.{told_none, told_both, tells_then, tells_longer}
use Rattle.cartridge_check.proofs.Parts.{few_after, few_more, zip_length}
use Rattle.cartridge_check.proofs.volumes.tell_volume.Goals as goal

pub loop-segment-init : goal.loop-segment-init
loop-segment-init g c =
    let words : List ℕ = c.args.map.now in
    let here = around c.args.unit.now.tape c.args.sink.now in
    let none : looked_segments words [] ≡ looked_segments words (carrying_below words c.args.entry.now.start c.from-segment.result) =
    ap (looked_segments words) (sym (below_none words c.args.entry.now.start) ∙ ap (carrying_below words c.args.entry.now.start)
    (sym c.from-segment.ensures)) in
    record {
      from = omega arith;
      told = subst (λ (ls : List Looked). HasTold g.T.Tape.means g.K.Sink.means ls here here c.args.tally.now c.args.tally.now) none
          (told_none g.T.Tape.means g.K.Sink.means g.met.K.Sink.took_nothing here c.args.tally.now);
      keeps = keeps_none c.requires.ready;
    }

pub tell_if_carrying-requires-clause-mode : goal.tell_if_carrying-requires-clause-mode
tell_if_carrying-requires-clause-mode g c =
    mode_kept reads_in true c.args.unit.now.drive.deck c.loop-segment.unit.drive.deck c.loop-segment.invariant.keeps.same c.requires.mode

pub tell_if_carrying-requires-clause-few : goal.tell_if_carrying-requires-clause-few
tell_if_carrying-requires-clause-few g c =
    let words : List ℕ = c.args.map.now in
    let before = c.loop-segment.invariant.told in
    let looked : List Looked = looked_segments words (carrying_below words c.args.entry.now.start c.loop-segment.segment) in
    let most : length looked ≤ c.loop-segment.segment - c.args.entry.now.start =
    length-below words c.args.entry.now.start c.loop-segment.segment in
    let each : length before.verdicts ≡ length looked = zip_length MayBeTold looked before.verdicts before.may in
    few_more (33554432 + length before.verdicts) 67108864 c.loop-segment.tally (omega arith)
    (few_after before.verdicts 33554432 c.args.tally.now c.loop-segment.tally before.counted c.requires.few)

-- a fault in one of the segments
pub returns-in_err-tell_if_carrying-clause-tells : goal.returns-in_err-tell_if_carrying-clause-tells
returns-in_err-tell_if_carrying-clause-tells g c =
    let words : List ℕ = c.args.map.now in
    let start : ℕ = c.args.entry.now.start in
    let segment : ℕ = c.loop-segment.segment in
    let last : ℕ = c.args.entry.now.end + 1 in
    let a = around c.args.unit.now.tape c.args.sink.now in
    let b = around c.loop-segment.unit.tape c.loop-segment.sink in
    let d = around c.tell_if_carrying.new.unit.tape c.tell_if_carrying.new.sink in
    let after = c.tell_if_carrying.new.tally in
    let fault : CheckFault = c.in_err-tell_if_carrying.field-0.0 in
    let is : c.from_residual.result ≡ Err fault = passed c.from_residual.result fault c.from_residual.ensures.1 in
    let xs : List Looked = looked_segments words (carrying_below words start segment) in
    let ys : List Looked = looked_segments words (carrying words segment segment) in
    let zs : List Looked = looked_segments words (carrying_below words (segment + 1) last) in
    let whole : (xs ++ ys) ++ zs ≡ looked_segments words (carrying words start c.args.entry.now.end) =
    ap (λ (ls : List Looked). ls ++ zs) (segments_next words start segment c.loop-segment.invariant.from)
    ∙ segments_whole words start (segment + 1) last (omega arith) (omega arith) in
    let front : TellsAll g.T.Tape.means g.K.Sink.means (xs ++ ys) a d c.args.tally.now after (Err fault) =
    tells_then g.T.Tape.means g.K.Sink.means g.met.K.Sink.took_both xs ys a b d c.args.tally.now c.loop-segment.tally after (Err fault)
    c.loop-segment.invariant.told c.in_err-tell_if_carrying.ensures.tells in
    let all : TellsAll g.T.Tape.means g.K.Sink.means ((xs ++ ys) ++ zs) a d c.args.tally.now after (Err fault) =
    tells_longer g.T.Tape.means g.K.Sink.means (xs ++ ys) zs a d c.args.tally.now after after fault front in
    rw is (subst (λ (ls : List Looked). TellsAll g.T.Tape.means g.K.Sink.means ls a d c.args.tally.now after (Err fault)) whole all)

pub loop-segment-preserved : goal.loop-segment-preserved
loop-segment-preserved g c =
    let words : List ℕ = c.args.map.now in
    let start : ℕ = c.args.entry.now.start in
    let segment : ℕ = c.loop-segment.segment in
    let a = around c.args.unit.now.tape c.args.sink.now in
    let b = around c.loop-segment.unit.tape c.loop-segment.sink in
    let d = around c.tell_if_carrying.new.unit.tape c.tell_if_carrying.new.sink in
    let after = c.tell_if_carrying.new.tally in
    let xs : List Looked = looked_segments words (carrying_below words start segment) in
    let ys : List Looked = looked_segments words (carrying words segment segment) in
    let all : HasTold g.T.Tape.means g.K.Sink.means (xs ++ ys) a d c.args.tally.now after =
    told_both g.T.Tape.means g.K.Sink.means g.met.K.Sink.took_both xs ys a b d c.args.tally.now c.loop-segment.tally after
    c.loop-segment.invariant.told c.in_ok-tell_if_carrying.ensures.tells in
    record {
      from = (let low = c.loop-segment.invariant.from in omega arith);
      told = subst (λ (ls : List Looked). HasTold g.T.Tape.means g.K.Sink.means ls a d c.args.tally.now after)
          (segments_next words start segment c.loop-segment.invariant.from) all;
      keeps = keeps_both c.loop-segment.invariant.keeps c.in_ok-tell_if_carrying.ensures.keeps;
    }

pub returns-clause-few : goal.returns-clause-few
returns-clause-few g c =
    let words : List ℕ = c.args.map.now in
    let told = c.loop-segment.invariant.told in
    let looked : List Looked = looked_segments words (carrying_below words c.args.entry.now.start c.loop-segment.segment) in
    let most : length looked ≤ c.loop-segment.segment - c.args.entry.now.start =
    length-below words c.args.entry.now.start c.loop-segment.segment in
    let each : length told.verdicts ≡ length looked = zip_length MayBeTold looked told.verdicts told.may in
    let counted = told.counted.segments in
    omega arith
