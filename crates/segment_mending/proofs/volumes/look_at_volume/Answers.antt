use Rattle.std.proofs.Common.{◌≡◌, ℕ, ◌+◌, ◌-◌, ◌≤◌, ◌++◌, List, [], length, append-nil, sym, ap, subst, ◌∙◌, arith, Err}
use Rattle.qic_base.specs.Alone.{around}
use Rattle.cartridge_laws.specs.Segment.{sectors_of}
use Rattle.cartridge_spec.specs.Shape.{usable_count}
use Rattle.cartridge_spec.specs.Volumes.{carrying}
use Rattle.command_spec.specs.Scrub.{Looked}
use Rattle.command_laws.proofs.Passing.{passed}
use Rattle.command_laws.specs.ScrubTerms.{looked_segments}
use Rattle.host_driver.proofs.Keeping.{keeps_none, keeps_both}
use Rattle.qic_base.specs.declared.store_fault.StoreFault.{StoreFault}
use Rattle.segment_mending.specs.Looking.{HasLooked, Looks}
use Rattle.segment_mending.specs.Mending.{reported}
use Rattle.segment_mending.proofs.Joining.{looked_none, looked_both, looks_then, looks_longer, few_after, few_more}
use Rattle.segment_mending.proofs.Looked.{carrying_below, below_none, one_looked, none_looked, segments_next, segments_whole, length-below}
use Rattle.segment_mending.proofs.volumes.look_at_volume.Goals as goal
use Rattle.segment_mending.proofs.volumes.look_at_volume.Goals.{then-count-ge-FEWEST+in_ok-look_at, else-count-ge-FEWEST}

pub loop-segment-init : goal.loop-segment-init
loop-segment-init g c =
    let words : List ℕ = c.args.map.now in
    let here = around c.args.unit.now.tape c.args.sink.now in
    let none : looked_segments words [] ≡ looked_segments words (carrying_below words c.args.entry.now.start c.from-segment.result) =
    ap (looked_segments words) (sym (below_none words c.args.entry.now.start) ∙ ap (carrying_below words c.args.entry.now.start)
    (sym c.from-segment.ensures)) in
    record {
      from = omega arith;
      looked = subst (λ (ls : List Looked). HasLooked g.T.Tape.means g.K.Sink.means ls here here c.args.progress.now c.args.progress.now)
          none (looked_none g.met.K.Sink.took_nothing here c.args.progress.now);
      keeps = keeps_none c.requires.ready;
    }

pub look_at-requires-clause-few : goal.look_at-requires-clause-few
look_at-requires-clause-few g c =
    let words : List ℕ = c.args.map.now in
    let before = c.loop-segment.invariant.looked in
    let looked : List Looked = looked_segments words (carrying_below words c.args.entry.now.start c.loop-segment.segment) in
    let most : length looked ≤ c.loop-segment.segment - c.args.entry.now.start =
    length-below words c.args.entry.now.start c.loop-segment.segment in
    few_more (33554432 + length looked) 67108864 (reported c.loop-segment.progress.report) (omega arith)
    (few_after looked before.findings before.acts 33554432 (reported c.args.progress.now.report)
    (reported c.loop-segment.progress.report) before.counted c.requires.few)

-- a fault in one of the segments
pub returns-in_err-look_at-clause-looks : goal.returns-in_err-look_at-clause-looks
returns-in_err-look_at-clause-looks g c =
    let t = g.T.Tape.means in
    let k = g.K.Sink.means in
    let words : List ℕ = c.args.map.now in
    let start : ℕ = c.args.entry.now.start in
    let segment : ℕ = c.loop-segment.segment in
    let last : ℕ = c.args.entry.now.end + 1 in
    let a = around c.args.unit.now.tape c.args.sink.now in
    let b = around c.loop-segment.unit.tape c.loop-segment.sink in
    let d = around c.look_at.new.unit.tape c.look_at.new.sink in
    let after = c.look_at.new.progress in
    let fault : StoreFault = c.in_err-look_at.field-0.0 in
    let is : c.from_residual.result ≡ Err fault = passed c.from_residual.result fault c.from_residual.ensures.1 in
    let xs : List Looked = looked_segments words (carrying_below words start segment) in
    let ys : List Looked = looked_segments words (carrying words segment segment) in
    let zs : List Looked = looked_segments words (carrying_below words (segment + 1) last) in
    let whole : (xs ++ ys) ++ zs ≡ looked_segments words (carrying words start c.args.entry.now.end) =
    ap (λ (ls : List Looked). ls ++ zs) (segments_next words start segment c.loop-segment.invariant.from)
    ∙ segments_whole words start (segment + 1) last (omega arith) (omega arith) in
    let many : 4 ≤ usable_count c.usable-usable.result =
    omega (arith, c.count.ensures ∙ ap (λ (mask : ℕ). length (sectors_of mask)) c.from_mask.ensures) in
    let here : Looks t k ys b d c.loop-segment.progress after (Err fault) =
    subst (λ (ls : List Looked). Looks t k ls b d c.loop-segment.progress after (Err fault))
    (one_looked words segment c.usable-usable.result c.usable-usable.ensures many) c.in_err-look_at.ensures.looks in
    let front : Looks t k (xs ++ ys) a d c.args.progress.now after (Err fault) =
    looks_then t k g.met.K.Sink.took_both xs ys a b d c.args.progress.now c.loop-segment.progress after (Err fault)
    c.loop-segment.invariant.looked here in
    rw is (subst (λ (ls : List Looked). Looks t k ls a d c.args.progress.now after (Err fault)) whole
    (looks_longer t k (xs ++ ys) zs a d c.args.progress.now after after fault front))

pub loop-segment-preserved : goal.loop-segment-preserved
loop-segment-preserved g c =
    let t = g.T.Tape.means in
    let k = g.K.Sink.means in
    let words : List ℕ = c.args.map.now in
    let start : ℕ = c.args.entry.now.start in
    let segment : ℕ = c.loop-segment.segment in
    let a = around c.args.unit.now.tape c.args.sink.now in
    let b = around c.loop-segment.unit.tape c.loop-segment.sink in
    let xs : List Looked = looked_segments words (carrying_below words start segment) in
    let ys : List Looked = looked_segments words (carrying words segment segment) in
    let next : xs ++ ys ≡ looked_segments words (carrying_below words start (segment + 1)) =
    segments_next words start segment c.loop-segment.invariant.from in
    let count : c.count.result ≡ usable_count c.usable-usable.result =
    c.count.ensures ∙ ap (λ (mask : ℕ). length (sectors_of mask)) c.from_mask.ensures in
    let from : start ≤ segment = c.loop-segment.invariant.from in
    elim c.if-count-ge-FEWEST.branch [
      | then-count-ge-FEWEST+in_ok-look_at w ↦
          let d = around w.look_at.new.unit.tape w.look_at.new.sink in
          let after = w.look_at.new.progress in
          let here : HasLooked t k ys b d c.loop-segment.progress after =
          subst (λ (ls : List Looked). HasLooked t k ls b d c.loop-segment.progress after)
          (one_looked words segment c.usable-usable.result c.usable-usable.ensures (let many = w.if-count-ge-FEWEST.true in omega arith))
          w.in_ok-look_at.ensures.looks in
          rw w.host-is (rw w.unit-is (rw w.sink-is (rw w.progress-is (record {
            from = omega arith;
            looked = subst (λ (ls : List Looked). HasLooked t k ls a d c.args.progress.now after) next
                (looked_both g.met.K.Sink.took_both xs ys a b d c.args.progress.now c.loop-segment.progress after
                c.loop-segment.invariant.looked here);
            keeps = keeps_both c.loop-segment.invariant.keeps w.in_ok-look_at.ensures.keeps;
          }))))
      | else-count-ge-FEWEST w ↦
          let none : xs ≡ xs ++ ys =
          sym (append-nil xs) ∙ ap (λ (ls : List Looked). xs ++ ls) (sym (none_looked words segment c.usable-usable.result
          c.usable-usable.ensures (let few = w.if-count-ge-FEWEST.false in omega arith))) in
          rw w.host-is (rw w.unit-is (rw w.sink-is (rw w.progress-is (record {
            from = omega arith;
            looked = subst (λ (ls : List Looked). HasLooked t k ls a b c.args.progress.now c.loop-segment.progress) (none ∙ next)
                c.loop-segment.invariant.looked;
            keeps = c.loop-segment.invariant.keeps;
          }))))
    ]

pub returns-clause-few : goal.returns-clause-few
returns-clause-few g c =
    let words : List ℕ = c.args.map.now in
    let looked : List Looked = looked_segments words (carrying_below words c.args.entry.now.start c.loop-segment.segment) in
    let most : length looked ≤ c.loop-segment.segment - c.args.entry.now.start =
    length-below words c.args.entry.now.start c.loop-segment.segment in
    let counted = c.loop-segment.invariant.looked.counted.segments in
    omega arith
