use Rattle.std.proofs.Common.{◌+◌, ◌∷◌, ◌++◌, [], ℕ, List, ◌∙◌, sym, subst, arith}
use Rattle.std.specs.List.{flat_map}
use Rattle.qic_base.proofs.Steps.{Broke-after_reads, Done-after_reads}
use Rattle.qic_base.proofs.Writing.{Wrote-Wrote, Wrote-BrokeOff}
use Rattle.qic_base.specs.Sink.{Wrote}
use Rattle.qic_base.specs.SinkCalls.{BrokeOff}
use Rattle.flat_dump.specs.Seen.{SegmentsSeen}
use Rattle.flat_dump.proofs.Dumping.{segment_more, are_first}
use Rattle.flat_dump.proofs.exporting.export_segments.Goals as goal

pub returns-in-Err : goal.returns-in-Err
returns-in-Err g c =
    let t = g.T.Tape.means in
    let before = c.loop-segment.invariant in
    let seen = before.so_far.seen in
    record {
      broke = Broke-after_reads before.did c.in-Err.ensures.did;
      views = seen.views;
      first = are_first t c.args.tape.now c.args.segments_per_track c.loop-segment.segment before.so_far.text c.loop-segment.mask.items
          (g.met.T.Tape.told_right c.args.tape.now) c.requires.size
          (let e = c.from-segment-end.ensures in omega arith) seen;
      wrote = subst (Wrote g.K.Sink.means c.args.sink.now c.loop-segment.sink) seen.shown before.so_far.wrote;
    }

pub returns-in-Err-write_text : goal.returns-in-Err-write_text
returns-in-Err-write_text g c =
    let t = g.T.Tape.means in
    let k = g.K.Sink.means in
    let before = c.loop-segment.invariant in
    let text : List ℕ = flat_map (λ (b : List ℕ). b) c.read_segment.new.sectors in
    let more : SegmentsSeen t c.args.tape.now (c.loop-segment.segment + 1) (before.so_far.text ++ text)
    (c.loop-segment.mask.items ++ c.in-Ok.word ∷ []) =
    segment_more t c.args.tape.now c.loop-segment.tape c.loop-segment.segment before.so_far.text c.loop-segment.mask.items
    c.read_segment.new.sectors c.in-Ok.word before.did
    before.so_far.seen c.in-Ok.ensures.seen in
    let broke : BrokeOff k c.loop-segment.sink c.write_text.new.sink text =
    subst (BrokeOff k c.loop-segment.sink c.write_text.new.sink) c.as_flattened.ensures.value c.in-Err-write_text.ensures in
    record {
      did = Done-after_reads before.did c.in-Ok.ensures.did;
      views = more.views;
      first = are_first t c.args.tape.now c.args.segments_per_track (c.loop-segment.segment + 1) (before.so_far.text ++ text)
          (c.loop-segment.mask.items ++ c.in-Ok.word ∷ [])
          (g.met.T.Tape.told_right c.args.tape.now) c.requires.size (let e = c.from-segment-end.ensures in omega arith) more;
      broke = subst (BrokeOff k c.args.sink.now c.write_text.new.sink) more.shown
          (Wrote-BrokeOff g.met.K.Sink.took_both before.so_far.wrote broke);
    }

pub loop-segment-preserved : goal.loop-segment-preserved
loop-segment-preserved g c =
    let t = g.T.Tape.means in
    let k = g.K.Sink.means in
    let before = c.loop-segment.invariant in
    let text : List ℕ = flat_map (λ (b : List ℕ). b) c.read_segment.new.sectors in
    let more : SegmentsSeen t c.args.tape.now (c.loop-segment.segment + 1) (before.so_far.text ++ text)
    (c.loop-segment.mask.items ++ c.in-Ok.word ∷ []) =
    segment_more t c.args.tape.now c.loop-segment.tape c.loop-segment.segment before.so_far.text c.loop-segment.mask.items
    c.read_segment.new.sectors c.in-Ok.word before.did
    before.so_far.seen c.in-Ok.ensures.seen in
    let wrote : Wrote k c.loop-segment.sink c.write_text.new.sink text =
    subst (Wrote k c.loop-segment.sink c.write_text.new.sink) c.as_flattened.ensures.value c.in-Ok-write_text.ensures in
    record {
      did = Done-after_reads before.did c.in-Ok.ensures.did;
      size = c.in-Ok.ensures.size ∙ before.size;
      words = let e = c.push_within.ensures.len in let f = before.words in omega arith;
      capacity = let e = c.push_within.ensures.capacity in let f = before.capacity in omega arith;
      so_far = record {
        text = before.so_far.text ++ text;
        seen = subst (SegmentsSeen t c.args.tape.now (c.loop-segment.segment + 1) (before.so_far.text ++ text))
            (sym c.push_within.ensures.items) more;
        wrote = Wrote-Wrote g.met.K.Sink.took_both before.so_far.wrote wrote;
      };
    }
