use Rattle.std.proofs.Common.{map, string_bytes, refl, sym, ◌∙◌}
use Rattle.volume_copy.proofs.Copied.{runs_asked}
use Rattle.volume_copy.proofs.Ends.{AtStart, at_start, decks_of}
use Rattle.volume_copy.proofs.Promising.{asked_is_other, no_words, prints_lines, promises, some_words, usage_is, usage_not}
use Rattle.volume_copy.specs.Runs.{CopyRuns, Units}
use Rattle.volume_copy.proofs.run.run_copy.Goals as goal
use Rattle.command_spec.specs.declared.copy_status.CopyStatus.TheVariants as status

pub returns-then-not-is_empty : goal.returns-then-not-is_empty
returns-then-not-is_empty g c =
    let a = g.A.Tape.means in
    let b = g.B.Tape.means in
    let k = g.K.Sink.means in
    let words = c.args.words.now in
    let texts = map string_bytes words.items in
    let old : Units _ _ _ = record { from = c.args.from; to = c.args.to.now; sink = c.args.sink.now } in
    let laws : AtStart a b k (decks_of old) = at_start g.met.K.Sink.took_nothing g.met.K.Sink.took_both
    (g.met.A.Tape.told_right c.args.from.tape) (g.met.B.Tape.told_right c.args.to.now.tape)
    (g.met.A.Tape.left_now c.args.from.tape) (g.met.B.Tape.left_now c.args.to.now.tape) in
    let usage = usage_is texts
    (some_words string_bytes words.items words.len words.ok.0 (sym c.is_empty.ensures ∙ c.if-not-is_empty.true)) in
    record {
      promises = promises a b k texts old old status.Usage laws usage refl;
      lines = prints_lines a b k texts old old status.Usage laws usage refl;
      runs = refl;
    }

pub returns-in-Ok : goal.returns-in-Ok
returns-in-Ok g c =
    let a = g.A.Tape.means in
    let b = g.B.Tape.means in
    let k = g.K.Sink.means in
    let words = c.args.words.now in
    let texts = map string_bytes words.items in
    let old : Units _ _ _ = record { from = c.args.from; to = c.args.to.now; sink = c.args.sink.now } in
    let new : Units _ _ _ = record { from = c.copy_in.result.1; to = c.copy_in.new.to; sink = c.copy_in.new.sink } in
    let answer = c.copy_in.result.0 in
    let laws : AtStart a b k (decks_of old) = at_start g.met.K.Sink.took_nothing g.met.K.Sink.took_both
    (g.met.A.Tape.told_right c.args.from.tape) (g.met.B.Tape.told_right c.args.to.now.tape)
    (g.met.A.Tape.left_now c.args.from.tape) (g.met.B.Tape.left_now c.args.to.now.tape) in
    let usage = usage_not answer texts (asked_is_other answer c.copy_in.ensures.asked)
    (no_words string_bytes words.items words.len words.ok.0 (sym c.is_empty.ensures ∙ c.if-not-is_empty.false)) in
    let runs : CopyRuns a b k old new answer = runs_asked a b k old new answer c.copy_in.ensures.asked c.copy_in.ensures.runs in
    record {
      promises = promises a b k texts old new answer laws usage runs;
      lines = prints_lines a b k texts old new answer laws usage runs;
      runs = runs;
    }

pub returns-in-Err : goal.returns-in-Err
returns-in-Err g c =
    let a = g.A.Tape.means in
    let b = g.B.Tape.means in
    let k = g.K.Sink.means in
    let words = c.args.words.now in
    let texts = map string_bytes words.items in
    let old : Units _ _ _ = record { from = c.args.from; to = c.args.to.now; sink = c.args.sink.now } in
    let laws : AtStart a b k (decks_of old) = at_start g.met.K.Sink.took_nothing g.met.K.Sink.took_both
    (g.met.A.Tape.told_right c.args.from.tape) (g.met.B.Tape.told_right c.args.to.now.tape)
    (g.met.A.Tape.left_now c.args.from.tape) (g.met.B.Tape.left_now c.args.to.now.tape) in
    let usage = usage_not status.NoMemory texts (λ is. cc)
    (no_words string_bytes words.items words.len words.ok.0 (sym c.is_empty.ensures ∙ c.if-not-is_empty.false)) in
    record {
      promises = promises a b k texts old old status.NoMemory laws usage refl;
      lines = prints_lines a b k texts old old status.NoMemory laws usage refl;
      runs = refl;
    }
