use Rattle.std.proofs.Common.{◌≡◌, ◌⊎◌, inl, inr, ◌+◌, ◌∷◌, ◌++◌, [], List, ℕ, length, take, ap, ◌∙◌, arith}
use Rattle.std.proofs.lemmas.List.{length_push, length-take-le}
use Rattle.command_spec.specs.Input.{IsLined}
use Rattle.qic_base.specs.SourceCalls.{HasEnded}
use Rattle.tape_script.proofs.Lined.{BeginsWithNo-line, BeginsWithNo-open, BeginsWithNo-by}
use Rattle.pulse_dialogue.specs.Lines.{IsLine}
use Rattle.pulse_dialogue.specs.Reading.{IsLineText}
use Rattle.pulse_dialogue.proofs.Lines.{lined, line_given}
use Rattle.pulse_dialogue.proofs.line.Line.read.Goals as goal

pub returns-in-Ok-Open-clause-read : goal.returns-in-Ok-Open-clause-read
returns-in-Ok-Open-clause-read g c =
    let m = g.S.Source.means in
    let took = rw c.in-Ok-Open.field-0-is at c.in-Ok-Open.ensures.took in
    let bytes = took.2 in
    let all : (length bytes.0 ≡ 128) ⊎ HasEnded m c.take_line.new.source =
    elim took.3 [ inl full ↦ inl (bytes.1 ∙ full) | inr ended ↦ inr ended ] in (
      (_, took.0, took.1, (bytes.0, bytes.1, bytes.3)),
      (λ line. BeginsWithNo-by m (λ text. IsLined (λ before. IsLine before line) text) (λ text. IsLineText text line) c.args.source.now
          (λ text is. lined text line is)
          (BeginsWithNo-open m (λ before. IsLine before line) c.args.source.now c.take_line.new.source bytes.0 bytes.2 bytes.3 all)),
    )

pub returns-in-None-clause-read : goal.returns-in-None-clause-read
returns-in-None-clause-read g c =
    let m = g.S.Source.means in
    let took = rw c.in-Ok-Line.field-0-is at c.in-Ok-Line.ensures.took in
    let before : List ℕ = take c.in-Ok-Line.len c.take_line.new.buffer in
    let none = rw c.from.ensures at c.in-None.ensures in (
      (
        c.in-Ok-Line.len + 1,
        omega arith,
        omega arith,
        (
          before ++ 0x0A ∷ [],
          length_push before 0x0A ∙ ap (λ n. n + 1)
              (length-take-le c.in-Ok-Line.len c.take_line.new.buffer (let l = c.take_line.array_long in omega arith)),
          took.2,
        ),
      ),
      (λ line. BeginsWithNo-by m (λ text. IsLined (λ before. IsLine before line) text) (λ text. IsLineText text line) c.args.source.now
          (λ text is. lined text line is)
          (BeginsWithNo-line m (λ before. IsLine before line) c.args.source.now c.take_line.new.source before took.1 took.2 (none line))),
    )

pub returns-in-Some-clause-read : goal.returns-in-Some-clause-read
returns-in-Some-clause-read g c =
    let took = rw c.in-Ok-Line.field-0-is at c.in-Ok-Line.ensures.took in
    let is = rw c.from.ensures at c.in-Some.ensures in
    line_given g.S.Source.means c.args.source.now c.take_line.new.source (take c.in-Ok-Line.len c.take_line.new.buffer) c.in-Some.line
    c.in-Ok-Line.len is took.2
    (length-take-le c.in-Ok-Line.len c.take_line.new.buffer (let l = c.take_line.array_long in omega arith)) took.0
