use Rattle.std.proofs.Common.{◌≡◌, ◌≢◌, ◌⊎◌, ◌+◌, ◌-◌, ◌∷◌, ◌++◌, [], refl, List, ℕ, inl, inr, length, take, codes, ap, ◌∙◌, arith}
use Rattle.std.proofs.lemmas.List.{length_push, length-take-le}
use Rattle.std.proofs.lemmas.List.Elements.{All-take}
use Rattle.command_laws.specs.Inputs.{IsTrain}
use Rattle.command_spec.specs.Input.{IsLined}
use Rattle.qic_base.specs.SourceCalls.{HasEnded}
use Rattle.tape_script.proofs.Lined.{one_newline, BeginsWithNo-line, BeginsWithNo-open, BeginsWithNo-by, end_lined}
use Rattle.tape_script.proofs.train.Train.read.Goals as goal

pub returns-in-Ok-Open-clause-read : goal.returns-in-Ok-Open-clause-read
returns-in-Ok-Open-clause-read g c =
    let m = g.S.Source.means in
    let took = rw c.in-Ok-Open.field-0-is at c.in-Ok-Open.ensures.took in
    let bytes = took.2 in
    let all : (length bytes.0 ≡ 128) ⊎ HasEnded m c.take_line.new.source =
    elim took.3 [ inl full ↦ inl (bytes.1 ∙ full) | inr ended ↦ inr ended ] in (
      took.0,
      took.1,
      (bytes.0, bytes.1, bytes.3, All-take (λ b. b ≢ 0x0A) (c.in-Ok-Open.read - 1) bytes.0 bytes.2, inr all),
      BeginsWithNo-by m (λ text. IsLined (λ before. before ≡ codes "end") text) (λ text. text ≡ codes "end\n") c.args.source.now end_lined
          (BeginsWithNo-open m (λ before. before ≡ codes "end") c.args.source.now c.take_line.new.source bytes.0 bytes.2 bytes.3 all),
      (λ pulses. BeginsWithNo-open m (λ before. IsTrain before pulses) c.args.source.now c.take_line.new.source bytes.0 bytes.2 bytes.3
          all),
    )

pub returns-in-None-clause-read : goal.returns-in-None-clause-read
returns-in-None-clause-read g c =
    let m = g.S.Source.means in
    let took = rw c.in-Ok-Line.field-0-is at c.in-Ok-Line.ensures.took in
    let before : List ℕ = take c.in-Ok-Line.len c.take_line.new.buffer in
    let long : length before ≡ c.in-Ok-Line.len = length-take-le c.in-Ok-Line.len c.take_line.new.buffer
    (let l = c.take_line.array_long in omega arith) in
    let other = rw c.from.ensures at c.if-is_word.ensures.1 in
    let none = rw c.from.ensures at c.in-None.ensures in (
      omega arith,
      omega arith,
      (
        before ++ 0x0A ∷ [],
        length_push before 0x0A ∙ ap (λ n. n + 1) long,
        took.2,
        one_newline before (c.in-Ok-Line.len + 1) (omega arith) took.1,
        inl (before, refl),
      ),
      BeginsWithNo-by m (λ text. IsLined (λ before. before ≡ codes "end") text) (λ text. text ≡ codes "end\n") c.args.source.now end_lined
          (BeginsWithNo-line m (λ before. before ≡ codes "end") c.args.source.now c.take_line.new.source before took.1 took.2
          (λ e. let no = other e in cc)),
      (λ pulses. BeginsWithNo-line m (λ before. IsTrain before pulses) c.args.source.now c.take_line.new.source before took.1 took.2
          (none pulses)),
    )
