use Rattle.std.proofs.Common.{◌≡◌, ◌≢◌, ◌⊎◌, List, ℕ, inl, inr, ◌+◌, ◌-◌, ◌∷◌, ◌++◌, [], refl, length, take, ap, ◌∙◌, arith}
use Rattle.std.proofs.lemmas.List.{length_push, length-take-le}
use Rattle.std.proofs.lemmas.List.Elements.{All-take}
use Rattle.command_laws.specs.Inputs.{IsLine}
use Rattle.qic_base.specs.SourceCalls.{HasEnded}
use Rattle.tape_script.proofs.Lined.{one_newline, BeginsWithNo-line, BeginsWithNo-open}
use Rattle.tape_script.proofs.line.read_line.Goals as goal

pub returns-in-Ok-Open-clause-read : goal.returns-in-Ok-Open-clause-read
returns-in-Ok-Open-clause-read g c =
    let m = g.S.Source.means in
    let took = rw c.in-Ok-Open.field-0-is at c.in-Ok-Open.ensures.took in
    let bytes = took.2 in
    let all : (length bytes.0 ≡ 128) ⊎ HasEnded m c.take_line.new.source =
    elim took.3 [ inl full ↦ inl (bytes.1 ∙ full) | inr ended ↦ inr ended ] in (
      took.0,
      took.1,
      (bytes.0, bytes.1, bytes.3, All-take (λ b. b ≢ 0x0A) (c.in-Ok-Open.read - 1) bytes.0 bytes.2, inr all),
      (λ line. BeginsWithNo-open m (λ before. IsLine before line) c.args.source.now c.take_line.new.source bytes.0 bytes.2 bytes.3 all),
    )

pub returns-in-None-clause-read : goal.returns-in-None-clause-read
returns-in-None-clause-read g c =
    let took = rw c.in-Ok-Line.field-0-is at c.in-Ok-Line.ensures.took in
    let before : List ℕ = take c.in-Ok-Line.len c.take_line.new.buffer in
    let long : length before ≡ c.in-Ok-Line.len = length-take-le c.in-Ok-Line.len c.take_line.new.buffer
    (let l = c.take_line.array_long in omega arith) in
    let none = rw c.from.ensures at c.in-None.ensures in (
      omega arith,
      omega arith,
      (
        before ++ 0x0A ∷ [],
        length_push before 0x0A ∙ ap (λ n. n + 1) long,
        took.2,
        one_newline before (c.in-Ok-Line.len + 1) (omega arith) took.1,
        inl (before, refl),
      ),
      (λ line. BeginsWithNo-line g.S.Source.means (λ text. IsLine text line) c.args.source.now c.take_line.new.source before took.1 took.2
          (none line)),
    )
