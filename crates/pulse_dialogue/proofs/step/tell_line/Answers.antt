use Rattle.std.proofs.Common.{◌≡◌, ◌<◌, refl, arith}
use Rattle.tape_script.proofs.Lined.{BeginsWithNo-by}
use Rattle.pulse_dialogue.specs.Lines.{line_bytes, time_of}
use Rattle.pulse_dialogue.specs.Reading.{IsLineText}
use Rattle.pulse_dialogue.proofs.Lines.{gave_on, another_line}
use Rattle.pulse_dialogue.proofs.step.tell_line.Goals as goal

pub returns-then-time-teller-clause-hears : goal.returns-then-time-teller-clause-hears
returns-then-time-teller-clause-hears g c =
    let read = rw c.in-Ok-Line.field-0-is at c.in-Ok-Line.ensures.read in
    let is = c.time.ensures in
    let early : time_of c.in-Ok-Line.next < c.args.teller.now.time = omega arith in (
      refl,
      refl,
      refl,
      gave_on g.S.Source.means c.args.source.now c.read.new.source c.in-Ok-Line.next c.in-Ok-Line.read read.1 read.0 read.2 read.3,
      another_line g.S.Source.means c.args.source.now c.read.new.source c.args.teller.now.time c.in-Ok-Line.next read.0 read.3 early,
    )

pub returns-in-Ok-Bad-clause-hears : goal.returns-in-Ok-Bad-clause-hears
returns-in-Ok-Bad-clause-hears g c =
    let read = rw c.in-Ok-Bad.field-0-is at c.in-Ok-Bad.ensures.read in (
      refl,
      refl,
      refl,
      read.0,
      (λ line follows. BeginsWithNo-by g.S.Source.means (λ text. IsLineText text line) (λ text. text ≡ line_bytes line) c.args.source.now
          (λ text e. record { spelled = e; nine = follows.nine }) (read.1 line)),
    )
