use Rattle.std.proofs.Common.{[], refl}
use Rattle.cart_image.proofs.Exits.{Carried-looked}
use Rattle.cart_image.proofs.Known.{on-segment, same-right, read-right}
use Rattle.cart_image.proofs.Tapes.{looked-settled, no-plans, known-tape, tape-settled, unknown-tape}
use Rattle.cart_image.proofs.tape.ImageTape.look_at_segment.Goals as goal

pub read_marks-requires-clause-place : goal.read_marks-requires-clause-place
read_marks-requires-clause-place g c = on-segment c.args.self.now c.args.layout c.args.segment 0 c.requires.layout c.requires.place

pub read_marks-requires-clause-settled : goal.read_marks-requires-clause-settled
read_marks-requires-clause-settled g c = tape-settled c.args.self.now

pub invariant_of-self : goal.invariant_of-self
invariant_of-self g c =
    let s = c.args.self.now in
    unknown-tape s _ c.read_marks.result s refl c.read_marks.ensures.seen
    (looked-settled s _ c.read_marks.result c.read_marks.ensures.looked) (λ bytes. []) (no-plans s)
    (Carried-looked g.D.Disk.means _ _ c.read_marks.result c.read_marks.ensures.looked)

pub invariant_of-self-2 : goal.invariant_of-self-2
invariant_of-self-2 g c =
    let s = c.args.self.now in
    known-tape s _ c.read_marks.result s refl c.read_marks.ensures.seen (looked-settled s _ c.read_marks.result c.read_marks.ensures.looked)
    (λ bytes. []) (no-plans s)
    (Carried-looked g.D.Disk.means _ _ c.read_marks.result c.read_marks.ensures.looked) _
    (λ states bytes is told. same-right _ _ _ is
    (read-right s c.args.layout c.args.segment 0 c.requires.layout c.requires.place _ c.in_ok-marks.marks _ refl
    c.in_ok-marks.ensures.looked.told c.in_ok-marks.ensures.marks c.states_by.ensures bytes told))

pub returns-clause-states : goal.returns-clause-states
returns-clause-states g c = λ bytes told.
    read-right c.args.self.now c.args.layout c.args.segment 0 c.requires.layout c.requires.place _ c.in_ok-marks.marks _ refl
    c.in_ok-marks.ensures.looked.told c.in_ok-marks.ensures.marks c.states_by.ensures bytes told
