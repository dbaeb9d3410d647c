use Rattle.std.proofs.Common.{[], ◌≤◌, length, refl, sym, ◌∙◌}
use Rattle.qic_base.specs.CartridgeTerms.{place_of}
use Rattle.cart_image.specs.Image.{view_in}
use Rattle.cart_image.specs.Layout.{end_of}
use Rattle.qic_base.specs.TapeCalls.{ReadsSectors}
use Rattle.cart_image.specs.State.{AreStatesOf}
use Rattle.cart_image.proofs.Exits.{Carried-looked}
use Rattle.cart_image.proofs.Known.{on-segment, known-states, told-same, whole-fact}
use Rattle.cart_image.proofs.Runs.{Looks-Looks}
use Rattle.cart_image.proofs.Tapes.{looked-settled, no-plans, known-tape, unknown-tape, tape-settled}
use Rattle.cart_image.proofs.tape.ImageTape.read_wanted_in_planes.Goals as goal

pub read_in_planes-requires-clause-place : goal.read_in_planes-requires-clause-place
read_in_planes-requires-clause-place g c = on-segment c.args.self.now c.args.layout c.args.segment 0 c.requires.layout c.requires.place

pub read_in_planes-requires-clause-settled : goal.read_in_planes-requires-clause-settled
read_in_planes-requires-clause-settled g c = tape-settled c.look_at_segment.new.self

pub read_in_planes-requires-clause-states : goal.read_in_planes-requires-clause-states
read_in_planes-requires-clause-states g c =
    told-same (λ bytes. AreStatesOf c.args.layout c.args.segment c.args.wanted bytes c.in_ok-states.states.states)
    (sym c.in_ok-states.ensures.looked.told)
    (known-states c.args.self.now c.args.layout c.args.segment 0 c.requires.layout c.requires.place c.in_ok-states.states _ c.args.wanted
    c.in_ok-states.ensures.segment c.in_ok-states.ensures.looked.told c.in_ok-states.ensures.states)

pub invariant_of-self : goal.invariant_of-self
invariant_of-self g c =
    let t = c.look_at_segment.new.self in
    known-tape t _ c.read_in_planes.result t refl c.read_in_planes.ensures.seen
    (looked-settled t _ c.read_in_planes.result c.read_in_planes.ensures.looked) (λ bytes. []) (no-plans t)
    (Carried-looked g.D.Disk.means _ _ c.read_in_planes.result c.read_in_planes.ensures.looked) _
    (λ states bytes is told. t.right states bytes is (sym c.in-Ok.ensures.looked.told ∙ told))

pub invariant_of-self-in-Err : goal.invariant_of-self-in-Err
invariant_of-self-in-Err g c =
    let t = c.look_at_segment.new.self in
    unknown-tape t _ c.read_in_planes.result t refl c.read_in_planes.ensures.seen
    (looked-settled t _ c.read_in_planes.result c.read_in_planes.ensures.looked) (λ bytes. []) (no-plans t)
    (Carried-looked g.D.Disk.means _ _ c.read_in_planes.result c.read_in_planes.ensures.looked)

pub returns-in-Ok-clause-looked : goal.returns-in-Ok-clause-looked
returns-in-Ok-clause-looked g c = Looks-Looks c.in_ok-states.ensures.looked c.in-Ok.ensures.looked

pub returns-in-Ok-clause-reads : goal.returns-in-Ok-clause-reads
returns-in-Ok-clause-reads g c =
    whole-fact c.args.self.now c.args.layout c.args.segment 0 c.requires.layout c.requires.place
    (λ bytes. ReadsSectors c.args.wanted c.in-Ok.read.good c.in-Ok.read.blank (λ i. view_in c.args.layout bytes (place_of c.args.segment i))
    c.args.into.now c.read_in_planes.new.into)
    (told-same (λ bytes. end_of c.args.layout ≤ length bytes → ReadsSectors c.args.wanted c.in-Ok.read.good c.in-Ok.read.blank
    (λ i. view_in c.args.layout bytes (place_of c.args.segment i)) c.args.into.now c.read_in_planes.new.into)
    c.in_ok-states.ensures.looked.told c.in-Ok.ensures.reads)

pub returns-in-Err-clause-looked : goal.returns-in-Err-clause-looked
returns-in-Err-clause-looked g c = let l = c.in-Err.ensures.looked in (l.0, Looks-Looks c.in_ok-states.ensures.looked l.1, l.2)
