use Rattle.drive_states.proofs.Bounds.{segments_of}
use Rattle.drive_states.proofs.transitions.Drive+Format+T.set_segments.Goals as goal

pub given-requires-clause-taken : goal.given-requires-clause-taken
given-requires-clause-taken g c =
    segments_of c.args.self.deck c.reveal.ensures.sound c.reveal.ensures.state.mode c.requires.stopped
