use Rattle.qic_base.specs.Step.{Renew}
use Rattle.drive_states.proofs.AnyDrives.{Done-Does}
use Rattle.drive_states.proofs.hand.renewed.Goals as goal

pub returns-in-Ok-clause-did : goal.returns-in-Ok-clause-did
returns-in-Ok-clause-did g c =
    rw (← c.into_tape-tape.ensures) (Done-Does _ (Renew c.args.segments_per_track) c.look.result.1 c.in-Ok.ensures.did c.look.ensures.did)
