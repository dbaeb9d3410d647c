use Rattle.qic_base.specs.Step.{SetProtected}
use Rattle.drive_states.proofs.AnyDrives.{Done-Does}
use Rattle.drive_states.proofs.hand.protected.Goals as goal

pub returns-in-Ok-clause-did : goal.returns-in-Ok-clause-did
returns-in-Ok-clause-did g c =
    rw (← c.into_tape-tape.ensures) (Done-Does _ (SetProtected c.args.on) c.look.result.1 c.in-Ok.ensures.did c.look.ensures.did)
