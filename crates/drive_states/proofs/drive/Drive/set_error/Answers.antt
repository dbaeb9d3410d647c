use Rattle.std.proofs.Common.{refl}
use Rattle.drive_states.proofs.Bounds.{IsSound-error}
use Rattle.drive_states.proofs.drive.Drive.set_error.Goals as goal

pub invariant_of-self : goal.invariant_of-self
invariant_of-self g c =
    let here = c.self.invariant in (
      IsSound-error c.self.inside.deck c.args.error c.args.fresh here.0,
      record { mode = here.1.mode; at_load_point = here.1.at_load_point; seeks = here.1.seeks },
      here.2,
    )

pub returns : goal.returns
returns g c = rw (← c.self.view_is) refl
