use Rattle.volume_copy.proofs.Starting.{new_held, new_sound, new_given}
use Rattle.volume_copy.proofs.source.VolumeSource.new.Goals as goal

pub invariant_of-result : goal.invariant_of-result
invariant_of-result g c = (
  new_held c.args.store.part,
  new_sound g.T.Tape.means c.args.store c.args.unit c.args.number c.requires.fits c.requires.numbered c.requires.there,
)

pub returns-clause-sound : goal.returns-clause-sound
returns-clause-sound g c =
    new_sound g.T.Tape.means c.args.store c.args.unit c.args.number c.requires.fits c.requires.numbered c.requires.there

pub returns-clause-given : goal.returns-clause-given
returns-clause-given g c = new_given g.T.Tape.means c.args.store c.args.unit c.args.number
