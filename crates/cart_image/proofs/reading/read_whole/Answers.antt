use Rattle.cart_image.proofs.FailedLooks.{Looks-tried}
use Rattle.cart_image.proofs.reading.read_whole.Goals as goal

pub returns-in-Err-clause-looks : goal.returns-in-Err-clause-looks
returns-in-Err-clause-looks g c = Looks-tried g.D.Disk.means _ _ c.read_at.result c.requires.settled c.read_at.ensures.did
