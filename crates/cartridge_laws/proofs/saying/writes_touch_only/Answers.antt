use Rattle.cartridge_laws.proofs.Writing.{writes_touch_only}
use Rattle.cartridge_laws.proofs.saying.writes_touch_only.Goals as goal

pub returns : goal.returns
returns c = writes_touch_only
