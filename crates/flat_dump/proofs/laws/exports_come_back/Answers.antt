use Rattle.flat_dump.proofs.Coming.{brings_back}
use Rattle.flat_dump.proofs.laws.exports_come_back.Goals as goal

pub returns : goal.returns
returns c = brings_back
