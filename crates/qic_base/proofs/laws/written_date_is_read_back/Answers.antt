use Rattle.qic_base.proofs.DateLaws.{written_date_is_read_back}
use Rattle.qic_base.proofs.laws.written_date_is_read_back.Goals as goal

pub returns : goal.returns
returns c = written_date_is_read_back
