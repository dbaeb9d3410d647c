use Rattle.cartridge_laws.proofs.TablePutting.{put_entry_is_shown, put_entry_alone_is_shown, put_entry_is_faultless}
use Rattle.cartridge_laws.proofs.tables.a_put_entry_is_read_again.Goals as goal

pub returns-clause-shown : goal.returns-clause-shown
returns-clause-shown c = put_entry_is_shown

pub returns-clause-alone : goal.returns-clause-alone
returns-clause-alone c = put_entry_alone_is_shown

pub returns-clause-faultless : goal.returns-clause-faultless
returns-clause-faultless c = put_entry_is_faultless
