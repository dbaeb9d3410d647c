use Rattle.std.proofs.Common.{refl}
use Rattle.cartridge_spec.specs.Table.{slot}
use Rattle.cartridge_spec.specs.Says.{last_used_below, set_of, some_used_below, unreadable_from}
use Rattle.qic_base.specs.Field.{number_at, filled}
use Rattle.cartridge_laws.proofs.worked_values.further_reading.Goals as goal

pub returns-clause-data_alone : goal.returns-clause-data_alone
unfolding some_used_below last_used_below unreadable_from set_of slot number_at filled
returns-clause-data_alone c = refl

pub returns-clause-no_used : goal.returns-clause-no_used
unfolding some_used_below last_used_below unreadable_from set_of slot number_at filled
returns-clause-no_used c = refl

pub returns-clause-first_parity : goal.returns-clause-first_parity
unfolding some_used_below last_used_below unreadable_from set_of slot number_at filled
returns-clause-first_parity c = refl

pub returns-clause-second_parity : goal.returns-clause-second_parity
unfolding some_used_below last_used_below unreadable_from set_of slot number_at filled
returns-clause-second_parity c = refl

pub returns-clause-last_parity : goal.returns-clause-last_parity
unfolding some_used_below last_used_below unreadable_from set_of slot number_at filled
returns-clause-last_parity c = refl

pub returns-clause-two_data : goal.returns-clause-two_data
unfolding some_used_below last_used_below unreadable_from set_of slot number_at filled
returns-clause-two_data c = refl
