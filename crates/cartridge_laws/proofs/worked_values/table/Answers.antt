use Rattle.std.proofs.Common.{refl}
use Rattle.cartridge_spec.specs.Table.{slot, slot_fault, some_free_below}
use Rattle.qic_base.specs.Field.{little_endian_bytes, number_at, filled}
use Rattle.qic_base.specs.Cartridge.{lost_places}
use Rattle.cartridge_laws.proofs.worked_values.table.Goals as goal

pub returns-clause-front : goal.returns-clause-front
unfolding little_endian_bytes filled
returns-clause-front c = refl

pub returns-clause-date : goal.returns-clause-date
unfolding little_endian_bytes filled
returns-clause-date c = refl

pub returns-clause-size : goal.returns-clause-size
unfolding little_endian_bytes filled
returns-clause-size c = refl

pub returns-clause-width : goal.returns-clause-width
unfolding little_endian_bytes filled
returns-clause-width c = refl

pub returns-clause-read : goal.returns-clause-read
unfolding little_endian_bytes filled number_at
returns-clause-read c = refl

pub returns-clause-ninth : goal.returns-clause-ninth
returns-clause-ninth c = refl

pub returns-clause-in_front : goal.returns-clause-in_front
unfolding slot_fault slot some_free_below little_endian_bytes filled number_at
returns-clause-in_front c = refl

pub returns-clause-signature : goal.returns-clause-signature
unfolding slot_fault slot some_free_below number_at
returns-clause-signature c = refl

pub returns-clause-behind_free : goal.returns-clause-behind_free
unfolding slot_fault slot some_free_below number_at
returns-clause-behind_free c = refl

pub returns-clause-length : goal.returns-clause-length
unfolding lost_places
returns-clause-length c = refl

pub returns-clause-area : goal.returns-clause-area
unfolding lost_places
returns-clause-area c = refl
