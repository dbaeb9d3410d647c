use Rattle.std.proofs.Common.{codes, refl}
use Rattle.cartridge_laws.proofs.EachElement.{each}
use Rattle.cartridge_laws.specs.WorkedValues.{header_bytes}
use Rattle.cartridge_spec.specs.Formatting.{fresh_header}
use Rattle.cartridge_spec.specs.Header.{Holds, header_fields, profile_fields}
use Rattle.qic_base.specs.Field.{number_at, filled}
use Rattle.cartridge_laws.proofs.worked_values.header.Goals as goal

pub returns-clause-fields : goal.returns-clause-fields
unfolding number_at filled
returns-clause-fields c = each (Holds (header_bytes 2)) (profile_fields 3)
    (refl, (refl, (refl, (refl, (refl, (refl, (refl, (refl, (refl, (refl, (refl, (refl, tt))))))))))))

pub returns-clause-told : goal.returns-clause-told
unfolding number_at filled
returns-clause-told c = each (Holds (header_bytes 2)) (header_fields (fresh_header 3 (filled (codes "L")) 0x305265C0))
    (refl, (refl, (refl, (refl, (refl, tt)))))

pub returns-clause-sound : goal.returns-clause-sound
unfolding number_at filled
returns-clause-sound c = refl

pub returns-clause-format_code : goal.returns-clause-format_code
unfolding number_at filled
returns-clause-format_code c = refl

pub returns-clause-head : goal.returns-clause-head
returns-clause-head c = refl
