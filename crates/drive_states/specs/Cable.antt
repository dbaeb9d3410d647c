-- The record that a drive and its end of the cable stand for.
use Rattle.drive_spec.specs.Record.{Record}
use Rattle.drive_states.specs.declared.dialogue.Dialogue.{Dialogue}
use Rattle.drive_states.specs.AnyDrive.{drive_of}
use Rattle.drive_states.specs.Unit.{UnitView}

abbrev pub record_of : {T : Type 0} → Dialogue T → Record
record_of x = record { deck = (drive_of x.drive).deck; train = x.train; line = x.line; under_way = x.under_way }

abbrev pub unit_of : {T : Type 0} → Dialogue T → UnitView T
unit_of x = record { drive = record_of x; tape = (drive_of x.drive).tape }
