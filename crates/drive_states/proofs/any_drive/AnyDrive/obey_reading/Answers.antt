use Rattle.std.proofs.Common.{sym, ap}
use Rattle.drive_spec.specs.declared.deck.Deck.{Deck}
use Rattle.drive_states.specs.AnyDrive.{drive_of}
use Rattle.drive_states.proofs.Obeying.{stays_else}
use Rattle.drive_states.proofs.any_drive.AnyDrive.obey_reading.Goals as goal

pub returns-in_default : goal.returns-in_default
returns-in_default g c =
    let n = c.in_default in
    let same = stays_else c.args.command (drive_of c.args.self).deck n.not-ReportError c.requires.reads
    n.not-LogicalForward n.not-SeekLoadPoint n.not-EnterPrimary n.not-EnterFormat n.not-EnterVerify n.not-StopTape in
    ap (λ (d : Deck). record (drive_of c.args.self) { deck = d }) (sym same)
