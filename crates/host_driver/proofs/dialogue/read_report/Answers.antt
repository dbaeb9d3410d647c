use Rattle.std.proofs.Common.{◌≡◌, ℕ, ◌+◌, ◌<◌, List, Bool, false, length, get_or, ap, sym, subst, ◌∙◌, arith}
use Rattle.qic117_commands.specs.Report.{Collected, levels_of}
use Rattle.qic117_commands.specs.Commands.{number_of}
use Rattle.qic117_commands.specs.declared.command.Command.TheVariants.{ReportNextBit}
use Rattle.drive_spec.specs.Record.{Record}
use Rattle.drive_states.specs.Unit.{UnitView}
use Rattle.host_driver.specs.Reports.{command_of, width_of, reported_word}
use Rattle.host_driver.specs.Train.{TakesTrain}
use Rattle.host_driver.proofs.Reporting.{reporting, reporting-none, reporting-next, reporting-all, takes-command, takes-next, reads-command}
use Rattle.host_driver.proofs.Reporting.{reads-next, reported-small, collected, collected-all, taken-room, next-level, length-levels_of}
use Rattle.drive_spec.specs.Row.{pulsed_row}
use Rattle.drive_spec.specs.Steps.{train_changes}
use Rattle.host_driver.proofs.dialogue.read_report.Goals as goal

pub sample-requires-clause-taken : goal.sample-requires-clause-taken
sample-requires-clause-taken g c =
    let number : c.number.result ≡ number_of (command_of c.args.kind) = c.number.ensures ∙ ap number_of c.command.ensures in
    subst (λ (pulses : ℕ). TakesTrain c.args.unit.now.drive pulses) (sym number)
    (takes-command c.args.kind c.args.unit.now.drive c.requires.no_pulse c.requires.idle c.requires.taken c.requires.no_error
    c.requires.generates)

pub sample-requires-clause-reads : goal.sample-requires-clause-reads
sample-requires-clause-reads g c =
    let number : c.number.result ≡ number_of (command_of c.args.kind) = c.number.ensures ∙ ap number_of c.command.ensures in
    ap (train_changes c.args.unit.now.drive) number ∙ reads-command c.args.kind c.args.unit.now.drive

pub loop-level-init : goal.loop-level-init
loop-level-init g c =
    let number : c.number.result ≡ number_of (command_of c.args.kind) = c.number.ensures ∙ ap number_of c.command.ensures in
    let width : c.width-width.result ≡ width_of c.args.kind = c.width-width.ensures in
    record {
      unit = c.sample.ensures.row ∙ ap (λ (r : Record). record c.args.unit.now { drive = r })
          (ap (pulsed_row c.args.unit.now.drive) number
          ∙ reporting-none c.args.kind c.args.unit.now.drive c.requires.no_pulse c.requires.idle c.requires.taken);
      sound = c.sample.ensures.sound;
      width = ap (λ (k : Collected). k.width) c.new-collector.ensures ∙ width;
      taken = ap (λ (k : Collected). k.levels) c.new-collector.ensures;
    }

pub sample-requires-in-loop-level-clause-taken : goal.sample-requires-in-loop-level-clause-taken
sample-requires-in-loop-level-clause-taken g c =
    let width : c.width-width.result ≡ width_of c.args.kind = c.width-width.ensures in
    let more : c.loop-level._level < width_of c.args.kind + 1 = omega arith in
    subst (λ (pulses : ℕ). TakesTrain c.loop-level.unit.drive pulses) (sym c.number-in-loop-level.ensures)
    (subst (λ (u : UnitView _). TakesTrain u.drive (number_of ReportNextBit)) (sym c.loop-level.invariant.unit)
    (takes-next c.args.kind c.args.unit.now.drive c.loop-level._level c.requires.no_pulse more c.requires.no_error c.requires.generates))

pub sample-requires-in-loop-level-clause-reads : goal.sample-requires-in-loop-level-clause-reads
sample-requires-in-loop-level-clause-reads g c =
    ap (train_changes c.loop-level.unit.drive) c.number-in-loop-level.ensures ∙ reads-next c.loop-level.unit.drive

pub loop-level-preserved : goal.loop-level-preserved
loop-level-preserved g c =
    let width : c.width-width.result ≡ width_of c.args.kind = c.width-width.ensures in
    let word : ℕ = reported_word c.args.kind c.args.unit.now.drive in
    let levels : List Bool = levels_of (width_of c.args.kind) word in
    let long = length-levels_of (width_of c.args.kind) word in
    let more : c.loop-level._level < width_of c.args.kind + 1 = omega arith in
    let some : c.loop-level._level < length levels = omega (arith, long) in
    let shown : c.sample-in-loop-level.new.unit ≡ record c.args.unit.now
    { drive = reporting c.args.kind c.args.unit.now.drive (c.loop-level._level + 1) } =
    c.sample-in-loop-level.ensures.row
    ∙ ap (λ (n : ℕ). record c.loop-level.unit { drive = pulsed_row c.loop-level.unit.drive n }) c.number-in-loop-level.ensures
    ∙ ap (λ (u : UnitView _). record u { drive = pulsed_row u.drive (number_of ReportNextBit) }) c.loop-level.invariant.unit
    ∙ ap (λ (r : Record). record c.args.unit.now { drive = r })
    (reporting-next c.args.kind c.args.unit.now.drive c.loop-level._level c.requires.no_pulse more) in
    let line : c.sample-in-loop-level.new.unit.drive.line ≡ get_or levels c.loop-level._level false =
    ap (λ (u : UnitView _). u.drive.line) shown ∙ next-level (width_of c.args.kind) word c.loop-level._level in
    let level : c.sample-in-loop-level.result ≡ get_or levels c.loop-level._level false = c.sample-in-loop-level.ensures.level ∙ line in
    let room = taken-room c.loop-level.collector levels c.loop-level._level (width_of c.args.kind) long some c.loop-level.invariant.width
    c.loop-level.invariant.taken in
    record {
      unit = shown;
      sound = c.sample-in-loop-level.ensures.sound;
      width = c.push.ensures.width ∙ c.loop-level.invariant.width;
      taken = collected c.loop-level.collector.levels c.push.new.self.levels c.sample-in-loop-level.result levels c.loop-level._level some
          c.loop-level.invariant.taken level (c.push.ensures.room room);
    }

-- the collector has the word that the drive reported
pub unreachable-requires : goal.unreachable-requires
unreachable-requires g c =
    let width : c.width-width.result ≡ width_of c.args.kind = c.width-width.ensures in
    let all : c.loop-level._level ≡ width_of c.args.kind + 1 = omega arith in
    let whole = collected-all c.loop-level.collector (width_of c.args.kind)
    (reported_word c.args.kind c.args.unit.now.drive) c.loop-level._level
    (reported-small c.args.kind c.args.unit.now.drive c.requires.sound.drive.deck c.requires.no_error) c.loop-level.invariant.width all
    c.loop-level.invariant.taken in
    let got = c.in-None.ensures.word in
    cc

pub returns-clause-word : goal.returns-clause-word
returns-clause-word g c =
    let width : c.width-width.result ≡ width_of c.args.kind = c.width-width.ensures in
    let all : c.loop-level._level ≡ width_of c.args.kind + 1 = omega arith in
    let whole = collected-all c.loop-level.collector (width_of c.args.kind)
    (reported_word c.args.kind c.args.unit.now.drive) c.loop-level._level
    (reported-small c.args.kind c.args.unit.now.drive c.requires.sound.drive.deck c.requires.no_error) c.loop-level.invariant.width all
    c.loop-level.invariant.taken in
    let got = c.in-Some.ensures.word in
    cc

pub returns-clause-drive : goal.returns-clause-drive
returns-clause-drive g c =
    let width : c.width-width.result ≡ width_of c.args.kind = c.width-width.ensures in
    let all : c.loop-level._level ≡ width_of c.args.kind + 1 = omega arith in
    c.loop-level.invariant.unit ∙ ap (λ (r : Record). record c.args.unit.now { drive = r })
    (reporting-all c.args.kind c.args.unit.now.drive c.loop-level._level c.requires.idle all)
