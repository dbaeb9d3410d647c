use Rattle.std.proofs.Common.{Option, IfSome, Ok, ap, subst}
use Rattle.drive_spec.specs.Deck.{is_stopped}
use Rattle.drive_spec.specs.Record.{Record}
use Rattle.qic_mem.specs.Tape.{tape_means}
use Rattle.host_driver.specs.declared.host.Host.{Host}
use Rattle.host_driver.specs.Calls.{IsReady}
use Rattle.host_driver.specs.Starts.{Starts}
use Rattle.host_rows.proofs.Sends.{report_taken}
use Rattle.host_rows.proofs.starts.word.Goals as goal

pub report-requires-clause-taken : goal.report-requires-clause-taken
report-requires-clause-taken c =
    let ready = subst (λ (found : Option Host). IfSome found (λ host. IsReady tape_means host c.start.new.unit)) c.in-Ok-Some.field-0-is
    c.in-Ok-Some.ensures.ready in
    let did = subst (λ (found : Option Host). Starts tape_means c.args.unit.now c.start.new.unit (Ok found)) c.in-Ok-Some.field-0-is
    c.in-Ok-Some.ensures.did in
    report_taken c.args.kind ready.fits (ap (λ (r : Record). is_stopped r.deck.motion) did.0)
