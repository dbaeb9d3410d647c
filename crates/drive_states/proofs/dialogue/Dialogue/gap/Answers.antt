use Rattle.std.proofs.Common.{◌∙◌, false, sym, ap, arith}
use Rattle.drive_spec.specs.Effects.{ticked}
use Rattle.drive_spec.specs.Record.{Record}
use Rattle.drive_states.specs.Cable.{record_of}
use Rattle.drive_states.specs.Unit.{DeckAndTape, UnitView}
use Rattle.drive_states.proofs.AnyDrives.{Done-same, idle_steps}
use Rattle.drive_states.proofs.Rows.{IsSoundRecord-ticked}
use Rattle.drive_states.proofs.dialogue.Dialogue.gap.Goals as goal

pub idle-requires : goal.idle-requires
idle-requires g c =
    rw (c.tick.ensures, c.replace-train.ensures.after)
    (IsSoundRecord-ticked (record_of c.args.self.now) 0 c.args.self.now.line (omega arith) c.requires)

pub obey-requires-clause-sound : goal.obey-requires-clause-sound
obey-requires-clause-sound g c =
    rw (c.tick.ensures, c.replace-train.ensures.after)
    (IsSoundRecord-ticked (record_of c.args.self.now) 0 false (omega arith) c.requires)

pub returns-then-train-eq0-clause-did : goal.returns-then-train-eq0-clause-did
returns-then-train-eq0-clause-did g c =
    let r : Record = record_of c.args.self.now in
    Done-same g.T.Tape.means _ _ _ (idle_steps (record r { deck = ticked r.deck }) r.train
    (sym c.replace-train.ensures.value ∙ c.if-train-eq0.true))
    (ap (λ (u : UnitView g.row.T.Denot). u.tape) c.idle.ensures ∙ ap (λ (d : DeckAndTape g.row.T.Denot). d.tape) c.tick.ensures)
