use Rattle.std.proofs.Common.{inl, inr, refl}
use Rattle.volume_copy.proofs.Copied.{no_more}
use Rattle.volume_copy.proofs.run.copy_in.Goals as goal

pub returns-in-Err-clause-runs : goal.returns-in-Err-clause-runs
returns-in-Err-clause-runs g c = inl (c.in-Err.ensures, refl)

pub copy_missing-status-requires-clause-few : goal.copy_missing-status-requires-clause-few
copy_missing-status-requires-clause-few g c =
    let from = c.in-Ok.mounted.from in
    let to = c.in-Ok.mounted.to in
    no_more from.words from.entries to.words to.entries 1 c.in-Ok.ensures.like

pub returns-clause-runs : goal.returns-clause-runs
returns-clause-runs g c = inr (record {
  begun = record {
    from = record { store = c.in-Ok.mounted.from; unit = c.open_both.new.from };
    to = record { store = c.in-Ok.mounted.to; unit = c.open_both.new.to };
    sink = c.args.sink.now;
  };
  ended = record {
    from = record { store = c.copy_missing-status.result.1.store; unit = c.copy_missing-status.result.1.unit };
    to = record { store = c.copy_missing-status.new.store; unit = c.copy_missing-status.new.unit };
    sink = c.copy_missing-status.new.sink;
  };
  opened = c.in-Ok.ensures;
  sink = refl;
  missing = c.copy_missing-status.ensures;
  left = refl;
})
