use Rattle.std.proofs.Common.{ap}
use Rattle.qic_mem.specs.Holder.{HolderState}
use Rattle.qic_mem.specs.Tape.{tape_state}
use Rattle.qic_mem.proofs.Counting.{counted-rose, counted-stood}
use Rattle.qic_mem.proofs.Recording.{stands-after, full-refused, old-left, run-done, run-broke}
use Rattle.qic_mem.proofs.tape.MemTape.run.Goals as goal
use Rattle.qic_mem.proofs.tape.MemTape.run.Goals.{then-refused, else-refused, then-refused-2, else-refused-2}

pub invariant_of-self : goal.invariant_of-self
unfolding tape_state
invariant_of-self c = record {
  replayed = stands-after _ _ _ _ _ c.args.self.now.replayed c.add_call.ensures (ap (λ (d : HolderState). d.cartridge) c.make.ensures)
      (λ full. let refused = full-refused c.args.self.now.log _ _ c.is_refused-refused.ensures full in
      elim c.if-refused.branch [
        | then-refused w ↦ cc (w.failed-is, c.if-not-failed.true)
        | else-refused w ↦ cc
            (w.if-refused.false, refused)
      ]);
}

pub returns-then-not-failed-clause-did : goal.returns-then-not-failed-clause-did
unfolding tape_state
returns-then-not-failed-clause-did c =
    run-done _ _ _ (ap (λ (d : HolderState). d.cartridge) c.make.ensures) c.add_call.ensures
    (counted-stood _ _ _ c.count.ensures.counted c.if-not-failed.true)

pub invariant_of-self-2 : goal.invariant_of-self-2
unfolding tape_state
invariant_of-self-2 c = record {
  replayed = stands-after _ _ _ _ _ c.args.self.now.replayed c.add_call-2.ensures (ap (λ (d : HolderState). d.cartridge) c.fail.ensures)
      (λ full. let refused = full-refused c.args.self.now.log _ _ c.is_refused-refused.ensures full in
      elim c.if-refused-2.branch [
        | then-refused-2 w ↦ old-left _ _ _ _ (ap (λ (d : HolderState). d.cartridge) c.fail.ensures) w.left-is
        | else-refused-2 w ↦ cc (w.if-refused-2.false, refused)
      ]);
}

pub returns-clause-did : goal.returns-clause-did
unfolding tape_state
returns-clause-did c =
    run-broke _ _ _ _ c.requires (ap (λ (d : HolderState). d.cartridge) c.fail.ensures) c.add_call-2.ensures c.count.ensures.never_falls
    (counted-rose _ _ _ c.count.ensures.counted c.if-not-failed.false)
