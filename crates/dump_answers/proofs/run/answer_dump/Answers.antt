use Rattle.std.proofs.Common.{◌≡◌, ◌∷◌, [], List, ℕ, drop, length, sym, subst, ◌∙◌, arith}
use Rattle.std.proofs.lemmas.List.{take_at}
use Rattle.std.specs.Prelude.{Result}
use Rattle.dump_spec.specs.Answers.{Answers}
use Rattle.dump_opening.specs.Opened.{Holds}
use Rattle.dump_opening.specs.declared.opened.Opened.{Opened}
use Rattle.dump_opening.specs.Inputs.{fault_counts}
use Rattle.dump_answers.specs.Ends.{CountsByFault, Ends, fault_of}
use Rattle.dump_answers.specs.declared.ending.Cut.{Cut}
use Rattle.dump_answers.specs.declared.ending.Ending.{Ending}
use Rattle.dump_answers.proofs.Runs.{refused_counts, refused_ends, run_ends}
use Rattle.dump_answers.proofs.run.answer_dump.Goals as goal

pub returns-in-Err-clause-answers : goal.returns-in-Err-clause-answers
returns-in-Err-clause-answers g c = λ inputs tells sure.
    subst (λ (r : Result Ending Cut). Ends g.K.Sink.means g.M.Sink.means (Answers inputs c.args.asked.now)
    (record { output = c.args.output.now; sure = c.args.sure.now }) (record { output = c.args.output.now; sure = c.args.sure.now }) r)
    (sym c.refuse.ensures)
    (refused_ends g.K.Sink.means g.M.Sink.means inputs c.args.asked.now (g.D.Disk.means.told c.open_dump.new.files.dump)
    c.open_dump.new.rescued c.open_dump.new.missing c.open_dump.new.masks c.in-Err.error
    (record { output = c.args.output.now; sure = c.args.sure.now }) (g.met.K.Sink.took_nothing _) (g.met.M.Sink.took_nothing _)
    (c.in-Err.ensures.opens inputs tells sure))

pub returns-in-Err-clause-counts : goal.returns-in-Err-clause-counts
returns-in-Err-clause-counts g c =
    subst (λ (r : Result Ending Cut). CountsByFault (fault_counts g.D.Disk.means g.S.Source.means c.args.files.now)
    (fault_counts g.D.Disk.means g.S.Source.means c.open_dump.new.files)
    (g.K.Sink.means.faults c.args.output.now ∷ g.M.Sink.means.faults c.args.sure.now ∷ [])
    (g.K.Sink.means.faults c.args.output.now ∷ g.M.Sink.means.faults c.args.sure.now ∷ []) (fault_of r)) (sym c.refuse.ensures)
    (refused_counts Opened _ _ _ c.in-Err.error c.in-Err.ensures.counts)

pub returns-clause-answers : goal.returns-clause-answers
returns-clause-answers g c = λ inputs tells sure.
    let opens = c.in-Ok.ensures.opens inputs tells sure in
    let rescued : c.deref.result.now ≡ c.open_dump.new.rescued =
    c.deref.ensures.value
    ∙ take_at c.open_dump.new.rescued (drop (length c.open_dump.new.rescued) c.args.room.rescued.items) c.args.room.rescued.len
    (omega (arith, c.open_dump.auto.rescued, c.deref_mut.ensures.len)) in
    let missing : c.deref-2.result.now ≡ c.open_dump.new.missing =
    c.deref-2.ensures.value
    ∙ take_at c.open_dump.new.missing (drop (length c.open_dump.new.missing) c.args.room.missing.items) c.args.room.missing.len
    (omega (arith, c.open_dump.auto.missing, c.deref_mut-2.ensures.len)) in
    let masks : c.deref-3.result.now ≡ c.open_dump.new.masks =
    c.deref-3.ensures.value
    ∙ take_at c.open_dump.new.masks (drop (length c.open_dump.new.masks) c.args.room.masks.items) c.args.room.masks.len
    (omega (arith, c.open_dump.auto.masks, c.deref_mut-3.ensures.len)) in
    run_ends g.K.Sink.means g.M.Sink.means inputs c.args.asked.now (g.D.Disk.means.told c.open_dump.new.files.dump)
    c.open_dump.new.rescued c.open_dump.new.missing c.open_dump.new.masks c.in-Ok.opened c.with_words-dump.result
    (record { output = c.args.output.now; sure = c.args.sure.now })
    (record { output = c.answer_command.new.output; sure = c.answer_command.new.sure }) c.answer_command.result opens
    (λ known is.
    c.with_words-dump.ensures.shows known (g.D.Disk.means.told c.open_dump.new.files.dump)
    (subst (λ (r : List ℕ). Holds c.in-Ok.opened r c.deref-2.result.now c.deref-3.result.now
    (g.D.Disk.means.told c.open_dump.new.files.dump) known) (sym rescued)
    (subst (λ (r : List ℕ). Holds c.in-Ok.opened c.open_dump.new.rescued r c.deref-3.result.now
    (g.D.Disk.means.told c.open_dump.new.files.dump) known) (sym missing)
    (subst (λ (r : List ℕ). Holds c.in-Ok.opened c.open_dump.new.rescued c.open_dump.new.missing r
    (g.D.Disk.means.told c.open_dump.new.files.dump) known) (sym masks) (opens.holds known is)))))
    (λ known shows. c.answer_command.ensures.ends known shows)
