use Rattle.std.proofs.Common.{◌≡◌, Err, Ok, refl, take, sym, ap, ◌∙◌}
use Rattle.qic_base.specs.declared.store_fault.StoreFault.{StoreFault}
use Rattle.qic_base.specs.declared.store_fault.StoreFault.TheVariants.{Tape}
use Rattle.volume_store.proofs.BrokenUnread.{unread_first, unread_known}
use Rattle.volume_store.proofs.Ending.{answered}
use Rattle.volume_store.proofs.Ordering.{added_order, entry_order, input_order, ordered, settling_order}
use Rattle.command_laws.proofs.Passing.{passed}
use Rattle.volume_store.proofs.Stages.{writable, settling_ends, settling_fits, input_ends, input_fits, either_order, entry_ends, entry_fits}
use Rattle.volume_store.proofs.Stages.{added_ends, added_fits}
use Rattle.volume_store.proofs.store.Store.append.Goals as goal

pub returns-in_err-settle_again-clause-ends : goal.returns-in_err-settle_again-clause-ends
returns-in_err-settle_again-clause-ends g c =
    let m = g.T.Tape.means in
    let may = writable m _ _ c.args.unit.now c.self.view_is c.requires.fits (sym c.protected.ensures ∙ c.if-protected.false) in
    let why : StoreFault = c.in_err-settle_again.field-0.0 in
    let is = passed c.from_residual.result why c.from_residual.ensures.1 in
    answered _ _ m g.S.Source.means _ _ _ _ _ c.args.name.now c.args.date c.args.promised
    (Err why) c.from_residual.result c.self.view_is is
    (settling_ends m g.S.Source.means may c.in_err-settle_again.ensures.keeps c.settle_again.new.work why c.in_err-settle_again.ensures.did
    (take c.self.inside.shown c.settle_again.new.work) c.args.name.now c.args.date c.args.promised c.args.source.now
    c.in_err-settle_again.ensures.kind)

pub returns-in_err-written-clause-ends : goal.returns-in_err-written-clause-ends
returns-in_err-written-clause-ends g c =
    let m = g.T.Tape.means in
    let may = writable m _ _ c.args.unit.now c.self.view_is c.requires.fits (sym c.protected.ensures ∙ c.if-protected.false) in
    let why : StoreFault = c.in_err-written.field-0.0 in
    let is = passed c.from_residual-in_err-written.result why c.from_residual-in_err-written.ensures.1 in
    answered _ _ m g.S.Source.means _ _ _ _ _ c.args.name.now c.args.date c.args.promised
    (Err why) c.from_residual-in_err-written.result c.self.view_is is
    (input_ends m g.S.Source.means may c.in_ok-settle_again.ensures.did c.in_ok-settle_again.ensures.keeps c.in_err-written.ensures.keeps
    (g.met.T.Tape.told_right c.take_input.new.unit.tape)
    (take c.self.inside.shown c.take_input.new.work) c.args.name.now c.args.date c.args.promised c.args.source.now c.take_input.new.source
    why c.in_err-written.ensures.ends)

pub invariant_of-self-in_err-add_entry : goal.invariant_of-self-in_err-add_entry
invariant_of-self-in_err-add_entry g c =
    let m = g.T.Tape.means in
    let may = writable m _ _ c.args.unit.now c.self.view_is c.requires.fits (sym c.protected.ensures ∙ c.if-protected.false) in (
      c.self.invariant.0,
      either_order m g.S.Source.means may c.in_ok-settle_again.ensures.did c.in_ok-settle_again.ensures.keeps c.in_ok-written.ensures.keeps
          (g.met.T.Tape.told_right c.take_input.new.unit.tape)
          c.args.name.now c.args.date c.args.promised c.args.source.now c.take_input.new.source c.in_ok-written.written c.from.result
          c.from.ensures c.in_ok-written.ensures.ends
          c.add_entry.new.table c.in_err-add_entry.ensures.either,
    )

pub invariant_of-self-2 : goal.invariant_of-self-2
invariant_of-self-2 g c =
    let m = g.T.Tape.means in
    let may = writable m _ _ c.args.unit.now c.self.view_is c.requires.fits (sym c.protected.ensures ∙ c.if-protected.false) in (
      c.self.invariant.0,
      either_order m g.S.Source.means may c.in_ok-settle_again.ensures.did c.in_ok-settle_again.ensures.keeps c.in_ok-written.ensures.keeps
          (g.met.T.Tape.told_right c.take_input.new.unit.tape)
          c.args.name.now c.args.date c.args.promised c.args.source.now c.take_input.new.source c.in_ok-written.written c.from.result
          c.from.ensures c.in_ok-written.ensures.ends
          c.add_entry.new.table c.in_ok-add_entry.ensures.either,
    )

pub returns-in_err-add_entry-clause-ends : goal.returns-in_err-add_entry-clause-ends
returns-in_err-add_entry-clause-ends g c =
    let m = g.T.Tape.means in
    let may = writable m _ _ c.args.unit.now c.self.view_is c.requires.fits (sym c.protected.ensures ∙ c.if-protected.false) in
    let why : StoreFault = c.in_err-add_entry.field-0.0 in
    let is = passed c.from_residual-in_err-add_entry.result why c.from_residual-in_err-add_entry.ensures.1 in
    answered _ _ m g.S.Source.means _ _ _ _ _ c.args.name.now c.args.date c.args.promised
    (Err why) c.from_residual-in_err-add_entry.result c.self.view_is is
    (entry_ends m g.S.Source.means may c.in_ok-settle_again.ensures.did c.in_ok-settle_again.ensures.keeps c.in_ok-written.ensures.keeps
    (g.met.T.Tape.told_right c.take_input.new.unit.tape)
    c.args.name.now c.args.date c.args.promised c.args.source.now c.take_input.new.source c.in_ok-written.written c.from.result
    c.from.ensures c.in_ok-written.ensures.ends
    c.in_err-add_entry.ensures.keeps c.add_entry.new.table
    (take c.self.inside.shown c.add_entry.new.work) why c.in_err-add_entry.ensures.did
    c.in_err-add_entry.ensures.kind)

pub returns-clause-ends : goal.returns-clause-ends
returns-clause-ends g c =
    let m = g.T.Tape.means in
    let may = writable m _ _ c.args.unit.now c.self.view_is c.requires.fits (sym c.protected.ensures ∙ c.if-protected.false) in
    answered _ _ m g.S.Source.means _ _ _ _ _ c.args.name.now c.args.date c.args.promised (Ok _) _ c.self.view_is refl
    (added_ends m g.S.Source.means may c.in_ok-settle_again.ensures.did c.in_ok-settle_again.ensures.keeps c.in_ok-written.ensures.keeps
    (g.met.T.Tape.told_right c.take_input.new.unit.tape)
    c.args.name.now c.args.date c.args.promised c.args.source.now c.take_input.new.source c.in_ok-written.written c.from.result
    c.from.ensures c.in_ok-written.ensures.ends
    c.in_ok-add_entry.ensures.keeps c.add_entry.new.table c.in_ok-add_entry.ensures.did c.in_ok-add_entry.ensures.list _
    c.count.ensures.count refl refl refl)

pub returns-in_err-settle_again-clause-fits : goal.returns-in_err-settle_again-clause-fits
returns-in_err-settle_again-clause-fits g c =
    let m = g.T.Tape.means in
    let may = writable m _ _ c.args.unit.now c.self.view_is c.requires.fits (sym c.protected.ensures ∙ c.if-protected.false) in
    let why : StoreFault = c.in_err-settle_again.field-0.0 in
    let is = passed c.from_residual.result why c.from_residual.ensures.1 in
    λ sound. settling_fits m g.S.Source.means may c.in_err-settle_again.ensures.keeps c.settle_again.new.work why
    c.in_err-settle_again.ensures.did (λ e. sound (is ∙ ap Err e))

pub returns-in_err-written-clause-fits : goal.returns-in_err-written-clause-fits
returns-in_err-written-clause-fits g c =
    let m = g.T.Tape.means in
    let may = writable m _ _ c.args.unit.now c.self.view_is c.requires.fits (sym c.protected.ensures ∙ c.if-protected.false) in
    let why : StoreFault = c.in_err-written.field-0.0 in
    let is = passed c.from_residual-in_err-written.result why c.from_residual-in_err-written.ensures.1 in
    λ sound. input_fits m g.S.Source.means may c.in_ok-settle_again.ensures.did c.in_ok-settle_again.ensures.keeps
    c.in_err-written.ensures.keeps (g.met.T.Tape.told_right c.take_input.new.unit.tape)
    c.args.promised c.args.source.now c.take_input.new.source why c.in_err-written.ensures.ends (λ e. sound (is ∙ ap Err e))

pub returns-in_err-add_entry-clause-fits : goal.returns-in_err-add_entry-clause-fits
returns-in_err-add_entry-clause-fits g c =
    let m = g.T.Tape.means in
    let may = writable m _ _ c.args.unit.now c.self.view_is c.requires.fits (sym c.protected.ensures ∙ c.if-protected.false) in
    let why : StoreFault = c.in_err-add_entry.field-0.0 in
    let is = passed c.from_residual-in_err-add_entry.result why c.from_residual-in_err-add_entry.ensures.1 in
    λ sound. entry_fits m g.S.Source.means may c.in_ok-settle_again.ensures.did c.in_ok-settle_again.ensures.keeps
    c.in_ok-written.ensures.keeps (g.met.T.Tape.told_right c.take_input.new.unit.tape)
    c.args.name.now c.args.date c.args.promised c.args.source.now c.take_input.new.source c.in_ok-written.written c.from.result
    c.from.ensures c.in_ok-written.ensures.ends
    c.in_err-add_entry.ensures.keeps c.add_entry.new.table why c.in_err-add_entry.ensures.did (λ e. sound (is ∙ ap Err e))
    (c.in_err-add_entry.ensures.kept (λ e. let tape : why ≡ Tape = (cc) in sound (is ∙ ap Err tape)))

pub returns-clause-fits : goal.returns-clause-fits
returns-clause-fits g c =
    let m = g.T.Tape.means in
    let may = writable m _ _ c.args.unit.now c.self.view_is c.requires.fits (sym c.protected.ensures ∙ c.if-protected.false) in
    λ sound. added_fits m g.S.Source.means may c.in_ok-settle_again.ensures.did c.in_ok-settle_again.ensures.keeps
    c.in_ok-written.ensures.keeps (g.met.T.Tape.told_right c.take_input.new.unit.tape)
    c.args.name.now c.args.date c.args.promised c.args.source.now c.take_input.new.source c.in_ok-written.written c.from.result
    c.from.ensures c.in_ok-written.ensures.ends
    c.in_ok-add_entry.ensures.keeps c.add_entry.new.table c.in_ok-add_entry.ensures.did c.in_ok-add_entry.ensures.list c.is_label.ensures
    (g.met.T.Tape.told_right c.add_entry.new.unit.tape)

pub returns-in_err-settle_again-clause-unread : goal.returns-in_err-settle_again-clause-unread
returns-in_err-settle_again-clause-unread g c =
    let why : StoreFault = c.in_err-settle_again.field-0.0 in
    let is = passed c.from_residual.result why c.from_residual.ensures.1 in
    unread_first g.T.Tape.means g.S.Source.means c.args.unit.now.tape c.settle_again.new.unit.tape c.args.source.now why
    c.from_residual.result is
    c.in_err-settle_again.ensures.unread c.in_err-settle_again.ensures.kind

pub returns-in_err-written-clause-unread : goal.returns-in_err-written-clause-unread
returns-in_err-written-clause-unread g c =
    unread_known g.T.Tape.means g.S.Source.means _ _ _ _ c.from_residual-in_err-written.result c.in_ok-settle_again.ensures.did.told

pub returns-in_err-add_entry-clause-unread : goal.returns-in_err-add_entry-clause-unread
returns-in_err-add_entry-clause-unread g c =
    unread_known g.T.Tape.means g.S.Source.means _ _ _ _ c.from_residual-in_err-add_entry.result c.in_ok-settle_again.ensures.did.told

pub returns-in_err-settle_again-clause-order : goal.returns-in_err-settle_again-clause-order
returns-in_err-settle_again-clause-order g c =
    let m = g.T.Tape.means in
    let why : StoreFault = c.in_err-settle_again.field-0.0 in
    let is = passed c.from_residual.result why c.from_residual.ensures.1 in
    ordered c.self.view_is is
    (settling_order m g.S.Source.means _ c.args.promised c.args.unit.now.tape c.settle_again.new.unit.tape c.args.source.now
    c.settle_again.new.work why
    c.in_err-settle_again.ensures.did c.in_err-settle_again.ensures.kind)

pub returns-in_err-written-clause-order : goal.returns-in_err-written-clause-order
returns-in_err-written-clause-order g c =
    let m = g.T.Tape.means in
    let why : StoreFault = c.in_err-written.field-0.0 in
    let is = passed c.from_residual-in_err-written.result why c.from_residual-in_err-written.ensures.1 in
    ordered c.self.view_is is
    (input_order m g.S.Source.means _ c.args.promised c.args.unit.now.tape c.settle_again.new.unit.tape c.take_input.new.unit.tape
    c.args.source.now c.take_input.new.source _
    c.in_ok-settle_again.ensures.did why c.in_err-written.ensures.ends c.in_err-written.ensures.asked)

pub returns-in_err-add_entry-clause-order : goal.returns-in_err-add_entry-clause-order
returns-in_err-add_entry-clause-order g c =
    let m = g.T.Tape.means in
    let why : StoreFault = c.in_err-add_entry.field-0.0 in
    let is = passed c.from_residual-in_err-add_entry.result why c.from_residual-in_err-add_entry.ensures.1 in
    ordered c.self.view_is is
    (entry_order m g.S.Source.means _ c.args.promised c.args.unit.now.tape c.settle_again.new.unit.tape c.take_input.new.unit.tape
    c.args.source.now c.take_input.new.source _
    c.in_ok-settle_again.ensures.did c.add_entry.new.unit.tape c.in_ok-written.written c.in_ok-written.ensures.ends
    c.in_ok-written.ensures.asked why c.in_err-add_entry.ensures.kind)

pub returns-clause-order : goal.returns-clause-order
returns-clause-order g c =
    let m = g.T.Tape.means in
    ordered c.self.view_is refl
    (added_order m g.S.Source.means _ c.args.promised c.args.unit.now.tape c.settle_again.new.unit.tape c.take_input.new.unit.tape
    c.args.source.now c.take_input.new.source _
    c.in_ok-settle_again.ensures.did c.add_entry.new.unit.tape c.in_ok-written.written c.in_ok-written.ensures.ends
    c.in_ok-written.ensures.asked _)
