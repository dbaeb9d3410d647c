use Rattle.std.proofs.Common.{ℕ, Ok, Err, subst, arith}
use Rattle.command_laws.proofs.Passing.{passed}
use Rattle.qic_base.specs.Alone.{reading}
use Rattle.qic_base.specs.declared.store_fault.StoreFault.{StoreFault}
use Rattle.tape_script.specs.Reading.{Skips}
use Rattle.volume_store.proofs.Taking.{all_ended, all_fails, moved_all, no_more, one_more, more_fails}
use Rattle.qic_base.specs.declared.store_fault.StoreFault.TheVariants as fault
use Rattle.volume_store.proofs.appending.take_all.Goals as goal

pub returns-in_err-written-clause-ends : goal.returns-in_err-written-clause-ends
returns-in_err-written-clause-ends g c =
    let why : StoreFault = c.in_err-written.field-0.0 in
    let some = c.requires.some in
    let is = c.requires.have in
    rw (passed c.from_residual.result why c.from_residual.ensures.1)
    (all_fails g.T.Tape.means g.S.Source.means c.args.map.now c.args.table.now _ _ (omega arith) why
    (moved_all g.T.Tape.means g.S.Source.means c.args.map.now c.args.table.now _ _ c.first_free.result c.args.have (Err why)
    c.first_free.ensures is c.in_err-written.ensures.ends))

pub returns-then-written-have-clause-ends : goal.returns-then-written-have-clause-ends
returns-then-written-have-clause-ends g c =
    let old = reading c.args.unit.now.tape c.args.source.now in
    let mid = reading c.take_volume.new.unit.tape c.take_volume.new.source in
    let some = c.requires.some in
    let is = c.requires.have in
    let less = c.if-written-have.true in
    all_ended g.T.Tape.means g.S.Source.means c.args.map.now c.args.table.now old mid (omega arith) c.in_ok-written.written
    (moved_all g.T.Tape.means g.S.Source.means c.args.map.now c.args.table.now old mid c.first_free.result c.args.have
    (Ok c.in_ok-written.written) c.first_free.ensures is c.in_ok-written.ensures.ends) (omega arith)

pub returns-in_err-skip-clause-ends : goal.returns-in_err-skip-clause-ends
returns-in_err-skip-clause-ends g c =
    let least = c.if-written-have.false in
    rw (passed c.from_residual-in_err-skip.result fault.Source c.from_residual-in_err-skip.ensures.1)
    (more_fails g.T.Tape.means g.S.Source.means c.args.map.now c.args.table.now c.args.unit.now.tape c.args.source.now
    c.take_volume.new.unit.tape c.take_volume.new.source c.skip.new.source c.first_free.result c.args.have c.first_free.ensures
    c.requires.have c.requires.some c.in_ok-written.written c.in_ok-written.ensures.ends (omega arith)
    c.in_err-skip.ensures.cause.later c.in_err-skip.ensures.cause.failed c.in_err-skip.ensures.skipped)

pub returns-then-branch-gt0-clause-ends : goal.returns-then-branch-gt0-clause-ends
returns-then-branch-gt0-clause-ends g c =
    let least = c.if-written-have.false in
    one_more g.T.Tape.means g.S.Source.means c.args.map.now c.args.table.now c.args.unit.now.tape c.args.source.now
    c.take_volume.new.unit.tape c.take_volume.new.source c.skip.new.source c.first_free.result c.args.have c.first_free.ensures
    c.requires.have c.requires.some c.in_ok-written.written c.in_ok-written.ensures.ends (omega arith)
    c.skip.ensures.cause.later c.in_ok-skip.ensures.cause.stood c.in_ok-skip.field-0
    (let other = c.if-branch-gt0.true in omega arith) c.in_ok-skip.ensures.skipped
    c.from.result c.from-then-branch-gt0.result c.from.ensures c.from-then-branch-gt0.ensures

pub returns-clause-ends : goal.returns-clause-ends
returns-clause-ends g c =
    let least = c.if-written-have.false in
    no_more g.T.Tape.means g.S.Source.means c.args.map.now c.args.table.now c.args.unit.now.tape c.args.source.now
    c.take_volume.new.unit.tape c.take_volume.new.source c.skip.new.source c.first_free.result c.args.have c.first_free.ensures
    c.requires.have c.requires.some c.in_ok-written.written c.in_ok-written.ensures.ends (omega arith)
    c.skip.ensures.cause.later c.in_ok-skip.ensures.cause.stood
    (subst (λ (n : ℕ). Skips {E = Unit {0}} g.S.Source.means c.take_volume.new.source c.skip.new.source 1 (Ok n))
    (let none = c.if-branch-gt0.false in omega arith) c.in_ok-skip.ensures.skipped)

pub returns-in_err-skip-clause-kept : goal.returns-in_err-skip-clause-kept
returns-in_err-skip-clause-kept g c = g.met.S.Source.keeps_on c.args.source.now c.take_volume.new.source c.skip.new.source
    c.in_ok-written.ensures.kept c.in_err-skip.ensures.kept

pub returns-then-branch-gt0-clause-kept : goal.returns-then-branch-gt0-clause-kept
returns-then-branch-gt0-clause-kept g c = g.met.S.Source.keeps_on c.args.source.now c.take_volume.new.source c.skip.new.source
    c.in_ok-written.ensures.kept c.in_ok-skip.ensures.kept

pub returns-clause-kept : goal.returns-clause-kept
returns-clause-kept g c = g.met.S.Source.keeps_on c.args.source.now c.take_volume.new.source c.skip.new.source
    c.in_ok-written.ensures.kept c.in_ok-skip.ensures.kept
