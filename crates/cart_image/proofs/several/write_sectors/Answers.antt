use Rattle.std.proofs.Common.{arith}
use Rattle.std.proofs.lemmas.Option.{IfSome_then}
use Rattle.std.proofs.lemmas.Result.{err_from_is_err_and}
use Rattle.cart_image.specs.Layout.{overwrite_all}
use Rattle.qic_base.specs.TapeCalls.{is_readable}
use Rattle.cart_image.specs.Several.{takes_write}
use Rattle.cart_image.specs.State.{AreStatesOf}
use Rattle.cart_image.proofs.Exits.{Carried-halted, Carried-runs, told-fact}
use Rattle.cart_image.proofs.Overwrites.{chosen-are, overwrite-planned, blank-are}
use Rattle.cart_image.proofs.Runs.{Looks-nothing}
use Rattle.cart_image.proofs.several.write_sectors.Goals as goal

pub returns-in_err-overwrite-clause-carried : goal.returns-in_err-overwrite-clause-carried
returns-in_err-overwrite-clause-carried g c =
    let p = err_from_is_err_and c.from_residual.result c.from_residual.ensures.1 in
    Carried-halted g.D.Disk.means _ _ _ _
    (overwrite_all c.args.layout c.args.segment c.args.from.now c.choose-chosen.result.readable c.choose-chosen.result.taking) _ p.0 p.1
    (Looks-nothing g.D.Disk.means _) c.in_err-overwrite.ensures.ran
    (λ bytes told.
    let are = told-fact (g.D.Disk.means.told c.args.disk.now)
    (λ b. AreStatesOf c.args.layout c.args.segment c.args.written b c.args.states.now) bytes told c.requires.states in
    overwrite-planned c.args.layout c.args.segment bytes c.args.written c.args.from.now c.choose-chosen.result.readable
    c.choose-chosen.result.taking
    (chosen-are c.args.layout c.args.segment bytes c.args.written c.args.states.now is_readable c.choose-chosen.result.readable
    (omega arith) are c.choose-chosen.ensures.readable)
    (chosen-are c.args.layout c.args.segment bytes c.args.written c.args.states.now takes_write c.choose-chosen.result.taking
    (omega arith) are c.choose-chosen.ensures.taking))

pub returns-clause-carried : goal.returns-clause-carried
returns-clause-carried g c =
    Carried-runs g.D.Disk.means _ _ _ _
    (overwrite_all c.args.layout c.args.segment c.args.from.now c.choose-chosen.result.readable c.choose-chosen.result.taking) _
    (Looks-nothing g.D.Disk.means _) c.in_ok-overwrite.ensures.ran
    (λ bytes told.
    let are = told-fact (g.D.Disk.means.told c.args.disk.now)
    (λ b. AreStatesOf c.args.layout c.args.segment c.args.written b c.args.states.now) bytes told c.requires.states in
    overwrite-planned c.args.layout c.args.segment bytes c.args.written c.args.from.now c.choose-chosen.result.readable
    c.choose-chosen.result.taking
    (chosen-are c.args.layout c.args.segment bytes c.args.written c.args.states.now is_readable c.choose-chosen.result.readable
    (omega arith) are c.choose-chosen.ensures.readable)
    (chosen-are c.args.layout c.args.segment bytes c.args.written c.args.states.now takes_write c.choose-chosen.result.taking
    (omega arith) are c.choose-chosen.ensures.taking))

pub returns-clause-answer : goal.returns-clause-answer
returns-clause-answer g c =
    IfSome_then (g.D.Disk.means.told c.args.disk.now) c.requires.states (λ bytes are.
    blank-are c.args.layout c.args.segment bytes c.args.written c.args.states.now c.choose-chosen.result.blank are
    c.choose-chosen.ensures.blank)

pub returns-in_err-overwrite-clause-sectors : goal.returns-in_err-overwrite-clause-sectors
returns-in_err-overwrite-clause-sectors g c = record {
  count = c.requires.count;
  each = λ i less.
      c.told-from i (omega (arith, c.requires.count));
}

pub returns-clause-sectors : goal.returns-clause-sectors
returns-clause-sectors g c = record { count = c.requires.count; each = λ i less. c.told-from i (omega (arith, c.requires.count)) }
