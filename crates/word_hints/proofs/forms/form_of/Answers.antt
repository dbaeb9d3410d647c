use Rattle.std.proofs.Common.{arith}
use Rattle.word_hints.proofs.Rows.{found, looked, passed}
use Rattle.word_hints.proofs.forms.form_of.Goals as goal

pub loop-form-init : goal.loop-form-init
loop-form-init c = tt

pub returns-then-begins : goal.returns-then-begins
returns-then-begins c =
    found c.forms-form-items.result.now c.args.first.now c.loop-form.form-index _ c.begins.result c.forms-form-items.ensures
    c.loop-form-test.true c.begins.ensures c.if-begins.true

pub loop-form-preserved : goal.loop-form-preserved
loop-form-preserved c =
    passed c.forms-form-items.result.now c.args.first.now c.loop-form.form-index _ c.begins.result c.forms-form-items.ensures
    c.loop-form-test.true c.loop-form.invariant c.begins.ensures c.if-begins.false

pub returns : goal.returns
returns c =
    looked c.forms-form-items.result.now c.args.first.now c.loop-form.form-index c.forms-form-items.ensures (omega arith)
    c.loop-form.invariant
