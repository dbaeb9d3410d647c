use Rattle.std.proofs.Common.{◌+◌, chars, length, arith}
use Rattle.std.proofs.lemmas.Iterator.{YieldsList-from_chars}
use Rattle.std.proofs.lemmas.Iterator.Consumers.{YieldsList-end, YieldsList-turn}
use Rattle.std.proofs.lemmas.List.{length_push}
use Rattle.message_text.proofs.Printed.{cut, done, more}
use Rattle.message_text.proofs.line.push_lines.Goals as goal

pub returns-then-len-end-clause-text : goal.returns-then-len-end-clause-text
returns-then-len-end-clause-text c =
    let turn = YieldsList-turn (YieldsList-from_chars c.args.text.now c.utf8.text cc) c.loop-c.yielded _ c.loop-c.yielded_by _ _
    c.in-Some.c c.in-Some.is
    c.next.ensures.steps in
    let short = c.if-len-end.true in
    cut c.args.lines c.loop-c.line _ _ (c.len.result + c.args.room) _ c.in-Some.c (chars c.args.text.now) turn
    (omega arith) c.push.ensures c.loop-c.invariant.0

pub loop-c-preserved : goal.loop-c-preserved
loop-c-preserved c =
    let turn = YieldsList-turn (YieldsList-from_chars c.args.text.now c.utf8.text cc) c.loop-c.yielded _ c.loop-c.yielded_by _ _
    c.in-Some.c c.in-Some.is
    c.next.ensures.steps in
    let long = c.if-len-end.false in
    let more_kept = more c.args.lines c.loop-c.line c.push_character.new.line _ (c.len.result + c.args.room)
    (length c.loop-c.yielded) c.in-Some.c
    (chars c.args.text.now) turn (omega arith) c.push_character.ensures.shown c.loop-c.invariant.0 in
    (rw (length_push c.loop-c.yielded c.in-Some.c) more_kept, (let short = c.push_character.ensures.short in omega arith))

pub returns-clause-text : goal.returns-clause-text
returns-clause-text c =
    let end = YieldsList-end (YieldsList-from_chars c.args.text.now c.utf8.text cc) c.loop-c.yielded _ c.loop-c.yielded_by _ _ c.in-None.is
    c.next.ensures.steps in
    done c.args.lines c.loop-c.line _ _ (length c.loop-c.yielded) (chars c.args.text.now) (omega (arith, end.1)) c.loop-c.invariant.0
