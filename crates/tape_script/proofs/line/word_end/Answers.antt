use Rattle.std.proofs.Common.{◌≡◌, ◌==◌, true, false, length, take, nat_lt, get_or, arith}
use Rattle.std.proofs.lemmas.Bool.Decides.{nat_tests}
use Rattle.std.proofs.lemmas.List.{take_more, take_all}
use Rattle.std.proofs.lemmas.List.Elements.{All-push}
use Rattle.tape_script.proofs.Splits.{words_at, words_none, NoSpace}
use Rattle.tape_script.proofs.line.word_end.Goals as goal

pub returns-then-byte-eq32-clause-words : goal.returns-then-byte-eq32-clause-words
returns-then-byte-eq32-clause-words c =
    let here : nat_lt c.loop-at.at (length c.args.text.now) ≡ true = grind (arith, nat_tests) in
    rw here (words_at c.args.text.now c.loop-at.at c.loop-at-test.true c.loop-at.invariant c.if-byte-eq32.true)

pub loop-at-preserved : goal.loop-at-preserved
loop-at-preserved c =
    let other : (get_or c.args.text.now c.loop-at.at 0 == 0x20) ≡ false = grind (arith, nat_tests) in
    rw (take_more c.args.text.now c.loop-at.at 0 c.loop-at-test.true)
    (All-push (λ b. (b == 0x20) ≡ false) (take c.loop-at.at c.args.text.now) (get_or c.args.text.now c.loop-at.at 0) c.loop-at.invariant
    other)

pub returns-clause-words : goal.returns-clause-words
returns-clause-words c =
    let end : nat_lt (length c.args.text.now) (length c.args.text.now) ≡ false = grind (arith, nat_tests) in
    let all = take_all (length c.args.text.now) c.args.text.now (omega arith) in
    let none : NoSpace c.args.text.now = rw (take_all c.loop-at.at c.args.text.now (omega arith)) at c.loop-at.invariant in
    rw (end, all) (words_none c.args.text.now none)
