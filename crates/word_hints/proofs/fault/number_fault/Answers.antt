use Rattle.std.proofs.Common.{◌≡◌, arith}
use Rattle.command_laws.proofs.TextDecimals.{one_number}
use Rattle.word_hints.proofs.fault.number_fault.Goals as goal

pub returns-in-Some-2-clause-fails : goal.returns-in-Some-2-clause-fails
returns-in-Some-2-clause-fails c n spelled =
    let same : c.in-Some.number ≡ n = one_number c.args.word.now c.in-Some.number n c.in-Some.ensures spelled.0 in
    let bound = spelled.2 in omega arith

pub returns-in-Some-2-2-clause-fails : goal.returns-in-Some-2-2-clause-fails
returns-in-Some-2-2-clause-fails c n spelled =
    let same : c.in-Some.number ≡ n = one_number c.args.word.now c.in-Some.number n c.in-Some.ensures spelled.0 in
    let bound = spelled.1 in omega arith
